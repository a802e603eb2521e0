-- Kinds and faults within bounds: where the kinds and messages of a grammar's parts are, the kinds of the symbols, and the refusal of an
-- opener too many, so are those of every reading. K tests a kind, Q a fault; the test of a part is closed and so computed. Assumes nothing.
use Prim.Native.Nat.{ℕ, zero, suc}
use mathlib.Core.Path.{◌≡◌, refl, ap, subst}
use mathlib.Core.Bool.{Bool, true, false, not, ◌||◌, ◌&&◌, cond}
use mathlib.Core.List.{List, [], ◌∷◌, ◌++◌}
use mathlib.Core.Option.{Option, none, some}
use lib.ListN.{length, drop}
use lib.Dec.{ltb}
use borrow.Author.Tests.{not-true}
use Rattle.predictive.specs.Forest.{Forest, nil, leaf, err, node, wrap, ◌then◌, Fault, message, refusal}
use Rattle.predictive.specs.Grammar.{Head, is, at, has, Form, row, row_in, broken, kinds_of, stand, longer, best, row_of, shape, Part, tok, pair, look, any, longest, wrong, fail, seq, either, opt, many, until, inside, suffix, leaning, before, opens, rule, Grammar}
use Rattle.predictive.specs.Reader.{Result, miss, done, pick, after, firstly, beside, expected, unmet, take_one, take_two, take_look, take_any, take_form, take_wrong, repeat, lean, within, first, step, below, read}
use Rattle.predictive.proofs.Tests.{◌and◌, left, right, or_neither}
use Rattle.predictive.proofs.Faults.{faulty, amiss}
use Rattle.predictive.proofs.Heads.{best-splits}

module _ (K : ℕ → Bool) (Q : Fault → Bool) where
  abbrev M : ℕ → Bool
  M m = Q (message m)

  abbrev pub Small : Forest → Type 0
  Small nil = Unit {0}
  Small (leaf k f) = (K k ≡ true) × Small f
  Small (err m f) = (Q m ≡ true) × Small f
  Small (node k i f) = (K k ≡ true) × Small i × Small f
  Small (wrap k a b f) = (K k ≡ true) × Small a × Small b × Small f

  then-small : (f g : Forest) → Small f → Small g → Small (f then g)
  then-small nil g d e = e
  then-small (leaf k f) g d e = (d.0, then-small f g d.1 e)
  then-small (err m f) g d e = (d.0, then-small f g d.1 e)
  then-small (node k i f) g d e = (d.0, d.1, then-small f g d.2 e)
  then-small (wrap k a b f) g d e = (d.0, d.1, d.2, then-small f g d.3 e)

  unfoldable pub form_fits : Form → Bool
  form_fits (row ks) = true
  form_fits (row_in k ks) = K k
  form_fits (broken k ks m) = K k and M m

  unfoldable pub forms-fit : List Form → Bool
  unfolding form_fits
  forms-fit [] = true
  forms-fit (c ∷ cs) = form_fits c and forms-fit cs

  unfoldable pub part-fits : {R : Type 0} → Part R → Bool
  unfolding forms-fit
  part-fits (tok m ks) = M m
  part-fits (pair k l) = M unmet
  part-fits (look m ks l) = M m
  part-fits any = true
  part-fits (longest cs) = forms-fit cs
  part-fits (wrong x k m) = K k and M m
  part-fits (fail m) = M m
  part-fits (seq p q) = part-fits p and part-fits q
  part-fits (either c p q) = part-fits p and part-fits q
  part-fits (opt c p) = part-fits p
  part-fits (many p) = M unmet and part-fits p
  part-fits (until k p) = (M unmet and M (expected k)) and part-fits p
  part-fits (inside k p) = K k and part-fits p
  part-fits (suffix c k p q) = K k and (part-fits p and part-fits q)
  part-fits (leaning k p q) = (K k and M unmet) and (part-fits p and part-fits q)
  part-fits (before hs p) = part-fits p
  part-fits (opens p) = part-fits p
  part-fits (rule r) = true

  abbrev OptionFits : Option Form → Type 0
  OptionFits none = Unit {0}
  OptionFits (some c) = form_fits c ≡ true

  module _ (G : Grammar) where
    -- every symbol shows a kind within bounds
    abbrev pub Shown : List ℕ → Type 0
    Shown [] = Unit {0}
    Shown (x ∷ xs) = (K (G.shown x) ≡ true) × Shown xs

    pub record Fits (f : Forest) (ys : List ℕ) : Type 0 where
      pub forest : Small f
      pub rest : Shown ys

    -- a reading within bounds
    abbrev pub FitsReading : Result → Type 0
    FitsReading (miss m ys) = Fits (err m nil) ys
    FitsReading (done f ys) = Fits f ys

    after-fits : (k : Forest → List ℕ → Result) → ((f : Forest) (ys : List ℕ) → Fits f ys → FitsReading (k f ys)) → (r : Result) → FitsReading r →
        FitsReading (after r k)
    after-fits k t (miss m ys) h = t (err m nil) ys h
    after-fits k t (done f ys) h = t f ys h

    firstly-fits : (k : Forest → List ℕ → Result) → ((f : Forest) (ys : List ℕ) → Fits f ys → FitsReading (k f ys)) → (r : Result) → FitsReading r →
        FitsReading (firstly r k)
    firstly-fits k t (miss m ys) h = h
    firstly-fits k t (done f ys) h = t f ys h

    beside-fits : (f : Forest) → Small f → (r : Result) → FitsReading r → FitsReading (beside f r)
    beside-fits f d r h = after-fits _ (λ g zs i. record { forest = then-small f g d i.forest; rest = i.rest }) r h

    pick-fits : (b : Bool) (r s : Result) → FitsReading r → FitsReading s → FitsReading (pick b r s)
    pick-fits true r s h i = h
    pick-fits false r s h i = i

    within-fits : (n d : ℕ) (xs : List ℕ) (r : Result) → Q (refusal n) ≡ true → Shown xs → FitsReading r → FitsReading (within n d xs r)
    within-fits n zero xs r e s h = record { forest = (e, tt); rest = s }
    within-fits n (suc d) xs r e s h = h

    missing-fits : (m : ℕ) (ys : List ℕ) → M m ≡ true → Shown ys → Fits (err (message m) nil) ys
    missing-fits m ys e h = record { forest = (e, tt); rest = h }

    one-fits : (m : ℕ) (ks xs : List ℕ) → M m ≡ true → Shown xs → FitsReading (take_one G.shown m ks xs)
    unfolding take_one
    one-fits m ks [] e h = missing-fits m [] e tt
    one-fits m ks (x ∷ xs) e h = pick-fits (has ks x) _ _ (record { forest = (h.0, tt); rest = h.1 }) (missing-fits m (x ∷ xs) e h)

    look-fits : (m : ℕ) (ks : List ℕ) (l : ℕ) (xs : List ℕ) → M m ≡ true → Shown xs → FitsReading (take_look G.shown m ks l xs)
    unfolding take_look
    look-fits m ks l [] e h = missing-fits m [] e tt
    look-fits m ks l (x ∷ xs) e h = pick-fits (has ks x && is l xs) _ _ (record { forest = (h.0, tt); rest = h.1 }) (missing-fits m (x ∷ xs) e h)

    any-fits : (xs : List ℕ) → Shown xs → FitsReading (take_any G.shown xs)
    unfolding take_any
    any-fits [] h = record { forest = tt; rest = tt }
    any-fits (x ∷ xs) h = record { forest = (h.0, tt); rest = h.1 }

    wrong-fits : (k m : ℕ) (xs : List ℕ) → K k ≡ true → M m ≡ true → Shown xs → FitsReading (take_wrong G.shown k m xs)
    unfolding take_wrong
    wrong-fits k m [] d e h = missing-fits m [] e tt
    wrong-fits k m (x ∷ xs) d e h = record { forest = (d, (e, (h.0, tt)), tt); rest = h.1 }

    -- a row of kinds that stands shows kinds within bounds
    row_fits : (ks : List ℕ) (f : Forest) (ys : List ℕ) → Small f → Shown (ks ++ ys) → Fits (row_of G.shown ks f) ys
    row_fits [] f ys d h = record { forest = d; rest = h }
    row_fits (k ∷ ks) f ys d h = let i = row_fits ks f ys d h.1 in record { forest = (h.0, i.forest); rest = i.rest }

    shape-fits : (c : Form) (ys : List ℕ) → form_fits c ≡ true → Shown (kinds_of c ++ ys) → Fits (shape G.shown c) ys
    unfolding form_fits
    shape-fits (row ks) ys e h = row_fits ks nil ys tt h
    shape-fits (row_in k ks) ys e h = let i = row_fits ks nil ys tt h in record { forest = (e, i.forest, tt); rest = i.rest }
    shape-fits (broken k ks m) ys e h = let i = row_fits ks (err (message m) nil) ys (right _ _ e, tt) h in record { forest = (left _ _ e, i.forest, tt); rest = i.rest }

    -- the longest form is one of the listed
    longer-fits : (c : Form) (o : Option Form) (d : Form) → form_fits c ≡ true → ((e : Form) → o ≡ some e → form_fits e ≡ true) → longer c o ≡ some d →
        form_fits d ≡ true
    longer-fits c none d f g q = subst (λ (o : Option Form). OptionFits o) q f
    longer-fits c (some e) d f g q = go (ltb (length (kinds_of c)) (length (kinds_of e))) q
      where
        go : (t : Bool) → cond t (some e) (some c) ≡ some d → form_fits d ≡ true
        go true r = subst (λ (o : Option Form). OptionFits o) r (g e refl)
        go false r = subst (λ (o : Option Form). OptionFits o) r f

    pub best-fits : (cs : List Form) (xs : List ℕ) (c : Form) → forms-fit cs ≡ true → best cs xs ≡ some c → form_fits c ≡ true
    unfolding best forms-fit
    best-fits [] xs c f q = subst (λ (o : Option Form). OptionFits o) q tt
    best-fits (d ∷ cs) xs c f q = go (stand (kinds_of d) xs) q (λ e r. best-fits cs xs e (right _ _ f) r)
      where
        go : (t : Bool) → cond t (longer d (best cs xs)) (best cs xs) ≡ some c → ((e : Form) → best cs xs ≡ some e → form_fits e ≡ true) → form_fits c ≡ true
        go true r g = longer-fits d (best cs xs) c (left _ _ f) g r
        go false r g = g c r

    form_reads : (cs : List Form) (xs : List ℕ) (o : Option Form) → best cs xs ≡ o → forms-fit cs ≡ true → Shown xs → FitsReading (take_form G.shown o xs)
    unfolding take_form
    form_reads cs xs none e f h = record { forest = tt; rest = h }
    form_reads cs xs (some c) e f h =
        shape-fits c (drop (length (kinds_of c)) xs) (best-fits cs xs c f e) (subst Shown (best-splits cs xs c e) h)

    module _ (body : List ℕ → Result) (body-fits : (xs : List ℕ) → Shown xs → FitsReading (body xs)) (hs : List Head) (unmet-fits : M unmet ≡ true) where
      repeat-fits : (n : ℕ) (xs : List ℕ) → Shown xs → FitsReading (repeat body hs n xs)
      unfolding repeat
      repeat-fits zero xs h = missing-fits unmet xs unmet-fits h
      repeat-fits (suc n) xs h =
          pick-fits (at hs xs) _ _
          (after-fits _ (λ f ys i. beside-fits f i.forest (repeat body hs n ys) (repeat-fits n ys i.rest)) (body xs) (body-fits xs h))
          (record { forest = tt; rest = h })

      lean-fits : (k n : ℕ) (f : Forest) (ys : List ℕ) → K k ≡ true → Fits f ys → FitsReading (lean body hs k n f ys)
      unfolding lean
      lean-fits k zero f ys e h = record { forest = (e, h.forest, (unmet-fits, tt), tt); rest = h.rest }
      lean-fits k (suc n) f ys e h =
          pick-fits (at hs ys) _ _
          (after-fits _ (λ g zs i. lean-fits k n (wrap k f g nil) zs e (record { forest = (e, h.forest, i.forest, tt); rest = i.rest })) (body ys) (body-fits ys h.rest))
          h

    module _ (bound : ℕ) (deep-fits : Q (refusal G.deep) ≡ true) where
      module _ (d : ℕ) (inner : G.Rule → List ℕ → Result) (inner-fits : (r : G.Rule) (xs : List ℕ) → Shown xs → FitsReading (inner r xs)) where
        abbrev stepped : Part G.Rule → List ℕ → Result
        stepped p xs = step G bound d inner p xs

        step_fits : (p : Part G.Rule) → part-fits p ≡ true → (xs : List ℕ) → Shown xs → FitsReading (stepped p xs)
        unfolding step part-fits take_two
        step_fits (tok m ks) g xs h = one-fits m ks xs g h
        step_fits (pair k l) g xs h =
            after-fits _
            (λ f ys i. beside-fits f i.forest (take_one G.shown unmet (l ∷ []) ys) (one-fits unmet (l ∷ []) ys g i.rest))
            (take_one G.shown unmet (k ∷ []) xs) (one-fits unmet (k ∷ []) xs g h)
        step_fits (look m ks l) g xs h = look-fits m ks l xs g h
        step_fits any g xs h = any-fits xs h
        step_fits (longest cs) g xs h = form_reads cs xs (best cs xs) refl g h
        step_fits (wrong x k m) g xs h = wrong-fits k m xs (left _ _ g) (right _ _ g) h
        step_fits (fail m) g xs h = missing-fits m xs g h
        step_fits (seq p q) g xs h =
            after-fits _ (λ f ys i. beside-fits f i.forest (stepped q ys) (step_fits q (right _ _ g) ys i.rest)) (stepped p xs) (step_fits p (left _ _ g) xs h)
        step_fits (either c p q) g xs h = pick-fits (at (first G p) xs) _ _ (step_fits p (left _ _ g) xs h) (step_fits q (right _ _ g) xs h)
        step_fits (opt c p) g xs h = pick-fits (at (first G p) xs) _ _ (step_fits p g xs h) (record { forest = tt; rest = h })
        step_fits (many p) g xs h = repeat-fits (λ ys. stepped p ys) (λ ys i. step_fits p (right _ _ g) ys i) (first G p) (left _ _ g) bound xs h
        step_fits (until k p) g xs h =
            pick-fits (is k xs) _ _ (one-fits unmet (k ∷ []) xs (left _ _ (left _ _ g)) h)
            (after-fits _
            (λ f ys i. beside-fits f i.forest (take_one G.shown (expected k) (k ∷ []) ys) (one-fits (expected k) (k ∷ []) ys (right _ _ (left _ _ g)) i.rest))
            (stepped p xs) (step_fits p (right _ _ g) xs h))
        step_fits (inside k p) g xs h =
            after-fits _ (λ f ys i. record { forest = (left _ _ g, i.forest, tt); rest = i.rest }) (stepped p xs) (step_fits p (right _ _ g) xs h)
        step_fits (suffix c k p q) g xs h =
            firstly-fits _
            (λ f ys i. pick-fits (at (first G q) ys) _ _
            (after-fits _ (λ e zs j. record { forest = (left _ _ g, i.forest, j.forest, tt); rest = j.rest }) (stepped q ys) (step_fits q (right _ _ (right _ _ g)) ys i.rest))
            i)
            (stepped p xs) (step_fits p (left _ _ (right _ _ g)) xs h)
        step_fits (leaning k p q) g xs h =
            firstly-fits _
            (λ f ys i. lean-fits (λ zs. stepped q zs) (λ zs j. step_fits q (right _ _ (right _ _ g)) zs j) (first G q) (right _ _ (left _ _ g)) k bound f ys (left _ _ (left _ _ g)) i)
            (stepped p xs) (step_fits p (left _ _ (right _ _ g)) xs h)
        step_fits (before hs p) g xs h = step_fits p g xs h
        step_fits (opens p) g xs h = within-fits G.deep d xs (stepped p xs) deep-fits h (step_fits p g xs h)
        step_fits (rule r) g xs h = inner-fits r xs h

      module _ (rules-fit : (r : G.Rule) → part-fits (G.rules r) ≡ true) where
        below-fits : (d : ℕ) (r : G.Rule) (xs : List ℕ) → Shown xs → FitsReading (below G bound d r xs)
        unfolding below
        below-fits zero r xs h = record { forest = (deep-fits, tt); rest = h }
        below-fits (suc d) r xs h = step_fits d (below G bound d) (below-fits d) (G.rules r) (rules-fit r) xs h

        -- What is read of symbols within bounds is within them.
        pub reading-fits : (d : ℕ) (p : Part G.Rule) → part-fits p ≡ true → (xs : List ℕ) → Shown xs → FitsReading (read G bound d p xs)
        unfolding read
        reading-fits d p g xs h = step_fits d (below G bound d) (below-fits d) p g xs h

-- FAULTS ALONE ---------------------------------------------------------------------------------------------------------

-- no kind is tested, so nothing is asked of the symbols
abbrev pub any-kind : ℕ → Bool
any-kind k = true

module _ (q : Fault → Bool) where
  abbrev pub but : Fault → Bool
  but m = not (q m)

  small-free : (f : Forest) → Small any-kind but f → faulty q f ≡ false
  unfolding faulty
  small-free nil s = refl
  small-free (leaf k f) s = small-free f s.1
  small-free (err m f) s = or_neither (q m) _ (not-true (q m) s.0) (small-free f s.1)
  small-free (node k i f) s = or_neither (faulty q i) _ (small-free i s.1) (small-free f s.2)
  small-free (wrap k a b f) s = or_neither (faulty q a || faulty q b) _ (or_neither (faulty q a) _ (small-free a s.1) (small-free b s.2)) (small-free f s.3)

  module _ (G : Grammar) where
    all_shown : (xs : List ℕ) → Shown any-kind but G xs
    all_shown [] = tt
    all_shown (x ∷ xs) = (refl, all_shown xs)

    fits-free : (r : Result) → FitsReading any-kind but G r → amiss q r ≡ false
    unfolding amiss
    fits-free (miss m ys) h = not-true (q m) h.forest.0
    fits-free (done f ys) h = small-free f h.forest

    -- A fault that no part has and that is not the refusal of an opener too many is in no reading.
    pub reading-free : (bound : ℕ) → q (refusal G.deep) ≡ false → ((r : G.Rule) → part-fits any-kind but (G.rules r) ≡ true) →
        (d : ℕ) (p : Part G.Rule) → part-fits any-kind but p ≡ true → (xs : List ℕ) → amiss q (read G bound d p xs) ≡ false
    reading-free bound e rules-fit d p g xs =
        fits-free (read G bound d p xs) (reading-fits any-kind but G bound (ap not e) rules-fit d p g xs (all_shown xs))
