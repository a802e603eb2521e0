-- What no reading meets. A part is sure of some faults if it cannot give them: its message is none of them, or only
-- tokens that it takes can stand where it is begun. The test of a part, over a table of the heads of which each rule
-- asks that one stands, is closed and so computed. No reading of a grammar whose rules pass it has such a fault: one
-- induction over the parts, which also counts the tokens taken. A loop never meets its bound, since each turn takes a
-- token. Assumes nothing.
use Prim.Native.Nat.{ℕ, zero, suc, ◌+◌, ◌≤◌, ◌<◌}
use native.Mathlib.Omega.{arith}
use mathlib.Core.Path.{◌≡◌, refl, sym, ap, ◌∙◌}
use mathlib.Core.Bool.{Bool, true, false, ◌||◌, ◌&&◌, or-false}
use mathlib.Core.Logic.{⊎_elim}
use mathlib.Core.List.{List, [], ◌∷◌}
use mathlib.Core.Option.{Option, none, some}
use lib.ListN.{length, drop, length-append}
use lib.Dec.{eqb}
use borrow.Author.Tests.{not-true}
use Rattle.predictive.specs.Forest.{Forest, nil, leaf, err, node, wrap, ◌then◌, leaves, Fault, message, refusal}
use Rattle.predictive.specs.Grammar.{Head, two, is, at, has, Form, row, row_in, broken, kinds_of, best, row_of, shape, Part, tok, pair, look, any, longest, wrong, fail, seq, either, opt, many, until, inside, suffix, leaning, before, opens, rule, Grammar}
use Rattle.predictive.specs.Reader.{Result, miss, done, pick, after, firstly, beside, expected, unmet, ones, twos, take_one, take_two, take_look, take_any, take_form, take_wrong, repeat, lean, within, first, step, below, read}
use Rattle.predictive.specs.Events.{events_of, taken}
use Rattle.predictive.proofs.Tests.{never, ◌and◌, left, right, or_l, or_cases, and_l, and_r, or_true_l}
use Rattle.predictive.proofs.Heads.{at_end, at_ones, within-heads, within-stands, minus, minus-absent, best-splits}
use Rattle.predictive.proofs.Faults.{faulty, amiss, clean-then, clean-node, clean-wrap, faulty-row}
use Rattle.predictive.proofs.EventLaws.{taken-events}
use Rattle.predictive.proofs.Consumed.{count, count-then, count-node, count-wrap, count-shape}
use Rattle.predictive.proofs.Takes.{takes, takes_one, at-twos_both}
use Rattle.predictive.proofs.Bounds.{form_fits, forms-fit, any-kind, but, best-fits}

-- WHAT IS KNOWN TO STAND -----------------------------------------------------------------------------------------------

-- Where a part is begun one of some heads is known to stand, or nothing is known.
abbrev pub Known : Option (List Head) → List ℕ → Type 0
Known none xs = Unit {0}
Known (some hs) xs = at hs xs ≡ true

-- One of gs then stands.
unfoldable pub covers : Option (List Head) → (gs : List Head) → Bool
unfolding within-heads
covers none gs = false
covers (some hs) gs = within-heads hs gs

-- What is asked to be known is known.
unfoldable pub grants : (known asked : Option (List Head)) → Bool
unfolding covers
grants known none = true
grants known (some gs) = covers known gs

-- What is known where none of gs stands.
unfoldable pub without : Option (List Head) → (gs : List Head) → Option (List Head)
unfolding minus
without none gs = none
without (some hs) gs = some (minus hs gs)

covered : (h : Option (List Head)) (gs : List Head) (xs : List ℕ) → covers h gs ≡ true → Known h xs → at gs xs ≡ true
unfolding covers
covered none gs xs c k = never c
covered (some hs) gs xs c k = within-stands hs gs xs c k

granted : (h asked : Option (List Head)) (xs : List ℕ) → grants h asked ≡ true → Known h xs → Known asked xs
unfolding grants
granted h none xs c k = tt
granted h (some gs) xs c k = covered h gs xs c k

left-known : (h : Option (List Head)) (gs : List Head) (xs : List ℕ) → at gs xs ≡ false → Known h xs → Known (without h gs) xs
unfolding without
left-known none gs xs n k = tt
left-known (some hs) gs xs n k = go (at (minus hs gs) xs) refl
  where
    go : (b : Bool) → at (minus hs gs) xs ≡ b → b ≡ true
    go true e = refl
    go false e = never (sym (minus-absent hs gs xs e n) ∙ k)

-- THE TEST -------------------------------------------------------------------------------------------------------------

module _ (q : Fault → Bool) (G : Grammar) (asks : G.Rule → Option (List Head)) where
  abbrev spared : ℕ → Bool
  spared m = but q (message m)

  -- Begun where h is known, the part gives no fault that passes q.
  unfoldable pub sure : Option (List Head) → Part G.Rule → Bool
  unfolding covers grants without forms-fit first takes
  sure h (tok m ks) = spared m || covers h (ones ks)
  sure h (pair k l) = spared unmet || covers h (two k l ∷ [])
  sure h (look m ks l) = spared m || covers h (twos ks l)
  sure h any = true
  sure h (longest cs) = forms-fit any-kind (but q) cs
  sure h (wrong x k m) = spared m
  sure h (fail m) = spared m
  sure h (seq p r) = sure h p and sure none r
  sure h (either c p r) = sure (some (first G p)) p and sure (without h (first G p)) r
  sure h (opt c p) = sure (some (first G p)) p
  sure h (many p) = takes p and sure (some (first G p)) p
  sure h (until k p) = spared (expected k) and sure h p
  sure h (inside k p) = sure h p
  sure h (suffix c k p r) = sure h p and sure (some (first G r)) r
  sure h (leaning k p r) = sure h p and (takes r and sure (some (first G r)) r)
  sure h (before hs p) = sure h p
  sure h (opens p) = sure h p
  sure h (rule r) = grants h (asks r)

  -- READINGS -----------------------------------------------------------------------------------------------------------

  -- From xs to ys f was read: without such a fault, and a symbol was taken for each leaf.
  record Plain (f : Forest) (xs ys : List ℕ) : Type 0 where
    pub clean : faulty q f ≡ false
    pub counted : count f + length ys ≡ length xs

  abbrev Reads : List ℕ → Result → Type 0
  Reads xs (miss m ys) = Plain (err m nil) xs ys
  Reads xs (done f ys) = Plain f xs ys

  plain-nil : (xs : List ℕ) → Plain nil xs xs
  unfolding faulty leaves
  plain-nil xs = record { clean = refl; counted = omega arith }

  plain-err : (m : Fault) (xs : List ℕ) → q m ≡ false → Plain (err m nil) xs xs
  unfolding faulty leaves
  plain-err m xs e = record { clean = rw e refl; counted = omega arith }

  plain-leaf : (x y : ℕ) (xs : List ℕ) → Plain (leaf y nil) (x ∷ xs) xs
  unfolding faulty leaves
  plain-leaf x y xs = record { clean = refl; counted = omega arith }

  plain_then : (f g : Forest) (xs ys zs : List ℕ) → Plain f xs ys → Plain g ys zs → Plain (f then g) xs zs
  plain_then f g xs ys zs a b = record { clean = clean-then q f g a.clean b.clean; counted = omega (arith, count-then f g, a.counted, b.counted) }

  plain-node : (k : ℕ) (f : Forest) (xs ys : List ℕ) → Plain f xs ys → Plain (node k f nil) xs ys
  plain-node k f xs ys a = record { clean = clean-node q k f a.clean; counted = omega (arith, count-node k f, a.counted) }

  plain-wrap : (k : ℕ) (f g : Forest) (xs ys zs : List ℕ) → Plain f xs ys → Plain g ys zs → Plain (wrap k f g nil) xs zs
  plain-wrap k f g xs ys zs a b = record { clean = clean-wrap q k f g a.clean b.clean; counted = omega (arith, count-wrap k f g, a.counted, b.counted) }

  reads-after : (xs zs : List ℕ) (k : Forest → List ℕ → Result) → ((f : Forest) (ys : List ℕ) → Plain f xs ys → Reads zs (k f ys)) → (r : Result) →
      Reads xs r → Reads zs (after r k)
  reads-after xs zs k t (miss m ys) a = t (err m nil) ys a
  reads-after xs zs k t (done f ys) a = t f ys a

  reads-firstly : (xs : List ℕ) (k : Forest → List ℕ → Result) → ((f : Forest) (ys : List ℕ) → Plain f xs ys → Reads xs (k f ys)) → (r : Result) →
      Reads xs r → Reads xs (firstly r k)
  reads-firstly xs k t (miss m ys) a = a
  reads-firstly xs k t (done f ys) a = t f ys a

  -- after a reading that took a token, fewer symbols are left
  reads-some : (xs zs : List ℕ) (k : Forest → List ℕ → Result) → ((f : Forest) (ys : List ℕ) → Plain f xs ys → length ys < length xs → Reads zs (k f ys)) →
      (r : Result) → Reads xs r → 1 ≤ taken (events_of r) → Reads zs (after r k)
  unfolding events_of taken
  reads-some xs zs k t (miss m ys) a s = absurd (omega (arith, s))
  reads-some xs zs k t (done f ys) a s = t f ys a (omega (arith, s, taken-events f 0, a.counted))

  reads-beside : (xs ys : List ℕ) (f : Forest) → Plain f xs ys → (r : Result) → Reads ys r → Reads xs (beside f r)
  reads-beside xs ys f a r b = reads-after ys xs _ (λ g zs c. plain_then f g xs ys zs a c) r b

  reads-pick : (xs : List ℕ) (b : Bool) (r s : Result) → (b ≡ true → Reads xs r) → (b ≡ false → Reads xs s) → Reads xs (pick b r s)
  reads-pick xs true r s t u = t refl
  reads-pick xs false r s t u = u refl

  reads-within : (n d : ℕ) (xs : List ℕ) (r : Result) → q (refusal n) ≡ false → Reads xs r → Reads xs (within n d xs r)
  reads-within n zero xs r e a = plain-err (refusal n) xs e
  reads-within n (suc d) xs r e a = a

  -- TOKENS AND FORMS ---------------------------------------------------------------------------------------------------

  missing : (m : ℕ) (xs : List ℕ) → spared m ≡ true → Plain (err (message m) nil) xs xs
  missing m xs e = plain-err (message m) xs (not-true (q (message m)) e)

  one-spared : (m : ℕ) (ks xs : List ℕ) → spared m ≡ true → Reads xs (take_one G.shown m ks xs)
  unfolding take_one
  one-spared m ks [] e = missing m [] e
  one-spared m ks (x ∷ xs) e = reads-pick (x ∷ xs) (has ks x) _ _ (λ h. plain-leaf x (G.shown x) xs) (λ h. missing m (x ∷ xs) e)

  one-stands : (m : ℕ) (ks xs : List ℕ) → at (ones ks) xs ≡ true → Reads xs (take_one G.shown m ks xs)
  unfolding take_one
  one-stands m ks [] e = never (sym (at_end (ones ks)) ∙ e)
  one-stands m ks (x ∷ xs) e = rw (sym (at_ones ks x xs) ∙ e) (plain-leaf x (G.shown x) xs)

  look-spared : (m : ℕ) (ks : List ℕ) (l : ℕ) (xs : List ℕ) → spared m ≡ true → Reads xs (take_look G.shown m ks l xs)
  unfolding take_look
  look-spared m ks l [] e = missing m [] e
  look-spared m ks l (x ∷ xs) e = reads-pick (x ∷ xs) (has ks x && is l xs) _ _ (λ h. plain-leaf x (G.shown x) xs) (λ h. missing m (x ∷ xs) e)

  look-stands : (m : ℕ) (ks : List ℕ) (l : ℕ) (xs : List ℕ) → at (twos ks l) xs ≡ true → Reads xs (take_look G.shown m ks l xs)
  unfolding take_look
  look-stands m ks l [] e = never (sym (at_end (twos ks l)) ∙ e)
  look-stands m ks l (x ∷ xs) e = rw (at-twos_both ks l x xs e) (plain-leaf x (G.shown x) xs)

  pair-spared : (k l : ℕ) (xs : List ℕ) → spared unmet ≡ true → Reads xs (take_two G.shown k l xs)
  unfolding take_two
  pair-spared k l xs e =
      reads-after xs xs _ (λ f ys a. reads-beside xs ys f a (take_one G.shown unmet (l ∷ []) ys) (one-spared unmet (l ∷ []) ys e))
      (take_one G.shown unmet (k ∷ []) xs) (one-spared unmet (k ∷ []) xs e)

  pair-stands : (k l : ℕ) (xs : List ℕ) → at (two k l ∷ []) xs ≡ true → Reads xs (take_two G.shown k l xs)
  unfolding take_two take_one ones
  pair-stands k l [] e = never e
  pair-stands k l (x ∷ xs) e =
      let h = sym (or-false (eqb x k && is l xs)) ∙ e in
      rw (and_l (eqb x k) (is l xs) h)
      (reads-beside (x ∷ xs) xs (leaf (G.shown x) nil) (plain-leaf x (G.shown x) xs) (take_one G.shown unmet (l ∷ []) xs)
      (one-stands unmet (l ∷ []) xs (or_true_l (is l xs) false (and_r (eqb x k) (is l xs) h))))

  any-reads : (xs : List ℕ) → Reads xs (take_any G.shown xs)
  unfolding take_any
  any-reads [] = plain-nil []
  any-reads (x ∷ xs) = plain-leaf x (G.shown x) xs

  wrong-reads : (k m : ℕ) (xs : List ℕ) → spared m ≡ true → Reads xs (take_wrong G.shown k m xs)
  unfolding take_wrong
  wrong-reads k m [] e = missing m [] e
  wrong-reads k m (x ∷ xs) e =
      plain-node k (err (message m) (leaf (G.shown x) nil)) (x ∷ xs) xs
      (plain_then (err (message m) nil) (leaf (G.shown x) nil) (x ∷ xs) (x ∷ xs) xs (missing m (x ∷ xs) e) (plain-leaf x (G.shown x) xs))

  shape-clean : (c : Form) → form_fits any-kind (but q) c ≡ true → faulty q (shape G.shown c) ≡ false
  unfolding form_fits faulty
  shape-clean (row ks) e = faulty-row q G.shown ks nil
  shape-clean (row_in k ks) e = clean-node q k (row_of G.shown ks nil) (faulty-row q G.shown ks nil)
  shape-clean (broken k ks m) e =
      clean-node q k (row_of G.shown ks (err (message m) nil)) (faulty-row q G.shown ks (err (message m) nil) ∙ (missing m [] (right _ _ e)).clean)

  form_reads : (cs : List Form) (xs : List ℕ) (o : Option Form) → best cs xs ≡ o → forms-fit any-kind (but q) cs ≡ true → Reads xs (take_form G.shown o xs)
  unfolding take_form
  form_reads cs xs none b e = plain-nil xs
  form_reads cs xs (some c) b e =
      let ys = drop (length (kinds_of c)) xs in
      record {
        clean = shape-clean c (best-fits any-kind (but q) G cs xs c e b);
        counted = omega (arith, count-shape G.shown c, length-append (kinds_of c) ys, ap length (best-splits cs xs c b));
      }

  -- LOOPS --------------------------------------------------------------------------------------------------------------

  module _ (bound : ℕ) where
    -- Each turn takes a token, so with a bound above the number of symbols there is always a turn left.
    module _ (body : List ℕ → Result) (hs : List Head) (body-Reads : (xs : List ℕ) → at hs xs ≡ true → length xs < bound → Reads xs (body xs))
        (body-takes : (xs : List ℕ) → at hs xs ≡ true → 1 ≤ taken (events_of (body xs))) where
      repeat-reads : (n : ℕ) (xs : List ℕ) → length xs < n → length xs < bound → Reads xs (repeat body hs n xs)
      unfolding repeat
      repeat-reads zero xs l m = absurd (omega (arith, l))
      repeat-reads (suc n) xs l m =
          reads-pick xs (at hs xs) _ _
          (λ e. reads-some xs xs _ (λ f ys a s. reads-beside xs ys f a (repeat body hs n ys) (repeat-reads n ys (omega (arith, l, s)) (omega (arith, m, s))))
          (body xs) (body-Reads xs e m) (body-takes xs e))
          (λ e. plain-nil xs)

      lean-reads : (k n : ℕ) (f : Forest) (xs ys : List ℕ) → length ys < n → length ys < bound → Plain f xs ys → Reads xs (lean body hs k n f ys)
      unfolding lean
      lean-reads k zero f xs ys l m a = absurd (omega (arith, l))
      lean-reads k (suc n) f xs ys l m a =
          reads-pick xs (at hs ys) _ _
          (λ e. reads-some ys xs _
          (λ g zs b s. lean-reads k n (wrap k f g nil) xs zs (omega (arith, l, s)) (omega (arith, m, s)) (plain-wrap k f g xs ys zs a b))
          (body ys) (body-Reads ys e m) (body-takes ys e))
          (λ e. a)

    -- PARTS ------------------------------------------------------------------------------------------------------------

    module _ (deep : q (refusal G.deep) ≡ false) where
      module _ (d : ℕ) (inner : G.Rule → List ℕ → Result)
          (inner-reads : (r : G.Rule) (xs : List ℕ) → Known (asks r) xs → length xs < bound → Reads xs (inner r xs)) where
        abbrev stepped : Part G.Rule → List ℕ → Result
        stepped p xs = step G bound d inner p xs

        step-reads : (p : Part G.Rule) (h : Option (List Head)) → sure h p ≡ true → (xs : List ℕ) → Known h xs → length xs < bound → Reads xs (stepped p xs)
        unfolding sure step
        step-reads (tok m ks) h g xs k l =
            ⊎_elim (λ e. one-spared m ks xs e) (λ e. one-stands m ks xs (covered h (ones ks) xs e k)) (or_cases (spared m) (covers h (ones ks)) g)
        step-reads (pair i j) h g xs k l =
            ⊎_elim (λ e. pair-spared i j xs e) (λ e. pair-stands i j xs (covered h (two i j ∷ []) xs e k)) (or_cases (spared unmet) (covers h (two i j ∷ [])) g)
        step-reads (look m ks j) h g xs k l =
            ⊎_elim (λ e. look-spared m ks j xs e) (λ e. look-stands m ks j xs (covered h (twos ks j) xs e k)) (or_cases (spared m) (covers h (twos ks j)) g)
        step-reads any h g xs k l = any-reads xs
        step-reads (longest cs) h g xs k l = form_reads cs xs (best cs xs) refl g
        step-reads (wrong x i m) h g xs k l = wrong-reads i m xs g
        step-reads (fail m) h g xs k l = missing m xs g
        step-reads (seq p r) h g xs k l =
            reads-after xs xs _
            (λ f ys a. reads-beside xs ys f a (stepped r ys) (step-reads r none (right _ _ g) ys tt (omega (arith, l, a.counted))))
            (stepped p xs) (step-reads p h (left _ _ g) xs k l)
        step-reads (either c p r) h g xs k l =
            reads-pick xs (at (first G p) xs) _ _
            (λ e. step-reads p (some (first G p)) (left _ _ g) xs e l)
            (λ e. step-reads r (without h (first G p)) (right _ _ g) xs (left-known h (first G p) xs e k) l)
        step-reads (opt c p) h g xs k l =
            reads-pick xs (at (first G p) xs) _ _ (λ e. step-reads p (some (first G p)) g xs e l) (λ e. plain-nil xs)
        step-reads (many p) h g xs k l =
            repeat-reads (λ ys. stepped p ys) (first G p)
            (λ ys e m. step-reads p (some (first G p)) (right _ _ g) ys e m)
            (λ ys e. takes_one G bound d inner p ys (left _ _ g) e) bound xs l l
        step-reads (until i p) h g xs k l =
            reads-pick xs (is i xs) _ _
            (λ e. one-stands unmet (i ∷ []) xs (unfold ones in or_true_l (is i xs) false e))
            (λ e. reads-after xs xs _
            (λ f ys a. reads-beside xs ys f a (take_one G.shown (expected i) (i ∷ []) ys) (one-spared (expected i) (i ∷ []) ys (left _ _ g)))
            (stepped p xs) (step-reads p h (right _ _ g) xs k l))
        step-reads (inside i p) h g xs k l = reads-after xs xs _ (λ f ys a. plain-node i f xs ys a) (stepped p xs) (step-reads p h g xs k l)
        step-reads (suffix c i p r) h g xs k l =
            reads-firstly xs _
            (λ f ys a. reads-pick xs (at (first G r) ys) _ _
            (λ e. reads-after ys xs _ (λ j zs b. plain-wrap i f j xs ys zs a b) (stepped r ys)
            (step-reads r (some (first G r)) (right _ _ g) ys e (omega (arith, l, a.counted))))
            (λ e. a))
            (stepped p xs) (step-reads p h (left _ _ g) xs k l)
        step-reads (leaning i p r) h g xs k l =
            reads-firstly xs _
            (λ f ys a. lean-reads (λ zs. stepped r zs) (first G r)
            (λ zs e m. step-reads r (some (first G r)) (right _ _ (right _ _ g)) zs e m)
            (λ zs e. takes_one G bound d inner r zs (left _ _ (right _ _ g)) e) i bound f xs ys (omega (arith, l, a.counted)) (omega (arith, l, a.counted)) a)
            (stepped p xs) (step-reads p h (left _ _ g) xs k l)
        step-reads (before hs p) h g xs k l = step-reads p h g xs k l
        step-reads (opens p) h g xs k l = reads-within G.deep d xs (stepped p xs) deep (step-reads p h g xs k l)
        step-reads (rule r) h g xs k l = inner-reads r xs (granted h (asks r) xs g k) l

      module _ (rules-sure : (r : G.Rule) → sure (asks r) (G.rules r) ≡ true) where
        below-reads : (d : ℕ) (r : G.Rule) (xs : List ℕ) → Known (asks r) xs → length xs < bound → Reads xs (below G bound d r xs)
        unfolding below
        below-reads zero r xs k l = plain-err (refusal G.deep) xs deep
        below-reads (suc d) r xs k l = step-reads d (below G bound d) (below-reads d) (G.rules r) (asks r) (rules-sure r) xs k l

        reads-unmet : (xs : List ℕ) (r : Result) → Reads xs r → amiss q r ≡ false
        unfolding amiss faulty
        reads-unmet xs (miss m ys) a = or_l (q m) false a.clean
        reads-unmet xs (done f ys) a = a.clean

        -- No reading has a fault of which the grammar and the part are sure.
        pub never_met : (d : ℕ) (p : Part G.Rule) (h : Option (List Head)) → sure h p ≡ true → (xs : List ℕ) → Known h xs → length xs < bound →
            amiss q (read G bound d p xs) ≡ false
        unfolding read
        never_met d p h g xs k l = reads-unmet xs (read G bound d p xs) (step-reads d (below G bound d) (below-reads d) p h g xs k l)
