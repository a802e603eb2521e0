-- What the reader of a good grammar gives without a fault, the grammar derives. By induction over the parts, with what `shuts`
-- says of the symbols left, which the part `before` needs; a fault that was met is kept to the end, so each step may take what
-- it goes on with for clean. Assumes nothing.
use Prim.Native.Nat.{ℕ, zero, suc}
use mathlib.Core.Path.{◌≡◌, refl, sym, ap, subst, ◌∙◌}
use mathlib.Core.Logic.{◌⊎◌, inl, inr, ⊎_elim}
use mathlib.Core.Bool.{Bool, true, false, ◌&&◌}
use mathlib.Core.List.{List, [], ◌∷◌}
use mathlib.Core.Option.{Option, none, some}
use lib.Dec.{eqb}
use borrow.Author.Tests.{eqb-true}
use Rattle.predictive.specs.Forest.{Forest, nil, leaf, err, wrap, ◌then◌, message}
use Rattle.predictive.specs.Grammar.{Head, is, starts, at, has, Form, row, row_in, broken, best, Choice, free, unless, May, Part, tok, pair, look, any, longest, wrong, fail, seq, either, opt, many, until, inside, suffix, leaning, before, opens, rule, Grammar}
use Rattle.predictive.specs.Grammar.{Derives, Many, Leaning, d_tok, d_pair, d_look, d_any, d_any_end, d_longest, d_no_form, d_seq, d_left, d_right, d_some, d_none, d_many, d_until, d_at_once, d_inside, d_alone, d_with, d_leaning, d_before, d_opens, d_rule, m_nil, m_cons, l_one, l_more}
use Rattle.predictive.specs.Reader.{Result, miss, done, pick, after, firstly, beside, expected, unmet, take_one, take_two, take_look, take_any, take_form, take_wrong, unfinished, repeat, lean, within, first, step, below, read}
use Rattle.predictive.specs.Events.{any_fault}
use Rattle.predictive.proofs.Tests.{never, and_l, and_r, or_cases, left, right}
use Rattle.predictive.proofs.Faults.{faulty, amiss, Keeps, faulty-then_l, faulty-row, faulty-node, faulty-wrap_r, keeps_beside, keeps_then, keeps_node, keeps_wrap, keeps_suffix, keeps_lean, keeps_lean_on}
use Rattle.predictive.proofs.Heads.{among, among-absent, same, same-equal, within-absent, best-splits}
use Rattle.predictive.proofs.Lookahead.{fits, sides, shuts, all-shut, good, Tables, Fine, good-before, good-either, good-leaning, good-many, good-opt, good-seq, good-suffix, good-until, Good, good-inside, good-opens, good-rule}

-- P holds of what was read, if no fault is in it.
abbrev IfClean : (Forest → List ℕ → Type 0) → Result → Type 0
IfClean P (miss m ys) = Unit {0}
IfClean P (done f ys) = (faulty any_fault f ≡ true) ⊎ P f ys

spoilt : (P : Forest → List ℕ → Type 0) (r : Result) → amiss any_fault r ≡ true → IfClean P r
unfolding amiss
spoilt P (miss m ys) e = tt
spoilt P (done f ys) e = inl e

faulty-err : (m : ℕ) → faulty any_fault (err (message m) nil) ≡ true
unfolding faulty
faulty-err m = refl

module _ (P Q : Forest → List ℕ → Type 0) where
  clean-map : ((f : Forest) (ys : List ℕ) → P f ys → Q f ys) → (r : Result) → IfClean P r → IfClean Q r
  clean-map t (miss m ys) h = tt
  clean-map t (done f ys) (inl e) = inl e
  clean-map t (done f ys) (inr a) = inr (t f ys a)

  clean_after : (k : Forest → List ℕ → Result) → Keeps any_fault k → ((f : Forest) (ys : List ℕ) → P f ys → IfClean Q (k f ys)) →
      (r : Result) → IfClean P r → IfClean Q (after r k)
  unfolding faulty
  clean_after k keeps t (miss m ys) h = spoilt Q (k (err m nil) ys) (keeps (err m nil) ys refl)
  clean_after k keeps t (done f ys) (inl e) = spoilt Q (k f ys) (keeps f ys e)
  clean_after k keeps t (done f ys) (inr a) = t f ys a

  clean-firstly : (k : Forest → List ℕ → Result) → Keeps any_fault k → ((f : Forest) (ys : List ℕ) → P f ys → IfClean Q (k f ys)) →
      (r : Result) → IfClean P r → IfClean Q (firstly r k)
  clean-firstly k keeps t (miss m ys) h = tt
  clean-firstly k keeps t (done f ys) (inl e) = spoilt Q (k f ys) (keeps f ys e)
  clean-firstly k keeps t (done f ys) (inr a) = t f ys a

  clean-beside : (f : Forest) → ((g : Forest) (zs : List ℕ) → P g zs → Q (f then g) zs) → (r : Result) → IfClean P r → IfClean Q (beside f r)
  clean-beside f t r h = clean_after (λ g zs. done (f then g) zs) (keeps_then any_fault f) (λ g zs a. inr (t g zs a)) r h

module _ (P : Forest → List ℕ → Type 0) where
  clean-pick : (b : Bool) (r s : Result) → (b ≡ true → IfClean P r) → (b ≡ false → IfClean P s) → IfClean P (pick b r s)
  clean-pick true r s t u = t refl
  clean-pick false r s t u = u refl

  clean-within : (n d : ℕ) (xs : List ℕ) (r : Result) → IfClean P r → IfClean P (within n d xs r)
  clean-within n zero xs r h = tt
  clean-within n (suc d) xs r h = h

-- where a part may be left out or passed over, since none of its heads stands
may_leave : (c : Choice) (hs : List Head) (xs : List ℕ) → fits c hs ≡ true → at hs xs ≡ false → May c xs
unfolding fits
may_leave free hs xs e n = tt
may_leave (unless gs) hs xs e n = within-absent gs hs xs (right _ _ e) n

may_pass : (c : Choice) (hs gs : List Head) (xs : List ℕ) → sides c hs gs ≡ true → at hs xs ≡ false → May c xs
unfolding sides
may_pass free hs gs xs e n = tt
may_pass (unless ds) hs gs xs e n = within-absent ds hs xs (right _ _ e) n

only_one : (k x : ℕ) → has (k ∷ []) x ≡ true → x ≡ k
only_one k x e = ⊎_elim (λ a. eqb-true x k a) (λ a. never a) (or_cases (eqb x k) false e)

module _ (shown : ℕ → ℕ) where
  take_one-clean : (m : ℕ) (ks ys : List ℕ) →
      IfClean (λ g zs. (x : ℕ) × (g ≡ leaf (shown x) nil) × (ys ≡ x ∷ zs) × (has ks x ≡ true)) (take_one shown m ks ys)
  unfolding take_one
  take_one-clean m ks [] = inl (faulty-err m)
  take_one-clean m ks (x ∷ ys) = clean-pick _ (has ks x) _ _ (λ e. inr (x, refl, refl, e)) (λ e. inl (faulty-err m))

  -- one token of just one kind
  take_this_clean : (m k : ℕ) (ys : List ℕ) → IfClean (λ g zs. (g ≡ leaf (shown k) nil) × (ys ≡ k ∷ zs)) (take_one shown m (k ∷ []) ys)
  take_this_clean m k ys =
      clean-map _ _
      (λ g zs r. let e = only_one k r.0 r.3 in (r.1 ∙ ap (λ (x : ℕ). leaf (shown x) nil) e, r.2 ∙ ap (λ (x : ℕ). x ∷ zs) e))
      (take_one shown m (k ∷ []) ys) (take_one-clean m (k ∷ []) ys)

module _ (G : Grammar) (T : Tables G) (fine : Fine G T) (bound : ℕ) where
  abbrev Shuts : Bool → Head → Part G.Rule → Type 0
  Shuts b h p = shuts G T b h p ≡ true

  -- What is known of a part p from which f was read, from xs down to ys.
  record Known (p : Part G.Rule) (xs : List ℕ) (f : Forest) (ys : List ℕ) : Type 0 where
    derives : Derives G p f xs ys
    shut : (b : Bool) (h : Head) → Shuts b h p → (b ≡ true → starts h xs ≡ false) → starts h ys ≡ false

  module _ (d : ℕ) (inner : G.Rule → List ℕ → Result) (inner-known : (r : G.Rule) (xs : List ℕ) → IfClean (Known (G.rules r) xs) (inner r xs)) where
    abbrev stepped : Part G.Rule → List ℕ → Result
    stepped p xs = step G bound d inner p xs

    repeat-known : (p : Part G.Rule) → ((xs : List ℕ) → IfClean (Known p xs) (stepped p xs)) → (n : ℕ) (xs : List ℕ) →
        IfClean (λ f ys. Many G p f xs ys × (at (first G p) ys ≡ false)) (repeat (λ zs. stepped p zs) (first G p) n xs)
    unfolding repeat
    repeat-known p s zero xs = inl (faulty-err 0)
    repeat-known p s (suc n) xs =
        clean-pick _ (at (first G p) xs) _ _
        (λ a. clean_after (Known p xs) _ _ (keeps_beside any_fault (repeat (λ zs. stepped p zs) (first G p) n))
        (λ f ys r. clean-beside _ _ f
        (λ g zs i. (m_cons r.derives i.0 refl, i.1))
        (repeat (λ zs. stepped p zs) (first G p) n ys) (repeat-known p s n ys))
        (stepped p xs) (s xs))
        (λ a. inr (m_nil, a))

    -- What is known of a left-leaning tree f that was read from xs, with the loop at ys.
    record KnownLeaning (k : ℕ) (p q : Part G.Rule) (xs : List ℕ) (f : Forest) (ys : List ℕ) : Type 0 where
      leans : Leaning G k p q f xs ys
      lean-shut : (b : Bool) (h : Head) → Shuts b h p → Shuts false h q → (b ≡ true → starts h xs ≡ false) → starts h ys ≡ false

    module _ (k : ℕ) (p q : Part G.Rule) (xs : List ℕ) (s : (ys : List ℕ) → IfClean (Known q ys) (stepped q ys)) where
      lean-known : (n : ℕ) (f : Forest) (ys : List ℕ) → KnownLeaning k p q xs f ys →
          IfClean (λ g zs. KnownLeaning k p q xs g zs × (at (first G q) zs ≡ false)) (lean (λ zs. stepped q zs) (first G q) k n f ys)
      unfolding lean
      lean-known zero f ys l = inl (faulty-wrap_r any_fault k f unfinished (faulty-err 0))
      lean-known (suc n) f ys l =
          clean-pick _ (at (first G q) ys) _ _
          (λ a. clean_after (Known q ys) _ _ (keeps_lean_on any_fault (λ zs. stepped q zs) (first G q) k n f)
          (λ g zs r. lean-known n (wrap k f g nil) zs
          (record { leans = l_more l.leans r.derives; lean-shut = λ b h e e' s'. r.shut false h e' never }))
          (stepped q ys) (s ys))
          (λ a. inr (l, a))

    shut_one : (hs : List Head) (p : Part G.Rule) (h : Head) → all-shut G T hs p ≡ true → among hs h ≡ true → Shuts false h p
    unfolding all-shut among
    shut_one [] p h e a = never a
    shut_one (g ∷ hs) p h e a =
        ⊎_elim
        (λ m. subst (λ (x : Head). Shuts false x p) (sym (same-equal h g m)) (left _ _ e))
        (λ m. shut_one hs p h (right _ _ e) m)
        (or_cases (same h g) (among hs h) a)

    all-shut_absent : (hs : List Head) (p : Part G.Rule) (xs ys : List ℕ) (f : Forest) → Known p xs f ys → all-shut G T hs p ≡ true →
        at hs ys ≡ false
    unfolding all-shut
    all-shut_absent [] p xs ys f r e = refl
    all-shut_absent (h ∷ hs) p xs ys f r e = rw (r.shut false h (left _ _ e) never) (all-shut_absent hs p xs ys f r (right _ _ e))

    pair-known : (k l : ℕ) (xs : List ℕ) → IfClean (Known (pair k l) xs) (take_two G.shown k l xs)
    unfolding take_two shuts
    pair-known k l xs =
        clean_after _ (Known (pair k l) xs) _ (keeps_beside any_fault (take_one G.shown unmet (l ∷ [])))
        (λ f ys r. clean-beside _ (Known (pair k l) xs) f
        (λ g zs i. record { derives = rw (r.1, i.1) (d_pair (λ j. (r.0 j) then (i.0 j))); shut = λ b h e s. never e })
        (take_one G.shown unmet (l ∷ []) ys) (take_this_clean G.shown unmet l ys))
        (take_one G.shown unmet (k ∷ []) xs) (take_this_clean G.shown unmet k xs)

    look_known : (m : ℕ) (ks : List ℕ) (l : ℕ) (xs : List ℕ) → IfClean (Known (look m ks l) xs) (take_look G.shown m ks l xs)
    unfolding take_look shuts
    look_known m ks l [] = inl (faulty-err m)
    look_known m ks l (x ∷ []) = clean-pick _ (has ks x && false) _ _ (λ e. never (and_r (has ks x) false e)) (λ e. inl (faulty-err m))
    look_known m ks l (x ∷ y ∷ xs) =
        clean-pick _ (has ks x && eqb y l) _ _
        (λ e. inr (record { derives = rw (eqb-true y l (and_r (has ks x) _ e)) (d_look (and_l _ _ e) refl); shut = λ b h e s. never e }))
        (λ e. inl (faulty-err m))

    any-known : (xs : List ℕ) → IfClean (Known any xs) (take_any G.shown xs)
    unfolding take_any shuts
    any-known [] = inr (record { derives = d_any_end; shut = λ b h e s. never e })
    any-known (x ∷ xs) = inr (record { derives = d_any refl; shut = λ b h e s. never e })

    form_known : (cs : List Form) (xs : List ℕ) (o : Option Form) → best cs xs ≡ o → IfClean (Known (longest cs) xs) (take_form G.shown o xs)
    unfolding take_form shuts
    form_known cs xs none q = inr (record { derives = d_no_form q; shut = λ b h e s. never e })
    form_known cs xs (some (row ks)) q = inr (record { derives = d_longest q refl (best-splits cs xs (row ks) q) refl; shut = λ b h e s. never e })
    form_known cs xs (some (row_in k ks)) q = inr (record { derives = d_longest q refl (best-splits cs xs (row_in k ks) q) refl; shut = λ b h e s. never e })
    form_known cs xs (some (broken k ks m)) q = inl (faulty-node any_fault k _ ∙ faulty-row any_fault G.shown ks (err (message m) nil) ∙ faulty-err m)

    wrong-known : (x k m : ℕ) (xs : List ℕ) → IfClean (Known (wrong x k m) xs) (take_wrong G.shown k m xs)
    unfolding take_wrong
    wrong-known x k m [] = tt
    wrong-known x k m (y ∷ ys) = inl (faulty-node any_fault k _ ∙ faulty-then_l any_fault (err (message m) nil) (leaf (G.shown y) nil) (faulty-err m))

    step-known : (p : Part G.Rule) → Good G T p → (xs : List ℕ) → IfClean (Known p xs) (stepped p xs)
    unfolding step shuts
    step-known (tok m ks) g xs =
        clean-map _ _
        (λ f ys r. record { derives = rw r.2 (d_tok r.3 r.1); shut = λ b h e s. never e })
        (take_one G.shown m ks xs) (take_one-clean G.shown m ks xs)
    step-known (pair k l) g xs = pair-known k l xs
    step-known (look m ks l) g xs = look_known m ks l xs
    step-known any g xs = any-known xs
    step-known (longest cs) g xs = form_known cs xs (best cs xs) refl
    step-known (wrong x k m) g xs = wrong-known x k m xs
    step-known (fail m) g xs = tt
    step-known (seq p q) g xs =
        clean_after (Known p xs) (Known (seq p q) xs) _ (keeps_beside any_fault (stepped q))
        (λ f ys r. clean-beside (Known q ys) (Known (seq p q) xs) f
        (λ f' zs i. record { derives = d_seq r.derives i.derives refl; shut = λ b h e s. i.shut _ h e (λ e'. r.shut b h e' s) })
        (stepped q ys) (step-known q (good-seq g).latter ys))
        (stepped p xs) (step-known p (good-seq g).former xs)
    step-known (either c p q) g xs =
        clean-pick (Known (either c p q) xs) (at (first G p) xs) _ _
        (λ a. clean-map (Known p xs) _
        (λ f ys r. record { derives = d_left r.derives; shut = λ b h e s. r.shut b h (left _ _ e) s })
        (stepped p xs) (step-known p (good-either g).former xs))
        (λ a. clean-map (Known q xs) _
        (λ f ys r. record { derives = d_right r.derives (may_pass c (first G p) (first G q) xs (good-either g).told a); shut = λ b h e s. r.shut b h (right _ _ e) s })
        (stepped q xs) (step-known q (good-either g).latter xs))
    step-known (opt c p) g xs =
        clean-pick (Known (opt c p) xs) (at (first G p) xs) _ _
        (λ a. clean-map (Known p xs) _
        (λ f ys r. record { derives = d_some r.derives; shut = λ b h e s. r.shut b h (left _ _ e) s })
        (stepped p xs) (step-known p (good-opt g).part xs))
        (λ a. inr (record {
          derives = d_none (may_leave c (first G p) xs (good-opt g).told a);
          shut = λ b h e s. ⊎_elim s (λ m. among-absent (first G p) h xs m a) (or_cases b (among (first G p) h) (right _ _ e));
        }))
    step-known (many p) g xs =
        clean-map _ _
        (λ f ys r. record { derives = d_many r.0; shut = λ b h e s. among-absent (first G p) h ys e r.1 })
        (repeat (λ zs. stepped p zs) (first G p) bound xs) (repeat-known p (λ ys. step-known p (good-many g).part ys) bound xs)
    step-known (until k p) g xs =
        clean-pick (Known (until k p) xs) (is k xs) _ _
        (λ a. clean-map _ _
        (λ f ys r. record { derives = rw r.1 (d_at_once r.0); shut = λ b h e s. never e })
        (take_one G.shown unmet (k ∷ []) xs) (take_this_clean G.shown unmet k xs))
        (λ a. clean_after (Known p xs) (Known (until k p) xs) _ (keeps_beside any_fault (take_one G.shown (expected k) (k ∷ [])))
        (λ f ys r. clean-beside _ (Known (until k p) xs) f
        (λ f' zs i. record { derives = d_until (rw i.1 at r.derives) (ap (λ (t : Forest). f then t) i.0); shut = λ b h e s. never e })
        (take_one G.shown (expected k) (k ∷ []) ys) (take_this_clean G.shown (expected k) k ys))
        (stepped p xs) (step-known p (good-until g).part xs))
    step-known (inside k p) g xs =
        clean_after (Known p xs) (Known (inside k p) xs) _ (keeps_node any_fault k)
        (λ f ys r. inr (record { derives = d_inside r.derives; shut = r.shut }))
        (stepped p xs) (step-known p (good-inside g) xs)
    step-known (suffix c k p q) g xs =
        clean-firstly (Known p xs) (Known (suffix c k p q) xs) _ (keeps_suffix any_fault (stepped q) (first G q) k)
        (λ f ys r. clean-pick (Known (suffix c k p q) xs) (at (first G q) ys) _ _
        (λ a. clean_after (Known q ys) (Known (suffix c k p q) xs) _ (keeps_wrap any_fault k f)
        (λ f' zs i. inr (record { derives = d_with r.derives i.derives; shut = λ b h e s. i.shut false h (left _ _ e) never }))
        (stepped q ys) (step-known q (good-suffix g).latter ys))
        (λ a. inr (record {
          derives = d_alone r.derives (may_leave c (first G q) ys (good-suffix g).told a);
          shut = λ b h e s. ⊎_elim (λ m. r.shut b h m s) (λ m. among-absent (first G q) h ys m a) (or_cases _ (among (first G q) h) (right _ _ e));
        })))
        (stepped p xs) (step-known p (good-suffix g).former xs)
    step-known (leaning k p q) g xs =
        clean-map _ _
        (λ f ys r. record {
          derives = d_leaning r.0.leans;
          shut = λ b h e s.
              ⊎_elim
              (λ m. among-absent (first G q) h ys m r.1)
              (λ m. r.0.lean-shut b h (left _ _ m) (right _ _ m) s)
              (or_cases (among (first G q) h) _ e);
        })
        (stepped (leaning k p q) xs)
        (clean-firstly (Known p xs) _ _ (keeps_lean any_fault (λ zs. stepped q zs) (first G q) k bound)
        (λ f ys r. lean-known k p q xs (λ zs. step-known q (good-leaning g).latter zs) bound f ys
        (record { leans = l_one r.derives; lean-shut = λ b h e e' s. r.shut b h e s }))
        (stepped p xs) (step-known p (good-leaning g).former xs))
    step-known (before hs p) g xs =
        clean-map (Known p xs) _
        (λ f ys r. record { derives = d_before r.derives (all-shut_absent hs p xs ys f r (good-before g).closed); shut = r.shut })
        (stepped p xs) (step-known p (good-before g).part xs)
    step-known (opens p) g xs =
        clean-within _ G.deep d xs _
        (clean-map (Known p xs) _ (λ f ys r. record { derives = d_opens r.derives; shut = r.shut }) (stepped p xs) (step-known p (good-opens g) xs))
    step-known (rule r) g xs =
        clean-map (Known (G.rules r) xs) _
        (λ f ys a. record { derives = d_rule a.derives; shut = λ b h e s. a.shut false h (shut_one (T.shut-of r) (G.rules r) h (fine.shut-in r) e) never })
        (inner r xs) (inner-known r xs)

  below-known : (d : ℕ) (r : G.Rule) (xs : List ℕ) → IfClean (Known (G.rules r) xs) (below G bound d r xs)
  unfolding below
  below-known zero r xs = tt
  below-known (suc d) r xs = step-known d (below G bound d) (below-known d) (G.rules r) (good-rule fine r) xs

  surely_clean : (P : Forest → List ℕ → Type 0) (f : Forest) (ys : List ℕ) → IfClean P (done f ys) → faulty any_fault f ≡ false → P f ys
  surely_clean P f ys h c = ⊎_elim (λ e. never (sym c ∙ e)) (λ a. a) h

  -- What is read without a fault is derived.
  pub sound : (d : ℕ) (p : Part G.Rule) → good G T p ≡ true → (xs : List ℕ) (f : Forest) (ys : List ℕ) →
      read G bound d p xs ≡ done f ys → faulty any_fault f ≡ false → Derives G p f xs ys
  unfolding read
  sound d p g xs f ys e c =
      let known = step-known d (below G bound d) (below-known d) p (record { tested = g }) xs in
      (surely_clean (Known p xs) f ys (subst (IfClean (Known p xs)) e known) c).derives
