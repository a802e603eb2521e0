-- One more opener changes no reading that met no opener too many. By induction over the parts: wherever an opener is met with
-- none left, the fault is kept to the end, and everywhere else both readings take the same steps. Assumes nothing.
use Prim.Native.Nat.{ℕ, zero, suc}
use mathlib.Core.Path.{◌≡◌, refl}
use mathlib.Core.Logic.{◌⊎◌}
use mathlib.Core.Bool.{Bool, true, false}
use mathlib.Core.List.{List, [], ◌∷◌}
use Rattle.predictive.specs.Forest.{Forest, nil, err, wrap}
use Rattle.predictive.specs.Grammar.{Head, is, at, Part, tok, pair, look, any, longest, wrong, fail, seq, either, opt, many, until, inside, suffix, leaning, before, opens, rule, Grammar}
use Rattle.predictive.specs.Reader.{Result, miss, done, pick, after, firstly, beside, expected, take_one, repeat, lean, within, first, step, below, read}
use Rattle.predictive.specs.Events.{stops}
use Rattle.predictive.proofs.Faults.{amiss, Keeps, keeps_beside, keeps_then, keeps_node, keeps_wrap, keeps_suffix, keeps_lean, keeps_lean_on, Agrees, excused, agree, agrees_after, agrees-firstly, agrees-or}

-- r is a reading that met an opener too many, or it is s
abbrev Alike : Result → Result → Type 0
Alike r s = Agrees stops (Unit {0}) r s

alike-after : (r s : Result) (k l : Forest → List ℕ → Result) → Keeps stops k → Alike r s →
    ((f : Forest) (ys : List ℕ) → Alike (k f ys) (l f ys)) → Alike (after r k) (after s l)
alike-after r (miss m ys) k l keeps h i = agrees_after k keeps h (i (err m nil) ys)
alike-after r (done f ys) k l keeps h i = agrees_after k keeps h (i f ys)

alike-firstly : (r s : Result) (k l : Forest → List ℕ → Result) → Keeps stops k → Alike r s →
    ((f : Forest) (ys : List ℕ) → Alike (k f ys) (l f ys)) → Alike (firstly r k) (firstly s l)
alike-firstly r (miss m ys) k l keeps h i = agrees-firstly k keeps h (agree refl)
alike-firstly r (done f ys) k l keeps h i = agrees-firstly k keeps h (i f ys)

alike-beside : (f : Forest) (r s : Result) → Alike r s → Alike (beside f r) (beside f s)
alike-beside f r s h = alike-after r s _ _ (keeps_then stops f) h (λ g zs. agree refl)

alike-pick : (b : Bool) (r s r' s' : Result) → Alike r r' → Alike s s' → Alike (pick b r s) (pick b r' s')
alike-pick true r s r' s' h i = h
alike-pick false r s r' s' h i = i

alike-within : (n d : ℕ) (xs : List ℕ) (r s : Result) → Alike r s → Alike (within n d xs r) (within n (suc d) xs s)
unfolding amiss
alike-within n zero xs r s h = excused tt refl
alike-within n (suc d) xs r s h = h

module _ (body more : List ℕ → Result) (alike : (xs : List ℕ) → Alike (body xs) (more xs)) (hs : List Head) where
  alike-repeat : (n : ℕ) (xs : List ℕ) → Alike (repeat body hs n xs) (repeat more hs n xs)
  unfolding repeat
  alike-repeat zero xs = agree refl
  alike-repeat (suc n) xs =
      alike-pick (at hs xs) _ _ _ _
      (alike-after (body xs) (more xs) _ _ (keeps_beside stops (repeat body hs n)) (alike xs) (λ f ys. alike-beside f _ _ (alike-repeat n ys)))
      (agree refl)

  alike-lean : (k n : ℕ) (f : Forest) (xs : List ℕ) → Alike (lean body hs k n f xs) (lean more hs k n f xs)
  unfolding lean
  alike-lean k zero f xs = agree refl
  alike-lean k (suc n) f xs =
      alike-pick (at hs xs) _ _ _ _
      (alike-after (body xs) (more xs) _ _ (keeps_lean_on stops body hs k n f) (alike xs) (λ g ys. alike-lean k n (wrap k f g nil) ys))
      (agree refl)

module _ (G : Grammar) (bound : ℕ) where
  module _ (d : ℕ) (inner inner' : G.Rule → List ℕ → Result) (inner-alike : (r : G.Rule) (xs : List ℕ) → Alike (inner r xs) (inner' r xs)) where
    abbrev low : Part G.Rule → List ℕ → Result
    low p xs = step G bound d inner p xs

    abbrev high : Part G.Rule → List ℕ → Result
    high p xs = step G bound (suc d) inner' p xs

    step-alike : (p : Part G.Rule) (xs : List ℕ) → Alike (low p xs) (high p xs)
    unfolding step
    step-alike (tok m ks) xs = agree refl
    step-alike (pair k l) xs = agree refl
    step-alike (look m ks l) xs = agree refl
    step-alike any xs = agree refl
    step-alike (longest cs) xs = agree refl
    step-alike (wrong x k m) xs = agree refl
    step-alike (fail m) xs = agree refl
    step-alike (seq p q) xs =
        alike-after (low p xs) (high p xs) _ _ (keeps_beside stops (low q)) (step-alike p xs) (λ f ys. alike-beside f _ _ (step-alike q ys))
    step-alike (either c p q) xs = alike-pick (at (first G p) xs) _ _ _ _ (step-alike p xs) (step-alike q xs)
    step-alike (opt c p) xs = alike-pick (at (first G p) xs) _ _ _ _ (step-alike p xs) (agree refl)
    step-alike (many p) xs = alike-repeat (λ ys. low p ys) (λ ys. high p ys) (λ ys. step-alike p ys) (first G p) bound xs
    step-alike (until k p) xs =
        alike-pick (is k xs) _ _ _ _ (agree refl)
        (alike-after (low p xs) (high p xs) _ _ (keeps_beside stops (take_one G.shown (expected k) (k ∷ []))) (step-alike p xs) (λ f ys. agree refl))
    step-alike (inside k p) xs = alike-after (low p xs) (high p xs) _ _ (keeps_node stops k) (step-alike p xs) (λ f ys. agree refl)
    step-alike (suffix c k p q) xs =
        alike-firstly (low p xs) (high p xs) _ _ (keeps_suffix stops (low q) (first G q) k) (step-alike p xs)
        (λ f ys. alike-pick (at (first G q) ys) _ _ _ _
        (alike-after (low q ys) (high q ys) _ _ (keeps_wrap stops k f) (step-alike q ys) (λ g zs. agree refl))
        (agree refl))
    step-alike (leaning k p q) xs =
        alike-firstly (low p xs) (high p xs) _ _ (keeps_lean stops (λ zs. low q zs) (first G q) k bound) (step-alike p xs)
        (λ f ys. alike-lean (λ zs. low q zs) (λ zs. high q zs) (λ zs. step-alike q zs) (first G q) k bound f ys)
    step-alike (before hs p) xs = step-alike p xs
    step-alike (opens p) xs = alike-within G.deep d xs _ _ (step-alike p xs)
    step-alike (rule r) xs = inner-alike r xs

  below_alike : (d : ℕ) (r : G.Rule) (xs : List ℕ) → Alike (below G bound d r xs) (below G bound (suc d) r xs)
  unfolding below amiss
  below_alike zero r xs = excused tt refl
  below_alike (suc d) r xs = step-alike d (below G bound d) (below G bound (suc d)) (below_alike d) (G.rules r) xs

  -- A reading that met no opener too many stays as it is with one more opener.
  pub one_more : (d : ℕ) (p : Part G.Rule) (xs : List ℕ) →
      (amiss stops (read G bound d p xs) ≡ true) ⊎ (read G bound d p xs ≡ read G bound (suc d) p xs)
  unfolding read
  one_more d p xs = agrees-or (step-alike d (below G bound d) (below G bound (suc d)) (below_alike d) p xs)
