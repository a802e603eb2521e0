-- Faults in forests and in readings, for every test q of faults: a forest is faulty where a fault that passes q is in it, a
-- reading is amiss where what it gives is. How forests are made keeps a fault, and so does reading on; hence a reading that
-- agrees with another "unless a fault is met" can be taken apart like the reader itself. Assumes nothing.
use Prim.Native.Nat.{ℕ, zero, suc}
use mathlib.Core.Path.{◌≡◌, refl, sym, ap, subst, ◌∙◌}
use mathlib.Core.Logic.{◌⊎◌, inl, inr}
use mathlib.Core.Bool.{Bool, true, false, ◌||◌, or_assoc, or-false}
use mathlib.Core.List.{List, [], ◌∷◌}
use Rattle.predictive.specs.Forest.{Forest, nil, leaf, err, node, wrap, ◌then◌, Fault}
use Rattle.predictive.specs.Grammar.{Head, at, row_of}
use Rattle.predictive.specs.Reader.{Result, miss, done, pick, after, firstly, beside, lean}
use Rattle.predictive.proofs.Tests.{or_neither, or_true_l, or_true_r}

-- A fault that passes the test is in the forest.
unfoldable pub faulty : (Fault → Bool) → Forest → Bool
faulty q nil = false
faulty q (leaf k f) = faulty q f
faulty q (err m f) = q m || faulty q f
faulty q (node k i f) = faulty q i || faulty q f
faulty q (wrap k a b f) = (faulty q a || faulty q b) || faulty q f

-- A fault that passes the test is in what was read, or is what is missing.
unfoldable pub amiss : (Fault → Bool) → Result → Bool
unfolding faulty
amiss q (miss m ys) = q m
amiss q (done f ys) = faulty q f

-- Reading on keeps a fault that was met.
abbrev pub Keeps : (Fault → Bool) → (Forest → List ℕ → Result) → Type 0
Keeps q k = (f : Forest) (ys : List ℕ) → faulty q f ≡ true → amiss q (k f ys) ≡ true

module _ (q : Fault → Bool) where
  -- FORESTS ------------------------------------------------------------------------------------------------------------

  pub faulty-then : (f g : Forest) → faulty q (f then g) ≡ (faulty q f || faulty q g)
  unfolding faulty
  faulty-then nil g = refl
  faulty-then (leaf k f) g = faulty-then f g
  faulty-then (err m f) g = ap (λ (b : Bool). q m || b) (faulty-then f g) ∙ sym (or_assoc (q m) (faulty q f) (faulty q g))
  faulty-then (node k i f) g = ap (λ (b : Bool). faulty q i || b) (faulty-then f g) ∙ sym (or_assoc (faulty q i) (faulty q f) (faulty q g))
  faulty-then (wrap k a b f) g =
      ap (λ (c : Bool). (faulty q a || faulty q b) || c) (faulty-then f g) ∙ sym (or_assoc (faulty q a || faulty q b) (faulty q f) (faulty q g))

  pub faulty-node : (k : ℕ) (f : Forest) → faulty q (node k f nil) ≡ faulty q f
  unfolding faulty
  faulty-node k f = or-false (faulty q f)

  pub faulty-wrap : (k : ℕ) (f g : Forest) → faulty q (wrap k f g nil) ≡ (faulty q f || faulty q g)
  unfolding faulty
  faulty-wrap k f g = or-false (faulty q f || faulty q g)

  pub faulty-row : (shown : ℕ → ℕ) (ks : List ℕ) (f : Forest) → faulty q (row_of shown ks f) ≡ faulty q f
  unfolding faulty
  faulty-row shown [] f = refl
  faulty-row shown (k ∷ ks) f = faulty-row shown ks f

  pub faulty-then_l : (f g : Forest) → faulty q f ≡ true → faulty q (f then g) ≡ true
  faulty-then_l f g e = faulty-then f g ∙ or_true_l (faulty q f) (faulty q g) e

  pub faulty-then_r : (f g : Forest) → faulty q g ≡ true → faulty q (f then g) ≡ true
  faulty-then_r f g e = faulty-then f g ∙ or_true_r (faulty q f) (faulty q g) e

  pub faulty-wrap_l : (k : ℕ) (f g : Forest) → faulty q f ≡ true → faulty q (wrap k f g nil) ≡ true
  faulty-wrap_l k f g e = faulty-wrap k f g ∙ or_true_l (faulty q f) (faulty q g) e

  pub faulty-wrap_r : (k : ℕ) (f g : Forest) → faulty q g ≡ true → faulty q (wrap k f g nil) ≡ true
  faulty-wrap_r k f g e = faulty-wrap k f g ∙ or_true_r (faulty q f) (faulty q g) e

  pub clean-then : (f g : Forest) → faulty q f ≡ false → faulty q g ≡ false → faulty q (f then g) ≡ false
  clean-then f g d e = faulty-then f g ∙ or_neither (faulty q f) (faulty q g) d e

  pub clean-node : (k : ℕ) (f : Forest) → faulty q f ≡ false → faulty q (node k f nil) ≡ false
  clean-node k f e = faulty-node k f ∙ e

  pub clean-wrap : (k : ℕ) (f g : Forest) → faulty q f ≡ false → faulty q g ≡ false → faulty q (wrap k f g nil) ≡ false
  clean-wrap k f g d e = faulty-wrap k f g ∙ or_neither (faulty q f) (faulty q g) d e

  -- READINGS -----------------------------------------------------------------------------------------------------------

  pub amiss-after : (k : Forest → List ℕ → Result) → Keeps q k → (r : Result) → amiss q r ≡ true → amiss q (after r k) ≡ true
  unfolding faulty amiss
  amiss-after k keeps (miss m ys) e = keeps (err m nil) ys (or_true_l (q m) false e)
  amiss-after k keeps (done f ys) e = keeps f ys e

  pub amiss-firstly : (k : Forest → List ℕ → Result) → Keeps q k → (r : Result) → amiss q r ≡ true → amiss q (firstly r k) ≡ true
  unfolding faulty amiss
  amiss-firstly k keeps (miss m ys) e = e
  amiss-firstly k keeps (done f ys) e = keeps f ys e

  -- what goes on amiss with every forest goes on amiss after any reading
  pub amiss-on : (r : Result) (k : Forest → List ℕ → Result) → ((g : Forest) (zs : List ℕ) → amiss q (k g zs) ≡ true) → amiss q (after r k) ≡ true
  amiss-on (miss m ys) k h = h (err m nil) ys
  amiss-on (done g ys) k h = h g ys

  pub amiss-pick : (b : Bool) (r s : Result) → amiss q r ≡ true → amiss q s ≡ true → amiss q (pick b r s) ≡ true
  amiss-pick true r s d e = d
  amiss-pick false r s d e = e

  pub amiss-done : (f : Forest) (ys : List ℕ) → faulty q f ≡ true → amiss q (done f ys) ≡ true
  unfolding amiss
  amiss-done f ys e = e

  pub amiss-beside : (f : Forest) → faulty q f ≡ true → (r : Result) → amiss q (beside f r) ≡ true
  amiss-beside f e r = amiss-on r _ (λ g zs. amiss-done (f then g) zs (faulty-then_l f g e))

  pub amiss-lean : (body : List ℕ → Result) (hs : List Head) (k n : ℕ) (f : Forest) (ys : List ℕ) → faulty q f ≡ true →
      amiss q (lean body hs k n f ys) ≡ true
  unfolding lean
  amiss-lean body hs k zero f ys e = amiss-done _ ys (faulty-wrap_l k f _ e)
  amiss-lean body hs k (suc n) f ys e =
      amiss-pick (at hs ys) _ _
      (amiss-on (body ys) _ (λ g zs. amiss-lean body hs k n (wrap k f g nil) zs (faulty-wrap_l k f g e)))
      (amiss-done f ys e)

  -- the ways in which the reader reads on
  pub keeps_beside : (next : List ℕ → Result) → Keeps q (λ f ys. beside f (next ys))
  keeps_beside next f ys e = amiss-beside f e (next ys)

  pub keeps_then : (f : Forest) → Keeps q (λ g zs. done (f then g) zs)
  keeps_then f g zs e = amiss-done (f then g) zs (faulty-then_r f g e)

  pub keeps_node : (k : ℕ) → Keeps q (λ f ys. done (node k f nil) ys)
  keeps_node k f ys e = amiss-done (node k f nil) ys (faulty-node k f ∙ e)

  pub keeps_wrap : (k : ℕ) (f : Forest) → Keeps q (λ g zs. done (wrap k f g nil) zs)
  keeps_wrap k f g zs e = amiss-done (wrap k f g nil) zs (faulty-wrap_r k f g e)

  pub keeps_suffix : (next : List ℕ → Result) (hs : List Head) (k : ℕ) →
      Keeps q (λ f ys. pick (at hs ys) (after (next ys) (λ g zs. done (wrap k f g nil) zs)) (done f ys))
  keeps_suffix next hs k f ys e =
      amiss-pick (at hs ys) _ _
      (amiss-on (next ys) _ (λ g zs. amiss-done (wrap k f g nil) zs (faulty-wrap_l k f g e)))
      (amiss-done f ys e)

  pub keeps_lean : (body : List ℕ → Result) (hs : List Head) (k n : ℕ) → Keeps q (λ f ys. lean body hs k n f ys)
  keeps_lean body hs k n f ys e = amiss-lean body hs k n f ys e

  pub keeps_lean_on : (body : List ℕ → Result) (hs : List Head) (k n : ℕ) (f : Forest) → Keeps q (λ g ys. lean body hs k n (wrap k f g nil) ys)
  keeps_lean_on body hs k n f g ys e = amiss-lean body hs k n (wrap k f g nil) ys (faulty-wrap_r k f g e)

-- AGREEMENT ------------------------------------------------------------------------------------------------------------

-- r is s, unless (with the excuse E) r is amiss.
pub data Agrees (q : Fault → Bool) (E : Type 0) (r s : Result) : Type 0 where
  excused : E → amiss q r ≡ true → Agrees q E r s
  agree : r ≡ s → Agrees q E r s

module _ {q : Fault → Bool} {E : Type 0} where
  pub agrees_after : {r s t : Result} (k : Forest → List ℕ → Result) → Keeps q k → Agrees q E r s → Agrees q E (after s k) t →
      Agrees q E (after r k) t
  agrees_after {r} k keeps (excused o e) h = excused o (amiss-after q k keeps r e)
  agrees_after {r} {s} {t} k keeps (agree e) h = subst (λ (x : Result). Agrees q E (after x k) t) (sym e) h

  pub agrees-firstly : {r s t : Result} (k : Forest → List ℕ → Result) → Keeps q k → Agrees q E r s → Agrees q E (firstly s k) t →
      Agrees q E (firstly r k) t
  agrees-firstly {r} k keeps (excused o e) h = excused o (amiss-firstly q k keeps r e)
  agrees-firstly {r} {s} {t} k keeps (agree e) h = subst (λ (x : Result). Agrees q E (firstly x k) t) (sym e) h

  pub agrees_first : {b : Bool} {r t : Result} (s : Result) → b ≡ true → Agrees q E r t → Agrees q E (pick b r s) t
  agrees_first {r = r} {t = t} s e h = subst (λ (x : Bool). Agrees q E (pick x r s) t) (sym e) h

  pub agrees-second : {b : Bool} {s t : Result} (r : Result) → b ≡ false → Agrees q E s t → Agrees q E (pick b r s) t
  agrees-second {s = s} {t = t} r e h = subst (λ (x : Bool). Agrees q E (pick x r s) t) (sym e) h

  pub agrees-done : {f g : Forest} (ys : List ℕ) → g ≡ f → Agrees q E (done f ys) (done g ys)
  agrees-done ys e = agree (ap (λ (t : Forest). done t ys) (sym e))

  pub agrees-or : {r s : Result} → Agrees q E r s → (amiss q r ≡ true) ⊎ (r ≡ s)
  agrees-or (excused o e) = inl e
  agrees-or (agree e) = inr e

-- without an excuse
pub agrees-surely : {q : Fault → Bool} {r s : Result} → Agrees q ⊥ r s → r ≡ s
agrees-surely (excused o e) = absurd o
agrees-surely (agree e) = e
