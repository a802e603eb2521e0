-- Laws of lists that the libraries lack: a test made at every element, which a closed computation decides, a property of every
-- element, and what is dropped or read behind the head. Each is proved by induction. Assumes nothing.
use Prim.Native.Nat.{ℕ, zero, suc, ◌-◌, ◌≤◌, ◌<◌}
use native.Mathlib.Nat.{not-suc-le-zero, le_of_suc-le-suc}
use native.Mathlib.Omega.{arith}
use mathlib.Core.Path.{◌≡◌, ap}
use mathlib.Core.Bool.{Bool, true, ◌&&◌}
use mathlib.Core.List.{List, [], ◌∷◌, ◌++◌}
use lib.ListN.{length, get_or, drop, set}
use Rattle.predictive.proofs.Tests.{and_l, and_r}
pub use Rattle.aadl.specs.Calls.{Each}

module _ {ℓ} {A : Type ℓ} where
  -- mathlib's `all` does not compute outside its module
  abbrev pub every : (A → Bool) → List A → Bool
  every p [] = true
  every p (x ∷ xs) = p x && every p xs

  pub every-at : (p : A → Bool) (xs : List A) (i : ℕ) (d : A) → i < length xs → every p xs ≡ true → p (get_or xs i d) ≡ true
  every-at p [] i d l e = absurd (not-suc-le-zero l)
  every-at p (x ∷ xs) zero d l e = and_l (p x) (every p xs) e
  every-at p (x ∷ xs) (suc i) d l e = every-at p xs i d (le_of_suc-le-suc l) (and_r (p x) (every p xs) e)

  module _ (P : A → Type 0) where
    pub each_append : (xs ys : List A) → Each P xs → Each P ys → Each P (xs ++ ys)
    each_append [] ys h k = k
    each_append (x ∷ xs) ys h k = (h.0, each_append xs ys h.1 k)

    pub each_at : (xs : List A) (i : ℕ) (d : A) → i < length xs → Each P xs → P (get_or xs i d)
    each_at [] i d l h = absurd (not-suc-le-zero l)
    each_at (x ∷ xs) zero d l h = h.0
    each_at (x ∷ xs) (suc i) d l h = each_at xs i d (le_of_suc-le-suc l) h.1

    pub each_set : (xs : List A) (i : ℕ) (y : A) → P y → Each P xs → Each P (set xs i y)
    each_set [] i y p h = tt
    each_set (x ∷ xs) zero y p h = (p, h.1)
    each_set (x ∷ xs) (suc i) y p h = (h.0, each_set xs i y p h.1)

    pub each-weaker : (Q : A → Type 0) → ((x : A) → P x → Q x) → (xs : List A) → Each P xs → Each Q xs
    each-weaker Q f [] h = tt
    each-weaker Q f (x ∷ xs) h = (f x h.0, each-weaker Q f xs h.1)

  pub drop_past_head : (n : ℕ) (x : A) (xs : List A) → 1 ≤ n → drop (n - 1) xs ≡ drop n (x ∷ xs)
  drop_past_head zero x xs h = absurd (not-suc-le-zero h)
  drop_past_head (suc n) x xs h =
      let e : suc n - 1 ≡ n = omega arith in
      ap (λ (k : ℕ). drop k xs) e

  pub getD_past_head : (n : ℕ) (x : A) (xs : List A) (d : A) → 1 ≤ n → get_or xs (n - 1) d ≡ get_or (x ∷ xs) n d
  getD_past_head zero x xs d h = absurd (not-suc-le-zero h)
  getD_past_head (suc n) x xs d h =
      let e : suc n - 1 ≡ n = omega arith in
      ap (λ (k : ℕ). get_or xs k d) e
