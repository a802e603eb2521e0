-- What does not change past a length is the same at a number and at that number or the length, whichever is less: parts of a list, and stores into one.
-- Assumes nothing.
use Prim.Native.Nat.{ℕ, ◌≤◌, min}
use native.Mathlib.Omega.{arith}
use mathlib.Core.Path.{◌≡◌, refl, sym, ap, ◌∙◌}
use mathlib.Core.Bool.{Bool, true, false}
use mathlib.Core.List.{List}
use lib.ListN.{length, take, drop, drop_of_length-le}
use lib.Seq.{take_all}
use lib.Dec.{leb}
use borrow.Author.Tests.{leb-true, leb-false}

pub at_least : (f : ℕ → List ℕ) (m : ℕ) → ((i : ℕ) → m ≤ i → f i ≡ f m) → (n : ℕ) → f (min n m) ≡ f n
at_least f m past n = go (leb n m) refl
  where
    go : (t : Bool) → leb n m ≡ t → f (min n m) ≡ f n
    go true e =
        let q : min n m ≡ n = omega (arith, leb-true n m e) in
        ap f q
    go false e =
        let h = leb-false n m e in
        past (min n m) (omega arith) ∙ sym (past n (omega arith))

pub take_within : (n : ℕ) (l : List ℕ) → take (min n (length l)) l ≡ take n l
take_within n l = at_least (λ (i : ℕ). take i l) (length l) (λ i h. take_all i l h ∙ sym (take_all (length l) l (omega arith))) n

pub drop_within : (n : ℕ) (l : List ℕ) → drop (min n (length l)) l ≡ drop n l
drop_within n l =
    at_least (λ (i : ℕ). drop i l) (length l) (λ i h. drop_of_length-le l {i = i} h ∙ sym (drop_of_length-le l {i = length l} (omega arith))) n

-- the same as `least` says it
pub take_least : (n k m : ℕ) (l : List ℕ) → n ≡ min k m → length l ≡ m → take n l ≡ take k l
take_least n k m l e h = ap (λ (i : ℕ). take i l) (e ∙ ap (min k) (sym h)) ∙ take_within k l
