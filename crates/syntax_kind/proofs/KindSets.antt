-- Tests of kinds against the lists that contracts name: a list of consecutive kinds is a range, and tests joined from the left are
-- the list's, which are joined from the right. By induction over the list. Assumes nothing.
use Prim.Native.Nat.{ℕ, zero, suc, ◌+◌, ◌≤◌, ◌<◌}
use native.Mathlib.Omega.{arith}
use mathlib.Core.Path.{◌≡◌, refl, sym, ◌∙◌}
use mathlib.Core.Logic.{◌⊎◌, inl, inr}
use mathlib.Core.Bool.{Bool, true, false, ◌&&◌, ◌||◌, or-false, or_assoc}
use mathlib.Core.List.{List, [], ◌∷◌}
use lib.Dec.{leb, eqb}
use borrow.Author.Tests.{leb-true, leb-false, eqb-false, ne_eqb}
use Rattle.predictive.specs.Grammar.{has}
use Rattle.aadl.specs.Bytes.{within}
use Rattle.aadl.specs.Section.{from, keywords}

has-inside : (k n x : ℕ) → k ≤ x → x < k + n → has (from k n) x ≡ true
has-inside k zero x low high = absurd (omega arith)
has-inside k (suc n) x low high = go (eqb x k) refl (λ l. has-inside (suc k) n x l (omega arith))
  where
    go : (t : Bool) → eqb x k ≡ t → (suc k ≤ x → has (from (suc k) n) x ≡ true) → (t || has (from (suc k) n) x) ≡ true
    go true e f = refl
    go false e f =
        let h : x ≡ k → ⊥ = eqb-false x k e in
        f (omega arith)

has-outside : (k n x : ℕ) → (x < k) ⊎ (k + n ≤ x) → has (from k n) x ≡ false
has-outside k zero x o = refl
has-outside k (suc n) x (inl low) = rw (ne_eqb x k (λ e. omega arith)) (has-outside (suc k) n x (inl (omega arith)))
has-outside k (suc n) x (inr high) = rw (ne_eqb x k (λ e. omega arith)) (has-outside (suc k) n x (inr (omega arith)))

pub keywords-range : (x : ℕ) → within 34 114 x ≡ has keywords x
unfolding keywords
keywords-range x = go (leb 34 x) (leb x 114) refl refl
  where
    go : (low high : Bool) → leb 34 x ≡ low → leb x 114 ≡ high → (low && high) ≡ has keywords x
    go true true d e = sym (has-inside 34 81 x (leb-true 34 x d) (omega (arith, leb-true x 114 e)))
    go true false d e = sym (has-outside 34 81 x (inr (omega (arith, leb-false x 114 e))))
    go false high d e = sym (has-outside 34 81 x (inl (leb-false 34 x d)))

-- a test, then those of a list, joined from the left as the code joins them
abbrev pub joined : Bool → List ℕ → ℕ → Bool
joined t [] x = t
joined t (k ∷ ks) x = joined (t || eqb x k) ks x

pub joined-has : (t : Bool) (ks : List ℕ) (x : ℕ) → joined t ks x ≡ (t || has ks x)
joined-has t [] x = sym (or-false t)
joined-has t (k ∷ ks) x = joined-has (t || eqb x k) ks x ∙ or_assoc t (eqb x k) (has ks x)
