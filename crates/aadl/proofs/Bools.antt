-- Laws of tests: choices by them, two choices by one test, a test for a range, and a test made at every number below a bound, which a closed
-- computation decides. Each is proved by cases on the test or by induction on the bound. Assumes nothing.
use Prim.Native.Nat.{ℕ, zero, suc, ◌≤◌, ◌<◌}
use native.Mathlib.Nat.{le_of_suc-le-suc, not-suc-le-zero, eq-or-lt_of_le}
use mathlib.Core.Path.{◌≡◌, refl, sym, subst}
use mathlib.Core.Logic.{⊎_elim}
use mathlib.Core.Bool.{Bool, true, false, ◌&&◌, cond}
use lib.Dec.{leb}
use borrow.Author.Tests.{leb-true, le-leb}
use Rattle.predictive.proofs.Tests.{and_l, and_r, and_both}

-- A choice has a property that each of its cases has, where the test is as the case says.
pub cond_has {ℓ} : {A : Type ℓ} (P : A → Type 0) (t : Bool) (a b : A) → (t ≡ true → P a) → (t ≡ false → P b) → P (cond t a b)
cond_has P true a b f g = f refl
cond_has P false a b f g = g refl

pub false_unless : (t : Bool) → (t ≡ true → ⊥) → t ≡ false
false_unless true h = absurd (h refl)
false_unless false h = refl

module _ {A : Type 0} (Q : A → Type 0) where
  -- What is known of a choice is known of the case that its test takes.
  pub cond_first : (t : Bool) (a b : A) → Q (cond t a b) → t ≡ true → Q a
  cond_first t a b q e = rw e at q

  -- Two choices by the same test are equal if their cases are, where the case taken has what is known of the first choice.
  pub cond_same : (t t' : Bool) → t' ≡ t → (a b a' b' : A) → (t ≡ true → Q a → a' ≡ a) → (t ≡ false → Q b → b' ≡ b) → Q (cond t a b) →
      cond t' a' b' ≡ cond t a b
  cond_same t t' e a b a' b' f g q = rw e (by-case t (λ k. f k) (λ k. g k) q)
    where
      by-case : (s : Bool) → (s ≡ true → Q a → a' ≡ a) → (s ≡ false → Q b → b' ≡ b) → Q (cond s a b) → cond s a' b' ≡ cond s a b
      by-case true f g q = f refl q
      by-case false f g q = g refl q

-- what a test for a range says, and what it asks
pub bounds : (low high n : ℕ) → (leb low n && leb n high) ≡ true → (low ≤ n) × (n ≤ high)
bounds low high n e = (leb-true low n (and_l (leb low n) (leb n high) e), leb-true n high (and_r (leb low n) (leb n high) e))

pub within-bounds : (low high n : ℕ) → low ≤ n → n ≤ high → (leb low n && leb n high) ≡ true
within-bounds low high n h k = and_both (leb low n) (leb n high) (le-leb low n h) (le-leb n high k)

-- f at each number below n
abbrev pub below : (ℕ → Bool) → ℕ → Bool
below f zero = true
below f (suc n) = f n && below f n

pub below_at : (f : ℕ → Bool) (n : ℕ) → below f n ≡ true → (i : ℕ) → i < n → f i ≡ true
below_at f zero e i h = absurd (not-suc-le-zero h)
below_at f (suc n) e i h =
    ⊎_elim (λ q. subst (λ (k : ℕ). f k ≡ true) (sym q) (and_l (f n) (below f n) e))
    (λ l. below_at f n (and_r (f n) (below f n) e) i l) (eq-or-lt_of_le (le_of_suc-le-suc h))
