-- The integer that a sign and a size stand for, and what a sum or a product answers: the exact integer where it lies in the signed 64-bit
-- range. Assumes nothing.
use Rattle.std.specs.Prelude.{ℕ, ◌≤◌, ◌≡◌, Bool, true, false, cond, Option, MatchOption, ℤ, pos, neg_ℤ}
use Rattle.aadl.specs.Values.{in_range}
use Rattle.int64.specs.declared.Whole.{Whole}

-- 2 to the 63rd: the least integer's size, which no greater integer of the range has
abbrev pub most : ℕ
most = 9223372036854775808

abbrev pub by_sign : (negative : Bool) → (size : ℕ) → ℤ
by_sign m n = cond m (neg_ℤ (pos n)) (pos n)

abbrev pub integer : Whole → ℤ
integer w = by_sign w.negative w.size

-- A result of an operation: it is in the range, and the exact one.
pub record Exactly (z : ℤ) (w : Whole) : Type 0 where
  pub fits : in_range z ≡ true
  pub exactly : integer w ≡ z
  pub small : w.size ≤ most

-- What a checked operation answers, by the exact integer that it comes to: that one where it is in the range, else none.
abbrev pub ResultOf : (z : ℤ) → Option Whole → Type 0
ResultOf z r = MatchOption r (in_range z ≡ false) (λ w. Exactly z w)
