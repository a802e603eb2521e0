-- "Signs cannot leave the range." Assumes nothing.
use Prim.Native.Nat.{ℕ, zero, suc}
use native.Mathlib.Omega.{arith}
use mathlib.Core.Path.{◌≡◌, refl}
use mathlib.Core.Bool.{true}
use lib.IntN.{pos, neg_ℤ}
use lib.Dec.{leb}
use borrow.Author.Tests.{leb-true, le-leb}
use Rattle.predictive.proofs.Tests.{and_both}
use Rattle.aadl.specs.Values.{in_range}

pub negated-in_range : (n : ℕ) → in_range (pos n) ≡ true → in_range (neg_ℤ (pos n)) ≡ true
negated-in_range zero e = refl
negated-in_range (suc n) e = and_both (leb n 9223372036854775807) true (le-leb n 9223372036854775807 (omega (arith, leb-true (suc n) 9223372036854775807 e))) refl
