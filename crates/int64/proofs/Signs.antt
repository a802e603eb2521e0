-- An integer by sign and size: either sign leaves the size. Assumes nothing.
use Prim.Native.Nat.{ℕ, zero, suc}
use mathlib.Core.Path.{◌≡◌, refl}
use mathlib.Core.Bool.{Bool, true, false}
use lib.IntN.{nat_abs}
use Rattle.int64.specs.Integers.{by_sign}

pub size_of : (m : Bool) (n : ℕ) → nat_abs (by_sign m n) ≡ n
size_of false n = refl
size_of true zero = refl
size_of true (suc n) = refl
