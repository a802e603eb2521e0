-- An integer in decimal. Assumes nothing.
use Rattle.std.specs.Prelude.{ℕ, suc, List, ◌∷◌, ℤ, pos, negsuc}
use Rattle.aadl.specs.Listing.{decimal}

-- A negative integer is `-` and the digits of its size; `negsuc n` is the one of size n + 1. Any other is its digits.
abbrev pub signed_decimal : ℤ → List ℕ
signed_decimal (pos n) = decimal n
signed_decimal (negsuc n) = 45 ∷ decimal (suc n)
