-- Bytes of a range, whether some bytes have one, and how far whole chunks of other bytes go. Assumes nothing.
use Rattle.std.specs.Prelude.{ℕ, ◌+◌, ◌*◌, ◌/◌, Bool, false, not, ◌&&◌, ◌||◌, List, [], ◌∷◌, drop, leb, eqb}
use Rattle.aadl.specs.Bytes.{run}

abbrev pub any : (ℕ → Bool) → List ℕ → Bool
any p [] = false
any p (b ∷ bs) = p b || any p bs

-- From least to most; 255 is no bound, since no byte is above it.
abbrev pub sought : (least most : ℕ) → ℕ → Bool
sought least most b = leb least b && (eqb most 255 || leb b most)

abbrev pub unsought : (least most : ℕ) → ℕ → Bool
unsought least most b = not (sought least most b)

-- Every byte but one; `not_lf` is `other_than 10`.
abbrev pub other_than : (x : ℕ) → ℕ → Bool
other_than x b = not (eqb b x)

-- The place after the chunks of sixteen bytes that lie whole in the run of a class from place i on.
unfoldable pub chunks_end : (ℕ → Bool) → List ℕ → ℕ → ℕ
chunks_end p bs i = i + run p (drop i bs) / 16 * 16
