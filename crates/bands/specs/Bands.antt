-- Words in a band: how many they are, and where each stands. Assumes nothing.
use Rattle.std.specs.Prelude.{ℕ, zero, suc, Bool, ◌&&◌, cond, List, [], ◌∷◌, leb, ltb}
use Rattle.std.specs.declared.ops.Range.{Range}

abbrev pub within_band : Range ℕ → ℕ → Bool
within_band b w = leb b.start w && ltb w b.end

unfoldable pub tally : Range ℕ → List ℕ → ℕ
tally b [] = 0
tally b (w ∷ ws) =
    let rest = tally b ws in
    cond (within_band b w) (suc rest) rest

-- Which of some words is the one in the band with a number, from 0; as many as there are where there is none.
unfoldable pub nth_within : Range ℕ → (number : ℕ) → List ℕ → ℕ
nth_within b n [] = 0
nth_within b zero (w ∷ ws) =
    let rest = nth_within b zero ws in
    cond (within_band b w) 0 (suc rest)
nth_within b (suc n) (w ∷ ws) =
    let earlier = nth_within b n ws in
    let later = nth_within b (suc n) ws in
    suc (cond (within_band b w) earlier later)
