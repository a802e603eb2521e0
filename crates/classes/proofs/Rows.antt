-- Rows of table 3-7: too few bytes do not fit a row, and of others each is compared with the range at its place. Assumes nothing.
use mathlib.Core.Path.{◌≡◌, refl, ap, ◌∙◌}
use mathlib.Core.Bool.{Bool, true, false, ◌&&◌, ◌||◌, cond}
use mathlib.Core.List.{List, [], ◌∷◌, map}
use Rattle.std.specs.List.{list_all, zip}
use Prim.Native.Nat.{ℕ, ◌≤◌, ◌<◌}
use native.Mathlib.Nat.{le_of_suc-le-suc, not-suc-le-zero}
use lib.ListN.{length, get_or}
use lib.Dec.{leb}
use Rattle.predictive.proofs.Tests.{and_false_r}
use Rattle.aadl.specs.Utf8.{Range, ◌to◌, table_3_7, fits, sequence}

abbrev pub as_ranges : List (ℕ × ℕ) → List Range
as_ranges rs = map (λ r. r.0 to r.1) rs

pub fits-long : (rs : List (ℕ × ℕ)) (bs : List ℕ) → length rs ≤ length bs → list_all (λ p. leb p.0.0 p.1 && leb p.1 p.0.1) (zip rs bs) ≡ fits (as_ranges rs) bs
fits-long [] bs h = refl
fits-long (r ∷ rs) [] h = absurd (not-suc-le-zero h)
fits-long (r ∷ rs) (b ∷ bs) h = ap (λ (t : Bool). (leb r.0 b && leb b r.1) && t) (fits-long rs bs (le_of_suc-le-suc h))

pub fits-short : (rs : List (ℕ × ℕ)) (bs : List ℕ) → length bs < length rs → fits (as_ranges rs) bs ≡ false
fits-short [] bs h = absurd (not-suc-le-zero h)
fits-short (r ∷ rs) [] h = refl
fits-short (r ∷ rs) (b ∷ bs) h = and_false_r (leb r.0 b && leb b r.1) _ (fits-short rs bs (le_of_suc-le-suc h))

-- The row of a number, from 0 on, fits.
abbrev pub fit : ℕ → List ℕ → Bool
fit k bs = fits (get_or table_3_7 k []) bs

either : (a b : Bool) (x y : ℕ) → cond a x (cond b x y) ≡ cond (a || b) x y
either true b x y = refl
either false b x y = refl

-- The rows of one length after each other are tried as one.
pub by_length : (bs : List ℕ)
    → sequence bs
    ≡ cond (fit 0 bs) 1
    (cond (fit 1 bs) 2
    (cond (((fit 2 bs || fit 3 bs) || fit 4 bs) || fit 5 bs) 3
    (cond ((fit 6 bs || fit 7 bs) || fit 8 bs) 4 0)))
unfolding sequence table_3_7
by_length bs =
    let three : ℕ → ℕ = λ (n : ℕ). cond (fit 2 bs) 3 (cond (fit 3 bs) 3 (cond (fit 4 bs) 3 (cond (fit 5 bs) 3 n))) in
    let four = either (fit 6 bs) (fit 7 bs) 4 (cond (fit 8 bs) 4 0) ∙ either (fit 6 bs || fit 7 bs) (fit 8 bs) 4 0 in
    let n : ℕ = cond ((fit 6 bs || fit 7 bs) || fit 8 bs) 4 0 in
    let join =
    either (fit 2 bs) (fit 3 bs) 3 (cond (fit 4 bs) 3 (cond (fit 5 bs) 3 n))
    ∙ either (fit 2 bs || fit 3 bs) (fit 4 bs) 3 (cond (fit 5 bs) 3 n)
    ∙ either ((fit 2 bs || fit 3 bs) || fit 4 bs) (fit 5 bs) 3 n in
    ap (λ (m : ℕ). cond (fit 0 bs) 1 (cond (fit 1 bs) 2 m)) (ap three four ∙ join)
