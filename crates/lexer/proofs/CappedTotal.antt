-- Lengths that are added up to a cap, word by word. Assumes nothing.
use Prim.Native.Nat.{ℕ, zero, suc, ◌+◌, ◌<◌, min}
use native.Mathlib.Nat.{le_of_suc-le-suc, not-suc-le-zero}
use native.Mathlib.Numerals.{add-one}
use native.Mathlib.Omega.{arith}
use mathlib.Core.Path.{◌≡◌, ap}
use mathlib.Core.List.{List, [], ◌∷◌}
use lib.ListN.{length, get_or, take}
use Rattle.aadl.specs.Tokens.{length_in, total}

total_next : (ws : List ℕ) (i : ℕ) → i < length ws → total (take (suc i) ws) ≡ total (take i ws) + length_in (get_or ws i 0)
total_next [] i h = absurd (not-suc-le-zero h)
total_next (w ∷ ws) zero h = omega arith
total_next (w ∷ ws) (suc i) h = omega (arith, total_next ws i (le_of_suc-le-suc h))

pub capped_next : (cap at more i : ℕ) (ws : List ℕ) → i < length ws → at ≡ min (total (take i ws)) cap → more ≡ min (at + length_in (get_or ws i 0)) cap →
    more ≡ min (total (take (i + 1) ws)) cap
capped_next cap at more i ws h e f =
    let next = total_next ws i h in
    let same = ap (λ (k : ℕ). total (take k ws)) (add-one i) in
    omega (arith, e, f, next, same)
