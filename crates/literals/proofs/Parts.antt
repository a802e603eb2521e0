-- What of some bytes stands from one place up to another, byte by byte. Assumes nothing.
use Prim.Native.Nat.{ℕ, suc, ◌+◌, ◌-◌, ◌≤◌, ◌<◌}
use native.Mathlib.Numerals.{add-one}
use native.Mathlib.Omega.{arith}
use mathlib.Core.Path.{◌≡◌, refl}
use mathlib.Core.List.{List, [], ◌∷◌}
use lib.ListN.{length, get_or, take, drop}
use lib.Seq.{drop-cons}

abbrev from : (i n : ℕ) → List ℕ → List ℕ
from i n bs = take (n - i) (drop i bs)

pub from_more : (i n : ℕ) (bs : List ℕ) → i < n → i < length bs → from i n bs ≡ get_or bs i 0 ∷ from (i + 1) n bs
from_more i n bs h l =
    let q : n - i ≡ suc (n - (i + 1)) = omega arith in
    rw (q, drop-cons bs i 0 l, add-one i) refl

pub from_end : (i n : ℕ) (bs : List ℕ) → n ≤ i → from i n bs ≡ []
from_end i n bs h =
    let q : n - i ≡ 0 = omega arith in
    rw q refl
