-- Where a word lies, by what it stands for: the class and kind in an event's first word tell whether it is an association's Start; a second
-- word is none. Assumes nothing.
use Prim.Native.Nat.{ℕ, ◌≤◌, ◌<◌}
use native.Mathlib.Omega.{arith}
use mathlib.Core.Path.{◌≡◌, refl}
use mathlib.Core.Bool.{Bool, true, false, ◌&&◌}
use lib.Dec.{leb, ltb, eqb}
use borrow.Author.Tests.{eqb-true, eqb-false, leb-true, le-leb, lt-ltb, le-ltb}
use Rattle.aadl.specs.Tokens.{kind_in}
use Rattle.aadl.specs.Encoding.{class_in}
use Rattle.bands.specs.Bands.{within_band}
use Rattle.value.specs.Words.{starting}

lies : (f t w : ℕ) → f ≤ w → w < t → (leb f w && ltb w t) ≡ true
lies f t w h l = rw (le-leb f w h, lt-ltb w t l) refl

lies-not : (f t w : ℕ) → (f ≤ w → t ≤ w) → (leb f w && ltb w t) ≡ false
lies-not f t w h = go (leb f w) refl
  where
    go : (u : Bool) → leb f w ≡ u → (u && ltb w t) ≡ false
    go true e = le-ltb w t (h (leb-true f w e))
    go false e = refl

pub starts-by_kind : (w : ℕ) → class_in w ≡ 0 → within_band starting w ≡ eqb (kind_in w) 170
starts-by_kind w c = go (eqb (kind_in w) 170) refl
  where
    go : (a : Bool) → eqb (kind_in w) 170 ≡ a → within_band starting w ≡ a
    go true p =
        let k = eqb-true (kind_in w) 170 p in
        lies 11141120 11206656 w (omega (arith, k, c)) (omega (arith, k, c))
    go false p = lies-not 11141120 11206656 w (λ h. omega (arith, eqb-false (kind_in w) 170 p, h, c))

pub starts-not : (w : ℕ) → 1 ≤ class_in w → within_band starting w ≡ false
starts-not w c = lies-not 11141120 11206656 w (λ h. omega (arith, c))

-- A second word is a number of tokens.
pub number-starts_not : (n : ℕ) → n < 65536 → within_band starting n ≡ false
number-starts_not n h = lies-not 11141120 11206656 n (λ g. omega (arith, h, g))
