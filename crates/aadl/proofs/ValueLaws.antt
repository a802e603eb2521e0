-- What a constant's value does not depend on: underscores, leading zeros and the case of digits; and of all else in a text but the symbols and
-- the numbers of the literals, spacing and comments among it. Assumes nothing.
use Prim.Native.Nat.{ℕ, ◌+◌, ◌*◌}
use native.Mathlib.Omega.{arith}
use native.Mathlib.Nat.{zero-mul}
use mathlib.Core.Path.{◌≡◌, refl, ap}
use mathlib.Core.Bool.{true, false, cond}
use mathlib.Core.List.{List, [], ◌∷◌, ◌++◌}
use lib.Dec.{eqb}
use Rattle.predictive.specs.Tree.{spell}
use Rattle.aadl.specs.Limits.{Limits}
use Rattle.aadl.specs.Bytes.{within, is_digit}
use Rattle.aadl.specs.Symbols.{symbols}
use Rattle.aadl.specs.Reading.{events}
use Rattle.aadl.specs.Values.{digit_of, digits, number_by, number_at, associations}
use Rattle.aadl.specs.ValueCall.{associations_in, text_associations}
use Rattle.aadl.proofs.Bools.{bounds, false_unless, within-bounds}

-- An underscore anywhere changes no digits.
pub underscore_skipped : (bs cs : List ℕ) → digits (bs ++ 95 ∷ cs) ≡ digits (bs ++ cs)
unfolding digits
underscore_skipped [] cs = refl
underscore_skipped (b ∷ bs) cs = ap (λ (ds : List ℕ). cond (eqb b 95) ds (digit_of b ∷ ds)) (underscore_skipped bs cs)

-- Nor does a zero before all others change their number: in a literal, and in its base.
pub leading_zero : (base : ℕ) (ds : List ℕ) → number_by base 0 (0 ∷ ds) ≡ number_by base 0 ds
unfolding number_by
leading_zero base ds =
    let e : 0 * base + 0 ≡ 0 = omega (arith, zero-mul base) in
    ap (λ (n : ℕ). number_by base n ds) e

-- A digit from A to F is the same as a small letter.
pub either-case : (b : ℕ) → within 65 70 b ≡ true → digit_of (b + 32) ≡ digit_of b
either-case b e =
    let h = bounds 65 70 b e in
    let small : within 97 102 (b + 32) ≡ true = within-bounds 97 102 (b + 32) (omega (arith, h.0)) (omega (arith, h.1)) in
    let no_digit : is_digit b ≡ false = false_unless (is_digit b) (λ f. omega (arith, (bounds 48 57 b f).1, h.0)) in
    let no-digit' : is_digit (b + 32) ≡ false = false_unless (is_digit (b + 32)) (λ f. omega (arith, (bounds 48 57 (b + 32) f).1, h.0)) in
    let no-small : within 97 102 b ≡ false = false_unless (within 97 102 b) (λ f. omega (arith, (bounds 97 102 b f).0, h.1)) in
    rw (no_digit, no-digit', small, no-small, e) (omega (arith, h.0))

-- Two texts with the same symbols, whose literals have the same numbers one by one, have the same associations with the same constants.
pub same-associations : (limits : Limits) (text u : List ℕ) → symbols text ≡ symbols u → ((i : ℕ) → number_at text i ≡ number_at u i) →
    text_associations limits text ≡ text_associations limits u
unfolding text_associations associations_in
same-associations limits text u e f = λ i. associations (λ j. f j i) 0 (spell (events limits (e i)))
