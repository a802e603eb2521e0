-- Laws of UTF-8: a sequence ends within the text; the place of the first ill-formed sequence is found step by step. A row of
-- the table that fits is no longer than the bytes; passing over k bytes is dropping them. Assumes nothing.
use Prim.Native.Nat.{ℕ, zero, suc, ◌+◌, ◌-◌, ◌≤◌, ◌<◌, zero-le, suc-le-suc}
use native.Mathlib.Nat.{le_of_suc-le-suc, not-suc-le-zero}
use native.Mathlib.Omega.{arith}
use mathlib.Core.Path.{◌≡◌, refl, ap}
use mathlib.Core.Bool.{true, ◌&&◌, false≢true}
use mathlib.Core.List.{List, [], ◌∷◌}
use lib.ListN.{length, drop}
use lib.Dec.{leb}
use borrow.Author.Tests.{eq-eqb, ne_eqb, le-leb}
use Rattle.aadl.specs.Utf8.{Range, ◌to◌, table_3_7, fits, fitting, sequence, ill_formed_after, ill_formed}
use Rattle.predictive.proofs.Tests.{and_r}
use Rattle.aadl.proofs.Bools.{cond_has}
use Rattle.aadl.proofs.Lists.{drop_past_head}

-- A SEQUENCE -----------------------------------------------------------------------------------------------------------

pub fits-within : (row : List Range) (bs : List ℕ) → fits row bs ≡ true → length row ≤ length bs
fits-within [] bs e = zero-le
fits-within (low to high ∷ rs) [] e = absurd (false≢true e)
fits-within (low to high ∷ rs) (b ∷ bs) e =
    suc-le-suc (fits-within rs bs (and_r (leb low b && leb b high) (fits rs bs) e))

pub fitting-within : (rows : List (List Range)) (bs : List ℕ) → fitting rows bs ≤ length bs
fitting-within [] bs = zero-le
fitting-within (row ∷ rows) bs =
    cond_has (λ (n : ℕ). n ≤ length bs) (fits row bs) (length row) (fitting rows bs) (λ e. fits-within row bs e) (λ e. fitting-within rows bs)

pub sequence-within : (bs : List ℕ) → sequence bs ≤ length bs
unfolding sequence
sequence-within bs = fitting-within table_3_7 bs

-- a byte below 128 is one
pub ascii_one : (b : ℕ) (bs : List ℕ) → b < 128 → sequence (b ∷ bs) ≡ 1
unfolding sequence table_3_7
ascii_one b bs h = rw (le-leb b 127 (le_of_suc-le-suc h), le-leb 0 b (omega arith)) refl

-- WELL-FORMED TEXT -----------------------------------------------------------------------------------------------------

pub ill_formed-none : (bs : List ℕ) → length bs ≤ 0 → ill_formed bs ≡ 0
unfolding ill_formed_after
ill_formed-none [] h = refl
ill_formed-none (b ∷ bs) h = absurd (not-suc-le-zero h)

pub ill_formed-stops : (bs : List ℕ) → sequence bs ≡ 0 → ill_formed bs ≡ 0
unfolding ill_formed_after
ill_formed-stops [] e = refl
ill_formed-stops (b ∷ bs) e = rw (eq-eqb (sequence (b ∷ bs)) 0 e) refl

pub ill_formed-passes : (k : ℕ) (bs : List ℕ) → k ≤ length bs → ill_formed_after k bs ≡ k + ill_formed (drop k bs)
unfolding ill_formed_after
ill_formed-passes zero bs h = omega arith
ill_formed-passes (suc k) [] h = absurd (not-suc-le-zero h)
ill_formed-passes (suc k) (b ∷ bs) h = omega (arith, ill_formed-passes k bs (le_of_suc-le-suc h))

pub ill_formed-goes_on : (bs : List ℕ) → (sequence bs ≡ 0 → ⊥) → ill_formed bs ≡ sequence bs + ill_formed (drop (sequence bs) bs)
unfolding ill_formed_after
ill_formed-goes_on [] n = absurd (n (omega (arith, sequence-within [])))
ill_formed-goes_on (b ∷ bs) n =
    let k = sequence (b ∷ bs) in
    let w = sequence-within (b ∷ bs) in
    rw (ne_eqb k 0 n)
    (omega (arith, ill_formed-passes (k - 1) bs (omega arith), ap ill_formed (drop_past_head k b bs (omega arith))))
