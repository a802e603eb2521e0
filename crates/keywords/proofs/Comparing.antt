-- Comparing a word with that of a row: words of different lengths are not the same, and two that are equally long are where each letter is the
-- row's, or its capital. By induction over both. Assumes nothing.
use Prim.Native.Nat.{ℕ, suc, ◌<◌}
use native.Mathlib.Omega.{arith}
use mathlib.Core.Path.{◌≡◌, refl, ap, ◌∙◌}
use mathlib.Core.Bool.{Bool, true, false, ◌&&◌}
use mathlib.Core.List.{List, [], ◌∷◌}
use lib.ListN.{length}
use lib.Dec.{eqb, ltb}
use borrow.Author.Tests.{ltb-true, ltb-false}
use Rattle.predictive.proofs.Tests.{and_false_r, and_l, and_r}
use Rattle.std.specs.List.{list_all, zip}
use Rattle.aadl.specs.Words.{lower, same, Entry, table, words, row, no_word}
use Rattle.aadl.specs.Bytes.{within}
use Rattle.aadl.proofs.Bools.{bounds}
use Rattle.aadl.proofs.Lists.{every-at}
use Rattle.aadl.proofs.KeywordKinds.{lower-case, table-length, table-lower_case}
use Rattle.keywords.specs.Tables.{is_case}

pub same_length : (v w : List ℕ) → (length v ≡ length w → ⊥) → same v w ≡ false
same_length [] [] h = absurd (h refl)
same_length [] (b ∷ bs) h = refl
same_length (v ∷ vs) [] h = refl
same_length (v ∷ vs) (b ∷ bs) h = and_false_r (eqb v (lower b)) (same vs bs) (same_length vs bs (λ e. h (ap suc e)))

-- A letter of the table or its capital is what std's or aadl's change of case makes that letter.
letter_case : (v b : ℕ) → within 97 122 v ≡ true → is_case v b ≡ eqb v (lower b)
letter_case v b h = grind (arith, bounds 97 122 v h)

pub same_letters : (v w : List ℕ) → lower-case v ≡ true → length v ≡ length w → list_all (λ p. is_case p.0 p.1) (zip v w) ≡ same v w
same_letters [] [] t h = refl
same_letters [] (b ∷ bs) t h = absurd (omega (arith, h))
same_letters (v ∷ vs) [] t h = absurd (omega (arith, h))
same_letters (v ∷ vs) (b ∷ bs) t h = λ i. letter_case v b (and_l (within 97 122 v) (lower-case vs) t) i && same_letters vs bs (and_r (within 97 122 v) (lower-case vs) t) (omega (arith, h)) i

last-lower_case : lower-case (row 81).word ≡ true
unfolding table words
last-lower_case = refl

-- The words of all rows are lower case; the last row has no letters.
pub row-lower_case : (i : ℕ) → i < 82 → lower-case (row i).word ≡ true
row-lower_case i h = go (ltb i 81) refl
  where
    go : (t : Bool) → ltb i 81 ≡ t → lower-case (row i).word ≡ true
    go true e = every-at (λ (r : Entry). lower-case r.word) table i no_word (omega (arith, table-length, ltb-true i 81 e)) table-lower_case
    go false e = ap (λ (k : ℕ). lower-case (row k).word) (omega (arith, h, ltb-false i 81 e)) ∙ last-lower_case
