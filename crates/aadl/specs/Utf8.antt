-- UTF-8: the well-formed sequences are those of table 3-7 of the Unicode standard, each spells one scalar value; refusal 2 names the start
-- of the first ill-formed one. Assumes nothing.
use Rattle.std.specs.Prelude.{ℕ, zero, suc, ◌-◌, Bool, true, false, ◌&&◌, cond, List, [], ◌∷◌, length, leb, eqb}

infix 70 ◌to◌
pub data Range : Type 0 where
  ◌to◌ : ℕ → ℕ → Range

-- Table 3-7, row by row.
unfoldable pub table_3_7 : List (List Range)
table_3_7 =
    (0x00 to 0x7F ∷ []) ∷
    (0xC2 to 0xDF ∷ 0x80 to 0xBF ∷ []) ∷
    (0xE0 to 0xE0 ∷ 0xA0 to 0xBF ∷ 0x80 to 0xBF ∷ []) ∷
    (0xE1 to 0xEC ∷ 0x80 to 0xBF ∷ 0x80 to 0xBF ∷ []) ∷
    (0xED to 0xED ∷ 0x80 to 0x9F ∷ 0x80 to 0xBF ∷ []) ∷
    (0xEE to 0xEF ∷ 0x80 to 0xBF ∷ 0x80 to 0xBF ∷ []) ∷
    (0xF0 to 0xF0 ∷ 0x90 to 0xBF ∷ 0x80 to 0xBF ∷ 0x80 to 0xBF ∷ []) ∷
    (0xF1 to 0xF3 ∷ 0x80 to 0xBF ∷ 0x80 to 0xBF ∷ 0x80 to 0xBF ∷ []) ∷
    (0xF4 to 0xF4 ∷ 0x80 to 0x8F ∷ 0x80 to 0xBF ∷ 0x80 to 0xBF ∷ []) ∷ []

-- The bytes begin with one in each range of the row.
abbrev pub fits : List Range → List ℕ → Bool
fits [] bs = true
fits (low to high ∷ rs) [] = false
fits (low to high ∷ rs) (b ∷ bs) = (leb low b && leb b high) && fits rs bs

abbrev pub fitting : List (List Range) → List ℕ → ℕ
fitting [] bs = 0
fitting (row ∷ rows) bs = cond (fits row bs) (length row) (fitting rows bs)

-- The length of the well-formed sequence that the bytes begin with, or 0.
unfoldable pub sequence : List ℕ → ℕ
sequence bs = fitting table_3_7 bs

-- Where the first ill-formed sequence starts, or the length: after k bytes to pass over.
unfoldable pub ill_formed_after : ℕ → List ℕ → ℕ
ill_formed_after k [] = 0
ill_formed_after (suc k) (b ∷ bs) = suc (ill_formed_after k bs)
ill_formed_after zero (b ∷ bs) =
    let n = sequence (b ∷ bs) in
    let r = suc (ill_formed_after (n - 1) bs) in
    cond (eqb n 0) 0 r

abbrev pub ill_formed : List ℕ → ℕ
ill_formed bs = ill_formed_after 0 bs

-- How many Unicode scalar values the bytes spell that come after k to pass over: each well-formed sequence is one. (A byte that begins none
-- counts one too; no text that is read has such.)
unfoldable pub scalars_after : ℕ → List ℕ → ℕ
scalars_after k [] = 0
scalars_after (suc k) (b ∷ bs) = scalars_after k bs
scalars_after zero (b ∷ bs) = suc (scalars_after (sequence (b ∷ bs) - 1) bs)

abbrev pub scalars : List ℕ → ℕ
scalars bs = scalars_after 0 bs

-- The bytes that continue a sequence: those that the table has in any column but the first.
abbrev pub is_continuation : ℕ → Bool
is_continuation b = leb 0x80 b && leb b 0xBF
