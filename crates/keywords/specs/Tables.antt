-- The tables that a word's kind is looked up in, computed from aadl's table of words; the code's arrays equal these by computation. A column
-- has 82 rows, from 0 on: the eighty-one words, and last a row without letters, which is no word's. Assumes nothing.
use Rattle.std.specs.Prelude.{Bool, ℕ, suc, ◌+◌, ◌-◌, ◌*◌, ◌/◌, ◌%◌, cond, ◌||◌, List, [], ◌∷◌, ◌++◌, map, length, take, eqb}
use Rattle.aadl.specs.Words.{Entry, table, row}
use Rattle.aadl.specs.Bytes.{peek}
use Rattle.aadl.specs.Section.{from}

-- COLUMNS --------------------------------------------------------------------------------------------------------------

-- "their letters, laid end to end in one byte table"
abbrev pub laid : List Entry → List ℕ
laid [] = []
laid (e ∷ es) = e.word ++ laid es

-- where the letters of a row's word start in it
abbrev pub letters_before : ℕ → ℕ
letters_before i = length (laid (take i table))

abbrev pub word_letters : List ℕ
word_letters = laid table

abbrev pub word_starts : List ℕ
word_starts = map letters_before (from 0 82)

abbrev pub word_lengths : List ℕ
word_lengths = map (λ (i : ℕ). length (row i).word) (from 0 82)

abbrev pub word_kinds : List ℕ
word_kinds = map (λ (i : ℕ). (row i).kind) (from 0 82)

-- ONE CANDIDATE --------------------------------------------------------------------------------------------------------

-- the letter at a place, without its case: the two cases differ by 32
abbrev pub without_case : List ℕ → ℕ → ℕ
without_case w j = peek w j % 32

-- a letter of the table, or its capital
abbrev pub is_case : (v b : ℕ) → Bool
is_case v b = eqb v b || eqb ((v + 224) % 256) b

-- The factors were searched for until no two words of the table had one hash.
abbrev pub hash_of : List ℕ → ℕ
hash_of w =
    (length w * 8 + without_case w 0 * 23 + without_case w (length w - 1) * 5 + without_case w (length w / 2) * 25) % 256

abbrev pub row_from : ℕ → List Entry → ℕ → ℕ
row_from i [] h = i
row_from i (e ∷ es) h = cond (eqb (hash_of e.word) h) i (row_from (suc i) es h)

-- the row whose word has a hash, or 81
unfoldable pub candidate : ℕ → ℕ
candidate h = row_from 0 table h

abbrev pub word_slots : List ℕ
word_slots = map candidate (from 0 256)
