-- What stands in a column of the tables at a row, and where the letters of a row's word stand in the letters of all. A column lists a
-- function's values; the letters are by induction over the words. Assumes nothing.
use Prim.Native.Nat.{ℕ, zero, suc, ◌+◌, ◌≤◌, ◌<◌}
use native.Mathlib.Nat.{eq-or-lt_of_le, add-zero, zero-add, add-suc, suc-add, le_of_suc-le-suc, not-suc-le-zero}
use native.Mathlib.Omega.{arith}
use mathlib.Core.Path.{◌≡◌, refl, sym, ap, ◌∙◌, subst}
use mathlib.Core.Logic.{⊎_elim}
use mathlib.Core.List.{List, [], ◌∷◌, map}
use lib.ListN.{length, get_or, take, drop, length-append}
use Rattle.std.proofs.Math.Seq.{take-append_seam, drop-append-add}
use Rattle.aadl.specs.Words.{Entry, words, table, no_word, row}
use Rattle.aadl.specs.Section.{from}
use Rattle.keywords.specs.Tables.{laid, letters_before, word_letters, word_starts, word_lengths, word_kinds, candidate, word_slots}

-- VALUES ---------------------------------------------------------------------------------------------------------------

values-from : (f : ℕ → ℕ) (n k i : ℕ) → i < n → get_or (map f (from k n)) i 0 ≡ f (k + i)
values-from f zero k i h = absurd (not-suc-le-zero h)
values-from f (suc n) k zero h = ap f (sym (add-zero k))
values-from f (suc n) k (suc i) h = values-from f n (suc k) i (le_of_suc-le-suc h) ∙ ap f (suc-add k i ∙ sym (add-suc k i))

value-at : (f : ℕ → ℕ) (n i : ℕ) → i < n → get_or (map f (from 0 n)) i 0 ≡ f i
value-at f n i h = values-from f n 0 i h ∙ ap f (zero-add i)

module _ (i : ℕ) (h : i < 82) where
  pub start-at : get_or word_starts i 0 ≡ letters_before i
  start-at = value-at letters_before 82 i h

  pub length_at : get_or word_lengths i 0 ≡ length (row i).word
  length_at = value-at (λ (k : ℕ). length (row k).word) 82 i h

  pub kind_at : get_or word_kinds i 0 ≡ (row i).kind
  kind_at = value-at (λ (k : ℕ). (row k).kind) 82 i h

pub slot_at : (h : ℕ) → h < 256 → get_or word_slots h 0 ≡ candidate h
slot_at h l = value-at candidate 256 h l

-- LETTERS --------------------------------------------------------------------------------------------------------------

laid_part : (es : List Entry) (i : ℕ) → i < length es →
    take (length (get_or es i no_word).word) (drop (length (laid (take i es))) (laid es)) ≡ (get_or es i no_word).word
laid_part [] i h = absurd (not-suc-le-zero h)
laid_part (e ∷ es) zero h = take-append_seam e.word (laid es)
laid_part (e ∷ es) (suc i) h =
    rw (length-append e.word (laid (take i es)), drop-append-add e.word (laid es)) (laid_part es i (le_of_suc-le-suc h))

laid_in : (es : List Entry) (i : ℕ) → i < length es → length (laid (take i es)) + length (get_or es i no_word).word ≤ length (laid es)
laid_in [] i h = absurd (not-suc-le-zero h)
laid_in (e ∷ es) zero h = omega (arith, length-append e.word (laid es))
laid_in (e ∷ es) (suc i) h =
    omega (arith, length-append e.word (laid es), length-append e.word (laid (take i es)), laid_in es i (le_of_suc-le-suc h))

-- The row for no word has no letters.
module _ (i : ℕ) (h : i < 82) where
  pub word-in : letters_before i + length (row i).word ≤ 510
  unfolding words table
  word-in =
      ⊎_elim (λ e. subst (λ (k : ℕ). letters_before k + length (row k).word ≤ 510) (sym e) (omega arith)) (λ q. laid_in table i q)
      (eq-or-lt_of_le (le_of_suc-le-suc h))

  pub word_at : take (length (row i).word) (drop (letters_before i) word_letters) ≡ (row i).word
  unfolding words table
  word_at =
      ⊎_elim
      (λ e. subst (λ (k : ℕ). take (length (row k).word) (drop (letters_before k) word_letters) ≡ (row k).word) (sym e) refl)
      (λ q. laid_part table i q)
      (eq-or-lt_of_le (le_of_suc-le-suc h))
