-- Records in words: what a word of theirs holds, a record changed where it stands, and records written behind others, which may be done
-- from their end. Each goes down the records. Assumes nothing.
use Prim.Native.Nat.{ℕ, zero, suc, ◌+◌, ◌*◌, ◌-◌, ◌≤◌, ◌<◌}
use native.Mathlib.Omega.{arith}
use mathlib.Core.Path.{◌≡◌, refl, sym, ap, ap₂, ◌∙◌}
use mathlib.Core.List.{List, [], ◌∷◌, ◌++◌}
use lib.ListN.{length, get_or, drop, set, length-append, length-set, length-drop}
use lib.Seq.{sets, sets-eq, set_comm, set-append_left, take_at, drop-append-add, drop-drop}
use Rattle.aadl.specs.Records.{Record, of_node, words_of_records}
use Rattle.aadl.proofs.RecordLaws.{length_record_words}
use Rattle.tree.specs.Walk.{blank}
use Rattle.tree.specs.Builders.{laid}

-- WORDS ----------------------------------------------------------------------------------------------------------------

pub words_append : (rs qs : List Record) → words_of_records (rs ++ qs) ≡ words_of_records rs ++ words_of_records qs
words_append [] qs = refl
words_append (r ∷ rs) qs = ap (λ (l : List ℕ). r.kind ∷ r.parent ∷ r.first ∷ r.below ∷ l) (words_append rs qs)

-- the place of a word of record number suc p is four behind that of number p's
further : (p j : ℕ) → suc p * 4 + j ≡ suc (suc (suc (suc (p * 4 + j))))
further p j = omega arith

word_at : (rs : List Record) (rest : List ℕ) (p j : ℕ) → p < length rs → j < 4 →
    get_or (words_of_records rs ++ rest) (p * 4 + j) 0 ≡ get_or (words_of_records (get_or rs p blank ∷ [])) j 0
word_at [] rest p j h l = absurd (omega (arith, h))
word_at (r ∷ rs) rest zero zero h l = refl
word_at (r ∷ rs) rest zero (suc zero) h l = refl
word_at (r ∷ rs) rest zero (suc (suc zero)) h l = refl
word_at (r ∷ rs) rest zero (suc (suc (suc zero))) h l = refl
word_at (r ∷ rs) rest zero (suc (suc (suc (suc j)))) h l = absurd (omega (arith, l))
word_at (r ∷ rs) rest (suc p) j h l =
    ap (λ (k : ℕ). get_or (words_of_records (r ∷ rs) ++ rest) k 0) (further p j) ∙ word_at rs rest p j (omega (arith, h)) l

-- LAID INTO A BUFFER ---------------------------------------------------------------------------------------------------

pub length_laid : (rs : List Record) (old : List ℕ) → length rs * 4 ≤ length old → length (laid rs old) ≡ length old
length_laid rs old h =
    omega (arith, length-append (words_of_records rs) (drop (length (words_of_records rs)) old), length_record_words rs, length-drop (length (words_of_records rs)) old)

module _ (rs : List Record) (old : List ℕ) (p : ℕ) (h : p < length rs) where
  pub laid-parent : get_or (laid rs old) (p * 4 + 1) 0 ≡ (get_or rs p blank).parent
  laid-parent = word_at rs (drop (length (words_of_records rs)) old) p 1 h (omega arith)

  pub laid-first : get_or (laid rs old) (p * 4 + 2) 0 ≡ (get_or rs p blank).first
  laid-first = word_at rs (drop (length (words_of_records rs)) old) p 2 h (omega arith)

  pub laid-below : get_or (laid rs old) (p * 4 + 3) 0 ≡ (get_or rs p blank).below
  laid-below = word_at rs (drop (length (words_of_records rs)) old) p 3 h (omega arith)

-- a record with another fourth word
abbrev pub with_below : (n : ℕ) → Record → Record
with_below n r = of_node r.kind r.parent r.first n

words-changed : (rs : List Record) (p n : ℕ) → p < length rs → set (words_of_records rs) (p * 4 + 3) n ≡ words_of_records (set rs p (with_below n (get_or rs p blank)))
words-changed [] p n h = absurd (omega (arith, h))
words-changed (r ∷ rs) zero n h = refl
words-changed (r ∷ rs) (suc p) n h =
    ap (λ (k : ℕ). set (words_of_records (r ∷ rs)) k n) (further p 3)
    ∙ ap (λ (l : List ℕ). r.kind ∷ r.parent ∷ r.first ∷ r.below ∷ l) (words-changed rs p n (omega (arith, h)))

pub laid-changed : (rs : List Record) (old : List ℕ) (p n : ℕ) → p < length rs →
    set (laid rs old) (p * 4 + 3) n ≡ laid (set rs p (with_below n (get_or rs p blank))) old
laid-changed rs old p n h =
    let ws = words_of_records rs in
    let q = with_below n (get_or rs p blank) in
    let same : length (words_of_records rs) ≡ length (words_of_records (set rs p q)) = omega (arith, length_record_words rs, length_record_words (set rs p q), length-set rs p q) in
    set-append_left ws (drop (length ws) old) (p * 4 + 3) n (omega (arith, h, length_record_words rs))
    ∙ ap₂ (λ (l : List ℕ) (k : ℕ). l ++ drop k old) (words-changed rs p n h) same

-- Records written behind those that are laid.
pub laid_more : (rs qs : List Record) (old : List ℕ) → (length rs + length qs) * 4 ≤ length old →
    sets (laid rs old) (length rs * 4) (words_of_records qs) ≡ laid (rs ++ qs) old
laid_more rs qs old h =
    let ws = words_of_records rs in
    let vs = words_of_records qs in
    let rest = drop (length ws) old in
    let place : length rs * 4 ≡ length ws = omega (arith, length_record_words rs) in
    let all : length ws + length vs ≡ length (words_of_records (rs ++ qs)) = sym (length-append ws vs) ∙ ap length (sym (words_append rs qs)) in
    ap (λ (k : ℕ). sets (laid rs old) k vs) place
    ∙ sets-eq vs (laid rs old) (length ws) (omega (arith, h, length_record_words rs, length_record_words qs, length_laid rs old (omega (arith, h))))
    ∙ ap₂ (λ (a b : List ℕ). (a ++ vs) ++ b) (take_at ws rest (length ws) refl) (drop-append-add ws rest (length vs) ∙ drop-drop (length vs) (length ws) old)
    ∙ ap₂ (λ (l : List ℕ) (k : ℕ). l ++ drop k old) (sym (words_append rs qs)) all

-- Records laid over others, at least as many, leave nothing of them.
pub laid-over : (qs rs : List Record) (old : List ℕ) → length qs ≤ length rs → laid rs (laid qs old) ≡ laid rs old
laid-over qs rs old h =
    let us = words_of_records qs in
    let vs = words_of_records rs in
    let m = length vs - length us in
    let split : length vs ≡ length us + m = omega (arith, h, length_record_words qs, length_record_words rs) in
    ap (λ (l : List ℕ). vs ++ l)
    (ap (λ (k : ℕ). drop k (laid qs old)) split
    ∙ drop-append-add us (drop (length us) old) m
    ∙ drop-drop m (length us) old
    ∙ ap (λ (k : ℕ). drop k old) (sym split))

-- FROM THEIR END -------------------------------------------------------------------------------------------------------

sets_after : (l : List ℕ) (i j x : ℕ) (vs : List ℕ) → i < j → sets (set l i x) j vs ≡ set (sets l j vs) i x
sets_after l i j x [] h = refl
sets_after l i j x (v ∷ vs) h =
    ap (λ (m : List ℕ). sets m (suc j) vs) (set_comm l i j x v (λ e. omega (arith, e, h))) ∙ sets_after (set l j v) i (suc j) x vs (omega (arith, h))

-- What is written behind may be written first.
pub sets_from_end : (l : List ℕ) (i : ℕ) (us vs : List ℕ) → sets l i (us ++ vs) ≡ sets (sets l (i + length us) vs) i us
sets_from_end l i [] vs = ap (λ (k : ℕ). sets l k vs) (omega arith)
sets_from_end l i (u ∷ us) vs =
    sets_from_end (set l i u) (suc i) us vs
    ∙ ap (λ (k : ℕ). sets (sets (set l i u) k vs) (suc i) us) (omega arith)
    ∙ ap (λ (m : List ℕ). sets m (suc i) us) (sets_after l i (i + suc (length us)) u vs (omega arith))
