-- Reading off words whether an answer is clean, word by word; and the token words of a text have as many that are no trivia's as the text
-- has kinds. By induction over the words. Assumes nothing.
use Prim.Native.Nat.{ℕ, zero, suc, ◌+◌, ◌<◌}
use native.Mathlib.Omega.{arith}
use mathlib.Core.Path.{◌≡◌, refl, sym, ap, ◌∙◌}
use mathlib.Core.Bool.{Bool, true, false, ◌||◌, cond, not, or-false, or_assoc}
use mathlib.Core.List.{List, [], ◌∷◌, map}
use lib.ListN.{length, get_or, take, drop}
use lib.Seq.{drop-cons}
use native.Mathlib.Numerals.{add-one}
use lib.Dec.{leb}
use borrow.Author.Tests.{le-leb}
use Rattle.std.specs.List.{count_by}
use Rattle.std.proofs.lemmas.List.Sums.{sum_by-cons}
use Rattle.predictive.specs.Events.{erring, any_fault}
use Rattle.aadl.specs.Tokens.{kind_in}
use Rattle.aadl.specs.Symbols.{is_trivia, without_trivia, kinds}
use Rattle.aadl.specs.Encoding.{class_in, last_in, event_by, event_in}
use Rattle.aadl.specs.Answers.{token_words}
use Rattle.aadl.specs.Demand.{solid_words}
use Rattle.parser.specs.Input.{token_in}
use Rattle.section.proofs.WordsBack.{kinds-back}

-- WORD BY WORD ---------------------------------------------------------------------------------------------------------

-- an Error is among the events of words
abbrev pub erring-words : List ℕ → Bool
erring-words ws = erring any_fault (map event_in ws)

error-more : (w : ℕ) (ws : List ℕ) → erring-words (w ∷ ws) ≡ (leb 3 (class_in w) || erring-words ws)
unfolding event_in erring
error-more w ws = go (class_in w)
  where
    go : (c : ℕ) → erring any_fault (event_by c (kind_in w) (last_in w) ∷ map event_in ws) ≡ (leb 3 c || erring-words ws)
    go zero = refl
    go (suc zero) = refl
    go (suc (suc zero)) = refl
    go (suc (suc (suc c))) = rw (le-leb 3 (suc (suc (suc c))) (omega arith)) refl

error-none : erring-words [] ≡ false
unfolding erring
error-none = refl

pub solid-counted : (ws : List ℕ) → count_by (λ w. not (is_trivia (kind_in w))) ws ≡ solid_words ws
solid-counted [] = refl
solid-counted (w ∷ ws) = sum_by-cons one w ws ∙ go (is_trivia (kind_in w)) (solid-counted ws)
  where
    one : ℕ → ℕ
    one w = cond (not (is_trivia (kind_in w))) 1 0

    go : {k : ℕ} (t : Bool) → k ≡ solid_words ws → cond (not t) 1 0 + k ≡ cond t (solid_words ws) (suc (solid_words ws))
    go true e = omega (arith, e)
    go false e = omega (arith, e)

-- An Error among so many words from one on: it is that one, or among the rest.
pub error-from : (n k : ℕ) (ws : List ℕ) (f : Bool) → k < length ws →
    (f || erring-words (take (suc n) (drop k ws))) ≡ ((f || leb 3 (class_in (get_or ws k 0))) || erring-words (take n (drop (k + 1) ws)))
error-from n k ws f h =
    ap (λ b. f || b) (ap (λ us. erring-words (take (suc n) us)) (drop-cons ws k 0 h) ∙ error-more w (take n (drop (suc k) ws)))
    ∙ sym (or_assoc f (leb 3 (class_in w)) (erring-words (take n (drop (suc k) ws))))
    ∙ ap (λ j. (f || leb 3 (class_in w)) || erring-words (take n (drop j ws))) (sym (add-one k))
  where
    w : ℕ
    w = get_or ws k 0

pub error-done : (k : ℕ) (ws : List ℕ) (f : Bool) → (f || erring-words (take 0 (drop k ws))) ≡ f
error-done k ws f = ap (λ b. f || b) error-none ∙ or-false f

-- OF A TEXT ------------------------------------------------------------------------------------------------------------

solid-is : (ws : List ℕ) → solid_words ws ≡ length (without_trivia (map token_in ws))
solid-is [] = refl
solid-is (w ∷ ws) = go (is_trivia (kind_in w)) (solid-is ws)
  where
    rest : List ℕ
    rest = without_trivia (map token_in ws)

    go : (t : Bool) → solid_words ws ≡ length rest → cond t (solid_words ws) (suc (solid_words ws)) ≡ length (cond t rest (kind_in w ∷ rest))
    go true e = e
    go false e = ap suc e

pub solid-kinds : (text : List ℕ) → length text < 65536 → solid_words (token_words text) ≡ length (kinds text)
solid-kinds text h = solid-is (token_words text) ∙ ap length (kinds-back text h)
