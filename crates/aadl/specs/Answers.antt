-- 01's six refusals and 02's 8 with their cases, places and order, what the two calls answer, and every word of the lent buffers at
-- exit. Assumes nothing.
use Rattle.std.specs.Prelude.{ℕ, Bool, not, cond, List, [], ◌∷◌, ◌++◌, map, length, take, drop, replicate, ltb, eqb}
use Rattle.predictive.specs.Grammar.{is}
use Rattle.predictive.specs.Events.{taken}
use Rattle.aadl.specs.declared.Answer.{Answer}
use Rattle.aadl.specs.Limits.{Limits}
use Rattle.aadl.specs.Kinds.{PROPERTIES_KW, #◌}
use Rattle.aadl.specs.Utf8.{ill_formed}
use Rattle.aadl.specs.Tokens.{tokens, lengths, unclosed, token_word}
use Rattle.aadl.specs.Symbols.{symbols, start_of, raw_number}
use Rattle.aadl.specs.Encoding.{room, words_of}
use Rattle.aadl.specs.Reading.{events, pushed, too_deep}

-- A check: its number, its case, and its place, which counts where the case holds.
pub data Check : Type 0 where
  check : (number : ℕ) → (case : Bool) → (place : ℕ) → Check

-- 01's table of checks: those of both calls, m token words being lent; with 02's "8 for an unclosed string, after 3 and before 4, its
-- place the opening quote" ..
abbrev pub text_checks : Limits → List ℕ → (m : ℕ) → List Check
text_checks limits text m =
    check 1 (ltb limits.bytes (length text)) limits.bytes
    ∷ check 2 (not (eqb (ill_formed text) (length text))) (ill_formed text)
    ∷ check 3 (ltb m (length (tokens text))) (lengths (take m (tokens text)))
    ∷ check 8 (not (eqb (unclosed (tokens text)) (length text))) (unclosed (tokens text))
    ∷ []

-- .. and those of the section call alone, with room for n events. 5 and 6 go by reading order: of the events pushed before an opener
-- too many, one has no two words left; else that opener is refused, before its Start event.
abbrev pub section_checks : Limits → List ℕ → (n : ℕ) → List Check
section_checks limits text n =
    let xs = symbols text in
    let es = pushed (events limits xs) in
    check 4 (not (is (# PROPERTIES_KW) xs)) (start_of text 0)
    ∷ check 5 (ltb n (length es)) (start_of text (taken (take n es)))
    ∷ check 6 (too_deep limits xs) (start_of text (taken es))
    ∷ []

abbrev pub answered : (tokens taken events : ℕ) → Answer
answered t k e = record { number = 0; place = 0; tokens = t; taken = k; events = e }

abbrev pub refused : (number place : ℕ) → Answer
refused n p = record { number = n; place = p; tokens = 0; taken = 0; events = 0 }

-- The first check whose case holds refuses, in a call that refuses by some form of answer; else the answer is a.
module _ {A : Type 0} (refusing : (number place : ℕ) → A) where
  abbrev pub checked : List Check → (a : A) → A
  checked [] a = a
  checked (check n case place ∷ cs) a = cond case (refusing n place) (checked cs a)

-- "The tokens-only call lends no event words, has 1 to 3 and answers taken and events 0"; 02 gives it 8: "both public calls, .. the
-- tokens-only one too". What it counts where nothing is refused, and its answer.
abbrev pub all_tokens : (text : List ℕ) → Answer
all_tokens text = answered (length (tokens text)) 0 0

unfoldable pub tokens_answer : Limits → (text : List ℕ) → (lent : ℕ) → Answer
tokens_answer limits text m = checked refused (text_checks limits text m) (all_tokens text)

-- What the section call counts where nothing is refused.
abbrev pub all_answered : Limits → (text : List ℕ) → Answer
all_answered limits text = answered (length (tokens text)) (taken (events limits (symbols text))) (length (events limits (symbols text)))

unfoldable pub section_answer : Limits → (text : List ℕ) → (lent_tokens lent_events : ℕ) → Answer
section_answer limits text m n =
    checked refused (text_checks limits text m ++ section_checks limits text (room n)) (all_answered limits text)

-- A lent buffer at exit, by the answer's number: all zero after a refusal; else the words, and then the old contents.
abbrev pub left_by : (number : ℕ) → (words old : List ℕ) → List ℕ
left_by n ws old = cond (eqb n 0) (ws ++ drop (length ws) old) (replicate (length old) 0)

unfoldable pub left_in : Answer → (words old : List ℕ) → List ℕ
left_in a ws old = left_by a.number ws old

abbrev pub token_words : List ℕ → List ℕ
token_words text = map token_word (tokens text)

abbrev pub event_words : Limits → List ℕ → List ℕ
event_words limits text = words_of (raw_number text) 0 (events limits (symbols text))
