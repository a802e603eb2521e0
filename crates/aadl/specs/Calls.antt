-- A call as one value: its checks in their order, its answer where none of them refuses, its lent buffers and what goes into each. `Did` says that
-- a function made a call: its answer and every element of every lent buffer at exit are the call's; it is what contracts cite. `Settled` is demand
-- 1. The tokens-only call and the section call; another is a call that goes on from the section call (`extending`). Assumes nothing.
use Rattle.std.specs.Prelude.{ℕ, ◌≡◌, refl, ◌⊎◌, Bool, true, false, List, [], ◌∷◌, ◌++◌, map, length, drop, replicate}
use Rattle.predictive.specs.Events.{taken}
use Rattle.aadl.specs.declared.Answer.{Answer}
use Rattle.aadl.specs.Limits.{Limits}
use Rattle.aadl.specs.Symbols.{symbols}
use Rattle.aadl.specs.Encoding.{room}
use Rattle.aadl.specs.Reading.{events}
use Rattle.aadl.specs.Answers.{Check, check, text_checks, section_checks, answered, refused, checked, all_tokens, left_by, token_words, event_words}

-- CALLS ----------------------------------------------------------------------------------------------------------------

-- A form of answer: it holds 01's five numbers; `bare` is the answer that adds nothing to five numbers, as a refusal does.
pub record Form (A : Type 0) : Type 0 where
  pub five : A → Answer
  pub bare : Answer → A
  pub shown : (a : Answer) → five (bare a) ≡ a

-- Just the five numbers.
abbrev pub plain : Form Answer
plain = record { five = λ a. a; bare = λ a. a; shown = λ a. refl }

-- A lent buffer: what it holds before the call, and what the call has for it.
pub record Buffer : Type 0 where
  pub held : List ℕ
  pub words : List ℕ

abbrev pub lent : (held words : List ℕ) → Buffer
lent h w = record { held = h; words = w }

pub record Call {A : Type 0} (form : Form A) : Type 0 where
  pub checks : List Check
  pub all : A
  pub buffers : List Buffer

module _ {A : Type 0} (form : Form A) where
  abbrev pub refusing : (number place : ℕ) → A
  refusing n p = form.bare (refused n p)

  abbrev pub number_of : A → ℕ
  number_of a = (form.five a).number

-- The first check whose case holds refuses; else all is answered.
abbrev pub answer_of : {A : Type 0} {form : Form A} → Call form → A
answer_of {form} call = checked (refusing form) call.checks call.all

-- A buffer at exit, by the answer's number: all zero after a refusal; else filled from the front, the rest kept.
abbrev pub left : (number : ℕ) → Buffer → List ℕ
left n b = left_by n b.words b.held

-- A function to which the call's buffers were lent answered a and left the buffers with the contents `exits`: this is the call.
pub record Did {A : Type 0} {form : Form A} (call : Call form) (a : A) (exits : List (List ℕ)) : Type 0 where
  pub answer : a ≡ answer_of call
  pub exit : exits ≡ map (left (number_of form a)) call.buffers

-- What a call adds to another from which it goes on: checks behind the others, something in the answer, buffers.
pub record Extension {A : Type 0} (form : Form A) : Type 0 where
  pub own : List Check
  pub added : Answer → A
  pub more : List Buffer

abbrev pub extending : {A : Type 0} {form : Form A} → Call plain → Extension form → Call form
extending first x = record { checks = first.checks ++ x.own; all = x.added first.all; buffers = first.buffers ++ x.more }

-- A call with one more check, in front of all others.
abbrev pub in_front : {A : Type 0} {form : Form A} → (number : ℕ) → (case : Bool) → (place : ℕ) → Call form → Call form
in_front n case p call = record { checks = check n case p ∷ call.checks; all = call.all; buffers = call.buffers }

-- "The tokens-only call lends no event words, has 1 to 3 and answers taken and events 0"; and 8.
unfoldable pub tokens_call : Limits → (text tokens : List ℕ) → Call plain
tokens_call limits text tokens =
    record { checks = text_checks limits text (length tokens); all = all_tokens text; buffers = lent tokens (token_words text) ∷ [] }

-- The section call: 4 to 6, the taken tokens and the events.
abbrev pub reading_events : Limits → (text last : List ℕ) → Extension plain
reading_events limits text last =
    let es = events limits (symbols text) in
    record {
      own = section_checks limits text (room (length last));
      added = λ a. answered a.tokens (taken es) (length es);
      more = lent last (event_words limits text) ∷ [];
    }

unfoldable pub section_call : Limits → (text tokens events : List ℕ) → Call plain
section_call limits text tokens last = extending (tokens_call limits text tokens) (reading_events limits text last)

-- DEMAND 1 -------------------------------------------------------------------------------------------------------------

-- every element has the property
abbrev pub Each {ℓ} : {A : Type ℓ} → (A → Type 0) → List A → Type 0
Each P [] = Unit {0}
Each P (x ∷ xs) = P x × Each P xs

-- the check's case does not hold
abbrev pub Fails : Check → Type 0
Fails (check n case place) = case ≡ false

-- The check with this number and place is the first whose case holds.
abbrev pub First : List Check → (number place : ℕ) → Type 0
First [] k q = ⊥
First (check n case place ∷ cs) k q = ((case ≡ true) × ((n ≡ k) × (place ≡ q))) ⊎ ((case ≡ false) × First cs k q)

abbrev pub filled : Buffer → List ℕ
filled b = b.words ++ drop (length b.words) b.held

abbrev pub zeroed : Buffer → List ℕ
zeroed b = replicate (length b.held) 0

module _ {A : Type 0} {form : Form A} (call : Call form) (a : A) (exits : List (List ℕ)) where
  -- No check's case holds: all is answered, and every buffer is filled.
  pub record AnsweredWhole : Type 0 where
    pub none : Each Fails call.checks
    pub counts : a ≡ call.all
    pub fills : exits ≡ map filled call.buffers

  -- The first check whose case holds refuses, with its place, and every buffer is zero.
  pub record RefusedFirst : Type 0 where
    pub number : ℕ
    pub place : ℕ
    pub first : First call.checks number place
    pub not_zero : number ≡ 0 → ⊥
    pub no_counts : a ≡ refusing form number place
    pub zeros : exits ≡ map zeroed call.buffers

  abbrev pub Settled : Type 0
  Settled = AnsweredWhole ⊎ RefusedFirst
