-- The value call of 02's request Six: its checks 9 and 10, its answer, and what its value is by the derivation. Assumes nothing.
use Rattle.std.specs.Prelude.{ℕ, ◌≡◌, refl, Bool, true, false, not, ◌||◌, List, [], ◌∷◌, length, get_or, replicate, leb, ℤ, pos}
use Rattle.std.proofs.Math.Option.{Option, none, some}
use Rattle.predictive.specs.Forest.{Forest}
use Rattle.predictive.specs.Tree.{spell}
use Rattle.aadl.specs.declared.Answer.{Answer}
use Rattle.aadl.specs.declared.ValueAnswer.{ValueAnswer}
use Rattle.aadl.specs.Limits.{Limits}
use Rattle.aadl.specs.Symbols.{symbols, kinds, start_of}
use Rattle.aadl.specs.Reading.{events, reads_cleanly, Derivation}
use Rattle.aadl.specs.Answers.{Check, check, refused, checked}
use Rattle.aadl.specs.Calls.{Form, Call, answer_of, Extension, extending, section_call}
use Rattle.aadl.specs.Values.{Constant, Outcome, exact, beyond, value, Association, association, associations, number_at}

-- The associations of a text's tree.
unfoldable pub associations_in : (text : List ℕ) → Forest → List Association
associations_in text t = associations (number_at text) 0 t

-- The association with a number among some; where there is none it has no constant.
abbrev pub nth_association : ℕ → List Association → Association
nth_association n found = get_or found n (association 0 none)

-- What an association's constant comes to; its check is that there is one.
abbrev pub outcome_of : Option Constant → Outcome
outcome_of none = exact (pos 0)
outcome_of (some c) = value c

abbrev pub is_none : Option Constant → Bool
is_none none = true
is_none (some c) = false

abbrev pub is_beyond : Outcome → Bool
is_beyond (exact z) = false
is_beyond (beyond i) = true

abbrev pub beyond_token : Outcome → ℕ
beyond_token (exact z) = 0
beyond_token (beyond i) = i

abbrev pub exact_value : Outcome → ℤ
exact_value (exact z) = z
exact_value (beyond i) = pos 0

-- The associations of a text, by the tree that its events spell: of a clean text that is its derivation (`ReadAsDerived`).
unfoldable pub text_associations : Limits → (text : List ℕ) → List Association
text_associations limits text = associations_in text (spell (events limits (symbols text)))

-- "Refused: 9, after all reading checks, where the text is not clean, has no such association or its first value is not such a constant,
-- its place the association's start in that third case and the text's length in the others; 10 where a literal or partial result leaves
-- the range, after 9, its place the first literal or operator concerned in that order."
abbrev pub checks_of : (clean : Bool) → (text : List ℕ) → (found : List Association) → (number : ℕ) → List Check
checks_of clean text found n =
    let a = nth_association n found in
    let o = outcome_of a.constant in
    check 9 (not clean || leb (length found) n) (length text)
    ∷ check 9 (is_none a.constant) (start_of text a.first)
    ∷ check 10 (is_beyond o) (start_of text (beyond_token o))
    ∷ []

abbrev pub value_checks : Limits → (text : List ℕ) → (number : ℕ) → List Check
value_checks limits text n = checks_of (reads_cleanly limits (symbols text)) text (text_associations limits text) n

-- The answer gains the value; "a refusal gives 0".
abbrev pub with_value : Answer → (value : ℤ) → ValueAnswer
with_value a z = record { answer = a; value = z }

abbrev pub value_refused : (number place : ℕ) → ValueAnswer
value_refused n p = with_value (refused n p) (pos 0)

-- The value of the association with a number among some: where its checks pass it is a constant that comes to it.
abbrev pub value_of : (found : List Association) → (number : ℕ) → ℤ
value_of found n = exact_value (outcome_of (nth_association n found).constant)

-- What the value call adds to the section call, and the call.
abbrev pub six_with_value : Form ValueAnswer
six_with_value = record { five = λ a. a.answer; bare = λ a. with_value a (pos 0); shown = λ a. refl }

abbrev pub valuing : Limits → (text : List ℕ) → (number : ℕ) → Extension six_with_value
valuing limits text n =
    record {
      own = value_checks limits text n;
      added = λ a. with_value a (value_of (text_associations limits text) n);
      more = [];
    }

unfoldable pub value_call : Limits → (text tokens events : List ℕ) → (number : ℕ) → Call six_with_value
value_call limits text tokens last n = extending (section_call limits text tokens last) (valuing limits text n)

-- Its answer by how many words are lent: what they hold does not matter to it.
unfoldable pub value_answer : Limits → (text : List ℕ) → (lent_tokens lent_events number : ℕ) → ValueAnswer
value_answer limits text m n k = answer_of (value_call limits text (replicate m 0) (replicate n 0) k)

-- Of an answer that refuses nothing: the text has a derivation, of which the association with the number has a constant, and that comes
-- exactly to the value.
pub record Valued (text : List ℕ) (number : ℕ) (a : ValueAnswer) : Type 0 where
  pub tree : Forest
  pub derived : Derivation (kinds text) tree
  pub constant : Constant
  pub among : (nth_association number (associations_in text tree)).constant ≡ some constant
  pub exactly : value constant ≡ exact a.value

-- What a tree of the text decides, where the section call answered a: 9 where it has no such association, or that has no constant; 10 at the
-- first literal or operator concerned; or the value.
abbrev pub valued_by : (text : List ℕ) → Forest → (number : ℕ) → Answer → ValueAnswer
valued_by text t n a =
    let found = associations_in text t in
    checked value_refused (checks_of true text found n) (with_value a (value_of found n))
