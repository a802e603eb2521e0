-- 02's request One: a tree's nodes as records in lent words, the tree call's check and answer, and what its records are. Assumes nothing.
use Rattle.std.specs.Prelude.{ℕ, zero, suc, ◌+◌, ◌/◌, ◌≡◌, refl, List, [], ◌∷◌, ◌++◌, map, length, get_or, drop, replicate, ltb}
use Rattle.predictive.specs.Forest.{Forest, nil, leaf, err, node, wrap, leaves}
use Rattle.predictive.specs.Tree.{spell}
use Rattle.aadl.specs.declared.Answer.{Answer}
use Rattle.aadl.specs.declared.TreeAnswer.{TreeAnswer}
use Rattle.aadl.specs.Limits.{Limits}
use Rattle.aadl.specs.Symbols.{symbols, kinds, start_of}
use Rattle.aadl.specs.Reading.{events, Derivation}
use Rattle.aadl.specs.Answers.{Check, check, refused}
use Rattle.aadl.specs.Calls.{Form, lent, Call, answer_of, Extension, extending, section_call}
use Rattle.aadl.specs.Demand.{answered_events}

-- RECORDS --------------------------------------------------------------------------------------------------------------

-- "One record per node: kind, parent record, first taken token, number of tokens below it."
pub record Record : Type 0 where
  pub kind : ℕ
  pub parent : ℕ
  pub first : ℕ
  pub below : ℕ

abbrev pub of_node : (kind parent first below : ℕ) → Record
of_node k p t n = record { kind = k; parent = p; first = t; below = n }

-- The records of a forest's nodes "in the order in which nodes open": of a forest in the node with record p, where the next record is
-- number n and the next token number t. An empty node so "names the next untaken token, or the number of non-trivia ones".
unfoldable pub records_from : Forest → (p n t : ℕ) → List Record
records_from nil p n t = []
records_from (leaf k f) p n t = records_from f p n (suc t)
records_from (err m f) p n t = records_from f p n t
records_from (node k i f) p n t =
    let inner = records_from i n (suc n) t in
    of_node k p t (length (leaves i)) ∷ (inner ++ records_from f p (suc n + length inner) (t + length (leaves i)))
records_from (wrap k a b f) p n t =
    let first = records_from a n (suc n) t in
    let inner = first ++ records_from b n (suc n + length first) (t + length (leaves a)) in
    of_node k p t (length (leaves a ++ leaves b)) ∷ (inner ++ records_from f p (suc n + length inner) (t + length (leaves a ++ leaves b)))

-- "Records and non-trivia tokens count from 0, and the root is its own parent."
unfoldable pub records : Forest → List Record
records f = records_from f 0 0 0

-- WORDS ----------------------------------------------------------------------------------------------------------------

-- "A record is four words": for how many so many lent words have room, the words of records, and the records of the first words.
abbrev pub record_room : (lent : ℕ) → ℕ
record_room n = n / 4

abbrev pub words_of_records : List Record → List ℕ
words_of_records [] = []
words_of_records (r ∷ rs) = r.kind ∷ r.parent ∷ r.first ∷ r.below ∷ words_of_records rs

abbrev pub records_in : (count : ℕ) → (words : List ℕ) → List Record
records_in zero ws = []
records_in (suc n) ws = of_node (get_or ws 0 0) (get_or ws 1 0) (get_or ws 2 0) (get_or ws 3 0) ∷ records_in n (drop 4 ws)

-- THE TREE CALL --------------------------------------------------------------------------------------------------------

-- The records of a text: of the tree that its events spell by 01's tree rule.
unfoldable pub text_records : Limits → List ℕ → List Record
text_records limits text = records (spell (events limits (symbols text)))

abbrev pub record_words : Limits → List ℕ → List ℕ
record_words limits text = words_of_records (text_records limits text)

-- "7 where there are more nodes than lent records, after all of 01's checks, its place the start of the token named by the first node
-- without one, or the text's length."
abbrev pub tree_checks : Limits → (text : List ℕ) → (lent : ℕ) → List Check
tree_checks limits text n =
    let rs = text_records limits text in
    check 7 (ltb n (length rs)) (start_of text (get_or (map (λ (r : Record). r.first) rs) n 0))
    ∷ []

-- "The answer gains the number of records, 0 in a refusal."
abbrev pub with_records : Answer → (records : ℕ) → TreeAnswer
with_records a n = record { answer = a; records = n }

abbrev pub tree_refused : (number place : ℕ) → TreeAnswer
tree_refused n p = with_records (refused n p) 0

-- What the tree call adds to the section call, and the call.
abbrev pub six_numbers : Form TreeAnswer
six_numbers = record { five = λ a. a.answer; bare = λ a. with_records a 0; shown = λ a. refl }

abbrev pub recording : Limits → (text rows : List ℕ) → Extension six_numbers
recording limits text rows =
    record {
      own = tree_checks limits text (record_room (length rows));
      added = λ a. with_records a (length (text_records limits text));
      more = lent rows (record_words limits text) ∷ [];
    }

unfoldable pub tree_call : Limits → (text tokens events records : List ℕ) → Call six_numbers
tree_call limits text tokens last rows = extending (section_call limits text tokens last) (recording limits text rows)

-- Its answer by how many words are lent: what they hold does not matter to it.
unfoldable pub tree_answer : Limits → (text : List ℕ) → (lent_tokens lent_events lent_records : ℕ) → TreeAnswer
tree_answer limits text m n r = answer_of (tree_call limits text (replicate m 0) (replicate n 0) (replicate r 0))

-- WHAT THE RECORDS ARE -------------------------------------------------------------------------------------------------

-- The records that an answer counts, in the words that the call left.
abbrev pub answered_records : TreeAnswer → (words : List ℕ) → List Record
answered_records a ws = records_in a.records ws

-- Of an answer that refuses nothing: "For a clean text the records are exactly the derivation's nodes. For any other they are the nodes
-- of 01's tree rule." A text that is derived is clean and has one derivation (`ReadAsDerived`).
pub record Recorded (text : List ℕ) (a : TreeAnswer) (events records-left : List ℕ) : Type 0 where
  pub derived : (t : Forest) → Derivation (kinds text) t → answered_records a records-left ≡ records t
  pub spelled : answered_records a records-left ≡ records (spell (answered_events a.answer events))
