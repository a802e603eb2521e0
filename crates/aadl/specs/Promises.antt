-- What each public call promises, a record a call: its answer and every word of every lent buffer at exit (`did`, demand 2), and what that comes to
-- where nothing is refused. Of a function to which a text and words were lent (tokens, events, records), which answered a and left the words
-- so. Assumes nothing.
use Rattle.std.specs.Prelude.{ℕ, ◌≡◌, List, [], ◌∷◌}
use Rattle.predictive.specs.Forest.{Forest}
use Rattle.aadl.specs.declared.Answer.{Answer}
use Rattle.aadl.specs.declared.TreeAnswer.{TreeAnswer}
use Rattle.aadl.specs.declared.ValueAnswer.{ValueAnswer}
use Rattle.aadl.specs.Slices.{Slice, held, MutSlice, before, after}
use Rattle.aadl.specs.Limits.{Limits}
use Rattle.aadl.specs.Tokens.{StringsClosed}
use Rattle.aadl.specs.WordKinds.{WordsTold}
use Rattle.aadl.specs.NumberParts.{NumbersTold}
use Rattle.aadl.specs.Symbols.{kinds}
use Rattle.aadl.specs.Reading.{Derivation}
use Rattle.aadl.specs.Calls.{answer_of, Did, tokens_call, section_call}
use Rattle.aadl.specs.Demand.{ReadAsDerived}
use Rattle.aadl.specs.EventTokens.{TokensKnown}
use Rattle.aadl.specs.Records.{tree_call, Recorded}
use Rattle.aadl.specs.ValueCall.{value_call, Valued, valued_by}

pub record TokensCalled (limits : Limits) (text tokens : List ℕ) (a : Answer) (tokens-left : List ℕ) : Type 0 where
  pub did : Did (tokens_call limits text tokens) a (tokens-left ∷ [])
  pub words_told : a.number ≡ 0 → WordsTold text a.tokens tokens-left

pub record SectionCalled (limits : Limits) (text tokens events : List ℕ) (a : Answer) (tokens-left events_left : List ℕ) : Type 0 where
  pub did : Did (section_call limits text tokens events) a (tokens-left ∷ events_left ∷ [])
  pub derived : a.number ≡ 0 → ReadAsDerived text a events_left

pub record TreeCalled (limits : Limits) (text tokens events records : List ℕ) (a : TreeAnswer) (tokens-left events_left records-left : List ℕ) : Type 0 where
  pub did : Did (tree_call limits text tokens events records) a (tokens-left ∷ events_left ∷ records-left ∷ [])
  pub derived : a.answer.number ≡ 0 → ReadAsDerived text a.answer events_left
  pub recorded : a.answer.number ≡ 0 → Recorded text a events_left records-left

pub record ValueCalled (limits : Limits) (text tokens events : List ℕ) (number : ℕ) (a : ValueAnswer) (tokens-left events_left : List ℕ) : Type 0 where
  pub did : Did (value_call limits text tokens events number) a (tokens-left ∷ events_left ∷ [])
  pub derived : a.answer.number ≡ 0 → ReadAsDerived text a.answer events_left
  pub valued : a.answer.number ≡ 0 → Valued text number a
  -- where the section call refuses nothing, every derivation of the text decides: no such association, no constant, beyond the range, or the value
  pub decided : (t : Forest) → Derivation (kinds text) t → let first = answer_of (section_call limits text tokens events) in first.number ≡ 0 → a ≡ valued_by text t number first

-- CONTRACTS ------------------------------------------------------------------------------------------------------------

-- The same of the slices that are lent to a function: what its contract says.
module _ (limits : Limits) (text : Slice) (tokens : MutSlice) where
  abbrev pub MakesTokensCall : Answer → Type 0
  MakesTokensCall a = TokensCalled limits (held text) (before tokens) a (after tokens)

  abbrev pub MakesSectionCall : (events : MutSlice) → Answer → Type 0
  MakesSectionCall events a = SectionCalled limits (held text) (before tokens) (before events) a (after tokens) (after events)

  abbrev pub MakesTreeCall : (events records : MutSlice) → TreeAnswer → Type 0
  MakesTreeCall events records a =
      TreeCalled limits (held text) (before tokens) (before events) (before records) a (after tokens) (after events) (after records)

  abbrev pub MakesValueCall : (events : MutSlice) → (number : ℕ) → ValueAnswer → Type 0
  MakesValueCall events n a = ValueCalled limits (held text) (before tokens) (before events) n a (after tokens) (after events)

-- WHAT FOLLOWS ---------------------------------------------------------------------------------------------------------

-- Where nothing is refused, of the section call and of every call that goes on from it: it is read as derived, its words, strings
-- and numbers are told, and each event knows its token.
pub record ReadWhole (text : List ℕ) (a : Answer) (tokens-left events_left : List ℕ) : Type 0 where
  pub derived : ReadAsDerived text a events_left
  pub words : WordsTold text a.tokens tokens-left
  pub strings : StringsClosed text a.tokens tokens-left
  pub numbers : NumbersTold text a.tokens tokens-left
  pub named : TokensKnown text a tokens-left events_left
