-- Demand 3, said of an answer of the section call and the event words that it leaves. Assumes nothing.
use Rattle.std.specs.Prelude.{ℕ, suc, ◌≡◌, ◌↔◌, Bool, false, not, ◌&&◌, cond, List, [], ◌∷◌, length, take, eqb}
use Rattle.predictive.specs.Forest.{Forest}
use Rattle.predictive.specs.Events.{Event, erring, any_fault}
use Rattle.predictive.specs.Tree.{spell}
use Rattle.aadl.specs.declared.Answer.{Answer}
use Rattle.aadl.specs.Symbols.{is_trivia, kinds}
use Rattle.aadl.specs.Tokens.{kind_in}
use Rattle.aadl.specs.Encoding.{events_in}
use Rattle.aadl.specs.Reading.{Derivation}

-- "The answered events are the buffer's first, as many as the answer counts."
abbrev pub answered_events : Answer → (words : List ℕ) → List Event
answered_events a ws = events_in a.events ws

-- "Clean: not refused, no Error event, every non-trivia token taken." The first is said where this is used.
pub record CleanAnswer (text : List ℕ) (a : Answer) (words : List ℕ) : Type 0 where
  pub no_error : erring any_fault (answered_events a words) ≡ false
  pub all_taken : a.taken ≡ length (kinds text)

-- How many token words are no trivia's. The words may be any.
abbrev pub solid_words : (words : List ℕ) → ℕ
solid_words [] = 0
solid_words (w ∷ ws) =
    let rest = solid_words ws in
    cond (is_trivia (kind_in w)) rest (suc rest)

-- The same as a test of an answer and the words that the section call left: all three, each by what can be read off them.
unfoldable pub is_clean : Answer → (token_words event_words : List ℕ) → Bool
is_clean a ts es =
    eqb a.number 0 && (not (erring any_fault (answered_events a es)) && eqb a.taken (solid_words (take a.tokens ts)))

-- What demand 3 says of an answer that refuses nothing.
pub record ReadAsDerived (text : List ℕ) (a : Answer) (words : List ℕ) : Type 0 where
  -- the text is read cleanly exactly when 01's section grammar derives the kinds of its non-trivia tokens
  pub exactly : CleanAnswer text a words ↔ ((t : Forest) × Derivation (kinds text) t)
  -- the derivation is unique
  pub unique : (t u : Forest) → Derivation (kinds text) t → Derivation (kinds text) u → t ≡ u
  -- the tree that the answered events spell is that derivation
  pub spelled : (t : Forest) → Derivation (kinds text) t → spell (answered_events a words) ≡ t
