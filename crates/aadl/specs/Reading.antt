-- The reading of a text's symbols, and what is derived. Assumes nothing.
use Rattle.std.specs.Prelude.{ℕ, suc, ◌≡◌, Bool, false, not, ◌&&◌, List, [], ◌∷◌, length, eqb}
use Rattle.predictive.specs.Forest.{Forest, tree, message, refusal}
use Rattle.predictive.specs.Grammar.{Derives}
use Rattle.predictive.specs.Reader.{Result, read}
use Rattle.predictive.specs.Events.{Event, start, token, finish, error, events_of, taken, erring, any_fault, stops}
use Rattle.aadl.specs.Limits.{Limits}
use Rattle.aadl.specs.Section.{grammar, section, literal_section}

-- The reading of a list of symbols: a loop makes at most a turn for each symbol, and one more.
unfoldable pub reading : Limits → List ℕ → Result
reading limits xs = read grammar (suc (length xs)) limits.openers section xs

-- All events of the reading; an opener too many is among them as its refusal.
unfoldable pub events : Limits → List ℕ → List Event
events limits xs = events_of (reading limits xs)

-- The events that are pushed before a refusal stands among them.
unfoldable pub pushed : List Event → List Event
pushed [] = []
pushed (start k up ∷ es) = start k up ∷ pushed es
pushed (token k ∷ es) = token k ∷ pushed es
pushed (finish ∷ es) = finish ∷ pushed es
pushed (error (message m) ∷ es) = error (message m) ∷ pushed es
pushed (error (refusal n) ∷ es) = []

-- An opener would be one too many.
unfoldable pub too_deep : Limits → List ℕ → Bool
too_deep limits xs = erring stops (events limits xs)

-- "Clean: not refused, no Error event, every non-trivia token taken." The first is said where this is used.
pub record Clean (limits : Limits) (xs : List ℕ) : Type 0 where
  pub no_error : erring any_fault (events limits xs) ≡ false
  pub all_taken : taken (events limits xs) ≡ length xs

-- The same as a test.
unfoldable pub reads_cleanly : Limits → List ℕ → Bool
reads_cleanly limits xs = not (erring any_fault (events limits xs)) && eqb (taken (events limits xs)) (length xs)

-- A derivation of kinds: a tree that 01's literal grammar derives from all of them.
abbrev pub Derivation : (kinds : List ℕ) → (t : Forest) → Type 0
Derivation ks t = (f : Forest) × Derives grammar literal_section f ks [] × (t ≡ tree f)
