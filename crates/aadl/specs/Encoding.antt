-- How events become words and come back from them, and how many words they have. Assumes nothing.
use Rattle.std.specs.Prelude.{ℕ, zero, suc, ◌+◌, ◌*◌, ◌/◌, ◌%◌, min, List, [], ◌∷◌, map, take}
use Rattle.predictive.specs.Forest.{message, refusal}
use Rattle.predictive.specs.Events.{Event, start, token, finish, error, taken}
use Rattle.aadl.specs.Limits.{most_events}
use Rattle.aadl.specs.Tokens.{kind_in}

-- "Class × 16,777,216 + kind × 65,536 + last. Class 0 Start (last = forward parent, 0 for none), 1 Token (last = 1), 2 Finish,
-- 3 Error (last = message). Kind is 0 for Finish and Error." Class, kind and last of an event (none is pushed for a refusal):
abbrev pub fields : Event → ℕ × ℕ × ℕ
fields (start k up) = (0, k, up)
fields (token k) = (1, k, 1)
fields finish = (2, 0, 0)
fields (error (message m)) = (3, 0, m)
fields (error (refusal n)) = (3, 0, 0)

abbrev pub event_word : Event → ℕ
event_word e =
    let f = fields e in
    f.0 * 16777216 + f.1 * 65536 + f.2

-- Class and last number in a word; its kind is where a token word has it.
abbrev pub class_in : ℕ → ℕ
class_in w = w / 16777216

abbrev pub last_in : ℕ → ℕ
last_in w = w % 65536

-- The event that a word stands for.
abbrev pub event_by : (class kind last : ℕ) → Event
event_by zero k l = start k l
event_by (suc zero) k l = token k
event_by (suc (suc zero)) k l = finish
event_by (suc (suc (suc c))) k l = error (message l)

unfoldable pub event_in : ℕ → Event
event_in w = event_by (class_in w) (kind_in w) (last_in w)

-- MANY -----------------------------------------------------------------------------------------------------------------

-- 02's request Seven: "An event becomes two words". How many words so many events have.
abbrev pub words_for : (events : ℕ) → ℕ
words_for n = n * 2

-- For how many events so many lent words have room: 5 "now means that fewer than two words are left, and the 32,768 counts events."
abbrev pub room : (lent : ℕ) → ℕ
room n = min (n / 2) most_events

-- ".. the present one and the raw number of the next untaken non-trivia token, or the token count at the end; a Token carries its own
-- number." The words of events, of which the first comes after t taken tokens; `number` tells the raw number of each non-trivia token.
abbrev pub words_of : (number : ℕ → ℕ) → (t : ℕ) → List Event → List ℕ
words_of number t [] = []
words_of number t (e ∷ es) = event_word e ∷ number t ∷ words_of number (t + taken (e ∷ [])) es

-- A token's number in a word. Whatever words stand for tokens, a parser stores where it stands; a text has fewer tokens than a word counts.
abbrev pub cut_to_word : ℕ → ℕ
cut_to_word n = n % 4294967296

-- The first words of events, two words each: a last word that stands alone is none.
unfoldable pub first_words : (words : List ℕ) → List ℕ
first_words [] = []
first_words (w ∷ []) = []
first_words (w ∷ v ∷ ws) = w ∷ first_words ws

-- The events that words tell: their first words do.
abbrev pub told_by : (words : List ℕ) → List Event
told_by ws = map event_in (first_words ws)

-- The events of the first words, so many events.
abbrev pub events_in : (count : ℕ) → (words : List ℕ) → List Event
events_in n ws = told_by (take (words_for n) ws)
