-- The lent event words, as a parser writes them: for how many events they have room, an event at the next place, and a Start changed
-- where it stands, in its first word. Nothing else here, and nothing in the readers, knows how an event becomes words. Assumes nothing.
use Rattle.std.specs.Prelude.{ℕ, ◌+◌, ◌*◌, ◌/◌, List, length, get_or, set}
use Rattle.predictive.specs.Events.{Event, start}
use Rattle.aadl.specs.Encoding.{event_word, words_for, cut_to_word, room as room_in}
use Rattle.parser.specs.declared.Counters.{Counters}

-- for how many events they have room
unfoldable pub room : List ℕ → ℕ
room b = room_in (length b)

-- The words after the event e, written by the parser p: the event's own, and the number of the token where p stands, which is the next
-- untaken one, or the end. The token words may be any, so that the number is cut to a word; a text has fewer tokens.
unfoldable pub put : Counters → Event → List ℕ → List ℕ
put p e b = set (set b (words_for p.used) (event_word e)) (words_for p.used + 1) (cut_to_word p.at)

-- "Completing writes the node kind into the Start", here into that of event number m ..
unfoldable pub named : (m kind : ℕ) → List ℕ → List ℕ
named m k b = set b (words_for m) (event_word (start k 0))

-- .. "and stores its distance as forward parent".
unfoldable pub linked : (m distance : ℕ) → List ℕ → List ℕ
linked m n b = set b (words_for m) (get_or b (words_for m) 0 / 65536 * 65536 + n)
