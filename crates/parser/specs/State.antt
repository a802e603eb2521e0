-- What reading does to a parser and the lent event words: an event is pushed, a token is passed, a refusal stops it. Assumes nothing.
use Rattle.std.specs.Prelude.{ℕ, ◌+◌, ◌-◌, max, min, cond, List, [], ◌∷◌, eqb, ltb}
use Rattle.predictive.specs.Forest.{message, refusal}
use Rattle.predictive.specs.Events.{Event, start, token, finish, error}
use Rattle.aadl.specs.Limits.{most_events}
use Rattle.parser.specs.declared.Counters.{Counters}
use Rattle.parser.specs.Counters.{Place}
use Rattle.parser.specs.Input.{Input, next}
use Rattle.parser.specs.Buffer.{room, put, named, linked}

pub record State : Type 0 where
  pub parser : Counters
  pub words : List ℕ

abbrev pub state : Counters → List ℕ → State
state p b = record { parser = p; words = b }

-- A parser that stopped does nothing more.
unfoldable pub going : (State → State) → State → State
going f s = cond (eqb s.parser.stop 0) (f s) s

abbrev pub with_left : ℕ → Counters → Counters
with_left l p = record { at = p.at; byte = p.byte; taken = p.taken; used = p.used; left = l; stop = p.stop }

abbrev pub with_stop : ℕ → Counters → Counters
with_stop n p = record { at = p.at; byte = p.byte; taken = p.taken; used = p.used; left = p.left; stop = n }

abbrev pub with_used : ℕ → Counters → Counters
with_used n p = record { at = p.at; byte = p.byte; taken = p.taken; used = n; left = p.left; stop = p.stop }

-- one event more
abbrev pub one_used : Counters → Counters
one_used p = with_used (p.used + 1) p

-- A refusal stops the parser by its number; 0 is no refusal's, so that it always stops.
abbrev pub stopped : ℕ → State → State
stopped n s = state (with_stop (max 1 n) s.parser) s.words

unfoldable pub halt : ℕ → State → State
unfolding going
halt n s = going (stopped n) s

abbrev pub appended : Event → State → State
appended e s = state (one_used s.parser) (put s.parser e s.words)

-- Where "fewer than two words are left", that stops it: the refusal is 5.
abbrev pub push_or_stop : Event → State → State
push_or_stop e s = cond (ltb s.parser.used (room s.words)) (appended e s) (stopped 5 s)

unfoldable pub push : Event → State → State
unfolding going
push e s = going (push_or_stop e) s

-- One more is taken, up to as many as there can be events.
abbrev pub one_more : ℕ → ℕ
one_more n = max n (min (n + 1) most_events)

-- The token where the parser stands is passed.
abbrev pub moved_on : Place → (taken : ℕ) → Counters → Counters
moved_on at n p = record { at = at.at; byte = at.byte; taken = n; used = p.used; left = p.left; stop = p.stop }

abbrev pub passed : Input → State → State
passed inp s = state (moved_on (next inp s.parser) (one_more s.parser.taken) s.parser) s.words

unfoldable pub pass : Input → State → State
unfolding going
pass inp s = going (passed inp) s

-- One event, and events one after another: a refusal is pushed nowhere.
unfoldable pub enter : Input → Event → State → State
unfolding push halt pass
enter inp (start k up) s = push (start k up) s
enter inp (token k) s = pass inp (push (token k) s)
enter inp finish s = push finish s
enter inp (error (message m)) s = push (error (message m)) s
enter inp (error (refusal n)) s = halt n s

unfoldable pub emit : Input → List Event → State → State
unfolding enter
emit inp [] s = s
emit inp (e ∷ es) s = emit inp es (enter inp e s)

-- MARKERS --------------------------------------------------------------------------------------------------------------

-- The words are changed, the parser is not.
abbrev pub rewritten : (List ℕ → List ℕ) → State → State
rewritten f s = state s.parser (f s.words)

-- "Completing writes the node kind into the Start and pushes Finish."
unfoldable pub complete : (place kind : ℕ) → State → State
unfolding going push
complete m k s = going (λ t. push finish (rewritten (named m k) t)) s

-- "Preceding pushes a new Start and stores its distance as forward parent."
unfoldable pub precede : (place : ℕ) → State → State
unfolding going push
precede m s = going (λ t. cond (ltb m s.parser.used) (rewritten (linked m (s.parser.used - m)) t) t) (push (start 0 0) s)
