-- The two words are the event's (Buffer). Assumes nothing.
use native.Mathlib.Omega.{arith}
use mathlib.Core.Path.{refl, ap}
use lib.ListN.{length-set}
use Rattle.aadl.specs.Encoding.{words_for}
use Rattle.parser.specs.State.{state, one_used}
use Rattle.parser.specs.Parsers.{counters}
use Rattle.parser.proofs.Buffer.{room_within, put-words}
use Rattle.parser.proofs.Parser.append.Goals as goal

pub overflow_mul-at : goal.overflow_mul-at
overflow_mul-at c = omega (arith, c.requires, room_within c.args.self.now.events.now)

pub offset_bounds-events-at : goal.offset_bounds-events-at
offset_bounds-events-at c = omega (arith, c.requires, room_within c.args.self.now.events.now)

pub bounds-events-at : goal.bounds-events-at
bounds-events-at c = omega (arith, c.requires, room_within c.args.self.now.events.now)

pub overflow_add-events : goal.overflow_add-events
overflow_add-events c = omega (arith, c.requires, room_within c.args.self.now.events.now)

pub offset_bounds-events-at-2 : goal.offset_bounds-events-at-2
offset_bounds-events-at-2 c = omega (arith, c.requires, room_within c.args.self.now.events.now)

pub bounds-events-at-2 : goal.bounds-events-at-2
bounds-events-at-2 c =
    let p = c.args.self.now in
    omega (arith, c.requires, room_within p.events.now, length-set p.events.now (words_for p.used) c.args.w)

pub overflow_add-self : goal.overflow_add-self
overflow_add-self c = omega (arith, c.requires, room_within c.args.self.now.events.now)

pub returns : goal.returns
returns c = λ e w.
    let p = c.args.self.now in
    record {
      did = record { ran = ap (state (one_used (counters p))) (put-words (counters p) e _ _ _ w c.second_word-second.ensures) };
      same = record { text = refl; words = refl; events = refl };
    }
