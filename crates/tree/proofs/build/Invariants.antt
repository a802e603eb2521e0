-- No record is lent; else the root is open, and the events are passed one at a turn (Building, of the first words). Assumes
-- nothing.
use Rattle.aadl.specs.Encoding.{first_words}
use Rattle.tree.proofs.Building.{Building}
use Rattle.tree.proofs.build.Given as goal

abbrev pub invariant-loop-i : goal.invariant-loop-i
invariant-loop-i l = Building (first_words l.events) l.initial.records l.i l.b l.records
