-- One token is passed at a turn (section's Reaching). Assumes nothing.
use Rattle.section.specs.Reaching.{Reached}
use Rattle.tree.proofs.token_place.Given as goal

abbrev pub invariant-loop : goal.invariant-loop
invariant-loop l = Reached l.text l.counter l.tokens
