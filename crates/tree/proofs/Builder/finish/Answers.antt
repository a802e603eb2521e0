-- The innermost open node's words tell its parent and its first token, and closing it changes the fourth (Holding). Assumes nothing.
use mathlib.Core.Path.{refl}
use Rattle.tree.proofs.Holding.{holds-closed, first_taken}
use Rattle.tree.proofs.Builder.finish.Goals as goal

pub overflow_sub-records : goal.overflow_sub-records
overflow_sub-records c = first_taken c.requires.1.1.1

pub returns : goal.returns
returns c = λ old w x. holds-closed x _ _ refl refl
