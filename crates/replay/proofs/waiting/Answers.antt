-- As many zeros as are asked for, by the law and not by computation. Assumes nothing.
use Rattle.std.proofs.Common.{ℕ, refl, sym}
use Rattle.std.proofs.lemmas.List.{length-replicate}
use Rattle.replay.proofs.waiting.Goals as goal

pub returns : goal.returns
returns c = (refl, sym (length-replicate {0} {A = ℕ} 1984832 0))
