-- With room behind them, the lines stand whole. Assumes nothing.
use native.Mathlib.Omega.{arith}
use Rattle.writing.proofs.WriteLaws.{wrote-long}
use Rattle.replay.proofs.answered.Goals as goal

pub returns : goal.returns
returns c =
    let w = c.make.ensures.wrote in
    let long = wrote-long w in
    record { whole = λ e. (omega (arith, w.ends, long, c.room.ensures), omega (arith, w.ends, long, c.room.ensures), w.holds) }
