-- The event of its word is pushed. Assumes nothing.
use Rattle.predictive.specs.Forest.{message}
use Rattle.predictive.specs.Events.{error}
use Rattle.parser.proofs.Parser.error.Goals as goal

pub returns : goal.returns
returns c = c.push.ensures (error (message c.args.m)) c.error_event.ensures
