-- Where words lie that the value call looks for. Assumes nothing.
use Rattle.std.specs.Prelude.{ℕ, suc}
use Rattle.predictive.specs.Events.{start}
use Rattle.aadl.specs.Kinds.{PROPERTY_ASSOCIATION, #◌}
use Rattle.aadl.specs.Encoding.{event_word}
use Rattle.std.specs.declared.ops.Range.{Range}

abbrev pub band : (from to : ℕ) → Range ℕ
band f t = record { start = f; end = t }

-- first words of events: Starts of an association
abbrev pub starting : Range ℕ
starting = band (event_word (start (# PROPERTY_ASSOCIATION) 0)) (event_word (start (suc (# PROPERTY_ASSOCIATION)) 0))
