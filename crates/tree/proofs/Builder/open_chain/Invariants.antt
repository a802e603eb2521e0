-- One record at a turn, from the chain's end (ChainWriting, of the first words). Assumes nothing.
use Rattle.aadl.specs.Encoding.{first_words}
use Rattle.tree.proofs.ChainWriting.{Writing}
use Rattle.tree.proofs.Builder.open_chain.Given as goal

abbrev pub invariant-loop-number : goal.invariant-loop-number
invariant-loop-number l = Writing (first_words l.events) l.initial.records l.self.innermost l.self.records l.self.taken l.i l.at l.number l.records
