-- The constants are the kinds, by computation. Assumes nothing.
use mathlib.Core.Path.{refl}
use Rattle.aadl.specs.Tokens.{marks, mark_of}
use Rattle.aadl.specs.Words.{words, table, kind_of_word}
use Rattle.syntax_kind.specs.Named.{named_kinds}
use Rattle.syntax_kind.proofs.named_kinds.Goals as goal

pub returns : goal.returns
unfolding named_kinds mark_of marks kind_of_word table words
returns c = refl
