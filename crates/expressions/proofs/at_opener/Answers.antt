-- The tests, joined, of the kind ahead: no C-style literal and no other error is among them (Operators). Assumes nothing.
use mathlib.Core.Path.{refl}
use mathlib.Core.List.{[], ◌∷◌}
use Rattle.aadl.specs.Kinds.{#◌, NOT_KW, L_PAREN, L_BRACKET, PLUS, MINUS}
use Rattle.aadl.specs.Section.{numbers}
use Rattle.parser.specs.Parsers.{source, counters}
use Rattle.expressions.proofs.Operators.{shown-are}
use Rattle.expressions.proofs.at_opener.Goals as goal

pub returns : goal.returns
returns c =
    let p = c.args.p.now in
    shown-are (source p.tokens) (counters p) (# NOT_KW) (numbers (L_PAREN ∷ L_BRACKET ∷ PLUS ∷ MINUS ∷ [])) refl refl refl (c.kind-kind.ensures _)
