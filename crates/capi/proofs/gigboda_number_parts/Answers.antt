-- The library's call, and its answer's eight numbers told. Assumes nothing.
use mathlib.Core.Path.{ap, ◌∙◌}
use mathlib.Core.List.{List}
use Prim.Native.Nat.{ℕ}
use Rattle.aadl.specs.NumberParts.{part_numbers}
use Rattle.lexer.specs.Filling.{write}
use Rattle.capi.specs.Numbers.{parts_told}
use Rattle.capi.proofs.gigboda_number_parts.Goals as goal

pub returns-clause-parts_numbers : goal.returns-clause-parts_numbers
unfolding parts_told
returns-clause-parts_numbers c =
    c.tell.ensures ∙ ap (λ (ns : List ℕ). write ns c.args.parts.now) (c.part_numbers-eight.ensures ∙ ap part_numbers c.number_parts.ensures.parts)
