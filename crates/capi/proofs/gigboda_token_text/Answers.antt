-- The library's call gives the length, the sum of the lengths before it the start; both are told (Telling). Assumes nothing.
use Prim.Native.Nat.{ℕ}
use mathlib.Core.Path.{ap, ap₂, ◌∙◌}
use mathlib.Core.List.{[], ◌∷◌}
use lib.ListN.{length}
use Rattle.lexer.specs.Filling.{write}
use Rattle.capi.specs.Numbers.{part_told}
use Rattle.capi.proofs.Telling.{part-is_text}
use Rattle.capi.proofs.gigboda_token_text.Goals as goal

pub returns-clause-part_numbers : goal.returns-clause-part_numbers
unfolding part_told
returns-clause-part_numbers c =
    c.tell.ensures ∙ ap₂ (λ (s l : ℕ). write (s ∷ l ∷ []) c.args.part.now) c.token_start-from.ensures (ap length c.token_text-text.ensures)

pub returns-clause-part_text : goal.returns-clause-part_text
returns-clause-part_text c = part-is_text c.args.src.now c.args.words.now c.args.number
