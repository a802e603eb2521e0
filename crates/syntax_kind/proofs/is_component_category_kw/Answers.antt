-- `syntax_kind::is_component_category_kw` meets its contract: its tests are those of the list, joined from the left. Assumes nothing.
use mathlib.Core.List.{[], ◌∷◌}
use lib.Dec.{eqb}
use Rattle.aadl.specs.Kinds.{#◌, SYSTEM_KW, PROCESS_KW, THREAD_KW, PROCESSOR_KW, VIRTUAL_KW, BUS_KW, MEMORY_KW, DEVICE_KW, SUBPROGRAM_KW, DATA_KW, ABSTRACT_KW}
use Rattle.aadl.specs.Section.{numbers}
use Rattle.syntax_kind.specs.Categories.{categories}
use Rattle.syntax_kind.proofs.KindSets.{joined-has}
use Rattle.syntax_kind.proofs.is_component_category_kw.Goals as goal

pub returns : goal.returns
unfolding categories
returns c =
    joined-has (eqb c.args.kind (# SYSTEM_KW))
    (numbers
    (PROCESS_KW ∷ THREAD_KW ∷ PROCESSOR_KW ∷ VIRTUAL_KW ∷ BUS_KW ∷ MEMORY_KW ∷ DEVICE_KW ∷ SUBPROGRAM_KW ∷ DATA_KW ∷ ABSTRACT_KW ∷
    [])) c.args.kind
