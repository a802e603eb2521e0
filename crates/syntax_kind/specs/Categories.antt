-- The keywords that a component category can begin with. Assumes nothing.
use Rattle.std.specs.Prelude.{ℕ, List, [], ◌∷◌}
use Rattle.aadl.specs.Kinds.{SYSTEM_KW, PROCESS_KW, THREAD_KW, PROCESSOR_KW, VIRTUAL_KW, BUS_KW, MEMORY_KW, DEVICE_KW, SUBPROGRAM_KW, DATA_KW, ABSTRACT_KW}
use Rattle.aadl.specs.Section.{numbers}

-- The first keyword of each component category: `group` only follows another.
unfoldable pub categories : List ℕ
categories =
    numbers
    (SYSTEM_KW ∷ PROCESS_KW ∷ THREAD_KW ∷ PROCESSOR_KW ∷ VIRTUAL_KW ∷ BUS_KW ∷ MEMORY_KW ∷ DEVICE_KW ∷ SUBPROGRAM_KW ∷ DATA_KW ∷
    ABSTRACT_KW ∷ [])
