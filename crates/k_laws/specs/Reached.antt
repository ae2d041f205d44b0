-- How the cells change that an operation touches.
use Rattle.std.specs.Prelude.{◌≡◌, ◌⊎◌, List, [], ◌∷◌, IsTrue}
use Rattle.k_types.specs.declared.names.Heap.TheVariants.{Kernel, User}
use Rattle.k_types.specs.declared.names.Pid.{Pid}
use Rattle.k_types.specs.Cells.{Cell}
use Rattle.k_types.specs.Names.{among}
use Rattle.k_types.specs.State.{State}

-- the cells stay, or they were none and are the kernel's
abbrev pub StaysOrTurns : List Cell → List Cell → Type 0
StaysOrTurns before after = (after ≡ before) ⊎ ((before ≡ []) × (after ≡ Kernel ∷ []))

-- the cells of a kill stay, or they were the target's and the kernel's and are none, and the target has ended in the later state
abbrev pub StaysOrEnds : Pid → State → List Cell → List Cell → Type 0
StaysOrEnds q later before after = (after ≡ before) ⊎ ((before ≡ User q ∷ Kernel ∷ []) × (after ≡ []) × IsTrue (among q.0 later.ended))
