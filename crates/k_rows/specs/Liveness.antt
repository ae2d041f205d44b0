-- A history about what can still be used across heaps.
use Rattle.std.specs.Prelude.{List, [], ◌∷◌, Some, None, false}
use Rattle.k_types.specs.declared.names.Heap.TheVariants.{Kernel}
use Rattle.k_types.specs.declared.names.Name.{Name}
use Rattle.k_types.specs.declared.names.Phase.TheVariants.{Populating}
use Rattle.k_types.specs.declared.op.Op.TheVariants.{New, KNew, SNew, Store, Load, Clear, Dir, Share}
use Rattle.k_types.specs.declared.event.Reply.TheVariants.{Done as Fine, Made, Loaded}
use Rattle.k_types.specs.declared.event.Event.{Event}
use Rattle.k_types.specs.State.{Refers, Holds}
use Rattle.k_types.specs.Owners.{user, shared}
use Rattle.k_types.specs.Names.{directory}
use Rattle.k_rows.specs.Words.{name, reg, node, s, did}
use Rattle.k_rows.specs.Lefts.{Left, object, item, sharing, holding}

-- A register of the first process leads through its heap and the kernel's into that of the second, and an object of a shared heap into
-- the kernel's. A cycle of the kernel's heap and the second process's is reached by nothing.
abbrev pub reached_through_three_heaps : List Event
reached_through_three_heaps =
    did 1 (KNew (reg 0) node) (Made (name 0 2))
    ∷ did 1 (New (reg 1) node) (Made (name 2 1))
    ∷ did 1 (New (reg 2) node) (Made (name 2 2))
    ∷ did 1 (Store (reg 0) 0 (reg 1)) Fine
    ∷ did 1 (Store (reg 1) 0 (reg 2)) Fine
    ∷ did 1 (Dir (reg 3)) (Loaded (Some directory))
    ∷ did 1 (Store (reg 3) 0 (reg 0)) Fine
    ∷ did 0 (Dir (reg 1)) (Loaded (Some directory))
    ∷ did 0 (Load (reg 2) (reg 1) 0) (Loaded (Some (name 0 2)))
    ∷ did 0 (New (reg 0) node) (Made (name 1 1))
    ∷ did 0 (Store (reg 0) 0 (reg 2)) Fine
    ∷ did 0 (Store (reg 1) 0 (reg 5)) Fine
    ∷ did 0 (Share s) Fine
    ∷ did 0 (SNew (reg 2) s node) (Made (name 3 1))
    ∷ did 0 (KNew (reg 3) node) (Made (name 0 3))
    ∷ did 0 (Store (reg 2) 0 (reg 3)) Fine
    ∷ did 0 (Clear (reg 2)) Fine
    ∷ did 0 (Clear (reg 3)) Fine
    ∷ did 1 (KNew (reg 0) node) (Made (name 0 4))
    ∷ did 1 (New (reg 1) node) (Made (name 2 3))
    ∷ did 1 (Store (reg 0) 0 (reg 1)) Fine
    ∷ did 1 (Store (reg 1) 0 (reg 0)) Fine
    ∷ did 1 (Clear (reg 0)) Fine
    ∷ did 1 (Clear (reg 1)) Fine
    ∷ did 1 (Clear (reg 2)) Fine
    ∷ []

-- what it leaves
abbrev pub reached_through_three_heaps_left : Left
reached_through_three_heaps_left = record {
  graph =
      object directory None (Refers None ∷ Refers None ∷ [])
      ∷ object (name 0 2) (Some node) (Refers (Some (name 2 1)) ∷ Refers None ∷ Holds 0 ∷ [])
      ∷ object (name 0 3) (Some node) (Refers None ∷ Refers None ∷ Holds 0 ∷ [])
      ∷ object (name 0 4) (Some node) (Refers (Some (name 2 3)) ∷ Refers None ∷ Holds 0 ∷ [])
      ∷ object (name 1 1) (Some node) (Refers (Some (name 0 2)) ∷ Refers None ∷ Holds 0 ∷ [])
      ∷ object (name 2 1) (Some node) (Refers (Some (name 2 2)) ∷ Refers None ∷ Holds 0 ∷ [])
      ∷ object (name 2 2) (Some node) (Refers None ∷ Refers None ∷ Holds 0 ∷ [])
      ∷ object (name 2 3) (Some node) (Refers (Some (name 0 4)) ∷ Refers None ∷ Holds 0 ∷ [])
      ∷ object (name 3 1) (Some node) (Refers (Some (name 0 3)) ∷ Refers None ∷ Holds 0 ∷ [])
      ∷ [];
  made = 4 ∷ 1 ∷ 3 ∷ 1 ∷ [];
  registers = holding 0 0 (name 1 1) ∷ holding 0 1 directory ∷ holding 1 3 directory ∷ [];
  done = 11 ∷ 14 ∷ [];
  owners = Kernel ∷ user 0 ∷ user 1 ∷ shared 0 ∷ [];
  phases = Populating (record { 0 = 0 }) ∷ [];
  ended = [];
  scans = [];
  closed = false;
  kernel = 152;
  uses = 240 ∷ 80 ∷ 120 ∷ [];
  maxima = 1000 ∷ 120 ∷ 400 ∷ [];
  charges = 80 ∷ 120 ∷ [];
  shared_bytes = 40 ∷ [];
  exits =
      item Kernel (name 2 1)
      ∷ item (user 0) (name 0 2)
      ∷ item (shared 0) (name 0 3)
      ∷ item Kernel (name 2 3)
      ∷ item (user 1) (name 0 4)
      ∷ [];
  shares = sharing 0 0 ∷ [];
  entries = 0 ∷ 1 ∷ 1 ∷ 1 ∷ 0 ∷ 1 ∷ 0 ∷ 1 ∷ 0 ∷ [];
  pins = 2 ∷ 0 ∷ 0 ∷ 0 ∷ 0 ∷ 0 ∷ 0 ∷ 0 ∷ 0 ∷ [];
}

-- what can still be used after it
abbrev pub reached_through_three_heaps_live : List Name
reached_through_three_heaps_live = directory ∷ name 0 2 ∷ name 0 3 ∷ name 1 1 ∷ name 2 1 ∷ name 2 2 ∷ name 3 1 ∷ []
