-- Histories of the second version: the end of a process by another, and maxima that change.
use Rattle.std.specs.Prelude.{List, [], ◌∷◌, Some, None, false}
use Rattle.k_types.specs.declared.names.Heap.TheVariants.{Kernel}
use Rattle.k_types.specs.declared.op.Op.TheVariants.{New, Store, Load, Dir, Kill, Resize}
use Rattle.k_types.specs.declared.event.Fault.TheVariants.{LimitFull, ProcNotBelow, LimitNotBelow, InUse}
use Rattle.k_types.specs.declared.event.Reply.TheVariants.{Done as Fine, Made, Loaded, Refused}
use Rattle.k_types.specs.declared.event.Event.{Event}
use Rattle.k_types.specs.declared.names.Phase.TheVariants.{Unmade}
use Rattle.k_types.specs.State.{Refers, Holds}
use Rattle.k_types.specs.Owners.{user, shared}
use Rattle.k_types.specs.Names.{directory}
use Rattle.k_rows.specs.Words.{name, reg, node, did, Undone}
use Rattle.k_rows.specs.Lefts.{Left, object, holding}

-- A process whose limit is above that of another ends it; one beside it may not. What the ended process had stays, and is the
-- kernel's; its last line gives no event.
abbrev pub a_process_ends_another : List Event
a_process_ends_another =
    did 1 (New (reg 0) node) (Made (name 2 1))
    ∷ did 1 (Dir (reg 1)) (Loaded (Some directory))
    ∷ did 1 (Store (reg 1) 0 (reg 0)) Fine
    ∷ did 2 (Dir (reg 0)) (Loaded (Some directory))
    ∷ did 2 (Load (reg 1) (reg 0) 0) (Loaded (Some (name 2 1)))
    ∷ did 2 (Kill (record { 0 = 1 })) (Refused (ProcNotBelow (record { 0 = 1 })))
    ∷ did 0 (Kill (record { 0 = 1 })) Fine
    ∷ did 2 (Load (reg 2) (reg 1) 0) (Loaded None)
    ∷ did 0 (Kill (record { 0 = 1 })) Fine
    ∷ []

-- the line that gives no event
abbrev pub a_process_ends_another_undone : List Undone
a_process_ends_another_undone = record { process = 1; op = New (reg 5) node } ∷ []

-- what it leaves
abbrev pub a_process_ends_another_left : Left
a_process_ends_another_left = record {
  graph =
      object directory None (Refers (Some (name 2 1)) ∷ Refers None ∷ [])
      ∷ object (name 2 1) (Some node) (Refers None ∷ Refers None ∷ Holds 0 ∷ [])
      ∷ [];
  made = 1 ∷ 0 ∷ 1 ∷ 0 ∷ 0 ∷ [];
  registers = holding 2 0 directory ∷ holding 2 1 (name 2 1) ∷ [];
  done = 2 ∷ 3 ∷ 4 ∷ [];
  owners = Kernel ∷ user 0 ∷ Kernel ∷ user 2 ∷ shared 0 ∷ [];
  phases = Unmade ∷ [];
  ended = 1 ∷ [];
  scans = [];
  closed = false;
  kernel = 72;
  uses = 120 ∷ 0 ∷ 0 ∷ [];
  maxima = 1000 ∷ 120 ∷ 400 ∷ [];
  charges = 0 ∷ 0 ∷ 0 ∷ [];
  shared_bytes = 0 ∷ [];
  exits = [];
  shares = [];
  entries = 0 ∷ 0 ∷ [];
  pins = 1 ∷ 1 ∷ [];
}

-- Maxima change: not those at or above the process's own limit, not below what is used, and a hard one's not beyond what its parent
-- has left.
abbrev pub maxima_change : List Event
maxima_change =
    did 0 (Resize (record { 0 = 1 }) 200) Fine
    ∷ did 1 (Resize (record { 0 = 1 }) 100) (Refused (LimitNotBelow (record { 0 = 1 })))
    ∷ did 2 (New (reg 0) node) (Made (name 3 1))
    ∷ did 0 (Resize (record { 0 = 2 }) 39) (Refused (InUse (record { 0 = 2 })))
    ∷ did 0 (Resize (record { 0 = 2 }) 40) Fine
    ∷ did 2 (New (reg 1) node) (Refused (LimitFull (record { 0 = 2 })))
    ∷ did 0 (Resize (record { 0 = 1 }) 960) Fine
    ∷ did 0 (Resize (record { 0 = 1 }) 961) (Refused (LimitFull (record { 0 = 0 })))
    ∷ did 0 (Resize (record { 0 = 1 }) 0) Fine
    ∷ did 1 (New (reg 0) node) (Refused (LimitFull (record { 0 = 1 })))
    ∷ []

-- what it leaves
abbrev pub maxima_change_left : Left
maxima_change_left = record {
  graph =
      object directory None (Refers None ∷ Refers None ∷ [])
      ∷ object (name 3 1) (Some node) (Refers None ∷ Refers None ∷ Holds 0 ∷ [])
      ∷ [];
  made = 1 ∷ 0 ∷ 0 ∷ 1 ∷ 0 ∷ [];
  registers = holding 2 0 (name 3 1) ∷ [];
  done = 6 ∷ 2 ∷ 2 ∷ [];
  owners = Kernel ∷ user 0 ∷ user 1 ∷ user 2 ∷ shared 0 ∷ [];
  phases = Unmade ∷ [];
  ended = [];
  scans = [];
  closed = false;
  kernel = 32;
  uses = 40 ∷ 0 ∷ 40 ∷ [];
  maxima = 1000 ∷ 0 ∷ 40 ∷ [];
  charges = 0 ∷ 0 ∷ 40 ∷ [];
  shared_bytes = 0 ∷ [];
  exits = [];
  shares = [];
  entries = 0 ∷ 0 ∷ [];
  pins = 0 ∷ 0 ∷ [];
}

-- Nobody sets the maximum of the root, which is below no limit.
abbrev pub the_root_keeps_its_maximum : List Event
the_root_keeps_its_maximum =
    did 0 (Resize (record { 0 = 0 }) 5) (Refused (LimitNotBelow (record { 0 = 0 })))
    ∷ []

-- what it leaves
abbrev pub the_root_keeps_its_maximum_left : Left
the_root_keeps_its_maximum_left = record {
  graph =
      object directory None (Refers None ∷ Refers None ∷ [])
      ∷ [];
  made = 1 ∷ 0 ∷ 0 ∷ 0 ∷ 0 ∷ [];
  registers = [];
  done = 1 ∷ 0 ∷ 0 ∷ [];
  owners = Kernel ∷ user 0 ∷ user 1 ∷ user 2 ∷ shared 0 ∷ [];
  phases = Unmade ∷ [];
  ended = [];
  scans = [];
  closed = false;
  kernel = 32;
  uses = 120 ∷ 0 ∷ 0 ∷ [];
  maxima = 1000 ∷ 120 ∷ 400 ∷ [];
  charges = 0 ∷ 0 ∷ 0 ∷ [];
  shared_bytes = 0 ∷ [];
  exits = [];
  shares = [];
  entries = 0 ∷ [];
  pins = 0 ∷ [];
}
