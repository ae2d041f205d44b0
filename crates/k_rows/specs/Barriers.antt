-- Histories about the write barrier, exit items and faults.
use Rattle.std.specs.Prelude.{List, [], ◌∷◌, ◌++◌, Some, None, false}
use Rattle.k_types.specs.declared.names.Heap.TheVariants.{Kernel}
use Rattle.k_types.specs.declared.op.Op.TheVariants.{New, KNew, SNew, Store, Load, Clear, Dir, Put, Get, Collect, KCollect, Share, Freeze, Attach, Exit}
use Rattle.k_types.specs.declared.event.Fault.TheVariants.{Null, Foreign, NotSharer, NoField, WrongKind, Segv}
use Rattle.k_types.specs.declared.event.Reply.TheVariants.{Done as Fine, Made, Loaded, Value, Refused}
use Rattle.k_types.specs.declared.event.Event.{Event}
use Rattle.k_types.specs.declared.event.Event.TheVariants.{Ended}
use Rattle.k_types.specs.declared.names.Phase.TheVariants.{Unmade, Populating, Frozen}
use Rattle.k_types.specs.State.{Refers, Holds}
use Rattle.k_types.specs.Owners.{user, shared}
use Rattle.k_types.specs.Names.{directory}
use Rattle.k_rows.specs.Words.{name, reg, node, s, t, did}
use Rattle.k_rows.specs.Lefts.{Left, object, item, sharing, holding}

-- The barrier judges stores, and nothing judges loads into registers.
abbrev pub barrier : List Event
barrier =
    did 0 (New (reg 0) node) (Made (name 1 1))
    ∷ did 0 (Dir (reg 1)) (Loaded (Some directory))
    ∷ did 0 (Store (reg 1) 0 (reg 0)) Fine
    ∷ did 1 (Dir (reg 1)) (Loaded (Some directory))
    ∷ did 1 (Load (reg 2) (reg 1) 0) (Loaded (Some (name 1 1)))
    ∷ did 1 (New (reg 0) node) (Made (name 2 1))
    ∷ did 1 (Store (reg 0) 0 (reg 2)) (Refused Segv)
    ∷ did 1 (Load (reg 3) (reg 2) 0) (Refused Foreign)
    ∷ []

-- what it leaves
abbrev pub barrier_left : Left
barrier_left = record {
  graph =
      object directory None (Refers (Some (name 1 1)) ∷ Refers None ∷ [])
      ∷ object (name 1 1) (Some node) (Refers None ∷ Refers None ∷ Holds 0 ∷ [])
      ∷ object (name 2 1) (Some node) (Refers None ∷ Refers None ∷ Holds 0 ∷ [])
      ∷ [];
  made = 1 ∷ 1 ∷ 1 ∷ 0 ∷ [];
  registers = holding 0 0 (name 1 1) ∷ holding 0 1 directory ∷ holding 1 0 (name 2 1) ∷ holding 1 1 directory ∷ holding 1 2 (name 1 1) ∷ [];
  done = 3 ∷ 5 ∷ [];
  owners = Kernel ∷ user 0 ∷ user 1 ∷ shared 0 ∷ [];
  phases = Unmade ∷ [];
  ended = [];
  scans = [];
  closed = false;
  kernel = 32;
  uses = 160 ∷ 40 ∷ 40 ∷ [];
  maxima = 1000 ∷ 120 ∷ 400 ∷ [];
  charges = 40 ∷ 40 ∷ [];
  shared_bytes = 0 ∷ [];
  exits = item Kernel (name 1 1) ∷ [];
  shares = [];
  entries = 0 ∷ 1 ∷ 0 ∷ [];
  pins = 2 ∷ 1 ∷ 0 ∷ [];
}

-- After the barrier: the entry item, and later a register of the other process alone, keep the object.
abbrev pub kept_from_outside : List Event
kept_from_outside =
    barrier ++
    did 0 (Clear (reg 0)) Fine
    ∷ did 0 Collect Fine
    ∷ Ended (user 0) 0 0 0 0
    ∷ did 0 (Store (reg 1) 0 (reg 0)) Fine
    ∷ did 0 KCollect Fine
    ∷ Ended Kernel 0 0 1 0
    ∷ did 0 Collect Fine
    ∷ Ended (user 0) 0 0 0 0
    ∷ did 1 (Clear (reg 2)) Fine
    ∷ did 0 Collect Fine
    ∷ Ended (user 0) 1 40 0 0
    ∷ []

-- what it leaves
abbrev pub kept_from_outside_left : Left
kept_from_outside_left = record {
  graph =
      object directory None (Refers None ∷ Refers None ∷ [])
      ∷ object (name 2 1) (Some node) (Refers None ∷ Refers None ∷ Holds 0 ∷ [])
      ∷ [];
  made = 1 ∷ 1 ∷ 1 ∷ 0 ∷ [];
  registers = holding 0 1 directory ∷ holding 1 0 (name 2 1) ∷ holding 1 1 directory ∷ [];
  done = 9 ∷ 6 ∷ [];
  owners = Kernel ∷ user 0 ∷ user 1 ∷ shared 0 ∷ [];
  phases = Unmade ∷ [];
  ended = [];
  scans = [];
  closed = false;
  kernel = 32;
  uses = 160 ∷ 0 ∷ 40 ∷ [];
  maxima = 1000 ∷ 120 ∷ 400 ∷ [];
  charges = 0 ∷ 40 ∷ [];
  shared_bytes = 0 ∷ [];
  exits = [];
  shares = [];
  entries = 0 ∷ 0 ∷ [];
  pins = 2 ∷ 0 ∷ [];
}

-- After the barrier: a stale exit item of the kernel alone keeps the object, until the kernel is collected.
abbrev pub stale_exit_item : List Event
stale_exit_item =
    barrier ++
    did 1 (Clear (reg 2)) Fine
    ∷ did 0 (Clear (reg 0)) Fine
    ∷ did 0 (Store (reg 1) 0 (reg 0)) Fine
    ∷ did 0 Collect Fine
    ∷ Ended (user 0) 0 0 0 0
    ∷ did 0 KCollect Fine
    ∷ Ended Kernel 0 0 1 0
    ∷ did 0 Collect Fine
    ∷ Ended (user 0) 1 40 0 0
    ∷ []

-- what it leaves
abbrev pub stale_exit_item_left : Left
stale_exit_item_left = record {
  graph =
      object directory None (Refers None ∷ Refers None ∷ [])
      ∷ object (name 2 1) (Some node) (Refers None ∷ Refers None ∷ Holds 0 ∷ [])
      ∷ [];
  made = 1 ∷ 1 ∷ 1 ∷ 0 ∷ [];
  registers = holding 0 1 directory ∷ holding 1 0 (name 2 1) ∷ holding 1 1 directory ∷ [];
  done = 8 ∷ 6 ∷ [];
  owners = Kernel ∷ user 0 ∷ user 1 ∷ shared 0 ∷ [];
  phases = Unmade ∷ [];
  ended = [];
  scans = [];
  closed = false;
  kernel = 32;
  uses = 160 ∷ 0 ∷ 40 ∷ [];
  maxima = 1000 ∷ 120 ∷ 400 ∷ [];
  charges = 0 ∷ 40 ∷ [];
  shared_bytes = 0 ∷ [];
  exits = [];
  shares = [];
  entries = 0 ∷ 0 ∷ [];
  pins = 2 ∷ 0 ∷ [];
}

-- A cycle between a user heap and the kernel goes once its process has ended.
abbrev pub cycle_with_the_kernel : List Event
cycle_with_the_kernel =
    did 0 (New (reg 0) node) (Made (name 1 1))
    ∷ did 0 (KNew (reg 1) node) (Made (name 0 2))
    ∷ did 0 (Store (reg 0) 0 (reg 1)) Fine
    ∷ did 0 (Store (reg 1) 0 (reg 0)) Fine
    ∷ did 0 (Clear (reg 0)) Fine
    ∷ did 0 (Clear (reg 1)) Fine
    ∷ did 0 Collect Fine
    ∷ Ended (user 0) 0 0 0 0
    ∷ did 0 KCollect Fine
    ∷ Ended Kernel 0 0 0 0
    ∷ did 0 Exit Fine
    ∷ did 1 KCollect Fine
    ∷ Ended Kernel 2 80 0 0
    ∷ []

-- what it leaves
abbrev pub cycle_with_the_kernel_left : Left
cycle_with_the_kernel_left = record {
  graph =
      object directory None (Refers None ∷ Refers None ∷ [])
      ∷ [];
  made = 2 ∷ 1 ∷ 0 ∷ 0 ∷ [];
  registers = [];
  done = 9 ∷ 1 ∷ [];
  owners = Kernel ∷ Kernel ∷ user 1 ∷ shared 0 ∷ [];
  phases = Unmade ∷ [];
  ended = 0 ∷ [];
  scans = [];
  closed = false;
  kernel = 32;
  uses = 120 ∷ 0 ∷ 0 ∷ [];
  maxima = 1000 ∷ 120 ∷ 400 ∷ [];
  charges = 0 ∷ 0 ∷ [];
  shared_bytes = 0 ∷ [];
  exits = [];
  shares = [];
  entries = 0 ∷ [];
  pins = 0 ∷ [];
}

-- Where several faults apply the lowest is the answer.
abbrev pub order_of_faults : List Event
order_of_faults =
    did 0 (Load (reg 0) (reg 9) 7) (Refused Null)
    ∷ did 0 (New (reg 0) node) (Made (name 1 1))
    ∷ did 0 (Load (reg 1) (reg 0) 3) (Refused NoField)
    ∷ did 0 (Put (reg 0) 0 5) (Refused WrongKind)
    ∷ did 0 (Store (reg 0) 2 (reg 0)) (Refused WrongKind)
    ∷ did 0 (Store (reg 0) 0 (reg 5)) Fine
    ∷ []

-- what it leaves
abbrev pub order_of_faults_left : Left
order_of_faults_left = record {
  graph =
      object directory None (Refers None ∷ Refers None ∷ [])
      ∷ object (name 1 1) (Some node) (Refers None ∷ Refers None ∷ Holds 0 ∷ [])
      ∷ [];
  made = 1 ∷ 1 ∷ 0 ∷ 0 ∷ [];
  registers = holding 0 0 (name 1 1) ∷ [];
  done = 6 ∷ 0 ∷ [];
  owners = Kernel ∷ user 0 ∷ user 1 ∷ shared 0 ∷ [];
  phases = Unmade ∷ [];
  ended = [];
  scans = [];
  closed = false;
  kernel = 32;
  uses = 120 ∷ 40 ∷ 0 ∷ [];
  maxima = 1000 ∷ 120 ∷ 400 ∷ [];
  charges = 40 ∷ 0 ∷ [];
  shared_bytes = 0 ∷ [];
  exits = [];
  shares = [];
  entries = 0 ∷ 0 ∷ [];
  pins = 0 ∷ 0 ∷ [];
}

-- A register may lead into a shared heap that its process does not share, but no field there can be used before it
-- attaches.
abbrev pub a_heap_that_is_not_shared : List Event
a_heap_that_is_not_shared =
    did 0 (Share s) Fine
    ∷ did 0 (SNew (reg 0) s node) (Made (name 3 1))
    ∷ did 0 (Dir (reg 1)) (Loaded (Some directory))
    ∷ did 0 (Store (reg 1) 0 (reg 0)) Fine
    ∷ did 1 (Dir (reg 1)) (Loaded (Some directory))
    ∷ did 1 (Load (reg 2) (reg 1) 0) (Loaded (Some (name 3 1)))
    ∷ did 1 (Get (reg 2) 2) (Refused (NotSharer s))
    ∷ did 0 (Freeze s (reg 0)) Fine
    ∷ did 1 (Attach (reg 3) s) (Loaded (Some (name 3 1)))
    ∷ did 1 (Get (reg 2) 2) (Value 0)
    ∷ []

-- what it leaves
abbrev pub a_heap_that_is_not_shared_left : Left
a_heap_that_is_not_shared_left = record {
  graph =
      object directory None (Refers (Some (name 3 1)) ∷ Refers None ∷ [])
      ∷ object (name 3 1) (Some node) (Refers None ∷ Refers None ∷ Holds 0 ∷ [])
      ∷ [];
  made = 1 ∷ 0 ∷ 0 ∷ 1 ∷ [];
  registers = holding 0 0 (name 3 1) ∷ holding 0 1 directory ∷ holding 1 1 directory ∷ holding 1 2 (name 3 1) ∷ holding 1 3 (name 3 1) ∷ [];
  done = 5 ∷ 5 ∷ [];
  owners = Kernel ∷ user 0 ∷ user 1 ∷ shared 0 ∷ [];
  phases = Frozen (name 3 1) ∷ [];
  ended = [];
  scans = [];
  closed = false;
  kernel = 32;
  uses = 160 ∷ 40 ∷ 40 ∷ [];
  maxima = 1000 ∷ 120 ∷ 400 ∷ [];
  charges = 40 ∷ 40 ∷ [];
  shared_bytes = 40 ∷ [];
  exits = item Kernel (name 3 1) ∷ [];
  shares = sharing 0 0 ∷ sharing 1 0 ∷ [];
  entries = 0 ∷ 1 ∷ [];
  pins = 2 ∷ 3 ∷ [];
}

-- A shared heap refers to itself and to the kernel heap, and neither to a user heap nor to another shared heap.
abbrev pub two_shared_heaps : List Event
two_shared_heaps =
    did 0 (New (reg 0) node) (Made (name 1 1))
    ∷ did 0 (Share s) Fine
    ∷ did 0 (Share t) Fine
    ∷ did 0 (SNew (reg 1) s node) (Made (name 3 1))
    ∷ did 0 (SNew (reg 2) t node) (Made (name 4 1))
    ∷ did 0 (Store (reg 1) 0 (reg 0)) (Refused Segv)
    ∷ did 0 (Store (reg 1) 0 (reg 2)) (Refused Segv)
    ∷ did 0 (Dir (reg 3)) (Loaded (Some directory))
    ∷ did 0 (Store (reg 1) 0 (reg 3)) Fine
    ∷ did 0 (Store (reg 0) 0 (reg 1)) Fine
    ∷ []

-- what it leaves
abbrev pub two_shared_heaps_left : Left
two_shared_heaps_left = record {
  graph =
      object directory None (Refers None ∷ Refers None ∷ [])
      ∷ object (name 1 1) (Some node) (Refers (Some (name 3 1)) ∷ Refers None ∷ Holds 0 ∷ [])
      ∷ object (name 3 1) (Some node) (Refers (Some directory) ∷ Refers None ∷ Holds 0 ∷ [])
      ∷ object (name 4 1) (Some node) (Refers None ∷ Refers None ∷ Holds 0 ∷ [])
      ∷ [];
  made = 1 ∷ 1 ∷ 0 ∷ 1 ∷ 1 ∷ [];
  registers = holding 0 0 (name 1 1) ∷ holding 0 1 (name 3 1) ∷ holding 0 2 (name 4 1) ∷ holding 0 3 directory ∷ [];
  done = 10 ∷ 0 ∷ [];
  owners = Kernel ∷ user 0 ∷ user 1 ∷ shared 0 ∷ shared 1 ∷ [];
  phases = Populating (record { 0 = 0 }) ∷ Populating (record { 0 = 0 }) ∷ [];
  ended = [];
  scans = [];
  closed = false;
  kernel = 32;
  uses = 120 ∷ 120 ∷ 0 ∷ [];
  maxima = 1000 ∷ 120 ∷ 400 ∷ [];
  charges = 120 ∷ 0 ∷ [];
  shared_bytes = 40 ∷ 40 ∷ [];
  exits = item (shared 0) directory ∷ item (user 0) (name 3 1) ∷ [];
  shares = sharing 0 0 ∷ sharing 0 1 ∷ [];
  entries = 1 ∷ 0 ∷ 1 ∷ 0 ∷ [];
  pins = 1 ∷ 0 ∷ 1 ∷ 1 ∷ [];
}
