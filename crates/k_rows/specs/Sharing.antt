-- Histories about shared heaps.
use Rattle.std.specs.Prelude.{List, [], ◌∷◌, ◌++◌, Some, None, false}
use Rattle.k_types.specs.declared.names.Heap.TheVariants.{Kernel}
use Rattle.k_types.specs.declared.op.Op.TheVariants.{New, SNew, Store, Clear, Put, Get, Collect, KCollect, Share, Freeze, Attach, Exit}
use Rattle.k_types.specs.declared.event.Fault.TheVariants.{Null, Frozen as FrozenFault, Segv, NotPopulating, NotFrozen, Taken, LimitFull}
use Rattle.k_types.specs.declared.event.Reply.TheVariants.{Done as Fine, Made, Loaded, Value, Refused}
use Rattle.k_types.specs.declared.event.Event.{Event}
use Rattle.k_types.specs.declared.event.Event.TheVariants.{Ended, Absorbed}
use Rattle.k_types.specs.declared.names.Phase.TheVariants.{Populating, Frozen, Absorbed as AbsorbedPhase}
use Rattle.k_types.specs.State.{Refers, Holds}
use Rattle.k_types.specs.Owners.{user, shared}
use Rattle.k_types.specs.Names.{directory}
use Rattle.k_rows.specs.Words.{name, reg, node, s, t, did}
use Rattle.k_rows.specs.Lefts.{Left, object, sharing, holding}

-- Every sharer pays in full.
abbrev pub every_sharer_pays : List Event
every_sharer_pays =
    did 0 (Share s) Fine
    ∷ did 0 (SNew (reg 0) s node) (Made (name 3 1))
    ∷ did 0 (SNew (reg 1) s node) (Made (name 3 2))
    ∷ did 0 (Store (reg 0) 0 (reg 1)) Fine
    ∷ did 0 (Freeze s (reg 0)) Fine
    ∷ did 1 (Attach (reg 0) s) (Loaded (Some (name 3 1)))
    ∷ []

-- what it leaves
abbrev pub every_sharer_pays_left : Left
every_sharer_pays_left = record {
  graph =
      object directory None (Refers None ∷ Refers None ∷ [])
      ∷ object (name 3 1) (Some node) (Refers (Some (name 3 2)) ∷ Refers None ∷ Holds 0 ∷ [])
      ∷ object (name 3 2) (Some node) (Refers None ∷ Refers None ∷ Holds 0 ∷ [])
      ∷ [];
  made = 1 ∷ 0 ∷ 0 ∷ 2 ∷ [];
  registers = holding 0 0 (name 3 1) ∷ holding 0 1 (name 3 2) ∷ holding 1 0 (name 3 1) ∷ [];
  done = 5 ∷ 1 ∷ [];
  owners = Kernel ∷ user 0 ∷ user 1 ∷ shared 0 ∷ [];
  phases = Frozen (name 3 1) ∷ [];
  ended = [];
  scans = [];
  closed = false;
  kernel = 32;
  uses = 200 ∷ 80 ∷ 80 ∷ [];
  maxima = 1000 ∷ 120 ∷ 400 ∷ [];
  charges = 80 ∷ 80 ∷ [];
  shared_bytes = 80 ∷ [];
  exits = [];
  shares = sharing 0 0 ∷ sharing 1 0 ∷ [];
  entries = 0 ∷ 0 ∷ 0 ∷ [];
  pins = 0 ∷ 2 ∷ 1 ∷ [];
}

-- A process whose limit has no room for the whole shared heap does not attach.
abbrev pub a_sharer_that_does_not_fit : List Event
a_sharer_that_does_not_fit =
    did 0 (Share s) Fine
    ∷ did 0 (SNew (reg 0) s node) (Made (name 3 1))
    ∷ did 0 (SNew (reg 1) s node) (Made (name 3 2))
    ∷ did 0 (Store (reg 0) 0 (reg 1)) Fine
    ∷ did 0 (Freeze s (reg 0)) Fine
    ∷ did 1 (Attach (reg 0) s) (Refused (LimitFull (record { 0 = 2 })))
    ∷ []

-- what it leaves
abbrev pub a_sharer_that_does_not_fit_left : Left
a_sharer_that_does_not_fit_left = record {
  graph =
      object directory None (Refers None ∷ Refers None ∷ [])
      ∷ object (name 3 1) (Some node) (Refers (Some (name 3 2)) ∷ Refers None ∷ Holds 0 ∷ [])
      ∷ object (name 3 2) (Some node) (Refers None ∷ Refers None ∷ Holds 0 ∷ [])
      ∷ [];
  made = 1 ∷ 0 ∷ 0 ∷ 2 ∷ [];
  registers = holding 0 0 (name 3 1) ∷ holding 0 1 (name 3 2) ∷ [];
  done = 5 ∷ 1 ∷ [];
  owners = Kernel ∷ user 0 ∷ user 1 ∷ shared 0 ∷ [];
  phases = Frozen (name 3 1) ∷ [];
  ended = [];
  scans = [];
  closed = false;
  kernel = 32;
  uses = 120 ∷ 80 ∷ 0 ∷ [];
  maxima = 1000 ∷ 120 ∷ 60 ∷ [];
  charges = 80 ∷ 0 ∷ [];
  shared_bytes = 80 ∷ [];
  exits = [];
  shares = sharing 0 0 ∷ [];
  entries = 0 ∷ 0 ∷ 0 ∷ [];
  pins = 0 ∷ 1 ∷ 1 ∷ [];
}

-- A process that shares the heap attaches again for nothing, though its limit is full.
abbrev pub attached_again : List Event
attached_again =
    did 0 (Share s) Fine
    ∷ did 0 (SNew (reg 0) s node) (Made (name 3 1))
    ∷ did 0 (SNew (reg 1) s node) (Made (name 3 2))
    ∷ did 0 (Store (reg 0) 0 (reg 1)) Fine
    ∷ did 0 (Freeze s (reg 0)) Fine
    ∷ did 1 (Attach (reg 0) s) (Loaded (Some (name 3 1)))
    ∷ did 1 (Attach (reg 1) s) (Loaded (Some (name 3 1)))
    ∷ []

-- what it leaves
abbrev pub attached_again_left : Left
attached_again_left = record {
  graph =
      object directory None (Refers None ∷ Refers None ∷ [])
      ∷ object (name 3 1) (Some node) (Refers (Some (name 3 2)) ∷ Refers None ∷ Holds 0 ∷ [])
      ∷ object (name 3 2) (Some node) (Refers None ∷ Refers None ∷ Holds 0 ∷ [])
      ∷ [];
  made = 1 ∷ 0 ∷ 0 ∷ 2 ∷ [];
  registers = holding 0 0 (name 3 1) ∷ holding 0 1 (name 3 2) ∷ holding 1 0 (name 3 1) ∷ holding 1 1 (name 3 1) ∷ [];
  done = 5 ∷ 2 ∷ [];
  owners = Kernel ∷ user 0 ∷ user 1 ∷ shared 0 ∷ [];
  phases = Frozen (name 3 1) ∷ [];
  ended = [];
  scans = [];
  closed = false;
  kernel = 32;
  uses = 200 ∷ 80 ∷ 80 ∷ [];
  maxima = 1000 ∷ 120 ∷ 80 ∷ [];
  charges = 80 ∷ 80 ∷ [];
  shared_bytes = 80 ∷ [];
  exits = [];
  shares = sharing 0 0 ∷ sharing 1 0 ∷ [];
  entries = 0 ∷ 0 ∷ 0 ∷ [];
  pins = 0 ∷ 3 ∷ 1 ∷ [];
}

-- A frozen heap takes integers and no references; a sharer without a way into it gives up its share; its last sharer
-- ends, and the kernel absorbs it.
abbrev pub orphaned_and_absorbed : List Event
orphaned_and_absorbed =
    every_sharer_pays ++
    did 0 (Store (reg 0) 1 (reg 0)) (Refused FrozenFault)
    ∷ did 0 (Put (reg 0) 2 7) Fine
    ∷ did 1 (Get (reg 0) 2) (Value 7)
    ∷ did 1 (Clear (reg 0)) Fine
    ∷ did 1 Collect Fine
    ∷ Ended (user 1) 0 0 0 1
    ∷ did 0 Exit Fine
    ∷ Absorbed s
    ∷ did 1 KCollect Fine
    ∷ Ended Kernel 2 80 0 0
    ∷ []

-- what it leaves
abbrev pub orphaned_and_absorbed_left : Left
orphaned_and_absorbed_left = record {
  graph =
      object directory None (Refers None ∷ Refers None ∷ [])
      ∷ [];
  made = 1 ∷ 0 ∷ 0 ∷ 2 ∷ [];
  registers = [];
  done = 8 ∷ 5 ∷ [];
  owners = Kernel ∷ Kernel ∷ user 1 ∷ Kernel ∷ [];
  phases = AbsorbedPhase ∷ [];
  ended = 0 ∷ [];
  scans = [];
  closed = false;
  kernel = 32;
  uses = 120 ∷ 0 ∷ 0 ∷ [];
  maxima = 1000 ∷ 120 ∷ 400 ∷ [];
  charges = 0 ∷ 0 ∷ [];
  shared_bytes = 0 ∷ [];
  exits = [];
  shares = [];
  entries = 0 ∷ [];
  pins = 0 ∷ [];
}

-- An absorbed heap can neither be attached nor taken again.
abbrev pub absorbed_for_good : List Event
absorbed_for_good =
    orphaned_and_absorbed ++
    did 1 (Attach (reg 0) s) (Refused (NotFrozen s))
    ∷ did 1 (Share s) (Refused (Taken s))
    ∷ []

-- what it leaves
abbrev pub absorbed_for_good_left : Left
absorbed_for_good_left = record {
  graph =
      object directory None (Refers None ∷ Refers None ∷ [])
      ∷ [];
  made = 1 ∷ 0 ∷ 0 ∷ 2 ∷ [];
  registers = [];
  done = 8 ∷ 7 ∷ [];
  owners = Kernel ∷ Kernel ∷ user 1 ∷ Kernel ∷ [];
  phases = AbsorbedPhase ∷ [];
  ended = 0 ∷ [];
  scans = [];
  closed = false;
  kernel = 32;
  uses = 120 ∷ 0 ∷ 0 ∷ [];
  maxima = 1000 ∷ 120 ∷ 400 ∷ [];
  charges = 0 ∷ 0 ∷ [];
  shared_bytes = 0 ∷ [];
  exits = [];
  shares = [];
  entries = 0 ∷ [];
  pins = 0 ∷ [];
}

-- What is refused in each phase of a shared heap.
abbrev pub phases_of_a_shared_heap : List Event
phases_of_a_shared_heap =
    did 0 (Share s) Fine
    ∷ did 1 (Share s) (Refused (Taken s))
    ∷ did 1 (Attach (reg 0) s) (Refused (NotFrozen s))
    ∷ did 1 (SNew (reg 0) s node) (Refused (NotPopulating s))
    ∷ did 1 (Freeze s (reg 0)) (Refused Null)
    ∷ []

-- what it leaves
abbrev pub phases_of_a_shared_heap_left : Left
phases_of_a_shared_heap_left = record {
  graph =
      object directory None (Refers None ∷ Refers None ∷ [])
      ∷ [];
  made = 1 ∷ 0 ∷ 0 ∷ 0 ∷ [];
  registers = [];
  done = 1 ∷ 4 ∷ [];
  owners = Kernel ∷ user 0 ∷ user 1 ∷ shared 0 ∷ [];
  phases = Populating (record { 0 = 0 }) ∷ [];
  ended = [];
  scans = [];
  closed = false;
  kernel = 32;
  uses = 120 ∷ 0 ∷ 0 ∷ [];
  maxima = 1000 ∷ 120 ∷ 400 ∷ [];
  charges = 0 ∷ 0 ∷ [];
  shared_bytes = 0 ∷ [];
  exits = [];
  shares = sharing 0 0 ∷ [];
  entries = 0 ∷ [];
  pins = 0 ∷ [];
}

-- A freeze is refused for a root that is null or lies elsewhere; after the freeze nobody populates the heap any more,
-- so a second freeze is refused, and so is an allocation there.
abbrev pub refused_freezes : List Event
refused_freezes =
    did 0 (Share s) Fine
    ∷ did 0 (SNew (reg 0) s node) (Made (name 3 1))
    ∷ did 0 (New (reg 1) node) (Made (name 1 1))
    ∷ did 0 (Freeze s (reg 5)) (Refused Null)
    ∷ did 0 (Freeze s (reg 1)) (Refused Segv)
    ∷ did 0 (Freeze s (reg 0)) Fine
    ∷ did 0 (Freeze s (reg 0)) (Refused (NotPopulating s))
    ∷ did 0 (SNew (reg 2) s node) (Refused (NotPopulating s))
    ∷ []

-- what it leaves
abbrev pub refused_freezes_left : Left
refused_freezes_left = record {
  graph =
      object directory None (Refers None ∷ Refers None ∷ [])
      ∷ object (name 1 1) (Some node) (Refers None ∷ Refers None ∷ Holds 0 ∷ [])
      ∷ object (name 3 1) (Some node) (Refers None ∷ Refers None ∷ Holds 0 ∷ [])
      ∷ [];
  made = 1 ∷ 1 ∷ 0 ∷ 1 ∷ [];
  registers = holding 0 0 (name 3 1) ∷ holding 0 1 (name 1 1) ∷ [];
  done = 8 ∷ 0 ∷ [];
  owners = Kernel ∷ user 0 ∷ user 1 ∷ shared 0 ∷ [];
  phases = Frozen (name 3 1) ∷ [];
  ended = [];
  scans = [];
  closed = false;
  kernel = 32;
  uses = 120 ∷ 80 ∷ 0 ∷ [];
  maxima = 1000 ∷ 120 ∷ 400 ∷ [];
  charges = 80 ∷ 0 ∷ [];
  shared_bytes = 40 ∷ [];
  exits = [];
  shares = sharing 0 0 ∷ [];
  entries = 0 ∷ 0 ∷ 0 ∷ [];
  pins = 0 ∷ 0 ∷ 1 ∷ [];
}

-- Before a collection of the kernel all orphans are absorbed, the one with the lower number first.
abbrev pub two_orphans_are_absorbed : List Event
two_orphans_are_absorbed =
    did 0 (Share s) Fine
    ∷ did 0 (SNew (reg 0) s node) (Made (name 3 1))
    ∷ did 0 (Share t) Fine
    ∷ did 0 (SNew (reg 1) t node) (Made (name 4 1))
    ∷ did 0 Exit Fine
    ∷ Absorbed s
    ∷ Absorbed t
    ∷ did 1 KCollect Fine
    ∷ Ended Kernel 2 80 0 0
    ∷ []

-- what it leaves
abbrev pub two_orphans_are_absorbed_left : Left
two_orphans_are_absorbed_left = record {
  graph =
      object directory None (Refers None ∷ Refers None ∷ [])
      ∷ [];
  made = 1 ∷ 0 ∷ 0 ∷ 1 ∷ 1 ∷ [];
  registers = [];
  done = 5 ∷ 1 ∷ [];
  owners = Kernel ∷ Kernel ∷ user 1 ∷ Kernel ∷ Kernel ∷ [];
  phases = AbsorbedPhase ∷ AbsorbedPhase ∷ [];
  ended = 0 ∷ [];
  scans = [];
  closed = false;
  kernel = 32;
  uses = 120 ∷ 0 ∷ 0 ∷ [];
  maxima = 1000 ∷ 120 ∷ 400 ∷ [];
  charges = 0 ∷ 0 ∷ [];
  shared_bytes = 0 ∷ 0 ∷ [];
  exits = [];
  shares = [];
  entries = 0 ∷ [];
  pins = 0 ∷ [];
}
