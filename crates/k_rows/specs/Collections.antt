-- Histories that are not in the order of the file: other events happen while a collection is open.
use Rattle.std.specs.Prelude.{List, [], ◌∷◌, ◌++◌, Some, None, false}
use Rattle.k_types.specs.declared.names.Heap.TheVariants.{Kernel}
use Rattle.k_types.specs.declared.op.Op.TheVariants.{New, Store, Clear, Dir, Collect, KCollect}
use Rattle.k_types.specs.declared.event.Reply.TheVariants.{Done as Fine, Made, Loaded}
use Rattle.k_types.specs.declared.event.Event.{Event}
use Rattle.k_types.specs.declared.event.Event.TheVariants.{Ended}
use Rattle.k_types.specs.declared.names.Phase.TheVariants.{Unmade}
use Rattle.k_types.specs.State.{Refers, Holds}
use Rattle.k_types.specs.Owners.{user, shared}
use Rattle.k_types.specs.Names.{directory}
use Rattle.k_rows.specs.Words.{name, reg, node, did}
use Rattle.k_rows.specs.Lefts.{Left, object, item, holding, scan}

-- While a collection of one heap is open the other process works on.
abbrev pub work_beside_a_collection : List Event
work_beside_a_collection =
    did 0 (New (reg 0) node) (Made (name 1 1))
    ∷ did 0 Collect Fine
    ∷ did 1 (New (reg 0) node) (Made (name 2 1))
    ∷ Ended (user 0) 0 0 0 0
    ∷ did 1 (Clear (reg 0)) Fine
    ∷ []

-- what it leaves
abbrev pub work_beside_a_collection_left : Left
work_beside_a_collection_left = record {
  graph =
      object directory None (Refers None ∷ Refers None ∷ [])
      ∷ object (name 1 1) (Some node) (Refers None ∷ Refers None ∷ Holds 0 ∷ [])
      ∷ object (name 2 1) (Some node) (Refers None ∷ Refers None ∷ Holds 0 ∷ [])
      ∷ [];
  made = 1 ∷ 1 ∷ 1 ∷ 0 ∷ [];
  registers = holding 0 0 (name 1 1) ∷ [];
  done = 2 ∷ 2 ∷ [];
  owners = Kernel ∷ user 0 ∷ user 1 ∷ shared 0 ∷ [];
  phases = Unmade ∷ [];
  ended = [];
  scans = [];
  closed = false;
  kernel = 32;
  uses = 160 ∷ 40 ∷ 40 ∷ [];
  maxima = 1000 ∷ 120 ∷ 400 ∷ [];
  charges = 40 ∷ 40 ∷ [];
  shared_bytes = 0 ∷ [];
  exits = [];
  shares = [];
  entries = 0 ∷ 0 ∷ 0 ∷ [];
  pins = 0 ∷ 0 ∷ 0 ∷ [];
}

-- Collections of a user heap and of the kernel are open at once, each with the roots that it began with.
abbrev pub two_open_collections : List Event
two_open_collections =
    did 0 (New (reg 0) node) (Made (name 1 1))
    ∷ did 0 (Dir (reg 1)) (Loaded (Some directory))
    ∷ did 0 (Store (reg 1) 0 (reg 0)) Fine
    ∷ did 0 (Clear (reg 0)) Fine
    ∷ did 0 (Store (reg 1) 0 (reg 0)) Fine
    ∷ did 0 Collect Fine
    ∷ did 1 KCollect Fine
    ∷ []

-- what it leaves
abbrev pub two_open_collections_left : Left
two_open_collections_left = record {
  graph =
      object directory None (Refers None ∷ Refers None ∷ [])
      ∷ object (name 1 1) (Some node) (Refers None ∷ Refers None ∷ Holds 0 ∷ [])
      ∷ [];
  made = 1 ∷ 1 ∷ 0 ∷ 0 ∷ [];
  registers = holding 0 1 directory ∷ [];
  done = 6 ∷ 1 ∷ [];
  owners = Kernel ∷ user 0 ∷ user 1 ∷ shared 0 ∷ [];
  phases = Unmade ∷ [];
  ended = [];
  scans = scan Kernel (directory ∷ []) ∷ scan (user 0) ((name 1 1) ∷ []) ∷ [];
  closed = false;
  kernel = 32;
  uses = 120 ∷ 40 ∷ 0 ∷ [];
  maxima = 1000 ∷ 120 ∷ 400 ∷ [];
  charges = 40 ∷ 0 ∷ [];
  shared_bytes = 0 ∷ [];
  exits = item Kernel (name 1 1) ∷ [];
  shares = [];
  entries = 0 ∷ 1 ∷ [];
  pins = 1 ∷ 0 ∷ [];
}

-- The kernel's collection drops an exit item while the user heap is scanned: that scan frees nothing, its next frees
-- the object.
abbrev pub a_root_that_was_dropped_meanwhile : List Event
a_root_that_was_dropped_meanwhile =
    two_open_collections ++
    Ended Kernel 0 0 1 0
    ∷ Ended (user 0) 0 0 0 0
    ∷ did 0 Collect Fine
    ∷ Ended (user 0) 1 40 0 0
    ∷ []

-- what it leaves
abbrev pub a_root_that_was_dropped_meanwhile_left : Left
a_root_that_was_dropped_meanwhile_left = record {
  graph =
      object directory None (Refers None ∷ Refers None ∷ [])
      ∷ [];
  made = 1 ∷ 1 ∷ 0 ∷ 0 ∷ [];
  registers = holding 0 1 directory ∷ [];
  done = 7 ∷ 1 ∷ [];
  owners = Kernel ∷ user 0 ∷ user 1 ∷ shared 0 ∷ [];
  phases = Unmade ∷ [];
  ended = [];
  scans = [];
  closed = false;
  kernel = 32;
  uses = 120 ∷ 0 ∷ 0 ∷ [];
  maxima = 1000 ∷ 120 ∷ 400 ∷ [];
  charges = 0 ∷ 0 ∷ [];
  shared_bytes = 0 ∷ [];
  exits = [];
  shares = [];
  entries = 0 ∷ [];
  pins = 1 ∷ [];
}
