-- Histories about what ends: processes, objects and the run.
use Rattle.std.specs.Prelude.{List, [], ◌∷◌, Some, None, true, false}
use Rattle.k_types.specs.declared.names.Heap.TheVariants.{Kernel}
use Rattle.k_types.specs.declared.op.Op.TheVariants.{New, SNew, Store, Load, Clear, Dir, Collect, KCollect, Share, Freeze, Attach, Exit}
use Rattle.k_types.specs.declared.event.Reply.TheVariants.{Done as Fine, Made, Loaded}
use Rattle.k_types.specs.declared.event.Event.{Event}
use Rattle.k_types.specs.declared.event.Event.TheVariants.{Ended, Absorbed, Closing}
use Rattle.k_types.specs.declared.names.Phase.TheVariants.{Unmade, Frozen, Absorbed as AbsorbedPhase}
use Rattle.k_types.specs.State.{Refers, Holds}
use Rattle.k_types.specs.Owners.{user, shared}
use Rattle.k_types.specs.Names.{directory}
use Rattle.k_rows.specs.Words.{name, reg, node, s, t, did}
use Rattle.k_rows.specs.Lefts.{Left, object, item, sharing, holding}

-- A dead process's object that another holds is the kernel's, and open to everybody.
abbrev pub object_of_a_dead_process : List Event
object_of_a_dead_process =
    did 0 (New (reg 0) node) (Made (name 1 1))
    ∷ did 0 (New (reg 1) node) (Made (name 1 2))
    ∷ did 0 (Store (reg 0) 0 (reg 1)) Fine
    ∷ did 0 (Dir (reg 2)) (Loaded (Some directory))
    ∷ did 0 (Store (reg 2) 0 (reg 0)) Fine
    ∷ did 1 (Dir (reg 0)) (Loaded (Some directory))
    ∷ did 1 (Load (reg 1) (reg 0) 0) (Loaded (Some (name 1 1)))
    ∷ did 0 Exit Fine
    ∷ did 1 (Load (reg 2) (reg 1) 0) (Loaded (Some (name 1 2)))
    ∷ did 1 (Store (reg 0) 0 (reg 3)) Fine
    ∷ did 1 KCollect Fine
    ∷ Ended Kernel 0 0 0 0
    ∷ []

-- what it leaves
abbrev pub object_of_a_dead_process_left : Left
object_of_a_dead_process_left = record {
  graph =
      object directory None (Refers None ∷ Refers None ∷ [])
      ∷ object (name 1 1) (Some node) (Refers (Some (name 1 2)) ∷ Refers None ∷ Holds 0 ∷ [])
      ∷ object (name 1 2) (Some node) (Refers None ∷ Refers None ∷ Holds 0 ∷ [])
      ∷ [];
  made = 1 ∷ 2 ∷ 0 ∷ 0 ∷ [];
  registers = holding 1 0 directory ∷ holding 1 1 (name 1 1) ∷ holding 1 2 (name 1 2) ∷ [];
  done = 6 ∷ 5 ∷ [];
  owners = Kernel ∷ Kernel ∷ user 1 ∷ shared 0 ∷ [];
  phases = Unmade ∷ [];
  ended = 0 ∷ [];
  scans = [];
  closed = false;
  kernel = 112;
  uses = 120 ∷ 0 ∷ 0 ∷ [];
  maxima = 1000 ∷ 120 ∷ 400 ∷ [];
  charges = 0 ∷ 0 ∷ [];
  shared_bytes = 0 ∷ [];
  exits = [];
  shares = [];
  entries = 0 ∷ 0 ∷ 0 ∷ [];
  pins = 1 ∷ 1 ∷ 1 ∷ [];
}

-- An exit item into a shared heap becomes the kernel's when its process ends.
abbrev pub an_exit_passes_an_item_on : List Event
an_exit_passes_an_item_on =
    did 0 (Share s) Fine
    ∷ did 0 (SNew (reg 0) s node) (Made (name 3 1))
    ∷ did 0 (Freeze s (reg 0)) Fine
    ∷ did 1 (Attach (reg 0) s) (Loaded (Some (name 3 1)))
    ∷ did 1 (New (reg 1) node) (Made (name 2 1))
    ∷ did 1 (Store (reg 1) 0 (reg 0)) Fine
    ∷ did 1 Exit Fine
    ∷ []

-- what it leaves
abbrev pub an_exit_passes_an_item_on_left : Left
an_exit_passes_an_item_on_left = record {
  graph =
      object directory None (Refers None ∷ Refers None ∷ [])
      ∷ object (name 2 1) (Some node) (Refers (Some (name 3 1)) ∷ Refers None ∷ Holds 0 ∷ [])
      ∷ object (name 3 1) (Some node) (Refers None ∷ Refers None ∷ Holds 0 ∷ [])
      ∷ [];
  made = 1 ∷ 0 ∷ 1 ∷ 1 ∷ [];
  registers = holding 0 0 (name 3 1) ∷ [];
  done = 3 ∷ 4 ∷ [];
  owners = Kernel ∷ user 0 ∷ Kernel ∷ shared 0 ∷ [];
  phases = Frozen (name 3 1) ∷ [];
  ended = 1 ∷ [];
  scans = [];
  closed = false;
  kernel = 72;
  uses = 120 ∷ 40 ∷ 0 ∷ [];
  maxima = 1000 ∷ 120 ∷ 400 ∷ [];
  charges = 40 ∷ 0 ∷ [];
  shared_bytes = 40 ∷ [];
  exits = item Kernel (name 3 1) ∷ [];
  shares = sharing 0 0 ∷ [];
  entries = 0 ∷ 0 ∷ 1 ∷ [];
  pins = 0 ∷ 0 ∷ 1 ∷ [];
}

-- An object that is made after another was freed has a serial of its own.
abbrev pub a_serial_is_not_given_again : List Event
a_serial_is_not_given_again =
    did 0 (New (reg 0) node) (Made (name 1 1))
    ∷ did 0 (Clear (reg 0)) Fine
    ∷ did 0 Collect Fine
    ∷ Ended (user 0) 1 40 0 0
    ∷ did 0 (New (reg 0) node) (Made (name 1 2))
    ∷ []

-- what it leaves
abbrev pub a_serial_is_not_given_again_left : Left
a_serial_is_not_given_again_left = record {
  graph =
      object directory None (Refers None ∷ Refers None ∷ [])
      ∷ object (name 1 2) (Some node) (Refers None ∷ Refers None ∷ Holds 0 ∷ [])
      ∷ [];
  made = 1 ∷ 2 ∷ 0 ∷ 0 ∷ [];
  registers = holding 0 0 (name 1 2) ∷ [];
  done = 4 ∷ 0 ∷ [];
  owners = Kernel ∷ user 0 ∷ user 1 ∷ shared 0 ∷ [];
  phases = Unmade ∷ [];
  ended = [];
  scans = [];
  closed = false;
  kernel = 32;
  uses = 120 ∷ 40 ∷ 0 ∷ [];
  maxima = 1000 ∷ 120 ∷ 400 ∷ [];
  charges = 40 ∷ 0 ∷ [];
  shared_bytes = 0 ∷ [];
  exits = [];
  shares = [];
  entries = 0 ∷ 0 ∷ [];
  pins = 0 ∷ 0 ∷ [];
}

-- Both processes end, and the last collection frees what the first left to the kernel.
abbrev pub last_collection : List Event
last_collection =
    did 0 (New (reg 0) node) (Made (name 1 1))
    ∷ did 0 (Dir (reg 1)) (Loaded (Some directory))
    ∷ did 0 (Store (reg 0) 0 (reg 1)) Fine
    ∷ did 1 Exit Fine
    ∷ did 0 Exit Fine
    ∷ Closing
    ∷ Ended Kernel 1 40 0 0
    ∷ []

-- what it leaves
abbrev pub last_collection_left : Left
last_collection_left = record {
  graph =
      object directory None (Refers None ∷ Refers None ∷ [])
      ∷ [];
  made = 1 ∷ 1 ∷ 0 ∷ 0 ∷ [];
  registers = [];
  done = 4 ∷ 1 ∷ [];
  owners = Kernel ∷ Kernel ∷ Kernel ∷ shared 0 ∷ [];
  phases = Unmade ∷ [];
  ended = 1 ∷ 0 ∷ [];
  scans = [];
  closed = true;
  kernel = 32;
  uses = 120 ∷ 0 ∷ 0 ∷ [];
  maxima = 1000 ∷ 120 ∷ 400 ∷ [];
  charges = 0 ∷ 0 ∷ [];
  shared_bytes = 0 ∷ [];
  exits = [];
  shares = [];
  entries = 0 ∷ [];
  pins = 0 ∷ [];
}

-- Where all processes have ended the orphans are absorbed by rising number, and then the last collection comes.
abbrev pub orphans_before_the_closing : List Event
orphans_before_the_closing =
    did 0 (Share s) Fine
    ∷ did 0 (SNew (reg 0) s node) (Made (name 3 1))
    ∷ did 0 (Share t) Fine
    ∷ did 0 Exit Fine
    ∷ did 1 Exit Fine
    ∷ Absorbed s
    ∷ Absorbed t
    ∷ Closing
    ∷ Ended Kernel 1 40 0 0
    ∷ []

-- what it leaves
abbrev pub orphans_before_the_closing_left : Left
orphans_before_the_closing_left = record {
  graph =
      object directory None (Refers None ∷ Refers None ∷ [])
      ∷ [];
  made = 1 ∷ 0 ∷ 0 ∷ 1 ∷ 0 ∷ [];
  registers = [];
  done = 4 ∷ 1 ∷ [];
  owners = Kernel ∷ Kernel ∷ Kernel ∷ Kernel ∷ Kernel ∷ [];
  phases = AbsorbedPhase ∷ AbsorbedPhase ∷ [];
  ended = 0 ∷ 1 ∷ [];
  scans = [];
  closed = true;
  kernel = 32;
  uses = 120 ∷ 0 ∷ 0 ∷ [];
  maxima = 1000 ∷ 120 ∷ 400 ∷ [];
  charges = 0 ∷ 0 ∷ [];
  shared_bytes = 0 ∷ 0 ∷ [];
  exits = [];
  shares = [];
  entries = 0 ∷ [];
  pins = 0 ∷ [];
}
