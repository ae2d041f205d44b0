-- Histories about limits and the ceiling.
use Rattle.std.specs.Prelude.{List, [], ◌∷◌, Some, None, false}
use Rattle.k_types.specs.declared.names.Heap.TheVariants.{Kernel}
use Rattle.k_types.specs.declared.op.Op.TheVariants.{New, KNew}
use Rattle.k_types.specs.declared.event.Fault.TheVariants.{LimitFull, KernelFull}
use Rattle.k_types.specs.declared.event.Reply.TheVariants.{Made, Refused}
use Rattle.k_types.specs.declared.event.Event.{Event}
use Rattle.k_types.specs.declared.names.Phase.TheVariants.{Unmade}
use Rattle.k_types.specs.State.{Refers, Holds}
use Rattle.k_types.specs.Owners.{user, shared}
use Rattle.k_types.specs.Names.{directory}
use Rattle.k_rows.specs.Words.{name, reg, node, did}
use Rattle.k_rows.specs.Lefts.{Left, object, holding}

-- A soft limit charges upward: what its process allocates counts at its parent too.
abbrev pub a_soft_limit_charges_upward : List Event
a_soft_limit_charges_upward =
    did 1 (New (reg 0) node) (Made (name 2 1))
    ∷ []

-- what it leaves
abbrev pub a_soft_limit_charges_upward_left : Left
a_soft_limit_charges_upward_left = record {
  graph =
      object directory None (Refers None ∷ Refers None ∷ [])
      ∷ object (name 2 1) (Some node) (Refers None ∷ Refers None ∷ Holds 0 ∷ [])
      ∷ [];
  made = 1 ∷ 0 ∷ 1 ∷ 0 ∷ [];
  registers = holding 1 0 (name 2 1) ∷ [];
  done = 0 ∷ 1 ∷ [];
  owners = Kernel ∷ user 0 ∷ user 1 ∷ shared 0 ∷ [];
  phases = Unmade ∷ [];
  ended = [];
  scans = [];
  closed = false;
  kernel = 32;
  uses = 160 ∷ 0 ∷ 40 ∷ [];
  maxima = 1000 ∷ 120 ∷ 400 ∷ [];
  charges = 0 ∷ 40 ∷ [];
  shared_bytes = 0 ∷ [];
  exits = [];
  shares = [];
  entries = 0 ∷ 0 ∷ [];
  pins = 0 ∷ 0 ∷ [];
}

-- Boundary of a hard limit: the third object fits exactly, the fourth does not.
abbrev pub boundary_of_a_hard_limit : List Event
boundary_of_a_hard_limit =
    did 0 (New (reg 0) node) (Made (name 1 1))
    ∷ did 0 (New (reg 1) node) (Made (name 1 2))
    ∷ did 0 (New (reg 2) node) (Made (name 1 3))
    ∷ did 0 (New (reg 3) node) (Refused (LimitFull (record { 0 = 1 })))
    ∷ []

-- what it leaves
abbrev pub boundary_of_a_hard_limit_left : Left
boundary_of_a_hard_limit_left = record {
  graph =
      object directory None (Refers None ∷ Refers None ∷ [])
      ∷ object (name 1 1) (Some node) (Refers None ∷ Refers None ∷ Holds 0 ∷ [])
      ∷ object (name 1 2) (Some node) (Refers None ∷ Refers None ∷ Holds 0 ∷ [])
      ∷ object (name 1 3) (Some node) (Refers None ∷ Refers None ∷ Holds 0 ∷ [])
      ∷ [];
  made = 1 ∷ 3 ∷ 0 ∷ 0 ∷ [];
  registers = holding 0 0 (name 1 1) ∷ holding 0 1 (name 1 2) ∷ holding 0 2 (name 1 3) ∷ [];
  done = 4 ∷ 0 ∷ [];
  owners = Kernel ∷ user 0 ∷ user 1 ∷ shared 0 ∷ [];
  phases = Unmade ∷ [];
  ended = [];
  scans = [];
  closed = false;
  kernel = 32;
  uses = 120 ∷ 120 ∷ 0 ∷ [];
  maxima = 1000 ∷ 120 ∷ 400 ∷ [];
  charges = 120 ∷ 0 ∷ [];
  shared_bytes = 0 ∷ [];
  exits = [];
  shares = [];
  entries = 0 ∷ 0 ∷ 0 ∷ 0 ∷ [];
  pins = 0 ∷ 0 ∷ 0 ∷ 0 ∷ [];
}

-- A soft limit that is not full is stopped by a full one above it, which the fault names.
abbrev pub a_full_limit_above_a_soft_one : List Event
a_full_limit_above_a_soft_one =
    did 1 (New (reg 0) node) (Made (name 2 1))
    ∷ did 1 (New (reg 1) node) (Refused (LimitFull (record { 0 = 2 })))
    ∷ []

-- what it leaves
abbrev pub a_full_limit_above_a_soft_one_left : Left
a_full_limit_above_a_soft_one_left = record {
  graph =
      object directory None (Refers None ∷ Refers None ∷ [])
      ∷ object (name 2 1) (Some node) (Refers None ∷ Refers None ∷ Holds 0 ∷ [])
      ∷ [];
  made = 1 ∷ 0 ∷ 1 ∷ 0 ∷ [];
  registers = holding 1 0 (name 2 1) ∷ [];
  done = 0 ∷ 2 ∷ [];
  owners = Kernel ∷ user 0 ∷ user 1 ∷ shared 0 ∷ [];
  phases = Unmade ∷ [];
  ended = [];
  scans = [];
  closed = false;
  kernel = 32;
  uses = 160 ∷ 0 ∷ 40 ∷ 40 ∷ [];
  maxima = 1000 ∷ 120 ∷ 40 ∷ 500 ∷ [];
  charges = 0 ∷ 40 ∷ [];
  shared_bytes = 0 ∷ [];
  exits = [];
  shares = [];
  entries = 0 ∷ 0 ∷ [];
  pins = 0 ∷ 0 ∷ [];
}

-- What hard limits reserve counts at their parent, also where nothing is charged.
abbrev pub reservations_fill_a_limit : List Event
reservations_fill_a_limit =
    did 1 (New (reg 0) node) (Refused (LimitFull (record { 0 = 2 })))
    ∷ []

-- what it leaves
abbrev pub reservations_fill_a_limit_left : Left
reservations_fill_a_limit_left = record {
  graph =
      object directory None (Refers None ∷ Refers None ∷ [])
      ∷ [];
  made = 1 ∷ 0 ∷ 0 ∷ 0 ∷ [];
  registers = [];
  done = 0 ∷ 1 ∷ [];
  owners = Kernel ∷ user 0 ∷ user 1 ∷ shared 0 ∷ [];
  phases = Unmade ∷ [];
  ended = [];
  scans = [];
  closed = false;
  kernel = 32;
  uses = 520 ∷ 0 ∷ 400 ∷ 0 ∷ 0 ∷ [];
  maxima = 1000 ∷ 120 ∷ 400 ∷ 300 ∷ 100 ∷ [];
  charges = 0 ∷ 0 ∷ [];
  shared_bytes = 0 ∷ [];
  exits = [];
  shares = [];
  entries = 0 ∷ [];
  pins = 0 ∷ [];
}

-- The kernel heap takes allocations up to its ceiling, and no limit is charged for them.
abbrev pub the_ceiling : List Event
the_ceiling =
    did 0 (KNew (reg 0) node) (Made (name 0 2))
    ∷ did 0 (KNew (reg 0) node) (Made (name 0 3))
    ∷ did 0 (KNew (reg 0) node) (Made (name 0 4))
    ∷ did 0 (KNew (reg 0) node) (Made (name 0 5))
    ∷ did 0 (KNew (reg 0) node) (Refused KernelFull)
    ∷ []

-- what it leaves
abbrev pub the_ceiling_left : Left
the_ceiling_left = record {
  graph =
      object directory None (Refers None ∷ Refers None ∷ [])
      ∷ object (name 0 2) (Some node) (Refers None ∷ Refers None ∷ Holds 0 ∷ [])
      ∷ object (name 0 3) (Some node) (Refers None ∷ Refers None ∷ Holds 0 ∷ [])
      ∷ object (name 0 4) (Some node) (Refers None ∷ Refers None ∷ Holds 0 ∷ [])
      ∷ object (name 0 5) (Some node) (Refers None ∷ Refers None ∷ Holds 0 ∷ [])
      ∷ [];
  made = 5 ∷ 0 ∷ 0 ∷ 0 ∷ [];
  registers = holding 0 0 (name 0 5) ∷ [];
  done = 5 ∷ 0 ∷ [];
  owners = Kernel ∷ user 0 ∷ user 1 ∷ shared 0 ∷ [];
  phases = Unmade ∷ [];
  ended = [];
  scans = [];
  closed = false;
  kernel = 192;
  uses = 120 ∷ 0 ∷ 0 ∷ [];
  maxima = 1000 ∷ 120 ∷ 400 ∷ [];
  charges = 0 ∷ 0 ∷ [];
  shared_bytes = 0 ∷ [];
  exits = [];
  shares = [];
  entries = 0 ∷ 0 ∷ 0 ∷ 0 ∷ 0 ∷ [];
  pins = 0 ∷ 0 ∷ 0 ∷ 0 ∷ 1 ∷ [];
}
