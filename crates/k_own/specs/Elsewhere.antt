-- Accesses to objects that are not the process's own.
use Rattle.std.specs.Prelude.{◌≡◌, ◌<◌, IsFalse, Option, Some, None}
use Rattle.k_types.specs.declared.event.Fault.{Fault}
use Rattle.k_types.specs.declared.event.Fault.TheVariants.{Foreign, NotSharer}
use Rattle.k_types.specs.declared.names.Heap.{Heap}
use Rattle.k_types.specs.declared.names.Heap.TheVariants.{Kernel, User, Shared}
use Rattle.k_types.specs.declared.names.Reg.{Reg}
use Rattle.k_types.specs.declared.op.Op.{Op}
use Rattle.k_types.specs.declared.op.Op.TheVariants.{Store, Load, Put, Get}
use Rattle.k_types.specs.Local.{is_own}
use Rattle.k_commit.specs.k_book.Books.{BookRecord}
use Rattle.k_laws.specs.PartUpdates.{held_in}
use Rattle.k_commit.specs.k_heap.Heaps.{HeapRecord}
use Rattle.k_commit.specs.Met.{Before}
use Rattle.k_own.specs.Own.{IsDue}

-- the register through which the operation accesses a field
abbrev pub base_of : Op → Option Reg
base_of (Store base i value) = Some base
base_of (Load r base i) = Some base
base_of (Put base i number) = Some base
base_of (Get base i) = Some base
base_of _ = None

-- the operation is due, and the register through which it accesses a field holds an object that is not the process's own
pub record IsAway (before : Before) (cell : HeapRecord) (book : BookRecord) (op : Op) (base : Reg) : Type 0 where
  pub due : IsDue before cell book op
  pub accesses : base_of op ≡ Some base
  pub register : base.0 < 16
  pub away : IsFalse (is_own before.cell.pid.0 (held_in before.cell.value.process base.0))

-- the fault of an access to an object that such a heap owns and of which no cell is touched
abbrev pub fault_of_owner : Heap → Fault
fault_of_owner Kernel = Foreign
fault_of_owner (User q) = Foreign
fault_of_owner (Shared s) = NotSharer s
