-- By what operations may be refused.
use Rattle.std.specs.Prelude.{Bool, true, false}
use Rattle.k_types.specs.declared.event.Fault.{Fault}
use Rattle.k_types.specs.declared.event.Fault.TheVariants.{Null, Foreign, NotSharer, NoField, WrongKind, Frozen, Segv}

-- the faults of the base, of the field, of freezing and of the barrier
abbrev pub is_fault_of_store : Fault → Bool
is_fault_of_store Null = true
is_fault_of_store Foreign = true
is_fault_of_store (NotSharer s) = true
is_fault_of_store NoField = true
is_fault_of_store WrongKind = true
is_fault_of_store Frozen = true
is_fault_of_store Segv = true
is_fault_of_store _ = false
