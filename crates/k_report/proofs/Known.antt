-- What the trace declares has a name, and is owned by what it declares.
use Rattle.std.proofs.Common.{◌<◌, ◌-◌, IsTrue, arith, Option, Some, None, length}
use Rattle.std.specs.Prelude.{IfSome}
use Rattle.k_types.specs.declared.op.Op.{Op}
use Rattle.k_types.specs.declared.op.Op.TheVariants.{New, KNew, SNew, Share, Freeze, Attach, Kill, Resize}
use Rattle.k_types.specs.Trace.{Trace, IsHeap}
use Rattle.k_types.specs.declared.names.TypeId.{TypeId}
use Rattle.k_types.specs.declared.names.Heap.{Heap}
use Rattle.k_types.specs.declared.names.Heap.TheVariants.{Kernel, User, Shared}
use Rattle.k_types.specs.declared.event.Fault.{Fault}
use Rattle.k_types.specs.declared.event.Fault.TheVariants.{NotSharer, NotPopulating, NotFrozen, Taken, LimitFull, ProcNotBelow, LimitNotBelow, InUse}
use Rattle.k_types.specs.Owners.{shared}
use Rattle.k_types.specs.Steps.{in_range}
use Rattle.k_trace.specs.Named.{DeclaredNames}
use Rattle.k_types.specs.Known.{IsKnownFault}
use Rattle.k_text.specs.Named.{AreNamed, IsNamedHeap, IsNamedFault}
use Rattle.k_trace.specs.NamedOps.{IsNamedOp}
use Rattle.std.proofs.lemmas.Grind.{common_steps}

-- an operation of the trace
pub named_op : (names : DeclaredNames) (trace : Trace) (op : Op) → AreNamed names trace → IsTrue (in_range trace op) → IsNamedOp names op
unfolding in_range
named_op names trace (New r ty) n h = let e = n.types in grind (arith, common_steps)
named_op names trace (KNew r ty) n h = let e = n.types in grind (arith, common_steps)
named_op names trace (SNew r s ty) n h = let e = n.types in let f = n.shared in grind (arith, common_steps)
named_op names trace (Share s) n h = let e = n.shared in grind (arith, common_steps)
named_op names trace (Freeze s root) n h = let e = n.shared in grind (arith, common_steps)
named_op names trace (Attach r s) n h = let e = n.shared in grind (arith, common_steps)
named_op names trace (Kill q) n h = let e = n.procs in grind (arith, common_steps)
named_op names trace (Resize m max) n h = let e = n.limits in grind (arith, common_steps)
named_op names trace _ n h = tt

-- a fault of the trace
pub named_fault : (names : DeclaredNames) (trace : Trace) (fault : Fault) → AreNamed names trace → IsKnownFault trace fault → IsNamedFault names fault
named_fault names trace (NotSharer s) n h = omega (arith, n.shared)
named_fault names trace (NotPopulating s) n h = omega (arith, n.shared)
named_fault names trace (NotFrozen s) n h = omega (arith, n.shared)
named_fault names trace (Taken s) n h = omega (arith, n.shared)
named_fault names trace (LimitFull m) n h = omega (arith, n.limits)
named_fault names trace (ProcNotBelow q) n h = omega (arith, n.procs)
named_fault names trace (LimitNotBelow m) n h = omega (arith, n.limits)
named_fault names trace (InUse m) n h = omega (arith, n.limits)
named_fault names trace _ n h = tt

-- a heap of the trace
pub named_heap : (names : DeclaredNames) (trace : Trace) (h : Heap) → AreNamed names trace → IsHeap trace h → IsNamedHeap names h
named_heap names trace Kernel n known = tt
named_heap names trace (User p) n known = omega (arith, n.procs)
named_heap names trace (Shared s) n known = omega (arith, n.shared)

-- a type of the trace
pub named_type : (names : DeclaredNames) (trace : Trace) (ty : Option TypeId) → AreNamed names trace → IfSome ty (λ t. t.0 < length trace.types) → IfSome ty (λ t. t.0 < length names.types)
named_type names trace None n known = tt
named_type names trace (Some ty) n known = omega (arith, n.types)
