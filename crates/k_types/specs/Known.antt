-- What names only what the trace declares.
use Rattle.std.specs.Prelude.{◌<◌, IsTrue, length, IfSome}
use Rattle.k_types.specs.declared.names.Name.{Name}
use Rattle.k_types.specs.declared.names.Phase.{Phase}
use Rattle.k_types.specs.declared.names.Phase.TheVariants.{Unmade, Populating, Frozen, Absorbed}
use Rattle.k_types.specs.declared.event.Fault.{Fault}
use Rattle.k_types.specs.declared.event.Fault.TheVariants.{Null, Foreign, NotSharer, NoField, WrongKind, Frozen as FrozenFault, Segv, NotPopulating, NotFrozen, Taken, LimitFull, KernelFull, ProcNotBelow, LimitNotBelow, InUse}
use Rattle.k_types.specs.declared.event.Reply.{Reply}
use Rattle.k_types.specs.declared.event.Reply.TheVariants.{Done as DoneReply, Made, Loaded, Value, Refused}
use Rattle.k_types.specs.declared.event.Event.{Event}
use Rattle.k_types.specs.declared.event.Event.TheVariants.{Done, Ended, Absorbed as AbsorbedEvent, Closing}
use Rattle.k_types.specs.Trace.{Trace, process_count, segment_count, IsHeap}
use Rattle.k_types.specs.Steps.{in_range}

-- the name lies in a segment of the trace
abbrev pub IsKnownName : Trace → Name → Type 0
IsKnownName trace n = n.seg.0 < segment_count trace

-- the heap, limit or process that the fault names is one of the trace's
abbrev pub IsKnownFault : Trace → Fault → Type 0
IsKnownFault trace Null = Unit {0}
IsKnownFault trace Foreign = Unit {0}
IsKnownFault trace (NotSharer s) = s.0 < trace.shared_heaps
IsKnownFault trace NoField = Unit {0}
IsKnownFault trace WrongKind = Unit {0}
IsKnownFault trace FrozenFault = Unit {0}
IsKnownFault trace Segv = Unit {0}
IsKnownFault trace (NotPopulating s) = s.0 < trace.shared_heaps
IsKnownFault trace (NotFrozen s) = s.0 < trace.shared_heaps
IsKnownFault trace (Taken s) = s.0 < trace.shared_heaps
IsKnownFault trace (LimitFull m) = m.0 < length trace.limits
IsKnownFault trace KernelFull = Unit {0}
IsKnownFault trace (ProcNotBelow q) = q.0 < process_count trace
IsKnownFault trace (LimitNotBelow m) = m.0 < length trace.limits
IsKnownFault trace (InUse m) = m.0 < length trace.limits

-- what the reply names is the trace's
abbrev pub IsKnownReply : Trace → Reply → Type 0
IsKnownReply trace DoneReply = Unit {0}
IsKnownReply trace (Made n) = IsKnownName trace n
IsKnownReply trace (Loaded r) = IfSome r (IsKnownName trace)
IsKnownReply trace (Value number) = Unit {0}
IsKnownReply trace (Refused fault) = IsKnownFault trace fault

-- what the event names is the trace's, and its registers are among those of a process
abbrev pub IsKnownEvent : Trace → Event → Type 0
IsKnownEvent trace (Done pid op reply) = (pid.0 < process_count trace) × IsTrue (in_range trace op) × IsKnownReply trace reply
IsKnownEvent trace (Ended h objects bytes exits shares) = IsHeap trace h
IsKnownEvent trace (AbsorbedEvent s) = s.0 < trace.shared_heaps
IsKnownEvent trace Closing = Unit {0}

-- the process or the root that the phase names is the trace's
abbrev pub IsKnownPhase : Trace → Phase → Type 0
IsKnownPhase trace Unmade = Unit {0}
IsKnownPhase trace (Populating p) = p.0 < process_count trace
IsKnownPhase trace (Frozen root) = IsKnownName trace root
IsKnownPhase trace Absorbed = Unit {0}
