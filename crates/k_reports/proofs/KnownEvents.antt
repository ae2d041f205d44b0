-- An event that names what the trace declares, with its numbers in range, is one that a line can spell.
use Rattle.std.proofs.Common.{◌≡◌, suc, ◌+◌, ◌<◌, ◌^◌, ◌++◌, length, Some, None, arith, length-append}
use Rattle.k_types.specs.declared.names.Name.{Name}
use Rattle.k_types.specs.declared.names.Heap.{Heap}
use Rattle.k_types.specs.declared.names.Heap.TheVariants.{Kernel, User, Shared}
use Rattle.k_types.specs.declared.op.Op.{Op}
use Rattle.k_types.specs.declared.event.Fault.{Fault}
use Rattle.k_types.specs.declared.event.Fault.TheVariants.{NotSharer, NotPopulating, NotFrozen, Taken, LimitFull, ProcNotBelow, LimitNotBelow, InUse}
use Rattle.k_types.specs.declared.event.Reply.{Reply}
use Rattle.k_types.specs.declared.event.Reply.TheVariants.{Done as DoneReply, Made, Loaded, Value, Refused}
use Rattle.k_types.specs.declared.event.Event.{Event}
use Rattle.k_types.specs.declared.event.Event.TheVariants.{Done, Ended, Absorbed, Closing}
use Rattle.k_types.specs.Trace.{IsHeap}
use Rattle.k_types.specs.Known.{IsKnownName, IsKnownFault, IsKnownReply, IsKnownEvent}
use Rattle.k_trace.specs.Named.{NamedTrace}
use Rattle.k_trace.specs.Rules.{IsTrace}
use Rattle.k_reader.proofs.OpForms.{AreNamed}
use Rattle.k_text.specs.Named.{IsNamedHeap, IsNamedFault}
use Rattle.k_reports.specs.Spelled.{IsSpelledName, IsSpelledReply, IsSpelledEvent, IsReplyInRange, IsInRange}
use Rattle.k_reports.proofs.SpelledOps.{spelled_op}

named : (t : NamedTrace) → IsTrace t → AreNamed t
named t h = record { types = h.types_named; limits = h.limits_named; procs = h.procs_named; shared = h.shared_named }

known_name : (t : NamedTrace) (n : Name) → IsTrace t → IsKnownName t.trace n → n.serial.0 < 2 ^ 32 → IsSpelledName t.names n
known_name t n is known lt =
    let all : length (t.names.procs ++ t.names.shared) ≡ length t.names.procs + length t.names.shared = length-append t.names.procs t.names.shared in
    let there : n.seg.0 < suc (length (t.names.procs ++ t.names.shared)) = omega (arith, all, known, is.procs_named, is.shared_named) in
    (there, lt)

known_fault : (t : NamedTrace) (f : Fault) → IsTrace t → IsKnownFault t.trace f → IsNamedFault t.names f
known_fault t (NotSharer s) is known = omega (arith, known, is.shared_named)
known_fault t (NotPopulating s) is known = omega (arith, known, is.shared_named)
known_fault t (NotFrozen s) is known = omega (arith, known, is.shared_named)
known_fault t (Taken s) is known = omega (arith, known, is.shared_named)
known_fault t (LimitFull m) is known = omega (arith, known, is.limits_named)
known_fault t (ProcNotBelow q) is known = omega (arith, known, is.procs_named)
known_fault t (LimitNotBelow m) is known = omega (arith, known, is.limits_named)
known_fault t (InUse m) is known = omega (arith, known, is.limits_named)
known_fault t _ is known = tt

known_reply : (t : NamedTrace) (op : Op) (reply : Reply) → IsTrace t → IsKnownReply t.trace reply → IsReplyInRange op reply → IsSpelledReply t.names op reply
known_reply t op DoneReply is known ranged = tt
known_reply t op (Made n) is known ranged = (ranged.0, known_name t n is known ranged.1)
known_reply t op (Loaded None) is known ranged = tt
known_reply t op (Loaded (Some n)) is known ranged = (ranged.0, known_name t n is known ranged.1)
known_reply t op (Value number) is known ranged = ranged
known_reply t op (Refused fault) is known ranged = known_fault t fault is known

known_heap : (t : NamedTrace) (h : Heap) → IsTrace t → IsHeap t.trace h → IsNamedHeap t.names h
known_heap t Kernel is known = tt
known_heap t (User p) is known = omega (arith, known, is.procs_named)
known_heap t (Shared s) is known = omega (arith, known, is.shared_named)

-- A known event with its numbers in range can be spelled.
pub known_event : (t : NamedTrace) (e : Event) → IsTrace t → IsKnownEvent t.trace e → IsInRange e → IsSpelledEvent t.names e
known_event t (Done pid op reply) is known ranged =
    let p : pid.0 < length t.names.procs = omega (arith, known.0, is.procs_named) in
    (p, spelled_op t op (named t is) known.1 ranged.0, known_reply t op reply is known.2 ranged.1)
known_event t (Ended h objects bytes exits shares) is known ranged = (known_heap t h is known, ranged.0, ranged.1, ranged.2, ranged.3)
known_event t (Absorbed s) is known ranged = omega (arith, known, is.shared_named)
known_event t Closing is known ranged = tt
