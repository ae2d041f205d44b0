-- The event that the words of a line are.
use Rattle.std.specs.Prelude.{ℕ, ◌^◌, ◌==◌, ◌&&◌, Bool, List, length, drop, option_map, Option, Some, None, Result, Ok, Err, if◌then◌else◌, codes}
use Rattle.std.specs.List.{before_first, after_first}
use Rattle.std.specs.Str.{bytes_eq}
use Rattle.k_types.specs.declared.names.Name.{Name}
use Rattle.k_types.specs.declared.names.Heap.{Heap}
use Rattle.k_types.specs.declared.names.Heap.TheVariants.{Kernel, User, Shared}
use Rattle.k_types.specs.declared.op.Op.{Op}
use Rattle.k_types.specs.declared.event.Fault.{Fault}
use Rattle.k_types.specs.declared.event.Fault.TheVariants.{Null, Foreign, NotSharer, NoField, WrongKind, Frozen, Segv, NotPopulating, NotFrozen, Taken, LimitFull, KernelFull, ProcNotBelow, LimitNotBelow, InUse}
use Rattle.k_types.specs.declared.event.Reply.{Reply}
use Rattle.k_types.specs.declared.event.Reply.TheVariants.{Done as DoneReply, Made, Loaded, Value, Refused}
use Rattle.k_types.specs.declared.event.Event.{Event}
use Rattle.k_types.specs.declared.event.Event.TheVariants.{Done, Ended, Absorbed, Closing}
use Rattle.k_words.specs.Words.{Text, word_at}
use Rattle.k_words.specs.Numbers.{is_below, value}
use Rattle.k_words.specs.Names.{declares, number_of, numbered}
use Rattle.k_trace.specs.Named.{DeclaredNames}
use Rattle.k_trace.specs.Numbered.{limit_named, proc_named, shared_named}
use Rattle.k_trace.specs.Forms.{op_of}
use Rattle.k_text.specs.Named.{segment_names}
use Rattle.k_reports.specs.Spelled.{makes}

-- The segment of that name: the kernel's, that of a process or that of a shared heap.
abbrev pub segment_named : DeclaredNames → Text → Option ℕ
segment_named names w = numbered (segment_names names) w

-- The object of this serial in that segment.
abbrev pub name_in : ℕ → ℕ → Name
name_in serial seg = record { seg = record { 0 = seg }; serial = record { 0 = serial } }

-- The byte is a dot.
abbrev pub is_dot : ℕ → Bool
is_dot b = b == 46

-- The object's name that the word is: a segment's name, a dot and a serial below 2^32, 0 among them.
unfoldable pub name_of_word : DeclaredNames → Text → Option Name
name_of_word names w =
    if is_below (2 ^ 32) (after_first is_dot w)
    then option_map (name_in (value (after_first is_dot w))) (segment_named names (before_first is_dot w))
    else None

-- The heap of that name.
unfoldable pub heap_named : DeclaredNames → Text → Option Heap
heap_named names w =
    if bytes_eq w (codes "kernel") then Some Kernel
    else if declares names.procs w then option_map User (proc_named names w)
    else option_map Shared (shared_named names w)

-- The fault that one word says.
unfoldable pub bare_fault : Text → Option Fault
bare_fault w =
    if bytes_eq w (codes "Null") then Some Null
    else if bytes_eq w (codes "Foreign") then Some Foreign
    else if bytes_eq w (codes "NoField") then Some NoField
    else if bytes_eq w (codes "WrongKind") then Some WrongKind
    else if bytes_eq w (codes "Frozen") then Some Frozen
    else if bytes_eq w (codes "Segv") then Some Segv
    else if bytes_eq w (codes "KernelFull") then Some KernelFull
    else None

-- The fault that a word says of what has that name, a limit, a shared heap or a process.
unfoldable pub fault_at : DeclaredNames → Text → Text → Option Fault
fault_at names w name =
    if bytes_eq w (codes "LimitFull") then option_map LimitFull (limit_named names name)
    else if bytes_eq w (codes "NotSharer") then option_map NotSharer (shared_named names name)
    else if bytes_eq w (codes "NotPopulating") then option_map NotPopulating (shared_named names name)
    else if bytes_eq w (codes "NotFrozen") then option_map NotFrozen (shared_named names name)
    else if bytes_eq w (codes "Taken") then option_map Taken (shared_named names name)
    else if bytes_eq w (codes "ProcNotBelow") then option_map ProcNotBelow (proc_named names name)
    else if bytes_eq w (codes "LimitNotBelow") then option_map LimitNotBelow (limit_named names name)
    else if bytes_eq w (codes "InUse") then option_map InUse (limit_named names name)
    else None

-- The fault that the words are.
unfoldable pub fault_of : DeclaredNames → List Text → Option Fault
fault_of names ws =
    if length ws == 1 then bare_fault (word_at ws 0)
    else if length ws == 2 then fault_at names (word_at ws 0) (word_at ws 1)
    else None

-- A name as reply: the object made after an operation that makes one, and one that was loaded after any other.
abbrev pub reply_with : Op → Name → Reply
reply_with op n = if makes op then Made n else Loaded (Some n)

-- The reply that one word is, after the operation.
unfoldable pub word_reply : DeclaredNames → Op → Text → Option Reply
word_reply names op w =
    if bytes_eq w (codes "ok") then Some DoneReply
    else if bytes_eq w (codes "null") then Some (Loaded None)
    else if is_below (2 ^ 64) w then Some (Value (value w))
    else option_map (reply_with op) (name_of_word names w)

-- The reply that the words are, after the operation.
unfoldable pub reply_of : DeclaredNames → Op → List Text → Option Reply
reply_of names op ws =
    if bytes_eq (word_at ws 0) (codes "fault") then option_map Refused (fault_of names (drop 1 ws))
    else if length ws == 1 then word_reply names op (word_at ws 0)
    else None

-- The end of a collection that the words are.
unfoldable pub ended_of : DeclaredNames → List Text → Option Event
ended_of names ws =
    if (length ws == 6) && is_below (2 ^ 32) (word_at ws 2) && is_below (2 ^ 64) (word_at ws 3) && is_below (2 ^ 32) (word_at ws 4) && is_below (2 ^ 32) (word_at ws 5)
    then option_map (λ h. Ended h (value (word_at ws 2)) (value (word_at ws 3)) (value (word_at ws 4)) (value (word_at ws 5))) (heap_named names (word_at ws 1))
    else None

-- The absorption that the words are.
unfoldable pub absorbed_of : DeclaredNames → List Text → Option Event
absorbed_of names ws = if length ws == 2 then option_map Absorbed (shared_named names (word_at ws 1)) else None

-- The opening of the last collection, which is one word.
unfoldable pub closing_of : List Text → Option Event
closing_of ws = if length ws == 1 then Some Closing else None

-- The word is the equals sign before a reply.
abbrev pub is_equals : Text → Bool
is_equals w = bytes_eq w (codes "=")

-- The operation of the process of that name, with the reply that the words are.
abbrev pub done_with : {E : Type 0} → DeclaredNames → Text → Result Op E → List Text → Option Event
done_with names name (Err reason) reply = None
done_with names name (Ok op) reply =
    if declares names.procs name then option_map (Done (record { 0 = number_of names.procs name }) op) (reply_of names op reply) else None

-- The operation and its reply that the words are: a process's name and an operation's words, the first equals sign, and a
-- reply's words.
unfoldable pub done_of : DeclaredNames → List Text → Option Event
done_of names ws =
    done_with names (word_at (before_first is_equals ws) 0) (op_of names (drop 1 (before_first is_equals ws))) (after_first is_equals ws)

-- The event that the words are.
unfoldable pub event_of : DeclaredNames → List Text → Option Event
event_of names ws =
    if bytes_eq (word_at ws 0) (codes "ended") then ended_of names ws
    else if bytes_eq (word_at ws 0) (codes "absorbed") then absorbed_of names ws
    else if bytes_eq (word_at ws 0) (codes "closing") then closing_of ws
    else done_of names ws
