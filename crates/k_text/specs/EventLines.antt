-- The words of the report's lines on events.
use Rattle.std.specs.Prelude.{List, [], ◌∷◌, ◌++◌, map, decimal, codes}
use Rattle.k_types.specs.declared.event.Fault.{Fault}
use Rattle.k_types.specs.declared.event.Fault.TheVariants.{Null, Foreign, NotSharer, NoField, WrongKind, Frozen, Segv, NotPopulating, NotFrozen, Taken, LimitFull, KernelFull, ProcNotBelow, LimitNotBelow, InUse}
use Rattle.k_types.specs.declared.event.Reply.{Reply}
use Rattle.k_types.specs.declared.event.Reply.TheVariants.{Done as DoneReply, Made, Loaded, Value, Refused}
use Rattle.k_types.specs.declared.event.Event.{Event}
use Rattle.k_types.specs.declared.event.Event.TheVariants.{Done, Ended, Absorbed, Closing}
use Rattle.k_words.specs.Words.{Text}
use Rattle.k_trace.specs.Named.{DeclaredNames, limit_name, proc_name, shared_name}
use Rattle.k_trace.specs.Spelling.{line_words}
use Rattle.k_text.specs.Named.{name_word, reference_word, heap_word}

-- The words of a fault.
unfoldable pub fault_words : DeclaredNames → Fault → List Text
fault_words names Null = codes "Null" ∷ []
fault_words names Foreign = codes "Foreign" ∷ []
fault_words names (NotSharer s) = codes "NotSharer" ∷ shared_name names s ∷ []
fault_words names NoField = codes "NoField" ∷ []
fault_words names WrongKind = codes "WrongKind" ∷ []
fault_words names Frozen = codes "Frozen" ∷ []
fault_words names Segv = codes "Segv" ∷ []
fault_words names (NotPopulating s) = codes "NotPopulating" ∷ shared_name names s ∷ []
fault_words names (NotFrozen s) = codes "NotFrozen" ∷ shared_name names s ∷ []
fault_words names (Taken s) = codes "Taken" ∷ shared_name names s ∷ []
fault_words names (LimitFull m) = codes "LimitFull" ∷ limit_name names m ∷ []
fault_words names KernelFull = codes "KernelFull" ∷ []
fault_words names (ProcNotBelow q) = codes "ProcNotBelow" ∷ proc_name names q ∷ []
fault_words names (LimitNotBelow m) = codes "LimitNotBelow" ∷ limit_name names m ∷ []
fault_words names (InUse m) = codes "InUse" ∷ limit_name names m ∷ []

-- The words of a reply.
unfoldable pub reply_words : DeclaredNames → Reply → List Text
reply_words names DoneReply = codes "ok" ∷ []
reply_words names (Made n) = name_word names n ∷ []
reply_words names (Loaded r) = reference_word names r ∷ []
reply_words names (Value number) = decimal number ∷ []
reply_words names (Refused fault) = codes "fault" ∷ fault_words names fault

-- The words of an event's line: an operation's as in the trace, then ` = ` and the reply.
unfoldable pub event_words : DeclaredNames → Event → List Text
event_words names (Done pid op reply) = line_words names pid.0 op ++ codes "=" ∷ reply_words names reply
event_words names (Ended h objects bytes exits shares) =
    codes "ended" ∷ heap_word names h ∷ decimal objects ∷ decimal bytes ∷ decimal exits ∷ decimal shares ∷ []
event_words names (Absorbed s) = codes "absorbed" ∷ shared_name names s ∷ []
event_words names Closing = codes "closing" ∷ []

-- The lines of the history, one for each event.
unfoldable pub event_lines : DeclaredNames → List Event → List (List Text)
event_lines names events = map (event_words names) events
