-- The numbers that stand for errors, faults and replies.
use Rattle.std.specs.Prelude.{ℕ, Option, Some, None, Result, Ok, Err}
use Rattle.k_types.specs.declared.event.Event.{Event}
use Rattle.k_types.specs.declared.event.Event.TheVariants.{Done as Happened, Ended, Absorbed, Closing}
use Rattle.k_types.specs.declared.event.Fault.{Fault}
use Rattle.k_types.specs.declared.event.Fault.TheVariants.{Null, Foreign, NotSharer, NoField, WrongKind, Frozen, Segv, NotPopulating, NotFrozen, Taken, LimitFull, KernelFull, ProcNotBelow, LimitNotBelow, InUse}
use Rattle.k_types.specs.declared.event.Reply.{Reply}
use Rattle.k_types.specs.declared.event.Reply.TheVariants.{Done, Made, Loaded, Value, Refused}
use Rattle.k_types.specs.declared.names.Name.{Name}
use Rattle.k_chronicle.specs.k_keeper.OpenError.{OpenError}
use Rattle.k_chronicle.specs.k_keeper.OpenError.TheVariants.{Bad, NoMemory, Terms}
use Rattle.k_chronicle.specs.k_keeper.HostError.{HostError}
use Rattle.k_chronicle.specs.k_keeper.HostError.TheVariants.{Unknown, OwnCall, Ended as HasEnded, Phase, Full, NoMemory as LacksMemory, Orphan, Reserved, Objects, Items}
use Rattle.k_embed.specs.declared.messages.Answer.{Answer}

-- only this is said
abbrev pub plain : ℕ → ℕ → ℕ → Answer
plain status fault at = record { status = status; fault = fault; at = at; what = 0; seg = 0; serial = 0; number = 0 }

-- a number
abbrev pub of_number : ℕ → Answer
of_number n = record { status = 0; fault = 0; at = 0; what = 2; seg = 0; serial = 0; number = n }

-- there is no host: the bad line of the text, and the number of the reason
abbrev pub of_no_host : ℕ → ℕ → Answer
of_no_host line reason = record { status = 9; fault = 0; at = reason; what = 0; seg = line; serial = 0; number = 0 }

-- the bad line of the text; 0 where no line is the cause
abbrev pub line_of : OpenError → ℕ
line_of (NoMemory refused) = 0
line_of (Bad line reason) = line
line_of Terms = 0

-- the number of the reason for which the line is bad; where no line is the cause, 1 for want of memory and 2 for terms that are not fit
abbrev pub reason_of : OpenError → ℕ
reason_of (NoMemory refused) = 1
reason_of (Bad line reason) = reason
reason_of Terms = 2

-- a number, where there is one
abbrev pub of_found : Option ℕ → Answer
of_found (Some n) = of_number n
of_found None = plain 1 0 0

-- an object
abbrev pub of_name : Name → Answer
of_name x = record { status = 0; fault = 0; at = 0; what = 1; seg = x.seg.0; serial = x.serial.0; number = 0 }

-- an object, or null
abbrev pub of_target : Option Name → Answer
of_target (Some x) = of_name x
of_target None = record { status = 0; fault = 0; at = 0; what = 1; seg = 0; serial = 0; number = 0 }

-- an object, where there is one
abbrev pub of_listed : Option Name → Answer
of_listed (Some x) = of_name x
of_listed None = plain 1 0 0

-- what a register holds, where there is one
abbrev pub of_held : Option (Option Name) → Answer
of_held (Some held) = of_target held
of_held None = plain 1 0 0

-- what is told to a question; to what is none, that there is no such call
abbrev pub of_told : Option Answer → Answer
of_told (Some answer) = answer
of_told None = plain 8 0 0

-- what is lacking
abbrev pub of_error : HostError → Answer
of_error Unknown = plain 1 0 0
of_error OwnCall = plain 2 0 0
of_error HasEnded = plain 3 0 0
of_error Phase = plain 4 0 0
of_error Full = plain 5 0 0
of_error LacksMemory = plain 6 0 0
of_error Orphan = plain 7 0 0
of_error Reserved = plain 10 0 0
of_error Objects = plain 11 0 0
of_error Items = plain 12 0 0

-- the fault, with the limit, process or shared heap that it names
abbrev pub of_fault : Fault → Answer
of_fault Null = plain 0 1 0
of_fault Foreign = plain 0 2 0
of_fault (NotSharer s) = plain 0 3 s.0
of_fault NoField = plain 0 4 0
of_fault WrongKind = plain 0 5 0
of_fault Frozen = plain 0 6 0
of_fault Segv = plain 0 7 0
of_fault (NotPopulating s) = plain 0 8 s.0
of_fault (NotFrozen s) = plain 0 9 s.0
of_fault (Taken s) = plain 0 10 s.0
of_fault (LimitFull m) = plain 0 11 m.0
of_fault KernelFull = plain 0 12 0
of_fault (ProcNotBelow p) = plain 0 13 p.0
of_fault (LimitNotBelow m) = plain 0 14 m.0
of_fault (InUse m) = plain 0 15 m.0

-- the reply
abbrev pub of_reply : Reply → Answer
of_reply Done = plain 0 0 0
of_reply (Made x) = of_name x
of_reply (Loaded x) = of_target x
of_reply (Value n) = of_number n
of_reply (Refused fault) = of_fault fault

-- what an event tells
abbrev pub of_event : Event → Answer
of_event (Happened pid op reply) = of_reply reply
of_event (Ended heap objects bytes exits shares) = record { status = 0; fault = 0; at = shares; what = 3; seg = objects; serial = exits; number = bytes }
of_event (Absorbed s) = plain 0 0 0
of_event Closing = plain 0 0 0

-- what came of a call that has an event
abbrev pub of_result : Result Event HostError → Answer
of_result (Ok event) = of_event event
of_result (Err why) = of_error why
