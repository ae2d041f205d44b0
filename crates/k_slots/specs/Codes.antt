-- The numbers that stand for what comes of a call over parts.
use Rattle.std.specs.Prelude.{ℕ, Option, Some, None, Result, Ok, Err}
use Rattle.std.specs.Bool.{⊤}
use Rattle.k_types.specs.declared.event.Event.{Event}
use Rattle.k_types.specs.declared.event.Reply.{Reply}
use Rattle.k_embed.specs.declared.messages.Answer.{Answer}
use Rattle.k_embed.specs.Codes.{of_error, of_event, of_number, of_reply, plain}
use Rattle.k_parts.specs.Came.{Came}
use Rattle.k_parts.specs.Came.TheVariants.{Did, Needs}
use Rattle.k_parts.specs.HostError.{HostError}
use Rattle.k_operate.specs.Reach.{Reach}
use Rattle.k_operate.specs.Reach.TheVariants.{End, Kernel, Own, Shared}
use Rattle.k_parts.specs.declared.errors.PartError.{PartError}
use Rattle.k_parts.specs.declared.errors.PartError.TheVariants.{Host, Mixed}

-- the parts are not of one host, or not of the kinds that the call is lent
abbrev pub of_mixed : Answer
of_mixed = plain 17 0 0

-- the call needs other parts than it was lent, beside the process's: 1 the book's alone, 2 the kernel's too, 3 that shared heap's too, 4 that process's,
-- which it ends, and the kernel's
abbrev pub of_needs : ℕ → ℕ → Answer
of_needs part at = record { status = 18; fault = 0; at = at; what = 5; seg = part; serial = 0; number = 0 }

abbrev pub of_reach : Reach → Answer
of_reach Own = of_needs 1 0
of_reach Kernel = of_needs 2 0
of_reach (Shared id) = of_needs 3 id.0
of_reach (End pid) = of_needs 4 pid.0

-- the operation was done, or it needs another part
abbrev pub of_came : Came → Answer
of_came (Did event) = of_event event
of_came (Needs reached) = of_reach reached

-- the operation was done inside the heap, or it needs the book
abbrev pub of_inside : Option Reply → Answer
of_inside (Some reply) = of_reply reply
of_inside None = of_needs 1 0

abbrev pub of_part_error : PartError → Answer
of_part_error (Host why) = of_error why
of_part_error Mixed = of_mixed

-- what came of an operation
abbrev pub of_operated : Result Came PartError → Answer
of_operated (Ok came) = of_came came
of_operated (Err why) = of_part_error why

-- what came of an operation that was tried inside the heap
abbrev pub of_tried : Result (Option Reply) HostError → Answer
of_tried (Ok answer) = of_inside answer
of_tried (Err why) = of_error why

-- what a process is charged
abbrev pub of_charge : Result ℕ PartError → Answer
of_charge (Ok bytes) = of_number bytes
of_charge (Err why) = of_part_error why

-- what came of a call that has an event
abbrev pub of_happened : Result Event PartError → Answer
of_happened (Ok event) = of_event event
of_happened (Err why) = of_part_error why

-- what came of a call with nothing to tell
abbrev pub of_done : Result ⊤ PartError → Answer
of_done (Ok nothing) = plain 0 0 0
of_done (Err why) = of_part_error why
