-- Events in numbers: what each was asked for, and the next one that is taken out.
use Rattle.std.specs.Prelude.{ℕ, ◌+◌, ◌*◌, Option, Some, None}
use Rattle.k_types.specs.declared.event.Event.{Event}
use Rattle.k_types.specs.declared.event.Event.TheVariants.{Done as Happened, Ended, Absorbed, Closing}
use Rattle.k_types.specs.declared.names.Heap.{Heap}
use Rattle.k_types.specs.declared.names.Heap.TheVariants.{Kernel, User, Shared}
use Rattle.k_types.specs.declared.names.Pid.{Pid}
use Rattle.k_types.specs.declared.op.Op.{Op}
use Rattle.k_types.specs.declared.op.Op.TheVariants.{New, KNew, SNew, Store, Load, Move, Clear, Dir, Put, Get, Collect, KCollect, Share, Freeze, Attach, Exit, Kill, Resize}
use Rattle.k_chronicle.specs.k_keeper.k_host.declared.taking.Taken.{Taken}
use Rattle.k_embed.specs.declared.messages.Answer.{Answer}
use Rattle.k_embed.specs.Codes.{of_number, plain}

-- the numbers of a request by which something was asked for: the call's number beside 32, the process, what a request has in `at`, the first
-- register and 256 times the second, and the request's number
abbrev pub asked_by : ℕ → ℕ → ℕ → ℕ → ℕ → ℕ → Answer
asked_by call pid at reg base number = record { status = 0; fault = 0; at = pid; what = 32 + call; seg = at; serial = reg + 256 * base; number = number }

-- the numbers of a request for the operation, with those of `operation_of`; of an object in a shared heap the type is the number
abbrev pub asked_op : Pid → Op → Answer
asked_op p (New r ty) = asked_by 0 p.0 ty.0 r.0 0 0
asked_op p (KNew r ty) = asked_by 1 p.0 ty.0 r.0 0 0
asked_op p (SNew r s ty) = asked_by 2 p.0 s.0 r.0 0 ty.0
asked_op p (Store base i value) = asked_by 3 p.0 i value.0 base.0 0
asked_op p (Load r base i) = asked_by 4 p.0 i r.0 base.0 0
asked_op p (Move r from) = asked_by 5 p.0 0 r.0 from.0 0
asked_op p (Clear r) = asked_by 6 p.0 0 r.0 0 0
asked_op p (Dir r) = asked_by 7 p.0 0 r.0 0 0
asked_op p (Put base i number) = asked_by 8 p.0 i 0 base.0 number
asked_op p (Get base i) = asked_by 9 p.0 i 0 base.0 0
asked_op p Collect = asked_by 16 p.0 0 0 0 0
asked_op p KCollect = asked_by 17 p.0 0 0 0 0
asked_op p (Share s) = asked_by 10 p.0 s.0 0 0 0
asked_op p (Freeze s root) = asked_by 11 p.0 s.0 root.0 0 0
asked_op p (Attach r s) = asked_by 12 p.0 s.0 r.0 0 0
asked_op p Exit = asked_by 18 p.0 0 0 0 0
asked_op p (Kill q) = asked_by 13 p.0 q.0 0 0 0
asked_op p (Resize m max) = asked_by 14 p.0 m.0 0 0 max

-- the heap whose collection has ended: in the first register's place 0 for the kernel's, 1 for a process's and 2 for a shared one
abbrev pub of_ended : Heap → Answer
of_ended Kernel = asked_by 22 0 0 0 0 0
of_ended (User p) = asked_by 22 p.0 0 1 0 0
of_ended (Shared s) = asked_by 22 0 s.0 2 0 0

-- what the event was asked for; the end of a collection and the closing of a run are no requests, and have numbers of their own
abbrev pub asked_of : Event → Answer
asked_of (Happened pid op reply) = asked_op pid op
asked_of (Ended heap objects bytes exits shares) = of_ended heap
asked_of (Absorbed s) = asked_by 19 0 s.0 0 0 0
asked_of Closing = asked_by 23 0 0 0 0 0

-- what is told of the event, where there is one
abbrev pub of_seen : (Event → Answer) → Option Event → Answer
of_seen told (Some event) = told event
of_seen told None = plain 1 0 0

-- the number of the event that was taken out; with nothing to tell where there was none
abbrev pub of_taken : Option Taken → Answer
of_taken (Some taken) = of_number taken.number
of_taken None = plain 0 0 0
