-- Each line is judged after the lines before it: what is demanded of it, in the order of the reasons, and what it adds.
use Rattle.std.specs.Prelude.{◌≡◌, ℕ, ◌+◌, ◌*◌, ◌==◌, ◌&&◌, ◌||◌, not, nat_lt, nat_le, Bool, true, false, List, [], ◌∷◌, map, length, drop, Some, None, Result, Ok, Err, if◌then◌else◌, codes}
use Rattle.std.specs.List.{list_all}
use Rattle.std.specs.Str.{bytes_eq}
use Rattle.k_limits.specs.k_types.declared.names.Field.{Field}
use Rattle.k_limits.specs.k_types.declared.names.Field.TheVariants.{Ref, Int}
use Rattle.k_limits.specs.k_types.declared.names.LimitId.{LimitId}
use Rattle.k_limits.specs.k_types.declared.op.Op.{Op}
use Rattle.k_limits.specs.k_types.Bounds.{most_types, most_limits, most_processes, most_shared_heaps, most_operations, most_line_bytes, most_words, most_trace_bytes, maximum_below}
use Rattle.k_limits.specs.k_types.Trace.{operations_of}
use Rattle.k_words.specs.Words.{Text, lines_of, words_of, are_words, word_at, is_printable}
use Rattle.k_words.specs.Numbers.{is_below, value}
use Rattle.k_words.specs.Names.{is_name, is_keyword, declares, number_of}
use Rattle.k_trace.specs.declared.place.Place.{Place}
use Rattle.k_trace.specs.declared.place.Place.TheVariants.{Version, Kernel, Types, Limits, Procs, Shared, Operations}
use Rattle.k_trace.specs.Named.{NamedTrace}
use Rattle.k_trace.specs.Reasons.{reason_number}
use Rattle.k_trace.specs.Demands.{demands}
use Rattle.k_trace.specs.Forms.{op_in}
use Rattle.k_trace.specs.Grown.{blank, fits, with_version, with_kernel, with_type, with_limit, with_proc, with_shared, with_op, has_exit}
use Rattle.k_trace.specs.declared.reasons.Reason.{Reason}
use Rattle.k_trace.specs.declared.reasons.Reason.TheVariants.{TooManyBytes, LongLine, Unprintable, NoForm, NoNumber, NoName, NameTaken, Undeclared, TooMany, NoRoom, AfterExit, CutOff}

-- what the lines so far say, and where the next one stands
pub record SoFar : Type 0 where
  pub place : Place
  pub said : NamedTrace

-- before the first line
abbrev pub start : SoFar
start = record { place = Version; said = blank }

-- behind the first line of a trace of the first version
abbrev pub past_version : SoFar
past_version = record { place = Kernel; said = blank }

-- what the lines say with one more, or the lowest reason that applies to it
abbrev pub Judged : Type 0
Judged = Result SoFar Reason

-- the line is good, and leads there
abbrev pub leads : Place → NamedTrace → Judged
leads place said = Ok (record { place = place; said = said })

-- the line has so many words, of which the first is this
abbrev pub begins : List Text → ℕ → Text → Bool
begins ws count keyword = (length ws == count) && bytes_eq (word_at ws 0) keyword

-- the word is a version
abbrev pub is_version : Text → Bool
is_version w = bytes_eq w (codes "1") || bytes_eq w (codes "2")

-- the version that the word is
abbrev pub version_of : Text → ℕ
version_of w = if bytes_eq w (codes "1") then 1 else 2

-- the first line
unfoldable pub version_line : NamedTrace → List Text → Judged
version_line t ws =
    demands NoForm (begins ws 2 (codes "kaffe") && is_version (word_at ws 1)) (leads Kernel (with_version t (version_of (word_at ws 1))))

-- the line of the kernel's ceiling and of how many fields its directory has
unfoldable pub kernel_line : NamedTrace → List Text → Judged
kernel_line t ws =
    demands NoForm (begins ws 3 (codes "kernel"))
    (demands NoNumber (is_below maximum_below (word_at ws 1) && is_below 17 (word_at ws 2))
    (demands NoRoom (nat_le (16 + 8 * value (word_at ws 2)) (value (word_at ws 1)))
    (leads Types (with_kernel t (value (word_at ws 1)) (value (word_at ws 2))))))

-- the word is a kind of field
abbrev pub is_field : Text → Bool
is_field w = bytes_eq w (codes "ref") || bytes_eq w (codes "int")

-- the kind of field that the word is
abbrev pub field_of : Text → Field
field_of w = if bytes_eq w (codes "ref") then Ref else Int

-- the line of a type
unfoldable pub type_line : NamedTrace → List Text → Judged
type_line t ws =
    demands NoForm (nat_le 2 (length ws) && list_all is_field (drop 2 ws))
    (demands NoName (is_name (word_at ws 1))
    (demands NameTaken (not (declares t.names.types (word_at ws 1)))
    (demands TooMany (nat_le (length ws) most_words && nat_lt (length t.names.types) most_types)
    (leads Types (with_type t (word_at ws 1) (map field_of (drop 2 ws)))))))

-- the line of the first limit, which has no parent
unfoldable pub root_line : NamedTrace → List Text → Judged
root_line t ws =
    demands NoForm (length ws == 3)
    (demands NoNumber (is_below maximum_below (word_at ws 2))
    (demands NoName (is_name (word_at ws 1))
    (demands NameTaken (not (declares t.names.limits (word_at ws 1)))
    (demands TooMany (nat_lt (length t.names.limits) most_limits)
    (leads Limits (with_limit t (word_at ws 1) (record { parent = None; hard = true; max = value (word_at ws 2) })))))))

-- the limit of that name
abbrev pub limit_of_name : NamedTrace → Text → LimitId
limit_of_name t name = record { 0 = number_of t.names.limits name }

-- the line of a limit below another
unfoldable pub limit_line : NamedTrace → List Text → Judged
limit_line t ws =
    let hard = bytes_eq (word_at ws 3) (codes "hard") in
    demands NoForm ((length ws == 5) && (hard || bytes_eq (word_at ws 3) (codes "soft")))
    (demands NoNumber (is_below maximum_below (word_at ws 4))
    (demands NoName (is_name (word_at ws 1))
    (demands NameTaken (not (declares t.names.limits (word_at ws 1)))
    (demands Undeclared (declares t.names.limits (word_at ws 2))
    (demands TooMany (nat_lt (length t.names.limits) most_limits)
    (demands NoRoom (not hard || fits t.trace.limits (number_of t.names.limits (word_at ws 2)) (value (word_at ws 4)))
    (leads Limits (with_limit t (word_at ws 1) (record { parent = Some (limit_of_name t (word_at ws 2)); hard = hard; max = value (word_at ws 4) })))))))))

-- the line of a process
unfoldable pub proc_line : NamedTrace → List Text → Judged
proc_line t ws =
    demands NoForm (length ws == 3)
    (demands NoName (is_name (word_at ws 1))
    (demands NameTaken (not (declares t.names.procs (word_at ws 1)))
    (demands Undeclared (declares t.names.limits (word_at ws 2))
    (demands TooMany (nat_lt (length t.names.procs) most_processes)
    (leads Procs (with_proc t (word_at ws 1) (limit_of_name t (word_at ws 2))))))))

-- the line of a shared heap
unfoldable pub shared_line : NamedTrace → List Text → Judged
shared_line t ws =
    demands NoForm (length ws == 2)
    (demands NoName (is_name (word_at ws 1))
    (demands NameTaken (not (declares t.names.procs (word_at ws 1) || declares t.names.shared (word_at ws 1)))
    (demands TooMany (nat_lt (length t.names.shared) most_shared_heaps)
    (leads Shared (with_shared t (word_at ws 1))))))

-- Whatever its operation, a line names a declared process that goes on, and there is room for it.
unfoldable pub process_line : NamedTrace → Text → Op → Judged
process_line t name op =
    demands Undeclared (declares t.names.procs name)
    (demands TooMany (nat_lt (length t.trace.order) most_operations)
    (demands AfterExit (not (has_exit (operations_of t.trace (number_of t.names.procs name))))
    (leads Operations (with_op t (number_of t.names.procs name) op))))

-- and the reason of the operation's words where they are none
abbrev pub process_line_of : NamedTrace → Text → Result Op Reason → Judged
process_line_of t name (Err reason) = Err reason
process_line_of t name (Ok op) = process_line t name op

-- the line of an operation
unfoldable pub operation_line : NamedTrace → List Text → Judged
operation_line t ws = process_line_of t (word_at ws 0) (op_in t.trace.version t.names (drop 1 ws))

-- after the last process or shared heap
unfoldable pub later_line : NamedTrace → List Text → Judged
later_line t ws =
    if bytes_eq (word_at ws 0) (codes "shared") then shared_line t ws
    else if is_keyword (word_at ws 0) then Err NoForm
    else operation_line t ws

-- the line after the kernel or a type
unfoldable pub line_of_types : NamedTrace → List Text → Judged
line_of_types t ws =
    if bytes_eq (word_at ws 0) (codes "type") then type_line t ws
    else if bytes_eq (word_at ws 0) (codes "limit") then root_line t ws
    else Err NoForm

-- the line after a limit
unfoldable pub line_of_limits : NamedTrace → List Text → Judged
line_of_limits t ws =
    if bytes_eq (word_at ws 0) (codes "limit") then limit_line t ws
    else if bytes_eq (word_at ws 0) (codes "proc") then proc_line t ws
    else Err NoForm

-- the line after a process
unfoldable pub line_of_procs : NamedTrace → List Text → Judged
line_of_procs t ws = if bytes_eq (word_at ws 0) (codes "proc") then proc_line t ws else later_line t ws

-- the line that stands at that place
unfoldable pub line_in : Place → NamedTrace → List Text → Judged
line_in Version t ws = version_line t ws
line_in Kernel t ws = kernel_line t ws
line_in Types t ws = line_of_types t ws
line_in Limits t ws = line_of_limits t ws
line_in Procs t ws = line_of_procs t ws
line_in Shared t ws = later_line t ws
line_in Operations t ws = operation_line t ws

-- a line by its bytes
unfoldable pub judged_line : SoFar → Text → Judged
judged_line c line =
    demands LongLine (nat_le (length line) most_line_bytes)
    (demands Unprintable (list_all is_printable line)
    (demands NoForm (are_words (words_of line))
    (line_in c.place c.said (words_of line))))

-- the first bad line, counted from 1, and the number of its reason
pub record BadLine : Type 0 where
  pub line : ℕ
  pub reason : ℕ

-- the lines after a good line, or the bad line
abbrev pub then_lines : (SoFar → Result SoFar BadLine) → ℕ → Judged → Result SoFar BadLine
then_lines next n (Ok c) = next c
then_lines next n (Err reason) = Err (record { line = n; reason = reason_number reason })

-- what lines say, the first of which has the number n
unfoldable pub judged_lines : ℕ → SoFar → List Text → Result SoFar BadLine
judged_lines n c [] = Ok c
judged_lines n c (l ∷ ls) = then_lines (λ d. judged_lines (n + 1) d ls) n (judged_line c l)

-- a limit and a process were read
abbrev pub has_process : Place → Bool
has_process Procs = true
has_process Shared = true
has_process Operations = true
has_process _ = false

-- the lines end, and the next one would have the number n
abbrev pub at_end : ℕ → Result SoFar BadLine → Result NamedTrace BadLine
at_end n (Err bad) = Err bad
at_end n (Ok c) = if has_process c.place then Ok c.said else Err (record { line = n; reason = reason_number CutOff })

-- the trace that the bytes are, or their first bad line with its lowest reason
unfoldable pub judgement : Text → Result NamedTrace BadLine
judgement bytes =
    if nat_le (length bytes) most_trace_bytes
    then at_end (length (lines_of bytes) + 1) (judged_lines 1 start (lines_of bytes))
    else Err (record { line = 0; reason = reason_number TooManyBytes })

-- the line of that number is the first bad one, and that is the lowest reason that applies to it
abbrev pub IsBad : Text → ℕ → ℕ → Type 0
IsBad bytes line reason = judgement bytes ≡ Err (record { line = line; reason = reason })
