-- Each line of a script is judged after the lines before it. A header line is judged as that of a trace.
use Rattle.std.specs.Prelude.{◌≡◌, ℕ, ◌+◌, ◌==◌, ◌&&◌, ◌||◌, not, nat_lt, nat_le, Bool, List, [], ◌∷◌, ◌++◌, length, drop, Result, Ok, Err, if◌then◌else◌, codes}
use Rattle.std.specs.List.{list_all}
use Rattle.std.specs.Str.{bytes_eq}
use Rattle.k_types.specs.declared.names.Pid.{Pid}
use Rattle.k_types.specs.declared.op.Op.{Op}
use Rattle.k_types.specs.Bounds.{most_limits, most_processes, most_operations, most_line_bytes, most_trace_bytes, maximum_below}
use Rattle.k_trace.specs.Words.{Text, lines_of, words_of, are_words, word_at, is_printable}
use Rattle.k_trace.specs.Numbers.{is_below, value}
use Rattle.k_trace.specs.Names.{is_name, is_keyword, declares, number_of}
use Rattle.k_trace.specs.declared.place.Place.{Place}
use Rattle.k_trace.specs.declared.place.Place.TheVariants.{Version, Kernel, Types, Limits, Procs, Shared, Operations}
use Rattle.k_trace.specs.declared.reasons.Reason.{Reason}
use Rattle.k_trace.specs.declared.reasons.Reason.TheVariants.{TooManyBytes, LongLine, Unprintable, NoForm, NoNumber, NoName, NameTaken, Undeclared, TooMany, AfterExit, CutOff}
use Rattle.k_trace.specs.Demands.{demands as asks}
use Rattle.k_trace.specs.Forms.{op_in, has_verb}
use Rattle.k_trace.specs.Grown.{blank}
use Rattle.k_trace.specs.Judgement.{begins, has_process, line_in as trace_line, BadLine, Judged as TraceJudged}
use Rattle.k_spawn.specs.declared.reasons.ScriptReason.{ScriptReason}
use Rattle.k_spawn.specs.declared.reasons.ScriptReason.TheVariants.{OfTrace, Stranger, Untimely}
use Rattle.k_spawn.specs.declared.script.Deed.{Deed}
use Rattle.k_spawn.specs.declared.script.Deed.TheVariants.{Does, Spawns, Reaps}
use Rattle.k_spawn.specs.Reasons.{reason_number, demands, also}
use Rattle.k_spawn.specs.Scripts.{Script, family, process_names, limit_names}
use Rattle.k_spawn.specs.Timely.{weight, has_left, operations_so_far, is_of_parent, is_running, is_due}

-- what the lines so far say, and where the next one stands. After a child the place is still that of the processes
pub record SoFar : Type 0 where
  pub place : Place
  pub said : Script

-- the header alone
abbrev pub bare : Script
bare = record { header = blank; child_names = []; parents = []; lines = [] }

-- before the first line
abbrev pub start : SoFar
start = record { place = Version; said = bare }

-- what the lines say with one more, or the lowest reason that applies to it
abbrev pub Judged : Type 0
Judged = Result SoFar ScriptReason

-- the line is good, and leads there
abbrev pub leads : Place → Script → Judged
leads place said = Ok (record { place = place; said = said })

-- a child more
abbrev pub with_child : Script → Text → ℕ → Script
with_child s name parent = record s { child_names = s.child_names ++ name ∷ []; parents = s.parents ++ record { 0 = parent } ∷ [] }

-- a line more of the process
abbrev pub with_line : Script → ℕ → Deed → Script
with_line s p deed = record s { lines = s.lines ++ record { pid = record { 0 = p }; deed = deed } ∷ [] }

-- the word that scripts reserve beside those of traces
abbrev pub is_child_word : Text → Bool
is_child_word w = bytes_eq w (codes "child")

-- the first line
unfoldable pub version_line : Script → List Text → Judged
version_line s ws = demands (OfTrace NoForm) (begins ws 2 (codes "spawn") && bytes_eq (word_at ws 1) (codes "1")) (leads Kernel s)

-- the header grows as that of a trace does
abbrev pub in_header : Script → TraceJudged → Judged
in_header s (Ok c) = leads c.place (record s { header = c.said })
in_header s (Err reason) = Err (OfTrace reason)

-- a header line is judged as that of a trace; what it declares is not named as a child, nor `child`
unfoldable pub header_line : Place → Script → List Text → Judged
header_line place s ws =
    also (OfTrace NoName) (not (is_child_word (word_at ws 1)))
    (also (OfTrace NameTaken) (not (declares s.child_names (word_at ws 1)))
    (in_header s (trace_line place s.header ws)))

-- the line of a child. Its name is new among processes and among limits
unfoldable pub child_line : Script → List Text → Judged
child_line s ws =
    demands (OfTrace NoForm) (length ws == 3)
    (demands (OfTrace NoName) (is_name (word_at ws 1) && not (is_child_word (word_at ws 1)))
    (demands (OfTrace NameTaken) (not (declares (process_names s) (word_at ws 1) || declares (limit_names s) (word_at ws 1)))
    (demands (OfTrace Undeclared) (declares (process_names s) (word_at ws 2))
    (demands (OfTrace TooMany) (nat_lt (length (process_names s)) most_processes && nat_lt (length (limit_names s)) most_limits)
    (leads Procs (with_child s (word_at ws 1) (number_of (process_names s) (word_at ws 2))))))))

-- the process of that name
abbrev pub process_named : Script → Text → Pid
process_named s w = record { 0 = number_of (process_names s) w }

-- `spawn`, a child and a maximum
unfoldable pub spawn_form : Script → List Text → Result Deed Reason
spawn_form s ws =
    asks NoForm (length ws == 3) (asks NoNumber (is_below maximum_below (word_at ws 2)) (asks Undeclared (declares (process_names s) (word_at ws 1))
    (Ok (Spawns (process_named s (word_at ws 1)) (value (word_at ws 2))))))

-- `reap` and a child
unfoldable pub reap_form : Script → List Text → Result Deed Reason
reap_form s ws = asks NoForm (length ws == 2) (asks Undeclared (declares (process_names s) (word_at ws 1)) (Ok (Reaps (process_named s (word_at ws 1)))))

-- an operation of the first version
abbrev pub plain : Result Op Reason → Result Deed Reason
plain (Ok op) = Ok (Does op)
plain (Err reason) = Err reason

-- what the words after a process's name say that it does
unfoldable pub deed_of : Script → List Text → Result Deed Reason
deed_of s ws =
    if has_verb ws (codes "spawn") then spawn_form s ws
    else if has_verb ws (codes "reap") then reap_form s ws
    else plain (op_in 1 s.header.names ws)

-- whatever it does, a line names a declared process that goes on, and there is room for its operations
unfoldable pub deed_line : Script → Text → Deed → Judged
deed_line s name deed =
    demands (OfTrace Undeclared) (declares (process_names s) name)
    (demands (OfTrace TooMany) (nat_le (operations_so_far (family s) s.lines + weight (family s) deed) most_operations)
    (demands (OfTrace AfterExit) (not (has_left s.lines (number_of (process_names s) name)))
    (demands Stranger (is_of_parent (family s) (number_of (process_names s) name) deed)
    (demands Untimely (is_running (family s) s.lines (number_of (process_names s) name) && is_due (family s) s.lines deed)
    (leads Operations (with_line s (number_of (process_names s) name) deed))))))

-- and the reason of its words where they are none
abbrev pub deed_line_of : Script → Text → Result Deed Reason → Judged
deed_line_of s name (Err reason) = Err (OfTrace reason)
deed_line_of s name (Ok deed) = deed_line s name deed

-- a line behind the header
unfoldable pub operation_line : Script → List Text → Judged
operation_line s ws = deed_line_of s (word_at ws 0) (deed_of s (drop 1 ws))

-- the line after a shared heap, or after the last process or child
unfoldable pub later_line : Place → Script → List Text → Judged
later_line place s ws =
    if bytes_eq (word_at ws 0) (codes "shared") then header_line place s ws
    else if is_keyword (word_at ws 0) || is_child_word (word_at ws 0) then Err (OfTrace NoForm)
    else operation_line s ws

-- no child was declared yet
abbrev pub has_no_child : Script → Bool
has_no_child s = length s.parents == 0

-- the line after a process or a child: no process stands behind a child
unfoldable pub line_of_procs : Script → List Text → Judged
line_of_procs s ws =
    if bytes_eq (word_at ws 0) (codes "proc") && has_no_child s then header_line Procs s ws
    else if is_child_word (word_at ws 0) then child_line s ws
    else later_line Procs s ws

-- the line that stands at that place
unfoldable pub line_in : Place → Script → List Text → Judged
line_in Version s ws = version_line s ws
line_in Kernel s ws = header_line Kernel s ws
line_in Types s ws = header_line Types s ws
line_in Limits s ws = header_line Limits s ws
line_in Procs s ws = line_of_procs s ws
line_in Shared s ws = later_line Shared s ws
line_in Operations s ws = operation_line s ws

-- a line by its bytes
unfoldable pub judged_line : SoFar → Text → Judged
judged_line c line =
    demands (OfTrace LongLine) (nat_le (length line) most_line_bytes)
    (demands (OfTrace Unprintable) (list_all is_printable line)
    (demands (OfTrace NoForm) (are_words (words_of line))
    (line_in c.place c.said (words_of line))))

-- the lines after a good line, or the bad line
abbrev pub then_lines : (SoFar → Result SoFar BadLine) → ℕ → Judged → Result SoFar BadLine
then_lines next n (Ok c) = next c
then_lines next n (Err reason) = Err (record { line = n; reason = reason_number reason })

-- what lines say, the first of which has the number n
unfoldable pub judged_lines : ℕ → SoFar → List Text → Result SoFar BadLine
judged_lines n c [] = Ok c
judged_lines n c (l ∷ ls) = then_lines (λ d. judged_lines (n + 1) d ls) n (judged_line c l)

-- the lines end, and the next one would have the number n
abbrev pub at_end : ℕ → Result SoFar BadLine → Result Script BadLine
at_end n (Err bad) = Err bad
at_end n (Ok c) = if has_process c.place then Ok c.said else Err (record { line = n; reason = reason_number (OfTrace CutOff) })

-- the script that the bytes are, or their first bad line with its lowest reason
unfoldable pub judgement : Text → Result Script BadLine
judgement bytes =
    if nat_le (length bytes) most_trace_bytes
    then at_end (length (lines_of bytes) + 1) (judged_lines 1 start (lines_of bytes))
    else Err (record { line = 0; reason = reason_number (OfTrace TooManyBytes) })

-- the line of that number is the first bad one, and that is the lowest reason that applies to it
abbrev pub IsBad : Text → ℕ → ℕ → Type 0
IsBad bytes line reason = judgement bytes ≡ Err (record { line = line; reason = reason })
