-- The lines of the report, part by part.
use Rattle.std.specs.Prelude.{ℕ, ◌==◌, Bool, false, List, [], ◌∷◌, ◌++◌, map, length, count_by, Option, Some, None, if◌then◌else◌, decimal, codes}
use Rattle.std.specs.List.{flat_map}
use Rattle.k_types.specs.declared.names.Name.{Name}
use Rattle.k_types.specs.declared.names.Heap.{Heap}
use Rattle.k_types.specs.declared.names.Heap.TheVariants.{Kernel}
use Rattle.k_types.specs.declared.names.Phase.{Phase}
use Rattle.k_types.specs.declared.names.Phase.TheVariants.{Unmade, Populating, Frozen, Absorbed}
use Rattle.k_types.specs.declared.event.Reply.TheVariants.{Refused}
use Rattle.k_types.specs.declared.event.Event.{Event}
use Rattle.k_types.specs.declared.event.Event.TheVariants.{Done}
use Rattle.k_types.specs.Numbers.{numbers_below}
use Rattle.k_types.specs.Trace.{Trace, process_count}
use Rattle.k_types.specs.State.{State, Object, Content, Refers, Holds, register, has_share}
use Rattle.k_types.specs.Owners.{owner_of, user, shared, bytes_of, charge_of, phase_of}
use Rattle.k_types.specs.Limits.{use_of, max_of, limits_in}
use Rattle.k_types.specs.Steps.{state_after}
use Rattle.k_words.specs.Words.{Text, word_at, text_of}
use Rattle.k_words.specs.Numbers.{register_word}
use Rattle.k_trace.specs.Named.{DeclaredNames, proc_name}
use Rattle.k_text.specs.Named.{name_word, reference_word, heap_word, type_word}
use Rattle.k_text.specs.Shown.{exits_of}
use Rattle.k_text.specs.EventLines.{event_lines}

-- The word of a field: what it refers to, or its number.
abbrev pub content_word : DeclaredNames → Content → Text
content_word names (Refers r) = reference_word names r
content_word names (Holds number) = decimal number

-- The words of an object of that owner: its name, its owner, its type and its fields.
abbrev pub object_words : DeclaredNames → Heap → Object → List Text
object_words names owner o = name_word names o.name ∷ heap_word names owner ∷ type_word names o.ty ∷ map (content_word names) o.fields

-- The line of an object, where the heaps own the segments so.
unfoldable pub object_line : DeclaredNames → (ℕ → Heap) → Object → List Text
object_line names own o = object_words names (own o.name.seg.0) o

-- The lines of the graph, by rising segment and serial of the objects.
unfoldable pub graph_lines : DeclaredNames → Trace → State → List (List Text)
graph_lines names trace st = (codes "graph" ∷ []) ∷ map (object_line names (owner_of trace st)) st.objects

-- The line of a register; none where it is null.
unfoldable pub root_lines : DeclaredNames → ℕ → ℕ → Option Name → List (List Text)
root_lines names p r None = []
root_lines names p r (Some n) = (word_at names.procs p ∷ register_word r ∷ name_word names n ∷ []) ∷ []

-- The numbers of the registers of a process.
unfoldable pub register_numbers : List ℕ
register_numbers = numbers_below 16

-- The lines of the registers of a process.
unfoldable pub roots_of_process : DeclaredNames → State → ℕ → List (List Text)
roots_of_process names st p = flat_map (λ r. root_lines names p r (register st.registers p r)) register_numbers

-- The lines of the registers, by process and register.
unfoldable pub roots_lines : DeclaredNames → Trace → State → List (List Text)
roots_lines names trace st = (codes "roots" ∷ []) ∷ flat_map (roots_of_process names st) (numbers_below (process_count trace))

-- The words of an exit item.
abbrev pub exit_words : DeclaredNames → Heap → Name → List Text
exit_words names h n = heap_word names h ∷ name_word names n ∷ []

-- The lines of the exit items of a heap, by segment and serial of their targets.
unfoldable pub exits_of_heap : DeclaredNames → State → Heap → List (List Text)
exits_of_heap names st h = map (exit_words names h) (exits_of st.exits h)

-- The lines of the exit items: the kernel's, those of the processes, those of the shared heaps.
unfoldable pub exits_lines : DeclaredNames → Trace → State → List (List Text)
exits_lines names trace st =
    (codes "exits" ∷ [])
    ∷ exits_of_heap names st Kernel
    ++ flat_map (λ p. exits_of_heap names st (user p)) (numbers_below (process_count trace))
    ++ flat_map (λ s. exits_of_heap names st (shared s)) (numbers_below trace.shared_heaps)

-- The line of a process and a shared heap; none where the process does not share it.
unfoldable pub share_lines : DeclaredNames → ℕ → ℕ → Bool → List (List Text)
share_lines names p s shares = if shares then (word_at names.procs p ∷ word_at names.shared s ∷ []) ∷ [] else []

-- The lines of the shares of a process.
unfoldable pub shares_of_process : DeclaredNames → Trace → State → ℕ → List (List Text)
shares_of_process names trace st p = flat_map (λ s. share_lines names p s (has_share st.shares p s)) (numbers_below trace.shared_heaps)

-- The lines of the shares, by process and shared heap.
unfoldable pub shares_lines : DeclaredNames → Trace → State → List (List Text)
shares_lines names trace st = (codes "shares" ∷ []) ∷ flat_map (shares_of_process names trace st) (numbers_below (process_count trace))

-- The event is an operation of the process that was answered by a fault.
abbrev pub is_fault_of : ℕ → Event → Bool
is_fault_of p (Done pid op (Refused fault)) = pid.0 == p
is_fault_of p _ = false

-- The line of the faults of a process.
unfoldable pub fault_line : DeclaredNames → List Event → ℕ → List Text
fault_line names events p = word_at names.procs p ∷ decimal (count_by (is_fault_of p) events) ∷ []

-- The lines of the faults, one for each process.
unfoldable pub faults_lines : DeclaredNames → Trace → List Event → List (List Text)
faults_lines names trace events = (codes "faults" ∷ []) ∷ map (fault_line names events) (numbers_below (process_count trace))

-- The words of the kernel's bytes and its ceiling.
abbrev pub kernel_charge_words : ℕ → ℕ → List Text
kernel_charge_words bytes ceiling = codes "kernel" ∷ decimal bytes ∷ codes "of" ∷ decimal ceiling ∷ []

-- The words of the use of the limit of that name, and its maximum.
abbrev pub limit_charge_words : Text → ℕ → ℕ → List Text
limit_charge_words name used max = codes "limit" ∷ name ∷ decimal used ∷ codes "of" ∷ decimal max ∷ []

-- The words of the charge of the process of that name.
abbrev pub process_charge_words : Text → ℕ → List Text
process_charge_words name charge = codes "process" ∷ name ∷ decimal charge ∷ []

-- The words of the phase of a shared heap.
unfoldable pub phase_words : DeclaredNames → Phase → List Text
phase_words names Unmade = codes "unmade" ∷ []
phase_words names (Populating p) = codes "populating" ∷ proc_name names p ∷ []
phase_words names (Frozen root) = codes "frozen" ∷ name_word names root ∷ []
phase_words names Absorbed = codes "absorbed" ∷ []

-- The words of the bytes and the phase of the shared heap of that name.
abbrev pub shared_charge_words : DeclaredNames → Text → ℕ → Phase → List Text
shared_charge_words names name bytes phase = codes "shared" ∷ name ∷ decimal bytes ∷ phase_words names phase

-- The line of the kernel's bytes and its ceiling.
unfoldable pub kernel_charge_line : Trace → State → List Text
kernel_charge_line trace st = kernel_charge_words (bytes_of trace st Kernel) trace.ceiling

-- The line of the use of a limit and its maximum.
unfoldable pub limit_charge_line : DeclaredNames → Trace → State → ℕ → List Text
limit_charge_line names trace st m = limit_charge_words (word_at names.limits m) (use_of trace st m) (max_of (limits_in trace st) m)

-- The line of the charge of a process.
unfoldable pub process_charge_line : DeclaredNames → Trace → State → ℕ → List Text
process_charge_line names trace st p = process_charge_words (word_at names.procs p) (charge_of trace st p)

-- The line of the bytes and the phase of a shared heap.
unfoldable pub shared_charge_line : DeclaredNames → Trace → State → ℕ → List Text
shared_charge_line names trace st s = shared_charge_words names (word_at names.shared s) (bytes_of trace st (shared s)) (phase_of st.phases s)

-- The lines of the charges: the kernel's, and those of the limits, the processes and the shared heaps.
unfoldable pub charges_lines : DeclaredNames → Trace → State → List (List Text)
charges_lines names trace st =
    (codes "charges" ∷ [])
    ∷ kernel_charge_line trace st
    ∷ map (limit_charge_line names trace st) (numbers_below (length trace.limits))
    ++ map (process_charge_line names trace st) (numbers_below (process_count trace))
    ++ map (shared_charge_line names trace st) (numbers_below trace.shared_heaps)

-- The lines of the report of a history and the state that it left.
unfoldable pub report_lines : DeclaredNames → Trace → List Event → State → List (List Text)
report_lines names trace history st =
    (codes "report" ∷ codes "1" ∷ [])
    ∷ event_lines names history
    ++ graph_lines names trace st
    ++ roots_lines names trace st
    ++ exits_lines names trace st
    ++ shares_lines names trace st
    ++ faults_lines names trace history
    ++ charges_lines names trace st
    ++ (codes "end" ∷ []) ∷ []

-- The text of the report of a history and a state.
abbrev pub text_over : DeclaredNames → Trace → List Event → State → Text
text_over names trace history st = text_of (report_lines names trace history st)

-- The text of the report of a history of the trace.
abbrev pub report_text : DeclaredNames → Trace → List Event → Text
report_text names trace history = text_over names trace history (state_after trace history)
