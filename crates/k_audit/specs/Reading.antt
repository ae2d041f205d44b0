-- How a snapshot is read, line by line: what each line adds to what was read, and which lines are refused.
use Rattle.std.specs.Prelude.{◌≡◌, ℕ, ◌+◌, ◌-◌, ◌*◌, ◌^◌, ◌==◌, ◌&&◌, ◌||◌, nat_lt, nat_le, Bool, true, false, List, [], ◌∷◌, ◌++◌, length, option_map, option_and_then, Option, Some, None, Result, Ok, Err, if◌then◌else◌, codes}
use Rattle.std.specs.Str.{bytes_eq}
use Rattle.k_types.specs.declared.names.Name.{Name}
use Rattle.k_types.specs.declared.names.Heap.{Heap}
use Rattle.k_types.specs.declared.names.Pid.{Pid}
use Rattle.k_types.specs.declared.names.TypeId.{TypeId}
use Rattle.k_types.specs.declared.names.Field.{Field}
use Rattle.k_types.specs.declared.names.Field.TheVariants.{Ref, Int}
use Rattle.k_types.specs.declared.names.Phase.{Phase}
use Rattle.k_types.specs.declared.names.Phase.TheVariants.{Unmade, Populating, Frozen, Absorbed}
use Rattle.k_types.specs.Bounds.{maximum_below, register_count}
use Rattle.k_types.specs.Names.{directory, name_eq, name_lt}
use Rattle.k_types.specs.Sound.{kinds_by}
use Rattle.k_types.specs.State.{Object, ExitItem, Sharing, Content, Holds, Refers}
use Rattle.k_types.specs.Trace.{Trace, process_count, segment_count, segment_of}
use Rattle.k_types.specs.Updates.{set_register}
use Rattle.k_words.specs.Words.{Text, word_at, words_of}
use Rattle.k_words.specs.Numbers.{below_of, register_of}
use Rattle.k_trace.specs.Named.{DeclaredNames}
use Rattle.k_trace.specs.Numbered.{proc_named, shared_named, type_named}
use Rattle.k_text.specs.Named.{segment_names}
use Rattle.k_reports.specs.Reading.{heap_named, name_of_word}
use Rattle.k_state.specs.Stills.{blank}
use Rattle.k_types.specs.declared.no_memory.NoMemory.{NoMemory as Lack}
use Rattle.k_audit.specs.Claims.{Claims, Snap}
use Rattle.k_audit.specs.Grammar.{share_place}
use Rattle.k_audit.specs.declared.errors.SnapshotError.{SnapshotError}
use Rattle.k_audit.specs.declared.errors.SnapshotError.TheVariants.{Bad, NoMemory}
use Rattle.k_audit.specs.declared.objects.ObjectHead.{ObjectHead}
use Rattle.k_audit.specs.declared.places.Place.{Place}
use Rattle.k_audit.specs.declared.places.Place.TheVariants.{Start, Gone, Made, Graph, Roots, Exits, Shares, Charges, Over}

-- How far the reading has come, and what was read.
pub record Reading : Type 0 where
  pub place : Place
  pub snap : Snap

-- Nothing is claimed yet.
abbrev pub no_claims : Claims
no_claims = record { owners = []; kernel = 0; ceiling = 0; uses = []; charges = []; shared_bytes = [] }

-- Nothing is read yet.
abbrev pub unread : Trace → Reading
unread trace = record { place = Start; snap = record { state = blank (process_count trace); claims = no_claims } }

-- The same, but for the place.
abbrev pub at_place : Place → Reading → Reading
at_place place rd = record rd { place = place }

-- Past the heading of the next section, where the line is that heading.
abbrev pub past_heading : Text → Place → Reading → Text → Option Reading
past_heading wanted place rd line = if bytes_eq line wanted then Some (at_place place rd) else None

-- ---- words

-- The name that the word is. Serials begin at 1.
unfoldable pub spelled_name : DeclaredNames → Text → Option Name
spelled_name names w = option_and_then (λ n. if nat_lt 0 n.serial.0 then Some n else None) (name_of_word names w)

-- The reference that the word is.
unfoldable pub reference_of : DeclaredNames → Text → Option (Option Name)
reference_of names w = if bytes_eq w (codes "null") then Some None else option_map Some (spelled_name names w)

-- What a field of the kind holds by its word.
unfoldable pub content_of : DeclaredNames → Field → Text → Option Content
content_of names Ref w = option_map Refers (reference_of names w)
content_of names Int w = option_map Holds (below_of (2 ^ 64) w)

-- What fields of these kinds hold by the words from that place on, behind which there are none.
unfoldable pub contents_at : DeclaredNames → List Field → List Text → ℕ → Option (List Content)
contents_at names [] ws at = if length ws == at then Some [] else None
contents_at names (kind ∷ kinds) ws at =
    option_and_then (λ content. option_map (λ contents. content ∷ contents) (contents_at names kinds ws (at + 1))) (content_of names kind (word_at ws at))

-- The type that the word is: the directory, and it alone, has none.
unfoldable pub type_of_word : DeclaredNames → Name → Text → Option (Option TypeId)
type_of_word names n w =
    if name_eq n directory
    then if bytes_eq w (codes "directory") then Some None else None
    else option_map Some (type_named names w)

-- The phase that one word says.
unfoldable pub bare_phase : Text → Option Phase
bare_phase w =
    if bytes_eq w (codes "unmade") then Some Unmade
    else if bytes_eq w (codes "absorbed") then Some Absorbed
    else None

-- The phase that a word says of a process or of a root.
unfoldable pub phase_with : DeclaredNames → Text → Text → Option Phase
phase_with names w of =
    if bytes_eq w (codes "populating") then option_map Populating (proc_named names of)
    else if bytes_eq w (codes "frozen") then option_map Frozen (spelled_name names of)
    else None

-- The phase that the words of a line are, from the fourth on.
unfoldable pub phase_of_words : DeclaredNames → List Text → Option Phase
phase_of_words names ws =
    if length ws == 4 then bare_phase (word_at ws 3)
    else if length ws == 5 then phase_with names (word_at ws 3) (word_at ws 4)
    else None

-- ---- lines

-- The first line.
unfoldable pub start_line : Reading → Text → Option Reading
start_line rd line = past_heading (codes "snapshot 1") (Gone 0) rd line

-- A process that has ended, and the place behind it.
abbrev pub add_gone : ℕ → Reading → Reading
add_gone p rd = record {
  place = Gone (p + 1);
  snap = record rd.snap { state = record rd.snap.state { ended = rd.snap.state.ended ++ p ∷ [] } };
}

-- The process that the words `gone P` name.
unfoldable pub gone_of : DeclaredNames → List Text → Option Pid
gone_of names ws = if (length ws == 2) && bytes_eq (word_at ws 0) (codes "gone") then proc_named names (word_at ws 1) else None

-- The heading `made`, or a process that has ended, none below that number.
unfoldable pub gone_line : DeclaredNames → ℕ → Reading → Text → Option Reading
gone_line names least rd line =
    if bytes_eq line (codes "made") then Some (at_place (Made 0) rd)
    else option_and_then (λ p. if nat_le least p.0 then Some (add_gone p.0 rd) else None) (gone_of names (words_of line))

-- How many serials the next segment gave, and the place behind it.
abbrev pub add_made : ℕ → ℕ → Reading → Reading
add_made seg n rd = record {
  place = Made (seg + 1);
  snap = record rd.snap { state = record rd.snap.state { made = rd.snap.state.made ++ n ∷ [] } };
}

-- The number behind the name of the segment.
unfoldable pub made_of : DeclaredNames → ℕ → List Text → Option ℕ
made_of names seg ws =
    if (length ws == 2) && bytes_eq (word_at ws 0) (word_at (segment_names names) seg) then below_of (2 ^ 32) (word_at ws 1) else None

-- The line of that segment, or, behind the last one, the heading `graph`.
unfoldable pub made_line : DeclaredNames → Trace → ℕ → Reading → Text → Option Reading
made_line names trace seg rd line =
    if nat_lt seg (segment_count trace)
    then option_map (λ n. add_made seg n rd) (made_of names seg (words_of line))
    else past_heading (codes "graph") (Graph None) rd line

-- An object, and the owner that is claimed for it.
pub record Owned : Type 0 where
  pub owner : Heap
  pub object : Object

-- The object, and the place behind it.
abbrev pub add_object : Owned → Reading → Reading
add_object o rd = record {
  place = Graph (Some o.object.name);
  snap = record {
    state = record rd.snap.state { objects = rd.snap.state.objects ++ o.object ∷ [] };
    claims = record rd.snap.claims { owners = rd.snap.claims.owners ++ o.owner ∷ [] };
  };
}

-- The object with what its first three words say, and the fields that the words behind them are.
unfoldable pub object_with : DeclaredNames → Trace → ObjectHead → List Text → Option Owned
object_with names trace head ws =
    option_map (λ fields. record { owner = head.owner; object = record { name = head.name; ty = head.ty; fields = fields } }) (contents_at names (kinds_by trace head.ty) ws 3)

-- What the first three words of an object are: its name, its owner and its type.
unfoldable pub head_of : DeclaredNames → List Text → Option ObjectHead
head_of names ws =
    option_and_then (λ n.
    option_and_then (λ owner.
    option_map (λ ty. record { name = n; owner = owner; ty = ty }) (type_of_word names n (word_at ws 2)))
    (heap_named names (word_at ws 1)))
    (spelled_name names (word_at ws 0))

-- The object that the words are: its name, its owner, its type and its fields.
unfoldable pub object_of : DeclaredNames → Trace → List Text → Option Owned
object_of names trace ws = option_and_then (λ head. object_with names trace head ws) (head_of names ws)

-- The name comes after the last one, if there is one.
abbrev pub is_after : Option Name → Name → Bool
is_after None n = true
is_after (Some last) n = name_lt last n

-- The heading `roots`, or an object that comes after the last one.
unfoldable pub graph_line : DeclaredNames → Trace → Option Name → Reading → Text → Option Reading
graph_line names trace last rd line =
    if bytes_eq line (codes "roots") then Some (at_place (Roots 0) rd)
    else option_and_then (λ o. if is_after last o.object.name then Some (add_object o rd) else None) (object_of names trace (words_of line))

-- A register that is not null.
pub record Root : Type 0 where
  pub process : ℕ
  pub register : ℕ
  pub name : Name

-- The number of the register among all registers.
abbrev pub root_place : Root → ℕ
root_place root = root.process * register_count + root.register

-- The register, and the place behind it.
abbrev pub add_root : Root → Reading → Reading
add_root root rd = record {
  place = Roots (root_place root + 1);
  snap = record rd.snap { state = set_register root.process root.register (Some root.name) rd.snap.state };
}

-- The register that the words are: its process, its number and what it refers to.
unfoldable pub root_of : DeclaredNames → List Text → Option Root
root_of names ws =
    if length ws == 3
    then option_and_then (λ p.
    option_and_then (λ r.
    option_map (λ n. record { process = p.0; register = r; name = n }) (spelled_name names (word_at ws 2)))
    (register_of (word_at ws 1)))
    (proc_named names (word_at ws 0))
    else None

-- The heading `exits`, or a register that is none of those before that number.
unfoldable pub root_line : DeclaredNames → ℕ → Reading → Text → Option Reading
root_line names least rd line =
    if bytes_eq line (codes "exits") then Some (at_place (Exits 0 None) rd)
    else option_and_then (λ root. if nat_le least (root_place root) then Some (add_root root rd) else None) (root_of names (words_of line))

-- The exit item, and the place behind it.
abbrev pub add_exit : Trace → ExitItem → Reading → Reading
add_exit trace e rd = record {
  place = Exits (segment_of trace e.heap) (Some e.target);
  snap = record rd.snap { state = record rd.snap.state { exits = rd.snap.state.exits ++ e ∷ [] } };
}

-- The exit item that the words are: its heap and its target.
unfoldable pub exit_of : DeclaredNames → List Text → Option ExitItem
exit_of names ws =
    if length ws == 2
    then option_and_then (λ h. option_map (λ n. record { heap = h; target = n }) (spelled_name names (word_at ws 1))) (heap_named names (word_at ws 0))
    else None

-- The exit item comes after the last one of the heap of that segment.
abbrev pub is_exit_after : Trace → ℕ → Option Name → ExitItem → Bool
is_exit_after trace seg last e = nat_lt seg (segment_of trace e.heap) || ((seg == segment_of trace e.heap) && is_after last e.target)

-- The heading `shares`, or an exit item that comes after the last one.
unfoldable pub exit_line : DeclaredNames → Trace → ℕ → Option Name → Reading → Text → Option Reading
exit_line names trace seg last rd line =
    if bytes_eq line (codes "shares") then Some (at_place (Shares 0) rd)
    else option_and_then (λ e. if is_exit_after trace seg last e then Some (add_exit trace e rd) else None) (exit_of names (words_of line))

-- The share, and the place behind it.
abbrev pub add_share : Trace → Sharing → Reading → Reading
add_share trace e rd = record {
  place = Shares (share_place trace e + 1);
  snap = record rd.snap { state = record rd.snap.state { shares = rd.snap.state.shares ++ e ∷ [] } };
}

-- The share that the words are: its process and its shared heap.
unfoldable pub share_of : DeclaredNames → List Text → Option Sharing
share_of names ws =
    if length ws == 2
    then option_and_then (λ p. option_map (λ s. record { process = p.0; heap = s.0 }) (shared_named names (word_at ws 1))) (proc_named names (word_at ws 0))
    else None

-- The heading `charges`, or a share that is none of those before that number.
unfoldable pub share_line : DeclaredNames → Trace → ℕ → Reading → Text → Option Reading
share_line names trace least rd line =
    if bytes_eq line (codes "charges") then Some (at_place (Charges 0) rd)
    else option_and_then (λ e. if nat_le least (share_place trace e) then Some (add_share trace e rd) else None) (share_of names (words_of line))

-- Two numbers with the word `of` between them.
pub record Pair : Type 0 where
  pub first : ℕ
  pub second : ℕ

-- The numbers that the words from that place on are, the second below the bound.
unfoldable pub pair_at : ℕ → List Text → ℕ → Option Pair
pair_at bound ws at =
    if bytes_eq (word_at ws (at + 1)) (codes "of")
    then option_and_then (λ first. option_map (λ second. record { first = first; second = second }) (below_of bound (word_at ws (at + 2)))) (below_of (2 ^ 64) (word_at ws at))
    else None

-- The kernel's bytes and its ceiling, and the place behind them.
abbrev pub add_kernel : Pair → Reading → Reading
add_kernel pair rd = record {
  place = Charges 1;
  snap = record rd.snap { claims = record rd.snap.claims { kernel = pair.first; ceiling = pair.second } };
}

-- The line of the kernel.
unfoldable pub kernel_line : Reading → List Text → Option Reading
kernel_line rd ws =
    if (length ws == 4) && bytes_eq (word_at ws 0) (codes "kernel")
    then option_map (λ pair. add_kernel pair rd) (pair_at (2 ^ 64) ws 1)
    else None

-- The use of a limit and its maximum, and the place behind them.
abbrev pub add_limit : ℕ → Pair → Reading → Reading
add_limit k pair rd = record {
  place = Charges (k + 1);
  snap = record {
    state = record rd.snap.state { maxima = rd.snap.state.maxima ++ pair.second ∷ [] };
    claims = record rd.snap.claims { uses = rd.snap.claims.uses ++ pair.first ∷ [] };
  };
}

-- The line of that limit.
unfoldable pub limit_line : DeclaredNames → ℕ → ℕ → Reading → List Text → Option Reading
limit_line names k m rd ws =
    if (length ws == 5) && bytes_eq (word_at ws 0) (codes "limit") && bytes_eq (word_at ws 1) (word_at names.limits m)
    then option_map (λ pair. add_limit k pair rd) (pair_at maximum_below ws 2)
    else None

-- The charge of a process, and the place behind it.
abbrev pub add_process : ℕ → ℕ → Reading → Reading
add_process k charge rd = record {
  place = Charges (k + 1);
  snap = record rd.snap { claims = record rd.snap.claims { charges = rd.snap.claims.charges ++ charge ∷ [] } };
}

-- The line of that process.
unfoldable pub process_line : DeclaredNames → ℕ → ℕ → Reading → List Text → Option Reading
process_line names k p rd ws =
    if (length ws == 3) && bytes_eq (word_at ws 0) (codes "process") && bytes_eq (word_at ws 1) (word_at names.procs p)
    then option_map (λ charge. add_process k charge rd) (below_of (2 ^ 64) (word_at ws 2))
    else None

-- The bytes and the phase of a shared heap, and the place behind them.
abbrev pub add_heap : ℕ → ℕ → Phase → Reading → Reading
add_heap k bytes phase rd = record {
  place = Charges (k + 1);
  snap = record {
    state = record rd.snap.state { phases = rd.snap.state.phases ++ phase ∷ [] };
    claims = record rd.snap.claims { shared_bytes = rd.snap.claims.shared_bytes ++ bytes ∷ [] };
  };
}

-- The line of that shared heap.
unfoldable pub heap_line : DeclaredNames → ℕ → ℕ → Reading → List Text → Option Reading
heap_line names k s rd ws =
    if bytes_eq (word_at ws 0) (codes "shared") && bytes_eq (word_at ws 1) (word_at names.shared s)
    then option_and_then (λ bytes. option_map (λ phase. add_heap k bytes phase rd) (phase_of_words names ws)) (below_of (2 ^ 64) (word_at ws 2))
    else None

-- The line of that number of the charges: the kernel's, that of a limit, of a process or of a shared heap, or `end`.
unfoldable pub charge_line : DeclaredNames → Trace → ℕ → Reading → Text → Option Reading
charge_line names trace k rd line =
    if k == 0 then kernel_line rd (words_of line)
    else if nat_le k (length trace.limits) then limit_line names k (k - 1) rd (words_of line)
    else if nat_le k (length trace.limits + process_count trace) then process_line names k (k - 1 - length trace.limits) rd (words_of line)
    else if nat_le k (length trace.limits + process_count trace + trace.shared_heaps)
    then heap_line names k (k - 1 - length trace.limits - process_count trace) rd (words_of line)
    else past_heading (codes "end") Over rd line

-- What is read behind the line; nothing where the line does not fit there.
unfoldable pub read_at : DeclaredNames → Trace → Place → Reading → Text → Option Reading
read_at names trace Start rd line = start_line rd line
read_at names trace (Gone least) rd line = gone_line names least rd line
read_at names trace (Made seg) rd line = made_line names trace seg rd line
read_at names trace (Graph last) rd line = graph_line names trace last rd line
read_at names trace (Roots least) rd line = root_line names least rd line
read_at names trace (Exits seg last) rd line = exit_line names trace seg last rd line
read_at names trace (Shares least) rd line = share_line names trace least rd line
read_at names trace (Charges k) rd line = charge_line names trace k rd line
read_at names trace Over rd line = None

-- The same, from where the reading has come.
abbrev pub read_line : DeclaredNames → Trace → Reading → Text → Option Reading
read_line names trace rd line = read_at names trace rd.place rd line

-- ---- texts

-- The last line was read.
abbrev pub is_over : Place → Bool
is_over Over = true
is_over Start = false
is_over (Gone least) = false
is_over (Made seg) = false
is_over (Graph last) = false
is_over (Roots least) = false
is_over (Exits seg last) = false
is_over (Shares least) = false
is_over (Charges k) = false

-- What was read, where it is all, or the number of the line that is missing or has no line feed.
abbrev pub end_of : Reading → ℕ → Bool → Result Snap ℕ
end_of rd number whole = if is_over rd.place && whole then Ok rd.snap else Err number

-- What is read of the lines, the first of which has that number, behind what was read before; or the number of the first that does not
-- fit. Whole: nothing stands behind the last line feed.
unfoldable pub read_lines : DeclaredNames → Trace → Bool → Option Reading → ℕ → List Text → Result Snap ℕ
read_lines names trace whole None number lines = Err (number - 1)
read_lines names trace whole (Some rd) number [] = end_of rd number whole
read_lines names trace whole (Some rd) number (line ∷ lines) = read_lines names trace whole (read_line names trace rd line) (number + 1) lines

-- Nothing stands behind the last line feed.
abbrev pub is_whole : Text → Bool
is_whole [] = true
is_whole (b ∷ []) = b == 10
is_whole (b ∷ c ∷ bytes) = is_whole (c ∷ bytes)

-- The call answered whether the line fits, and, where it does, left what is read behind it, or it found no memory.
abbrev pub HasRead : Result Bool Lack → Reading → Reading → Option Reading → Type 0
HasRead (Ok true) old new next = (next ≡ Some new) × (length new.snap.state.registers ≡ length old.snap.state.registers)
HasRead (Ok false) old new next = next ≡ None
HasRead (Err e) old new next = Unit {0}

-- The call answered the snapshot, or the number of the line, or found no memory.
abbrev pub ReadsSnap : Result Snap SnapshotError → Result Snap ℕ → Type 0
ReadsSnap (Ok snap) read = read ≡ Ok snap
ReadsSnap (Err (Bad line)) read = read ≡ Err line
ReadsSnap (Err (NoMemory e)) read = Unit {0}
