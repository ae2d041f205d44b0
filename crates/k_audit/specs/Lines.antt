-- The lines of a snapshot, and its text. The words of objects, registers, exit items and charges are those of a report.
use Rattle.std.specs.Prelude.{ℕ, ◌+◌, List, [], ◌∷◌, map, decimal, codes}
use Rattle.std.specs.List.{flat_map}
use Rattle.k_types.specs.declared.names.Heap.{Heap}
use Rattle.k_types.specs.declared.names.Phase.{Phase}
use Rattle.k_types.specs.Numbers.{numbers_below}
use Rattle.k_types.specs.State.{State, Object, ExitItem, Sharing}
use Rattle.k_types.specs.Trace.{Trace, process_count}
use Rattle.k_words.specs.Words.{Text, text_of, word_at}
use Rattle.k_trace.specs.Named.{DeclaredNames}
use Rattle.k_text.specs.Named.{segment_names}
use Rattle.k_text.specs.Report.{object_words, roots_of_process, exit_words, kernel_charge_words, limit_charge_words, process_charge_words, shared_charge_words}
use Rattle.k_audit.specs.Claims.{Snap}

-- The line of a heading.
abbrev pub heading : Text → List Text
heading word = word ∷ []

-- The line of a process that has ended.
abbrev pub gone_words : DeclaredNames → ℕ → List Text
gone_words names p = codes "gone" ∷ word_at names.procs p ∷ []

-- The line of a segment and of how many serials it gave.
abbrev pub made_words : DeclaredNames → ℕ → ℕ → List Text
made_words names seg made = word_at (segment_names names) seg ∷ decimal made ∷ []

-- The lines of the segments from that one on.
abbrev pub made_lines : DeclaredNames → ℕ → List ℕ → List (List Text)
made_lines names seg [] = []
made_lines names seg (n ∷ made) = made_words names seg n ∷ made_lines names (1 + seg) made

-- The lines of the objects with the owners that are claimed.
abbrev pub object_lines : DeclaredNames → List Heap → List Object → List (List Text)
object_lines names (h ∷ owners) (o ∷ objects) = object_words names h o ∷ object_lines names owners objects
object_lines names [] objects = []
object_lines names owners [] = []

-- The lines of the registers that are not null, by process and register.
abbrev pub root_lines : DeclaredNames → Trace → State → List (List Text)
root_lines names trace st = flat_map (roots_of_process names st) (numbers_below (process_count trace))

-- The line of an exit item.
abbrev pub exit_line : DeclaredNames → ExitItem → List Text
exit_line names e = exit_words names e.heap e.target

-- The line of a share.
abbrev pub share_words : DeclaredNames → Sharing → List Text
share_words names e = word_at names.procs e.process ∷ word_at names.shared e.heap ∷ []

-- The lines of the limits from that one on: the use that is claimed, and the maximum.
abbrev pub limit_lines : DeclaredNames → ℕ → List ℕ → List ℕ → List (List Text)
limit_lines names m (used ∷ uses) (max ∷ maxima) = limit_charge_words (word_at names.limits m) used max ∷ limit_lines names (1 + m) uses maxima
limit_lines names m [] maxima = []
limit_lines names m uses [] = []

-- The lines of the processes from that one on: the charge that is claimed.
abbrev pub process_lines : DeclaredNames → ℕ → List ℕ → List (List Text)
process_lines names p [] = []
process_lines names p (charge ∷ charges) = process_charge_words (word_at names.procs p) charge ∷ process_lines names (1 + p) charges

-- The lines of the shared heaps from that one on: the bytes that are claimed, and the phase.
abbrev pub heap_lines : DeclaredNames → ℕ → List ℕ → List Phase → List (List Text)
heap_lines names s (bytes ∷ claimed) (phase ∷ phases) = shared_charge_words names (word_at names.shared s) bytes phase ∷ heap_lines names (1 + s) claimed phases
heap_lines names s [] phases = []
heap_lines names s claimed [] = []

-- The lines of the charges: the kernel's, and those of the limits, the processes and the shared heaps.
abbrev pub charge_lines : DeclaredNames → Snap → List (List Text)
charge_lines names snap =
    flat_map (λ lines. lines)
    ((kernel_charge_words snap.claims.kernel snap.claims.ceiling ∷ limit_lines names 0 snap.claims.uses snap.state.maxima)
    ∷ process_lines names 0 snap.claims.charges
    ∷ heap_lines names 0 snap.claims.shared_bytes snap.state.phases
    ∷ [])

-- The sections of a snapshot, each with its heading.
abbrev pub sections : DeclaredNames → Trace → Snap → List (List (List Text))
sections names trace snap =
    ((codes "snapshot" ∷ codes "1" ∷ []) ∷ map (gone_words names) snap.state.ended)
    ∷ (heading (codes "made") ∷ made_lines names 0 snap.state.made)
    ∷ (heading (codes "graph") ∷ object_lines names snap.claims.owners snap.state.objects)
    ∷ (heading (codes "roots") ∷ root_lines names trace snap.state)
    ∷ (heading (codes "exits") ∷ map (exit_line names) snap.state.exits)
    ∷ (heading (codes "shares") ∷ map (share_words names) snap.state.shares)
    ∷ (heading (codes "charges") ∷ charge_lines names snap)
    ∷ (heading (codes "end") ∷ [])
    ∷ []

-- The lines of a snapshot.
abbrev pub snap_lines : DeclaredNames → Trace → Snap → List (List Text)
snap_lines names trace snap = flat_map (λ lines. lines) (sections names trace snap)

-- Its text, in which each line ends with a line feed.
abbrev pub snap_text : DeclaredNames → Trace → Snap → Text
snap_text names trace snap = text_of (snap_lines names trace snap)
