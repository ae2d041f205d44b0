-- The lines of a snapshot, part by part. It shows a state, and nothing of the events that led to it.
use Rattle.std.specs.Prelude.{ℕ, Bool, not, List, [], ◌∷◌, ◌++◌, map, slice_index_or, if◌then◌else◌, decimal, codes}
use Rattle.std.specs.List.{flat_map}
use Rattle.k_types.specs.Names.{among}
use Rattle.k_types.specs.Numbers.{numbers_below}
use Rattle.k_types.specs.State.{State}
use Rattle.k_types.specs.Trace.{Trace, process_count, segment_count}
use Rattle.k_words.specs.Words.{Text, text_of, word_at}
use Rattle.k_trace.specs.Named.{DeclaredNames}
use Rattle.k_text.specs.Named.{segment_names}
use Rattle.k_text.specs.Report.{charges_lines, exits_lines, graph_lines, roots_lines, shares_lines}

-- The line of a process that has ended; none where it lives.
unfoldable pub gone_line : DeclaredNames → ℕ → Bool → List (List Text)
gone_line names p lives = if lives then [] else (codes "gone" ∷ word_at names.procs p ∷ []) ∷ []

-- The lines of the processes that have ended, in the order of the processes.
unfoldable pub gone_lines : DeclaredNames → Trace → State → List (List Text)
gone_lines names trace st = flat_map (λ p. gone_line names p (not (among p st.ended))) (numbers_below (process_count trace))

-- The line of a segment: its name, and how many serials were given in it.
unfoldable pub made_line : DeclaredNames → State → ℕ → List Text
made_line names st seg = word_at (segment_names names) seg ∷ decimal (slice_index_or st.made seg 0) ∷ []

-- The lines of the segments: the kernel's, those of the processes, those of the shared heaps.
unfoldable pub made_lines : DeclaredNames → Trace → State → List (List Text)
made_lines names trace st = (codes "made" ∷ []) ∷ map (made_line names st) (numbers_below (segment_count trace))

-- The lines of the snapshot of a state. All parts from the graph on are those of a report, where that of the faults stands too.
unfoldable pub snapshot_lines : DeclaredNames → Trace → State → List (List Text)
snapshot_lines names trace st =
    (codes "snapshot" ∷ codes "1" ∷ [])
    ∷ gone_lines names trace st
    ++ made_lines names trace st
    ++ graph_lines names trace st
    ++ roots_lines names trace st
    ++ exits_lines names trace st
    ++ shares_lines names trace st
    ++ charges_lines names trace st
    ++ (codes "end" ∷ []) ∷ []

-- The text of the snapshot of a state.
abbrev pub snapshot_text : DeclaredNames → Trace → State → Text
snapshot_text names trace st = text_of (snapshot_lines names trace st)
