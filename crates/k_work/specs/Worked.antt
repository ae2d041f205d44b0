-- Worked traces, and the lines of work of their histories in the order of the file.
use Rattle.std.specs.Prelude.{[], ◌∷◌, codes}
use Rattle.k_types.specs.declared.op.Op.TheVariants.{New, KNew, Store, Clear, Dir, Collect, KCollect, Exit, Kill}
use Rattle.k_types.specs.FileOrder.{file_order}
use Rattle.k_words.specs.Words.{Text}
use Rattle.k_trace.specs.Named.{NamedTrace}
use Rattle.k_text.specs.Worked.{node, of_lines, r, two_processes}
use Rattle.k_text.specs.WorkedGoverning.{p1, three_processes}
use Rattle.k_work.specs.Lines.{work_text}
use Rattle.k_work.specs.Tables.{work_of}

-- The lines of work of the history in the order of the file.
abbrev pub file_order_work : NamedTrace → Text
file_order_work t = work_text t.names (work_of t.trace (file_order t.trace))

-- A process collects its own heap, where one object with two references is left.
abbrev pub own_collection : NamedTrace
own_collection = two_processes (New (r 0) node ∷ Store (r 0) 0 (r 0) ∷ Collect ∷ []) [] (0 ∷ 0 ∷ 0 ∷ [])

abbrev pub own_collection_lines : Text
own_collection_lines = of_lines (codes "work" ∷ codes "process p1 1 3" ∷ codes "process p2 0 0" ∷ codes "closing 0 0" ∷ codes "total 1 3" ∷ codes "end" ∷ [])

-- A cycle between a user heap and the kernel. One process asks for a collection of its own heap and one of the kernel's, and then another
-- for one of the kernel's, which frees the cycle: what is freed is no work.
abbrev pub kernel_collections : NamedTrace
kernel_collections =
    two_processes
    (New (r 0) node ∷ KNew (r 1) node ∷ Store (r 0) 0 (r 1) ∷ Store (r 1) 0 (r 0) ∷ Clear (r 0) ∷ Clear (r 1) ∷ Collect ∷ KCollect ∷ Exit ∷ [])
    (KCollect ∷ [])
    (0 ∷ 0 ∷ 0 ∷ 0 ∷ 0 ∷ 0 ∷ 0 ∷ 0 ∷ 0 ∷ 1 ∷ [])

abbrev pub kernel_collections_lines : Text
kernel_collections_lines = of_lines (codes "work" ∷ codes "process p1 2 9" ∷ codes "process p2 1 3" ∷ codes "closing 0 0" ∷ codes "total 3 12" ∷ codes "end" ∷ [])

-- A process that asked for a collection of the kernel is ended by another, and then all end: its collection stays its own, and the last one
-- is the closing's. The directory refers to the object that it leaves to the kernel, so that is work of the last one.
abbrev pub ended_and_closed : NamedTrace
ended_and_closed =
    three_processes
    (Kill p1 ∷ Exit ∷ [])
    (New (r 0) node ∷ Dir (r 1) ∷ Store (r 1) 0 (r 0) ∷ KCollect ∷ [])
    (Exit ∷ [])
    (1 ∷ 1 ∷ 1 ∷ 1 ∷ 0 ∷ 2 ∷ 0 ∷ [])

abbrev pub ended_and_closed_lines : Text
ended_and_closed_lines = of_lines (codes "work" ∷ codes "process p0 0 0" ∷ codes "process p1 1 3" ∷ codes "process p2 0 0" ∷ codes "closing 1 6" ∷ codes "total 2 9" ∷ codes "end" ∷ [])
