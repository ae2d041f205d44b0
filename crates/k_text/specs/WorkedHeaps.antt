-- More worked traces and their whole reports: faults, phases, exit items and the last collection.
use Rattle.std.specs.Prelude.{[], ◌∷◌, codes}
use Rattle.k_types.specs.declared.names.SharedId.{SharedId}
use Rattle.k_types.specs.declared.op.Op.TheVariants.{New, KNew, SNew, Store, Load, Move, Dir, Put, Get, Share, Freeze, Attach, Exit}
use Rattle.k_words.specs.Words.{Text}
use Rattle.k_trace.specs.Named.{NamedTrace}
use Rattle.k_text.specs.Worked.{of_lines, r, node, table, two_processes}

-- A second shared heap.
abbrev pub second : SharedId
second = record { 0 = 1 }

-- The trace with a second shared heap.
abbrev pub with_second_heap : NamedTrace → NamedTrace
with_second_heap t = record { names = record t.names { shared = codes "s" ∷ codes "t" ∷ [] }; trace = record t.trace { shared_heaps = 2 } }

-- The kernel heap has room for four objects, and refuses the fifth.
abbrev pub ceiling : NamedTrace
ceiling =
    two_processes
    (KNew (r 0) node ∷ KNew (r 0) node ∷ KNew (r 0) node ∷ KNew (r 0) node ∷ KNew (r 0) node ∷ [])
    []
    (0 ∷ 0 ∷ 0 ∷ 0 ∷ 0 ∷ [])

-- Its report.
abbrev pub ceiling_report : Text
ceiling_report = of_lines (
    codes "report 1"
    ∷ codes "p1 knew r0 Node = kernel.2"
    ∷ codes "p1 knew r0 Node = kernel.3"
    ∷ codes "p1 knew r0 Node = kernel.4"
    ∷ codes "p1 knew r0 Node = kernel.5"
    ∷ codes "p1 knew r0 Node = fault KernelFull"
    ∷ codes "graph"
    ∷ codes "kernel.1 kernel directory null null"
    ∷ codes "kernel.2 kernel Node null null 0"
    ∷ codes "kernel.3 kernel Node null null 0"
    ∷ codes "kernel.4 kernel Node null null 0"
    ∷ codes "kernel.5 kernel Node null null 0"
    ∷ codes "roots"
    ∷ codes "p1 r0 kernel.5"
    ∷ codes "exits"
    ∷ codes "shares"
    ∷ codes "faults"
    ∷ codes "p1 1"
    ∷ codes "p2 0"
    ∷ codes "charges"
    ∷ codes "kernel 192 of 200"
    ∷ codes "limit root 120 of 1000"
    ∷ codes "limit a 0 of 120"
    ∷ codes "limit b 0 of 400"
    ∷ codes "process p1 0"
    ∷ codes "process p2 0"
    ∷ codes "shared s 0 unmade"
    ∷ codes "end"
    ∷ [])

-- Accesses that are refused: through null, past the last field, and to a field of the other kind.
abbrev pub order_of_faults : NamedTrace
order_of_faults =
    two_processes
    (Load (r 0) (r 9) 7 ∷ New (r 0) node ∷ Load (r 1) (r 0) 3 ∷ Put (r 0) 0 5 ∷ Store (r 0) 2 (r 0) ∷ Store (r 0) 0 (r 5) ∷ [])
    []
    (0 ∷ 0 ∷ 0 ∷ 0 ∷ 0 ∷ 0 ∷ [])

-- Its report.
abbrev pub order_of_faults_report : Text
order_of_faults_report = of_lines (
    codes "report 1"
    ∷ codes "p1 load r0 r9 7 = fault Null"
    ∷ codes "p1 new r0 Node = p1.1"
    ∷ codes "p1 load r1 r0 3 = fault NoField"
    ∷ codes "p1 put r0 0 5 = fault WrongKind"
    ∷ codes "p1 store r0 2 r0 = fault WrongKind"
    ∷ codes "p1 store r0 0 r5 = ok"
    ∷ codes "graph"
    ∷ codes "kernel.1 kernel directory null null"
    ∷ codes "p1.1 p1 Node null null 0"
    ∷ codes "roots"
    ∷ codes "p1 r0 p1.1"
    ∷ codes "exits"
    ∷ codes "shares"
    ∷ codes "faults"
    ∷ codes "p1 4"
    ∷ codes "p2 0"
    ∷ codes "charges"
    ∷ codes "kernel 32 of 200"
    ∷ codes "limit root 120 of 1000"
    ∷ codes "limit a 40 of 120"
    ∷ codes "limit b 0 of 400"
    ∷ codes "process p1 40"
    ∷ codes "process p2 0"
    ∷ codes "shared s 0 unmade"
    ∷ codes "end"
    ∷ [])

-- A heap that one process populates is refused to the other.
abbrev pub phases_of_a_shared_heap : NamedTrace
phases_of_a_shared_heap =
    two_processes
    (Share table ∷ [])
    (Share table ∷ Attach (r 0) table ∷ SNew (r 0) table node ∷ Freeze table (r 0) ∷ [])
    (0 ∷ 1 ∷ 1 ∷ 1 ∷ 1 ∷ [])

-- Its report.
abbrev pub phases_of_a_shared_heap_report : Text
phases_of_a_shared_heap_report = of_lines (
    codes "report 1"
    ∷ codes "p1 share s = ok"
    ∷ codes "p2 share s = fault Taken s"
    ∷ codes "p2 attach r0 s = fault NotFrozen s"
    ∷ codes "p2 snew r0 s Node = fault NotPopulating s"
    ∷ codes "p2 freeze s r0 = fault Null"
    ∷ codes "graph"
    ∷ codes "kernel.1 kernel directory null null"
    ∷ codes "roots"
    ∷ codes "exits"
    ∷ codes "shares"
    ∷ codes "p1 s"
    ∷ codes "faults"
    ∷ codes "p1 0"
    ∷ codes "p2 4"
    ∷ codes "charges"
    ∷ codes "kernel 32 of 200"
    ∷ codes "limit root 120 of 1000"
    ∷ codes "limit a 0 of 120"
    ∷ codes "limit b 0 of 400"
    ∷ codes "process p1 0"
    ∷ codes "process p2 0"
    ∷ codes "shared s 0 populating p1"
    ∷ codes "end"
    ∷ [])

-- A process holds an object of a heap that it does not share yet.
abbrev pub heap_that_is_not_shared : NamedTrace
heap_that_is_not_shared =
    two_processes
    (Share table ∷ SNew (r 0) table node ∷ Dir (r 1) ∷ Store (r 1) 0 (r 0) ∷ Freeze table (r 0) ∷ [])
    (Dir (r 1) ∷ Load (r 2) (r 1) 0 ∷ Get (r 2) 2 ∷ Attach (r 3) table ∷ Get (r 2) 2 ∷ [])
    (0 ∷ 0 ∷ 0 ∷ 0 ∷ 1 ∷ 1 ∷ 1 ∷ 0 ∷ 1 ∷ 1 ∷ [])

-- Its report.
abbrev pub heap_that_is_not_shared_report : Text
heap_that_is_not_shared_report = of_lines (
    codes "report 1"
    ∷ codes "p1 share s = ok"
    ∷ codes "p1 snew r0 s Node = s.1"
    ∷ codes "p1 dir r1 = kernel.1"
    ∷ codes "p1 store r1 0 r0 = ok"
    ∷ codes "p2 dir r1 = kernel.1"
    ∷ codes "p2 load r2 r1 0 = s.1"
    ∷ codes "p2 get r2 2 = fault NotSharer s"
    ∷ codes "p1 freeze s r0 = ok"
    ∷ codes "p2 attach r3 s = s.1"
    ∷ codes "p2 get r2 2 = 0"
    ∷ codes "graph"
    ∷ codes "kernel.1 kernel directory s.1 null"
    ∷ codes "s.1 s Node null null 0"
    ∷ codes "roots"
    ∷ codes "p1 r0 s.1"
    ∷ codes "p1 r1 kernel.1"
    ∷ codes "p2 r1 kernel.1"
    ∷ codes "p2 r2 s.1"
    ∷ codes "p2 r3 s.1"
    ∷ codes "exits"
    ∷ codes "kernel s.1"
    ∷ codes "shares"
    ∷ codes "p1 s"
    ∷ codes "p2 s"
    ∷ codes "faults"
    ∷ codes "p1 0"
    ∷ codes "p2 1"
    ∷ codes "charges"
    ∷ codes "kernel 32 of 200"
    ∷ codes "limit root 160 of 1000"
    ∷ codes "limit a 40 of 120"
    ∷ codes "limit b 40 of 400"
    ∷ codes "process p1 40"
    ∷ codes "process p2 40"
    ∷ codes "shared s 40 frozen s.1"
    ∷ codes "end"
    ∷ [])

-- A user heap and a shared heap have exit items; no shared heap refers to a user heap or to another.
abbrev pub exits_of_each_kind : NamedTrace
exits_of_each_kind =
    with_second_heap (two_processes
    (New (r 0) node ∷ Share table ∷ Share second ∷ SNew (r 1) table node ∷ SNew (r 2) second node ∷ Store (r 1) 0 (r 0) ∷ Store (r 1) 0 (r 2) ∷ Dir (r 3) ∷ Store (r 1) 0 (r 3) ∷ Store (r 0) 0 (r 1) ∷ [])
    []
    (0 ∷ 0 ∷ 0 ∷ 0 ∷ 0 ∷ 0 ∷ 0 ∷ 0 ∷ 0 ∷ 0 ∷ []))

-- Its report.
abbrev pub exits_of_each_kind_report : Text
exits_of_each_kind_report = of_lines (
    codes "report 1"
    ∷ codes "p1 new r0 Node = p1.1"
    ∷ codes "p1 share s = ok"
    ∷ codes "p1 share t = ok"
    ∷ codes "p1 snew r1 s Node = s.1"
    ∷ codes "p1 snew r2 t Node = t.1"
    ∷ codes "p1 store r1 0 r0 = fault Segv"
    ∷ codes "p1 store r1 0 r2 = fault Segv"
    ∷ codes "p1 dir r3 = kernel.1"
    ∷ codes "p1 store r1 0 r3 = ok"
    ∷ codes "p1 store r0 0 r1 = ok"
    ∷ codes "graph"
    ∷ codes "kernel.1 kernel directory null null"
    ∷ codes "p1.1 p1 Node s.1 null 0"
    ∷ codes "s.1 s Node kernel.1 null 0"
    ∷ codes "t.1 t Node null null 0"
    ∷ codes "roots"
    ∷ codes "p1 r0 p1.1"
    ∷ codes "p1 r1 s.1"
    ∷ codes "p1 r2 t.1"
    ∷ codes "p1 r3 kernel.1"
    ∷ codes "exits"
    ∷ codes "p1 s.1"
    ∷ codes "s kernel.1"
    ∷ codes "shares"
    ∷ codes "p1 s"
    ∷ codes "p1 t"
    ∷ codes "faults"
    ∷ codes "p1 2"
    ∷ codes "p2 0"
    ∷ codes "charges"
    ∷ codes "kernel 32 of 200"
    ∷ codes "limit root 120 of 1000"
    ∷ codes "limit a 120 of 120"
    ∷ codes "limit b 0 of 400"
    ∷ codes "process p1 120"
    ∷ codes "process p2 0"
    ∷ codes "shared s 40 populating p1"
    ∷ codes "shared t 40 populating p1"
    ∷ codes "end"
    ∷ [])

-- Every process ends, and the last collection of the kernel frees what they left.
abbrev pub all_processes_end : NamedTrace
all_processes_end =
    two_processes
    (New (r 0) node ∷ Move (r 1) (r 0) ∷ Exit ∷ [])
    (Exit ∷ [])
    (0 ∷ 0 ∷ 0 ∷ 1 ∷ [])

-- Its report.
abbrev pub all_processes_end_report : Text
all_processes_end_report = of_lines (
    codes "report 1"
    ∷ codes "p1 new r0 Node = p1.1"
    ∷ codes "p1 move r1 r0 = ok"
    ∷ codes "p1 exit = ok"
    ∷ codes "p2 exit = ok"
    ∷ codes "closing"
    ∷ codes "ended kernel 1 40 0 0"
    ∷ codes "graph"
    ∷ codes "kernel.1 kernel directory null null"
    ∷ codes "roots"
    ∷ codes "exits"
    ∷ codes "shares"
    ∷ codes "faults"
    ∷ codes "p1 0"
    ∷ codes "p2 0"
    ∷ codes "charges"
    ∷ codes "kernel 32 of 200"
    ∷ codes "limit root 120 of 1000"
    ∷ codes "limit a 0 of 120"
    ∷ codes "limit b 0 of 400"
    ∷ codes "process p1 0"
    ∷ codes "process p2 0"
    ∷ codes "shared s 0 unmade"
    ∷ codes "end"
    ∷ [])
