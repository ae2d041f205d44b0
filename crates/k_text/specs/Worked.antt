-- Worked traces and their whole reports.
use Rattle.std.specs.Prelude.{ℕ, Bool, true, false, List, [], ◌∷◌, ◌++◌, Option, Some, None, codes}
use Rattle.std.specs.List.{flat_map}
use Rattle.k_types.specs.declared.names.Reg.{Reg}
use Rattle.k_types.specs.declared.names.LimitId.{LimitId}
use Rattle.k_types.specs.declared.names.TypeId.{TypeId}
use Rattle.k_types.specs.declared.names.SharedId.{SharedId}
use Rattle.k_types.specs.declared.names.Field.TheVariants.{Ref, Int}
use Rattle.k_types.specs.declared.setup.LimitRow.{LimitRow}
use Rattle.k_types.specs.declared.op.Op.{Op}
use Rattle.k_types.specs.declared.op.Op.TheVariants.{New, SNew, Store, Load, Clear, Dir, Put, Get, Collect, KCollect, Share, Freeze, Attach, Exit}
use Rattle.k_types.specs.FileOrder.{file_order}
use Rattle.k_words.specs.Words.{Text}
use Rattle.k_trace.specs.Named.{NamedTrace}
use Rattle.k_text.specs.Report.{report_text}

-- The report of the history in the order of the file.
abbrev pub file_order_report : NamedTrace → Text
file_order_report t = report_text t.names t.trace (file_order t.trace)

-- The text of these lines, each ended by a line feed.
abbrev pub of_lines : List Text → Text
of_lines lines = flat_map (λ line. line ++ 10 ∷ []) lines

-- The register of that number.
abbrev pub r : ℕ → Reg
r n = record { 0 = n }

-- The one type, of two references and a number.
abbrev pub node : TypeId
node = record { 0 = 0 }

-- The one shared heap.
abbrev pub table : SharedId
table = record { 0 = 0 }

-- A limit with its parent.
abbrev pub limit : Option LimitId → Bool → ℕ → LimitRow
limit parent hard max = record { parent = parent; hard = hard; max = max }

-- One process, with room for two objects: a store and a load, an object too many, and a load through null.
abbrev pub first_run : NamedTrace
first_run = record {
  names = record { types = codes "Node" ∷ []; limits = codes "a" ∷ []; procs = codes "p1" ∷ []; shared = [] };
  trace = record {
    version = 1;
    ceiling = 32;
    dir_fields = 2;
    types = (Ref ∷ Ref ∷ Int ∷ []) ∷ [];
    limits = limit None true 80 ∷ [];
    procs = record { 0 = 0 } ∷ [];
    shared_heaps = 0;
    operations = (New (r 0) node ∷ New (r 1) node ∷ Store (r 0) 0 (r 1) ∷ Load (r 2) (r 0) 0 ∷ New (r 3) node ∷ Load (r 4) (r 5) 0 ∷ []) ∷ [];
    order = 0 ∷ 0 ∷ 0 ∷ 0 ∷ 0 ∷ 0 ∷ [];
  };
}

-- The report of the first run.
abbrev pub first_report : Text
first_report = of_lines (
    codes "report 1"
    ∷ codes "p1 new r0 Node = p1.1"
    ∷ codes "p1 new r1 Node = p1.2"
    ∷ codes "p1 store r0 0 r1 = ok"
    ∷ codes "p1 load r2 r0 0 = p1.2"
    ∷ codes "p1 new r3 Node = fault LimitFull a"
    ∷ codes "p1 load r4 r5 0 = fault Null"
    ∷ codes "graph"
    ∷ codes "kernel.1 kernel directory null null"
    ∷ codes "p1.1 p1 Node p1.2 null 0"
    ∷ codes "p1.2 p1 Node null null 0"
    ∷ codes "roots"
    ∷ codes "p1 r0 p1.1"
    ∷ codes "p1 r1 p1.2"
    ∷ codes "p1 r2 p1.2"
    ∷ codes "exits"
    ∷ codes "shares"
    ∷ codes "faults"
    ∷ codes "p1 2"
    ∷ codes "charges"
    ∷ codes "kernel 32 of 32"
    ∷ codes "limit a 80 of 80"
    ∷ codes "process p1 80"
    ∷ codes "end"
    ∷ [])

-- Two processes, one on a hard limit and one on a soft one, and a shared heap.
abbrev pub two_processes : List Op → List Op → List ℕ → NamedTrace
two_processes first second order = record {
  names = record {
    types = codes "Node" ∷ [];
    limits = codes "root" ∷ codes "a" ∷ codes "b" ∷ [];
    procs = codes "p1" ∷ codes "p2" ∷ [];
    shared = codes "s" ∷ [];
  };
  trace = record {
    version = 1;
    ceiling = 200;
    dir_fields = 2;
    types = (Ref ∷ Ref ∷ Int ∷ []) ∷ [];
    limits = limit None true 1000 ∷ limit (Some (record { 0 = 0 })) true 120 ∷ limit (Some (record { 0 = 0 })) false 400 ∷ [];
    procs = record { 0 = 1 } ∷ record { 0 = 2 } ∷ [];
    shared_heaps = 1;
    operations = first ∷ second ∷ [];
    order = order;
  };
}

-- The trace without operations.
abbrev pub no_operations : NamedTrace
no_operations = two_processes [] [] []

-- Its report.
abbrev pub no_operations_report : Text
no_operations_report = of_lines (
    codes "report 1"
    ∷ codes "graph"
    ∷ codes "kernel.1 kernel directory null null"
    ∷ codes "roots"
    ∷ codes "exits"
    ∷ codes "shares"
    ∷ codes "faults"
    ∷ codes "p1 0"
    ∷ codes "p2 0"
    ∷ codes "charges"
    ∷ codes "kernel 32 of 200"
    ∷ codes "limit root 120 of 1000"
    ∷ codes "limit a 0 of 120"
    ∷ codes "limit b 0 of 400"
    ∷ codes "process p1 0"
    ∷ codes "process p2 0"
    ∷ codes "shared s 0 unmade"
    ∷ codes "end"
    ∷ [])

-- The second process loads what it may neither store nor read.
abbrev pub barrier : NamedTrace
barrier =
    two_processes
    (New (r 0) node ∷ Dir (r 1) ∷ Store (r 1) 0 (r 0) ∷ [])
    (Dir (r 1) ∷ Load (r 2) (r 1) 0 ∷ New (r 0) node ∷ Store (r 0) 0 (r 2) ∷ Load (r 3) (r 2) 0 ∷ [])
    (0 ∷ 0 ∷ 0 ∷ 1 ∷ 1 ∷ 1 ∷ 1 ∷ 1 ∷ [])

-- The report of the barrier.
abbrev pub barrier_report : Text
barrier_report = of_lines (
    codes "report 1"
    ∷ codes "p1 new r0 Node = p1.1"
    ∷ codes "p1 dir r1 = kernel.1"
    ∷ codes "p1 store r1 0 r0 = ok"
    ∷ codes "p2 dir r1 = kernel.1"
    ∷ codes "p2 load r2 r1 0 = p1.1"
    ∷ codes "p2 new r0 Node = p2.1"
    ∷ codes "p2 store r0 0 r2 = fault Segv"
    ∷ codes "p2 load r3 r2 0 = fault Foreign"
    ∷ codes "graph"
    ∷ codes "kernel.1 kernel directory p1.1 null"
    ∷ codes "p1.1 p1 Node null null 0"
    ∷ codes "p2.1 p2 Node null null 0"
    ∷ codes "roots"
    ∷ codes "p1 r0 p1.1"
    ∷ codes "p1 r1 kernel.1"
    ∷ codes "p2 r0 p2.1"
    ∷ codes "p2 r1 kernel.1"
    ∷ codes "p2 r2 p1.1"
    ∷ codes "exits"
    ∷ codes "kernel p1.1"
    ∷ codes "shares"
    ∷ codes "faults"
    ∷ codes "p1 0"
    ∷ codes "p2 2"
    ∷ codes "charges"
    ∷ codes "kernel 32 of 200"
    ∷ codes "limit root 160 of 1000"
    ∷ codes "limit a 40 of 120"
    ∷ codes "limit b 40 of 400"
    ∷ codes "process p1 40"
    ∷ codes "process p2 40"
    ∷ codes "shared s 0 unmade"
    ∷ codes "end"
    ∷ [])

-- Every sharer pays in full.
abbrev pub every_sharer_pays : NamedTrace
every_sharer_pays =
    two_processes
    (Share table ∷ SNew (r 0) table node ∷ SNew (r 1) table node ∷ Store (r 0) 0 (r 1) ∷ Freeze table (r 0) ∷ [])
    (Attach (r 0) table ∷ [])
    (0 ∷ 0 ∷ 0 ∷ 0 ∷ 0 ∷ 1 ∷ [])

-- The report where every sharer pays in full.
abbrev pub every_sharer_pays_report : Text
every_sharer_pays_report = of_lines (
    codes "report 1"
    ∷ codes "p1 share s = ok"
    ∷ codes "p1 snew r0 s Node = s.1"
    ∷ codes "p1 snew r1 s Node = s.2"
    ∷ codes "p1 store r0 0 r1 = ok"
    ∷ codes "p1 freeze s r0 = ok"
    ∷ codes "p2 attach r0 s = s.1"
    ∷ codes "graph"
    ∷ codes "kernel.1 kernel directory null null"
    ∷ codes "s.1 s Node s.2 null 0"
    ∷ codes "s.2 s Node null null 0"
    ∷ codes "roots"
    ∷ codes "p1 r0 s.1"
    ∷ codes "p1 r1 s.2"
    ∷ codes "p2 r0 s.1"
    ∷ codes "exits"
    ∷ codes "shares"
    ∷ codes "p1 s"
    ∷ codes "p2 s"
    ∷ codes "faults"
    ∷ codes "p1 0"
    ∷ codes "p2 0"
    ∷ codes "charges"
    ∷ codes "kernel 32 of 200"
    ∷ codes "limit root 200 of 1000"
    ∷ codes "limit a 80 of 120"
    ∷ codes "limit b 80 of 400"
    ∷ codes "process p1 80"
    ∷ codes "process p2 80"
    ∷ codes "shared s 80 frozen s.1"
    ∷ codes "end"
    ∷ [])

-- A dead process's object that another holds.
abbrev pub object_of_a_dead_process : NamedTrace
object_of_a_dead_process =
    two_processes
    (New (r 0) node ∷ New (r 1) node ∷ Store (r 0) 0 (r 1) ∷ Dir (r 2) ∷ Store (r 2) 0 (r 0) ∷ Exit ∷ [])
    (Dir (r 0) ∷ Load (r 1) (r 0) 0 ∷ Load (r 2) (r 1) 0 ∷ Store (r 0) 0 (r 3) ∷ KCollect ∷ [])
    (0 ∷ 0 ∷ 0 ∷ 0 ∷ 0 ∷ 1 ∷ 1 ∷ 0 ∷ 1 ∷ 1 ∷ 1 ∷ [])

-- The report with the object of a dead process.
abbrev pub object_of_a_dead_process_report : Text
object_of_a_dead_process_report = of_lines (
    codes "report 1"
    ∷ codes "p1 new r0 Node = p1.1"
    ∷ codes "p1 new r1 Node = p1.2"
    ∷ codes "p1 store r0 0 r1 = ok"
    ∷ codes "p1 dir r2 = kernel.1"
    ∷ codes "p1 store r2 0 r0 = ok"
    ∷ codes "p2 dir r0 = kernel.1"
    ∷ codes "p2 load r1 r0 0 = p1.1"
    ∷ codes "p1 exit = ok"
    ∷ codes "p2 load r2 r1 0 = p1.2"
    ∷ codes "p2 store r0 0 r3 = ok"
    ∷ codes "p2 kcollect = ok"
    ∷ codes "ended kernel 0 0 0 0"
    ∷ codes "graph"
    ∷ codes "kernel.1 kernel directory null null"
    ∷ codes "p1.1 kernel Node p1.2 null 0"
    ∷ codes "p1.2 kernel Node null null 0"
    ∷ codes "roots"
    ∷ codes "p2 r0 kernel.1"
    ∷ codes "p2 r1 p1.1"
    ∷ codes "p2 r2 p1.2"
    ∷ codes "exits"
    ∷ codes "shares"
    ∷ codes "faults"
    ∷ codes "p1 0"
    ∷ codes "p2 0"
    ∷ codes "charges"
    ∷ codes "kernel 112 of 200"
    ∷ codes "limit root 120 of 1000"
    ∷ codes "limit a 0 of 120"
    ∷ codes "limit b 0 of 400"
    ∷ codes "process p1 0"
    ∷ codes "process p2 0"
    ∷ codes "shared s 0 unmade"
    ∷ codes "end"
    ∷ [])

-- A frozen heap refuses a reference and takes a number; one sharer gives it up, the other ends, and the kernel absorbs it.
abbrev pub orphaned_and_absorbed : NamedTrace
orphaned_and_absorbed =
    two_processes
    (Share table ∷ SNew (r 0) table node ∷ SNew (r 1) table node ∷ Store (r 0) 0 (r 1) ∷ Freeze table (r 0) ∷ Store (r 0) 1 (r 0) ∷ Put (r 0) 2 7 ∷ Exit ∷ [])
    (Attach (r 0) table ∷ Get (r 0) 2 ∷ Clear (r 0) ∷ Collect ∷ KCollect ∷ [])
    (0 ∷ 0 ∷ 0 ∷ 0 ∷ 0 ∷ 1 ∷ 0 ∷ 0 ∷ 1 ∷ 1 ∷ 1 ∷ 0 ∷ 1 ∷ [])

-- The report with the heap that was orphaned and absorbed.
abbrev pub orphaned_and_absorbed_report : Text
orphaned_and_absorbed_report = of_lines (
    codes "report 1"
    ∷ codes "p1 share s = ok"
    ∷ codes "p1 snew r0 s Node = s.1"
    ∷ codes "p1 snew r1 s Node = s.2"
    ∷ codes "p1 store r0 0 r1 = ok"
    ∷ codes "p1 freeze s r0 = ok"
    ∷ codes "p2 attach r0 s = s.1"
    ∷ codes "p1 store r0 1 r0 = fault Frozen"
    ∷ codes "p1 put r0 2 7 = ok"
    ∷ codes "p2 get r0 2 = 7"
    ∷ codes "p2 drop r0 = ok"
    ∷ codes "p2 collect = ok"
    ∷ codes "ended p2 0 0 0 1"
    ∷ codes "p1 exit = ok"
    ∷ codes "absorbed s"
    ∷ codes "p2 kcollect = ok"
    ∷ codes "ended kernel 2 80 0 0"
    ∷ codes "graph"
    ∷ codes "kernel.1 kernel directory null null"
    ∷ codes "roots"
    ∷ codes "exits"
    ∷ codes "shares"
    ∷ codes "faults"
    ∷ codes "p1 1"
    ∷ codes "p2 0"
    ∷ codes "charges"
    ∷ codes "kernel 32 of 200"
    ∷ codes "limit root 120 of 1000"
    ∷ codes "limit a 0 of 120"
    ∷ codes "limit b 0 of 400"
    ∷ codes "process p1 0"
    ∷ codes "process p2 0"
    ∷ codes "shared s 0 absorbed"
    ∷ codes "end"
    ∷ [])
