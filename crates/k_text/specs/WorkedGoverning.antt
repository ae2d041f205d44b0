-- Worked traces of the second version and their whole reports.
use Rattle.std.specs.Prelude.{ℕ, true, false, List, [], ◌∷◌, Some, None, codes}
use Rattle.k_types.specs.declared.names.Field.TheVariants.{Ref, Int}
use Rattle.k_types.specs.declared.names.LimitId.{LimitId}
use Rattle.k_types.specs.declared.names.Pid.{Pid}
use Rattle.k_types.specs.declared.op.Op.{Op}
use Rattle.k_types.specs.declared.op.Op.TheVariants.{New, Store, Load, Dir, Kill, Resize}
use Rattle.k_words.specs.Words.{Text}
use Rattle.k_trace.specs.Named.{NamedTrace}
use Rattle.k_text.specs.Worked.{limit, node, of_lines, r}

-- The process that ends and is ended.
abbrev pub p1 : Pid
p1 = record { 0 = 1 }

-- The limit of that number: the root is 0, the hard one below it 1, and the soft one 2.
abbrev pub at : ℕ → LimitId
at n = record { 0 = n }

-- A process on the root and two below it, one on a hard limit and one on a soft one, and a shared heap.
abbrev pub three_processes : List Op → List Op → List Op → List ℕ → NamedTrace
three_processes first second third order = record {
  names = record {
    types = codes "Node" ∷ [];
    limits = codes "root" ∷ codes "a" ∷ codes "b" ∷ [];
    procs = codes "p0" ∷ codes "p1" ∷ codes "p2" ∷ [];
    shared = codes "s" ∷ [];
  };
  trace = record {
    version = 2;
    ceiling = 200;
    dir_fields = 2;
    types = (Ref ∷ Ref ∷ Int ∷ []) ∷ [];
    limits = limit None true 1000 ∷ limit (Some (at 0)) true 120 ∷ limit (Some (at 0)) false 400 ∷ [];
    procs = at 0 ∷ at 1 ∷ at 2 ∷ [];
    shared_heaps = 1;
    operations = first ∷ second ∷ third ∷ [];
    order = order;
  };
}

-- A process whose limit is above that of another ends it; one beside it may not.
abbrev pub a_process_ends_another : NamedTrace
a_process_ends_another =
    three_processes
    (Kill p1 ∷ Kill p1 ∷ [])
    (New (r 0) node ∷ Dir (r 1) ∷ Store (r 1) 0 (r 0) ∷ New (r 5) node ∷ [])
    (Dir (r 0) ∷ Load (r 1) (r 0) 0 ∷ Kill p1 ∷ Load (r 2) (r 1) 0 ∷ [])
    (1 ∷ 1 ∷ 1 ∷ 2 ∷ 2 ∷ 2 ∷ 0 ∷ 2 ∷ 0 ∷ 1 ∷ [])

-- Its report: the last line of the ended process gives no event.
abbrev pub a_process_ends_another_report : Text
a_process_ends_another_report = of_lines (
    codes "report 1"
    ∷ codes "p1 new r0 Node = p1.1"
    ∷ codes "p1 dir r1 = kernel.1"
    ∷ codes "p1 store r1 0 r0 = ok"
    ∷ codes "p2 dir r0 = kernel.1"
    ∷ codes "p2 load r1 r0 0 = p1.1"
    ∷ codes "p2 kill p1 = fault ProcNotBelow p1"
    ∷ codes "p0 kill p1 = ok"
    ∷ codes "p2 load r2 r1 0 = null"
    ∷ codes "p0 kill p1 = ok"
    ∷ codes "graph"
    ∷ codes "kernel.1 kernel directory p1.1 null"
    ∷ codes "p1.1 kernel Node null null 0"
    ∷ codes "roots"
    ∷ codes "p2 r0 kernel.1"
    ∷ codes "p2 r1 p1.1"
    ∷ codes "exits"
    ∷ codes "shares"
    ∷ codes "faults"
    ∷ codes "p0 0"
    ∷ codes "p1 0"
    ∷ codes "p2 1"
    ∷ codes "charges"
    ∷ codes "kernel 72 of 200"
    ∷ codes "limit root 120 of 1000"
    ∷ codes "limit a 0 of 120"
    ∷ codes "limit b 0 of 400"
    ∷ codes "process p0 0"
    ∷ codes "process p1 0"
    ∷ codes "process p2 0"
    ∷ codes "shared s 0 unmade"
    ∷ codes "end"
    ∷ [])

-- Maxima change: not those at or above the process's own limit, not below what is used, and a hard one's not beyond what its parent
-- has left.
abbrev pub maxima_change : NamedTrace
maxima_change =
    three_processes
    (Resize (at 1) 200 ∷ Resize (at 2) 39 ∷ Resize (at 2) 40 ∷ Resize (at 1) 960 ∷ Resize (at 1) 961 ∷ Resize (at 1) 0 ∷ [])
    (Resize (at 1) 100 ∷ New (r 0) node ∷ [])
    (New (r 0) node ∷ New (r 1) node ∷ [])
    (0 ∷ 1 ∷ 2 ∷ 0 ∷ 0 ∷ 2 ∷ 0 ∷ 0 ∷ 0 ∷ 1 ∷ [])

-- Its report.
abbrev pub maxima_change_report : Text
maxima_change_report = of_lines (
    codes "report 1"
    ∷ codes "p0 resize a 200 = ok"
    ∷ codes "p1 resize a 100 = fault LimitNotBelow a"
    ∷ codes "p2 new r0 Node = p2.1"
    ∷ codes "p0 resize b 39 = fault InUse b"
    ∷ codes "p0 resize b 40 = ok"
    ∷ codes "p2 new r1 Node = fault LimitFull b"
    ∷ codes "p0 resize a 960 = ok"
    ∷ codes "p0 resize a 961 = fault LimitFull root"
    ∷ codes "p0 resize a 0 = ok"
    ∷ codes "p1 new r0 Node = fault LimitFull a"
    ∷ codes "graph"
    ∷ codes "kernel.1 kernel directory null null"
    ∷ codes "p2.1 p2 Node null null 0"
    ∷ codes "roots"
    ∷ codes "p2 r0 p2.1"
    ∷ codes "exits"
    ∷ codes "shares"
    ∷ codes "faults"
    ∷ codes "p0 2"
    ∷ codes "p1 2"
    ∷ codes "p2 1"
    ∷ codes "charges"
    ∷ codes "kernel 32 of 200"
    ∷ codes "limit root 40 of 1000"
    ∷ codes "limit a 0 of 0"
    ∷ codes "limit b 40 of 40"
    ∷ codes "process p0 0"
    ∷ codes "process p1 0"
    ∷ codes "process p2 40"
    ∷ codes "shared s 0 unmade"
    ∷ codes "end"
    ∷ [])

-- Nobody sets the maximum of the root, which is below no limit.
abbrev pub the_root_keeps_its_maximum : NamedTrace
the_root_keeps_its_maximum = three_processes (Resize (at 0) 5 ∷ []) [] [] (0 ∷ [])

-- Its report.
abbrev pub the_root_keeps_its_maximum_report : Text
the_root_keeps_its_maximum_report = of_lines (
    codes "report 1"
    ∷ codes "p0 resize root 5 = fault LimitNotBelow root"
    ∷ codes "graph"
    ∷ codes "kernel.1 kernel directory null null"
    ∷ codes "roots"
    ∷ codes "exits"
    ∷ codes "shares"
    ∷ codes "faults"
    ∷ codes "p0 1"
    ∷ codes "p1 0"
    ∷ codes "p2 0"
    ∷ codes "charges"
    ∷ codes "kernel 32 of 200"
    ∷ codes "limit root 120 of 1000"
    ∷ codes "limit a 0 of 120"
    ∷ codes "limit b 0 of 400"
    ∷ codes "process p0 0"
    ∷ codes "process p1 0"
    ∷ codes "process p2 0"
    ∷ codes "shared s 0 unmade"
    ∷ codes "end"
    ∷ [])
