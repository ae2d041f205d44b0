-- Worked traces, and the snapshots of what their histories in the order of the file leave.
use Rattle.std.specs.Prelude.{[], ◌∷◌, codes}
use Rattle.k_types.specs.declared.op.Op.TheVariants.{New, Exit, Kill, Resize}
use Rattle.k_types.specs.FileOrder.{file_order}
use Rattle.k_types.specs.Steps.{state_after}
use Rattle.k_words.specs.Words.{Text}
use Rattle.k_trace.specs.Named.{NamedTrace}
use Rattle.k_text.specs.Worked.{node, of_lines, r}
use Rattle.k_text.specs.WorkedGoverning.{at, p1, three_processes}
use Rattle.k_audit.specs.Snapshots.{snapshot_text}

-- The snapshot of the state after the history in the order of the file.
abbrev pub file_order_snapshot : NamedTrace → Text
file_order_snapshot t = snapshot_text t.names t.trace (state_after t.trace (file_order t.trace))

-- The snapshot where every sharer pays in full: nobody has ended.
abbrev pub every_sharer_pays_snapshot : Text
every_sharer_pays_snapshot = of_lines (
    codes "snapshot 1"
    ∷ codes "made"
    ∷ codes "kernel 1"
    ∷ codes "p1 0"
    ∷ codes "p2 0"
    ∷ codes "s 2"
    ∷ codes "graph"
    ∷ codes "kernel.1 kernel directory null null"
    ∷ codes "s.1 s Node s.2 null 0"
    ∷ codes "s.2 s Node null null 0"
    ∷ codes "roots"
    ∷ codes "p1 r0 s.1"
    ∷ codes "p1 r1 s.2"
    ∷ codes "p2 r0 s.1"
    ∷ codes "exits"
    ∷ codes "shares"
    ∷ codes "p1 s"
    ∷ codes "p2 s"
    ∷ codes "charges"
    ∷ codes "kernel 32 of 200"
    ∷ codes "limit root 200 of 1000"
    ∷ codes "limit a 80 of 120"
    ∷ codes "limit b 80 of 400"
    ∷ codes "process p1 80"
    ∷ codes "process p2 80"
    ∷ codes "shared s 80 frozen s.1"
    ∷ codes "end"
    ∷ [])

-- The third process ends, then a maximum is lowered, then the second process is ended by the first.
abbrev pub two_are_gone : NamedTrace
two_are_gone = three_processes (Resize (at 1) 100 ∷ Kill p1 ∷ []) (New (r 0) node ∷ []) (Exit ∷ []) (1 ∷ 2 ∷ 0 ∷ 0 ∷ [])

-- Its snapshot: the ended ones stand in the order of the processes, and the maximum is the lowered one.
abbrev pub two_are_gone_snapshot : Text
two_are_gone_snapshot = of_lines (
    codes "snapshot 1"
    ∷ codes "gone p1"
    ∷ codes "gone p2"
    ∷ codes "made"
    ∷ codes "kernel 1"
    ∷ codes "p0 0"
    ∷ codes "p1 1"
    ∷ codes "p2 0"
    ∷ codes "s 0"
    ∷ codes "graph"
    ∷ codes "kernel.1 kernel directory null null"
    ∷ codes "p1.1 kernel Node null null 0"
    ∷ codes "roots"
    ∷ codes "exits"
    ∷ codes "shares"
    ∷ codes "charges"
    ∷ codes "kernel 72 of 200"
    ∷ codes "limit root 100 of 1000"
    ∷ codes "limit a 0 of 100"
    ∷ codes "limit b 0 of 400"
    ∷ codes "process p0 0"
    ∷ codes "process p1 0"
    ∷ codes "process p2 0"
    ∷ codes "shared s 0 unmade"
    ∷ codes "end"
    ∷ [])
