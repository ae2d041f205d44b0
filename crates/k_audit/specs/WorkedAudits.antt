-- Worked snapshots, and what the audit answers of them.
use Rattle.std.specs.Prelude.{List, [], ◌∷◌, ◌++◌, codes}
use Rattle.k_words.specs.Words.{Text}
use Rattle.k_trace.specs.Named.{NamedTrace}
use Rattle.k_text.specs.Worked.{of_lines}
use Rattle.k_audit.specs.Answering.{answer_to}
use Rattle.k_audit.specs.declared.verdicts.Verdict.{Verdict}

-- What the audit answers of these lines, over the header of the trace.
abbrev pub audited : NamedTrace → List Text → Verdict
audited t lines = answer_to t.names t.trace (of_lines lines)

-- The lines up to the shares of the snapshot where every sharer pays in full.
abbrev pub sharing_front : List Text
sharing_front =
    codes "snapshot 1"
    ∷ codes "made"
    ∷ codes "kernel 1"
    ∷ codes "p1 0"
    ∷ codes "p2 0"
    ∷ codes "s 2"
    ∷ codes "graph"
    ∷ codes "kernel.1 kernel directory null null"
    ∷ codes "s.1 s Node s.2 null 0"
    ∷ codes "s.2 s Node null null 0"
    ∷ codes "roots"
    ∷ codes "p1 r0 s.1"
    ∷ codes "p1 r1 s.2"
    ∷ codes "p2 r0 s.1"
    ∷ codes "exits"
    ∷ codes "shares"
    ∷ codes "p1 s"
    ∷ []

-- The lines of its charges.
abbrev pub sharing_charges : List Text
sharing_charges =
    codes "charges"
    ∷ codes "kernel 32 of 200"
    ∷ codes "limit root 200 of 1000"
    ∷ codes "limit a 80 of 120"
    ∷ codes "limit b 80 of 400"
    ∷ codes "process p1 80"
    ∷ codes "process p2 80"
    ∷ codes "shared s 80 frozen s.1"
    ∷ codes "end"
    ∷ []

-- The whole snapshot.
abbrev pub sharing_snapshot : List Text
sharing_snapshot = sharing_front ++ codes "p2 s" ∷ sharing_charges

-- The same without one share, so that a process pays for nothing.
abbrev pub one_share_less : List Text
one_share_less = sharing_front ++ sharing_charges

-- The lines up to the exit items of the snapshot of the row of the barrier.
abbrev pub barrier_front : List Text
barrier_front =
    codes "snapshot 1"
    ∷ codes "made"
    ∷ codes "kernel 1"
    ∷ codes "p1 1"
    ∷ codes "p2 1"
    ∷ codes "s 0"
    ∷ codes "graph"
    ∷ codes "kernel.1 kernel directory p1.1 null"
    ∷ codes "p1.1 p1 Node null null 0"
    ∷ codes "p2.1 p2 Node null null 0"
    ∷ codes "roots"
    ∷ codes "p1 r0 p1.1"
    ∷ codes "p1 r1 kernel.1"
    ∷ codes "p2 r0 p2.1"
    ∷ codes "p2 r1 kernel.1"
    ∷ codes "p2 r2 p1.1"
    ∷ codes "exits"
    ∷ []

-- The lines behind its exit items.
abbrev pub barrier_back : List Text
barrier_back =
    codes "shares"
    ∷ codes "charges"
    ∷ codes "kernel 32 of 200"
    ∷ codes "limit root 160 of 1000"
    ∷ codes "limit a 40 of 120"
    ∷ codes "limit b 40 of 400"
    ∷ codes "process p1 40"
    ∷ codes "process p2 40"
    ∷ codes "shared s 0 unmade"
    ∷ codes "end"
    ∷ []

-- The whole snapshot.
abbrev pub barrier_snapshot : List Text
barrier_snapshot = barrier_front ++ codes "kernel p1.1" ∷ barrier_back

-- The same without its exit item.
abbrev pub one_exit_less : List Text
one_exit_less = barrier_front ++ barrier_back
