-- What the trace declares, read from its text.
use Rattle.std.proofs.Common.{◌≡◌, ◌∙◌, ℕ, ◌∷◌, [], List, replicate, refl, ap, Ok, codes}
use Rattle.std.specs.Fmt.{digits}
use Rattle.k_types.specs.declared.op.Op.{Op}
use Rattle.k_types.specs.declared.setup.LimitRow.{LimitRow}
use Rattle.k_types.specs.Limits.{use_within, path_within}
use Rattle.k_types.specs.Owners.{owner_of_segment, bytes_by}
use Rattle.k_words.specs.Words.{Text}
use Rattle.k_words.specs.Names.{is_reserved}
use Rattle.k_trace.specs.Demands.{demands}
use Rattle.k_trace.specs.Judgement.{judgement, judged_lines, judged_line, line_in, version_line, kernel_line, line_of_types, type_line, root_line, line_of_limits, limit_line, proc_line, line_of_procs, IsBad}
use Rattle.k_trace.specs.Named.{NamedTrace}
use Rattle.k_trace.specs.Rules.{IsTrace, Spells}
use Rattle.k_reader.proofs.Exact.{apart, one}
use Rattle.k_reader.proofs.Sound.{sound}
use Rattle.k_big.specs.Worked.{of_lines}
use Rattle.k_big.specs.Workload.{declared_for, processes, root, share}

-- the text that is read
abbrev pub declared_text : Text
declared_text = of_lines (
    codes "kaffe 1"
    ∷ codes "kernel 80 8"
    ∷ codes "type Node ref ref int"
    ∷ codes "limit root 0"
    ∷ codes "limit l0 root hard 0"
    ∷ codes "limit l1 root hard 0"
    ∷ codes "limit l2 root hard 0"
    ∷ codes "limit l3 root hard 0"
    ∷ codes "limit l4 root hard 0"
    ∷ codes "limit l5 root hard 0"
    ∷ codes "limit l6 root hard 0"
    ∷ codes "limit l7 root hard 0"
    ∷ codes "proc w0 l0"
    ∷ codes "proc w1 l1"
    ∷ codes "proc w2 l2"
    ∷ codes "proc w3 l3"
    ∷ codes "proc w4 l4"
    ∷ codes "proc w5 l5"
    ∷ codes "proc w6 l6"
    ∷ codes "proc w7 l7"
    ∷ []
    )

-- what it declares
abbrev pub bare : NamedTrace
bare = declared_for 0 (replicate processes []) []

judged : judgement declared_text ≡ Ok bare
unfolding digits use_within path_within owner_of_segment bytes_by is_reserved demands judgement judged_lines judged_line line_in version_line kernel_line line_of_types type_line root_line line_of_limits limit_line proc_line line_of_procs
judged = refl

pub spelled : Spells declared_text bare
spelled = sound declared_text bare judged

-- whatever is read from the text is that
pub declared_is : (t : NamedTrace) → Spells declared_text t → t ≡ bare
declared_is t reads = one declared_text t bare reads spelled

-- and no line of it is bad
pub declared_is_good : (line reason : ℕ) → IsBad declared_text line reason → ⊥
declared_is_good line reason bad = apart declared_text bare line reason spelled bad

pub bare_is_trace : IsTrace bare
bare_is_trace = spelled.is_trace

-- the same trace with other limits, operations and order
abbrev refilled : List LimitRow → List (List Op) → List ℕ → NamedTrace → NamedTrace
refilled limits operations order t = record { names = t.names; trace = record t.trace { limits = limits; operations = operations; order = order } }

-- with its own limits, and operations in their order, it is the trace of so many objects
pub refilled_is : (objects : ℕ) (t : NamedTrace) (limits : List LimitRow) (operations : List (List Op)) (order : List ℕ) → t ≡ bare → limits ≡ root objects ∷ replicate processes (share objects)
    → refilled limits operations order t ≡ declared_for objects operations order
refilled_is objects t limits operations order is own =
    ap (refilled limits operations order) is ∙ ap (λ (rows : List LimitRow). refilled rows operations order bare) own
