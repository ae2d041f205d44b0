use Rattle.std.proofs.Common.{take}
use Rattle.std.specs.List.{list_any}
use Rattle.k_types.specs.State.{content_leads_to}
use Rattle.k_state.specs.Contents.{content}
use Rattle.k_scan.specs.Notes.{HasNoted}
use Rattle.k_scan.proofs.referring.note_references.Given as goal

abbrev pub invariant-loop-value : goal.invariant-loop-value
invariant-loop-value l =
    HasNoted l.lists.state.exits l.heap (λ n. list_any (λ value. content_leads_to n (content value)) (take l.value-index l.value-items)) l.fn.noted l.noted
