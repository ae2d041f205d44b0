use Rattle.std.proofs.Common.{take}
use Rattle.std.specs.List.{list_any}
use Rattle.k_types.specs.State.{content_leads_to}
use Rattle.k_types.specs.Owners.{objects_of, owner_of}
use Rattle.k_state.specs.Contents.{content}
use Rattle.k_scan.specs.Marks.{HasLooked}
use Rattle.k_scan.proofs.reaching.follow.Given as goal

abbrev pub invariant-loop-value : goal.invariant-loop-value
invariant-loop-value l =
    HasLooked l.lists.state.objects (objects_of (owner_of l.lists.setup l.lists.state) l.heap l.lists.state.objects)
    (λ n. list_any (λ value. content_leads_to n (content value)) (take l.value-index l.value-items))
    l.fn.marks l.marks l.fn.work.items l.work.items
