use Rattle.std.proofs.Common.{◌≡◌, ◌++◌, map, drop}
use Rattle.k_types.specs.State.{Object}
use Rattle.k_state.specs.Marks.{marked}
use Rattle.k_scan.proofs.rooting.push_marked.Given as goal

abbrev pub invariant-loop-at : goal.invariant-loop-at
invariant-loop-at l =
    l.names.items ++ map (λ (o : Object). o.name) (marked (drop l.at l.marks) (drop l.at l.objects))
    ≡ l.fn.names.items ++ map (λ (o : Object). o.name) (marked l.marks l.objects)
