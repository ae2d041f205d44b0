use Rattle.std.proofs.Common.{◌≡◌, map}
use Rattle.k_types.specs.Owners.{owner_of}
use Rattle.k_types.specs.Reach.{is_root}
use Rattle.k_types.specs.State.{Object}
use Rattle.k_scan.proofs.Chosen.{chosen_below}
use Rattle.k_scan.proofs.rooting.roots.Given as goal

abbrev pub invariant-loop-s : goal.invariant-loop-s
invariant-loop-s l =
    l.names.items
    ≡ map (λ (o : Object). o.name) (chosen_below (owner_of l.lists.setup l.lists.state) l.heap (is_root l.lists.setup l.lists.state l.heap) l.lists.state.objects l.s)
