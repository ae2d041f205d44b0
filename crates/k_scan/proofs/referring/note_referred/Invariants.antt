use Rattle.std.specs.List.{list_any}
use Rattle.k_types.specs.Owners.{owner_of}
use Rattle.k_types.specs.State.{Object, refers}
use Rattle.k_scan.specs.Marks.{is_reached}
use Rattle.k_scan.specs.Notes.{HasNoted}
use Rattle.k_scan.proofs.Chosen.{chosen_below}
use Rattle.k_scan.proofs.referring.note_referred.Given as goal

abbrev pub invariant-loop-s : goal.invariant-loop-s
invariant-loop-s l =
    HasNoted l.lists.state.exits l.heap
    (λ n. list_any (λ (o : Object). refers o n) (chosen_below (owner_of l.lists.setup l.lists.state) l.heap (is_reached l.lists.setup l.lists.state l.heap) l.lists.state.objects l.s))
    l.initial.noted l.noted
