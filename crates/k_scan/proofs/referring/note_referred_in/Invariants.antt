use Rattle.std.proofs.Common.{take}
use Rattle.std.specs.List.{list_any}
use Rattle.k_types.specs.State.{Object, refers}
use Rattle.k_state.specs.Marks.{marked}
use Rattle.k_scan.specs.Notes.{HasNoted}
use Rattle.k_scan.proofs.referring.note_referred_in.Given as goal

abbrev pub invariant-loop-at : goal.invariant-loop-at
invariant-loop-at l =
    HasNoted l.lists.state.exits l.heap (λ n. list_any (λ (o : Object). refers o n) (marked (take l.at l.reached) (take l.at l.objects))) l.fn.noted l.noted
