use Rattle.std.proofs.Common.{◌≡◌, ◌+◌, false}
use Rattle.k_mark.proofs.Left.{left, black_work}
use Rattle.k_mark.proofs.Marked.{IsMarking}
use Rattle.k_mark.proofs.marking.mark.Given as goal

abbrev pub invariant-loop-found : goal.invariant-loop-found
invariant-loop-found g l = record {
  marking : IsMarking (λ n. false) l.fn.area l.area l.fn.exits.items l.exits.items;
  steps : l.steps ≡ l.fn.steps + black_work l.area;
  room : l.exits.room ≡ l.fn.exits.room;
}

abbrev pub decreases-loop-found : goal.decreases-loop-found
decreases-loop-found g l = left l.area
