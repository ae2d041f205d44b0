use Rattle.std.proofs.Common.{◌≡◌, true}
use Rattle.k_mark.specs.Kept.{old_at}
use Rattle.k_mark.proofs.Left.{left}
use Rattle.k_mark.proofs.Marked.{IsMarking}
use Rattle.k_mark.proofs.KeptMarked.{AreTracedLower}
use Rattle.k_mark.proofs.keeping.mark_kept_on.Given as goal

abbrev pub invariant-loop-found : goal.invariant-loop-found
invariant-loop-found g l = record {
  marking : IsMarking (old_at l.fn.area l.fn.bound) l.fn.area l.area l.fn.exits.items l.exits.items;
  lower : l.lower ≡ true → AreTracedLower l.fn.area l.fn.bound l.area l.next;
  room : l.exits.room ≡ l.fn.exits.room;
}

abbrev pub decreases-loop-found : goal.decreases-loop-found
decreases-loop-found g l = left l.area
