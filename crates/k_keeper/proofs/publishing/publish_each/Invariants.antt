use Rattle.std.proofs.Common.{◌≡◌, ℕ}
use Rattle.k_keeper.specs.Keeping.{IsKept, objects_in}
use Rattle.k_keeper.specs.Publishing.{HavePublished}
use Rattle.k_keeper.proofs.publishing.publish_each.Given as goal

abbrev pub invariant-loop-p : goal.invariant-loop-p
invariant-loop-p l = record {
  published : HavePublished l.fn.host l.host l.p;
  kept : (left : ℕ) → IsKept l.fn.host left → IsKept l.host left;
  objects : objects_in l.host ≡ objects_in l.fn.host;
}
