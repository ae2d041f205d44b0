use Rattle.std.proofs.Common.{◌≡◌, length}
use Rattle.k_types.specs.Owners.{owner_of}
use Rattle.k_audit.specs.Agreeing.{owners_agree}
use Rattle.k_audit.proofs.Rests.{objects_from}
use Rattle.k_audit.proofs.sums.owners_agree.Given as goal

abbrev pub invariant-loop-s : goal.invariant-loop-s
invariant-loop-s l = record {
  long : length l.rest ≡ length (objects_from l.lists.state.objects l.s);
  same : owners_agree (owner_of l.lists.setup l.lists.state) l.owners l.lists.state.objects
      ≡ owners_agree (owner_of l.lists.setup l.lists.state) l.rest (objects_from l.lists.state.objects l.s);
}
