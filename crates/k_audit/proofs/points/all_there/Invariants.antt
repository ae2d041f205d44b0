use Rattle.std.proofs.Common.{◌≡◌, drop}
use Rattle.std.specs.List.{list_all}
use Rattle.k_audit.specs.Tests.{object_there}
use Rattle.k_audit.proofs.points.all_there.Given as goal

abbrev pub invariant-loop-object : goal.invariant-loop-object
invariant-loop-object l = list_all (object_there l.lists.state.objects) l.objects ≡ list_all (object_there l.lists.state.objects) (drop l.object-index l.objects)
