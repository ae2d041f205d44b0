use Rattle.std.proofs.Common.{◌≡◌}
use Rattle.std.specs.List.{list_all}
use Rattle.k_audit.specs.Tests.{object_there}
use Rattle.k_audit.proofs.Rests.{objects_from}
use Rattle.k_audit.proofs.points.objects_there.Given as goal

abbrev pub invariant-loop-s : goal.invariant-loop-s
invariant-loop-s l = list_all (object_there l.lists.state.objects) l.lists.state.objects ≡ list_all (object_there l.lists.state.objects) (objects_from l.lists.state.objects l.s)
