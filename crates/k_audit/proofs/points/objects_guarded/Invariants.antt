use Rattle.std.proofs.Common.{◌≡◌}
use Rattle.std.specs.List.{list_all}
use Rattle.k_types.specs.Owners.{owner_of}
use Rattle.k_audit.specs.Tests.{object_guarded}
use Rattle.k_audit.proofs.Rests.{objects_from}
use Rattle.k_audit.proofs.points.objects_guarded.Given as goal

abbrev pub invariant-loop-s : goal.invariant-loop-s
invariant-loop-s l = list_all (object_guarded (owner_of l.lists.setup l.lists.state) l.lists.state.exits) l.lists.state.objects ≡ list_all (object_guarded (owner_of l.lists.setup l.lists.state) l.lists.state.exits) (objects_from l.lists.state.objects l.s)
