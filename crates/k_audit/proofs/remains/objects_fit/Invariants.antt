use Rattle.std.proofs.Common.{◌≡◌}
use Rattle.std.specs.List.{list_all}
use Rattle.k_types.specs.Owners.{owner_of}
use Rattle.k_audit.specs.Tests.{object_fits}
use Rattle.k_audit.proofs.Rests.{objects_from}
use Rattle.k_audit.proofs.remains.objects_fit.Given as goal

abbrev pub invariant-loop-s : goal.invariant-loop-s
invariant-loop-s l = list_all (object_fits (owner_of l.lists.setup l.lists.state) l.lists.state.phases) l.lists.state.objects ≡ list_all (object_fits (owner_of l.lists.setup l.lists.state) l.lists.state.phases) (objects_from l.lists.state.objects l.s)
