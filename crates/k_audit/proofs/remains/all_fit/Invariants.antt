use Rattle.std.proofs.Common.{◌≡◌, drop}
use Rattle.std.specs.List.{list_all}
use Rattle.k_types.specs.Owners.{owner_of}
use Rattle.k_audit.specs.Tests.{object_fits}
use Rattle.k_audit.proofs.remains.all_fit.Given as goal

abbrev pub invariant-loop-object : goal.invariant-loop-object
invariant-loop-object l = list_all (object_fits (owner_of l.lists.setup l.lists.state) l.lists.state.phases) l.objects ≡ list_all (object_fits (owner_of l.lists.setup l.lists.state) l.lists.state.phases) (drop l.object-index l.objects)
