use Rattle.std.proofs.Common.{◌≡◌, drop}
use Rattle.std.specs.List.{list_all}
use Rattle.k_audit.specs.Tests.{target_there}
use Rattle.k_audit.proofs.points.targets_there.Given as goal

abbrev pub invariant-loop-exit : goal.invariant-loop-exit
invariant-loop-exit l = list_all (target_there l.lists.state.objects) l.lists.state.exits ≡ list_all (target_there l.lists.state.objects) (drop l.exit-index l.exit-items)
