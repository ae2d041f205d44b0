use Rattle.std.proofs.Common.{◌≡◌, drop}
use Rattle.std.specs.List.{list_all}
use Rattle.k_audit.specs.Tests.{is_numbered}
use Rattle.k_audit.proofs.points.all_numbered.Given as goal

abbrev pub invariant-loop-object : goal.invariant-loop-object
invariant-loop-object l = list_all (is_numbered l.state.made) l.state.objects ≡ list_all (is_numbered l.state.made) (drop l.object-index l.object-items)
