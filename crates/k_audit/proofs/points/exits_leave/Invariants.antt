use Rattle.std.proofs.Common.{◌≡◌, drop}
use Rattle.std.specs.List.{list_all}
use Rattle.k_types.specs.Owners.{owner_of}
use Rattle.k_audit.specs.Tests.{exit_leaves}
use Rattle.k_audit.proofs.points.exits_leave.Given as goal

abbrev pub invariant-loop-exit : goal.invariant-loop-exit
invariant-loop-exit l = list_all (exit_leaves (owner_of l.lists.setup l.lists.state)) l.lists.state.exits ≡ list_all (exit_leaves (owner_of l.lists.setup l.lists.state)) (drop l.exit-index l.exit-items)
