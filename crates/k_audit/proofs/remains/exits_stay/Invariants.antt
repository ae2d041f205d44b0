use Rattle.std.proofs.Common.{◌≡◌, drop}
use Rattle.std.specs.List.{list_all}
use Rattle.k_audit.specs.Tests.{exits_stay, heap_stays}
use Rattle.k_audit.proofs.remains.exits_stay.Given as goal

abbrev pub invariant-loop-exit : goal.invariant-loop-exit
invariant-loop-exit l = exits_stay l.lists.state ≡ list_all (λ e. heap_stays l.lists.state.ended l.lists.state.phases e.heap) (drop l.exit-index l.exit-items)
