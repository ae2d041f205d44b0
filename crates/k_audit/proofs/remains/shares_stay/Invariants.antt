use Rattle.std.proofs.Common.{◌≡◌, drop}
use Rattle.std.specs.List.{list_all}
use Rattle.k_audit.specs.Tests.{share_stays}
use Rattle.k_audit.proofs.remains.shares_stay.Given as goal

abbrev pub invariant-loop-share : goal.invariant-loop-share
invariant-loop-share l = list_all (share_stays l.lists.state.ended l.lists.state.phases) l.lists.state.shares ≡ list_all (share_stays l.lists.state.ended l.lists.state.phases) (drop l.share-index l.share-items)
