use Rattle.std.proofs.Common.{◌≡◌, drop}
use Rattle.std.specs.List.{list_all}
use Rattle.k_audit.specs.Tests.{share_fits}
use Rattle.k_audit.proofs.remains.shares_fit.Given as goal

abbrev pub invariant-loop-share : goal.invariant-loop-share
invariant-loop-share l = list_all (share_fits l.lists.state.phases) l.lists.state.shares ≡ list_all (share_fits l.lists.state.phases) (drop l.share-index l.share-items)
