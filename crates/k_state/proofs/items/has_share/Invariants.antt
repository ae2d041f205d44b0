use Rattle.std.proofs.Common.{◌≡◌, drop}
use Rattle.k_types.specs.State.{has_share}
use Rattle.k_state.proofs.items.has_share.Given as goal

abbrev pub invariant-loop-e : goal.invariant-loop-e
invariant-loop-e l = has_share l.shares l.pid.0 l.shared.0 ≡ has_share (drop l.e-index l.shares) l.pid.0 l.shared.0
