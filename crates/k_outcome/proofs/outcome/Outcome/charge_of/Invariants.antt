use Rattle.std.proofs.Common.{◌≡◌}
use Rattle.k_outcome.proofs.Charged.{charged_to}
use Rattle.k_outcome.proofs.outcome.Outcome.charge_of.Given as goal

abbrev pub invariant-loop-id : goal.invariant-loop-id
invariant-loop-id l = record {
  all : l.heaps ≡ l.self.setup.shared_heaps;
  charged : l.sum ≡ charged_to l.self l.pid.0 l.id;
}
