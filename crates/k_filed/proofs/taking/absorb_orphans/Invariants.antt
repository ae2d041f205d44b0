use Rattle.std.proofs.Common.{◌≡◌}
use Rattle.k_filed.proofs.Absorptions.{Absorbing}
use Rattle.k_filed.proofs.taking.absorb_orphans.Given as goal

abbrev pub invariant-loop-s : goal.invariant-loop-s
invariant-loop-s l = record {
  all : l.count ≡ l.fn.state.setup.shared_heaps;
  absorbing : Absorbing l.fn.state l.state l.fn.events.items l.events.items l.s;
}
