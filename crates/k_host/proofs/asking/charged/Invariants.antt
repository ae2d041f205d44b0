use Rattle.std.proofs.Common.{◌≡◌}
use Rattle.k_host.proofs.Charged.{so_far}
use Rattle.k_host.proofs.asking.charged.Given as goal

abbrev pub invariant-loop-id : goal.invariant-loop-id
invariant-loop-id l = l.bytes ≡ so_far l.book.value l.cell.value l.cell.pid.0 l.id
