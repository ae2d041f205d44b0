use Rattle.k_collect.specs.Unsharing.{ways_left}
use Rattle.k_collect.proofs.Unshared.{IsUnsharing}
use Rattle.k_collect.proofs.unsharing.drop_shares.Given as goal

abbrev pub invariant-loop-s : goal.invariant-loop-s
invariant-loop-s l = IsUnsharing (ways_left l.cell.value l.cell.pid.0 l.fn.book) l.cell.pid.0 l.fn.book l.book l.s l.unshared.shares l.unshared.bytes
