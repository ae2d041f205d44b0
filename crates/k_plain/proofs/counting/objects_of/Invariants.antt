use Rattle.std.proofs.Common.{◌≡◌, length}
use Rattle.k_types.specs.Owners.{owner_of}
use Rattle.k_scan.proofs.Pools.{pool_below}
use Rattle.k_plain.proofs.counting.objects_of.Given as goal

abbrev pub invariant-loop-s : goal.invariant-loop-s
invariant-loop-s l = l.count ≡ length (pool_below (owner_of l.lists.setup l.lists.state) l.heap l.lists.state.objects l.s)
