use Rattle.std.proofs.Common.{◌≡◌, length, take, vec_capacity}
use Rattle.k_entry.proofs.table.copied.Given as goal

abbrev pub invariant-loop-home : goal.invariant-loop-home
invariant-loop-home l = (l.copy.items ≡ take l.home-index l.homes) × (vec_capacity l.copy ≡ length l.homes)
