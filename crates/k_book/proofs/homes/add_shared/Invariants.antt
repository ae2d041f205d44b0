use Rattle.std.proofs.Common.{◌≡◌, ◌++◌, map}
use Rattle.k_types.specs.Numbers.{numbers_below}
use Rattle.k_types.specs.Owners.{shared}
use Rattle.k_book.proofs.homes.add_shared.Given as goal

abbrev pub invariant-loop-s : goal.invariant-loop-s
invariant-loop-s l = l.homes.items ≡ l.initial.homes.items ++ map shared (numbers_below l.s)
