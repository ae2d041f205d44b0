use Rattle.std.proofs.Common.{◌≡◌, ◌++◌, map}
use Rattle.k_types.specs.Numbers.{numbers_below}
use Rattle.k_types.specs.Owners.{user}
use Rattle.k_book.proofs.homes.add_users.Given as goal

abbrev pub invariant-loop-p : goal.invariant-loop-p
invariant-loop-p l = l.homes.items ≡ l.initial.homes.items ++ map user (numbers_below l.p)
