use Rattle.std.proofs.Common.{◌≡◌, ◌++◌, replicate}
use Rattle.k_big.proofs.operating.push_turns.Given as goal

abbrev pub invariant-loop : goal.invariant-loop
invariant-loop l = l.order.items ≡ l.fn.order.items ++ replicate l.counter l.pid
