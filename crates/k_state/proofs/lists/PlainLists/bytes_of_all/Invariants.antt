use Rattle.std.proofs.Common.{◌≡◌}
use Rattle.k_state.proofs.Heaps.{bytes_below}
use Rattle.k_state.proofs.lists.PlainLists.bytes_of_all.Given as goal

abbrev pub invariant-loop-seg : goal.invariant-loop-seg
invariant-loop-seg l = l.sum ≡ bytes_below l.self l.heap l.seg
