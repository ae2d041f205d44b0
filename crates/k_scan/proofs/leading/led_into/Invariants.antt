use Rattle.std.proofs.Common.{take}
use Rattle.k_scan.specs.Leading.{AreLed}
use Rattle.k_scan.proofs.leading.led_into.Given as goal

abbrev pub invariant-loop-at : goal.invariant-loop-at
invariant-loop-at l = AreLed l.lists.setup l.lists.state l.heap (take l.at l.item-items) l.led
