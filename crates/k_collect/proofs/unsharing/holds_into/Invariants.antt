use Rattle.std.proofs.Common.{◌≡◌, false, take}
use Rattle.std.specs.List.{list_any}
use Rattle.k_laws.specs.BookChanges.{registers_in}
use Rattle.k_collect.specs.Unsharing.{lies_in}
use Rattle.k_collect.proofs.unsharing.holds_into.Given as goal

abbrev pub invariant-loop-r : goal.invariant-loop-r
invariant-loop-r l = list_any (lies_in l.seg.0) (take l.r (registers_in l.cell.value.process)) ≡ false
