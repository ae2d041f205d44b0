use Rattle.std.proofs.Common.{sym, subst}
use Rattle.k_cell.specs.Changes.{HasItsExits}
use Rattle.k_heap.specs.Heaps.{HeapRecord}
use Rattle.k_heap.proofs.heap.HeapCell.mark.Goals as goal

pub mark-requires-clause-exits : goal.mark-requires-clause-exits
mark-requires-clause-exits c = subst (λ (h : HeapRecord). HasItsExits h.value) (sym c.self.view_is) c.requires.exits
