use Rattle.std.proofs.Common.{sym, subst}
use Rattle.k_cell.specs.Holdings.{HasObjectRoom}
use Rattle.k_heap.specs.Heaps.{HeapRecord, holdings_of, own_segment}
use Rattle.k_heap.proofs.heap.HeapCell.place.Goals as goal

pub place-requires-clause-left : goal.place-requires-clause-left
place-requires-clause-left c =
    let l = subst (λ (r : HeapRecord). HasObjectRoom (holdings_of r) (own_segment r.pid)) (sym c.self.view_is) c.requires.left in
    record { given = l.given; room = l.room; there = l.there; can_give = l.can_give; left = l.left }
