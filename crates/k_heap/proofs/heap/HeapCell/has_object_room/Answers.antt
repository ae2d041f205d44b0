use Rattle.std.proofs.Common.{IsTrue, subst}
use Rattle.k_cell.specs.Holdings.{HasObjectRoom}
use Rattle.k_heap.specs.Heaps.{HeapRecord, holdings_of, own_segment}
use Rattle.k_heap.proofs.heap.HeapCell.has_object_room.Goals as goal

pub returns : goal.returns
returns c =
    subst
    (λ (r : HeapRecord). (IsTrue c.has_object_room.result → HasObjectRoom (holdings_of r) (own_segment r.pid)) × (HasObjectRoom (holdings_of r) (own_segment r.pid) → IsTrue c.has_object_room.result))
    c.self.view_is (
      λ yes. let l = c.has_object_room.ensures.0 yes in record { given = l.given; room = l.room; there = l.there; can_give = l.can_give; left = l.left },
      λ l. c.has_object_room.ensures.1 (record { given = l.given; room = l.room; there = l.there; can_give = l.can_give; left = l.left }),
    )
