use Rattle.k_operate.proofs.Collected.{can_end_swept, has_ended_swept}
use Rattle.k_operate.proofs.collecting.end_collection.Goals as goal

pub end_swept_heap-requires : goal.end_swept_heap-requires
end_swept_heap-requires g c = can_end_swept g.world' c.args.process.now c.args.book.now c.args.freed c.requires

pub returns : goal.returns
returns g c =
    has_ended_swept g.world' c.args.process.now c.args.book.now c.args.freed c.requires c.end_swept_heap.new.cell c.end_swept_heap.new.book c.end_swept_heap.result c.end_swept_heap.ensures.ended
    c.end_swept_heap.ensures.fits
