use Rattle.std.proofs.Common.{◌≡◌, arith}
use Rattle.k_shared.specs.SharedHeaps.{opened_shared}
use Rattle.k_types.specs.declared.names.Heap.TheVariants.{Shared}
use Rattle.k_types.specs.Trace.{segment_of}
use Rattle.k_still.specs.Opening.{HasOpenedHeap}
use Rattle.k_process.proofs.Lists.{ok_weaker}
use Rattle.k_still.proofs.Begun.{can_begin, heap_opened}
use Rattle.k_still.proofs.beginning.open_heap.Goals as goal

pub take_next-note-requires : goal.take_next-note-requires
take_next-note-requires g c = can_begin g.world' (segment_of g.world'.trace (Shared c.args.id)) c.args.beginnings.now c.requires.beginnings (omega (arith, c.requires.known))

pub returns : goal.returns
returns g c =
    ok_weaker (λ made. made ≡ opened_shared c.args.setup.now c.args.id c.take_next-note.result.1 c.args.exits c.take_next-note.result.0)
    (λ made. HasOpenedHeap g.world' c.args.id made c.take_next-note.new.beginnings)
    (λ made is. heap_opened g.world' c.args.setup.now c.args.id c.args.exits c.args.beginnings.now c.take_next-note.new.beginnings c.take_next-note.result.0 c.take_next-note.result.1 made c.requires c.take_next-note.ensures is)
    c.make.result c.make.ensures
