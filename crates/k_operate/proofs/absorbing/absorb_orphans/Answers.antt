use Rattle.std.proofs.Common.{◌<◌, refl, sym, subst}
use Rattle.k_process.proofs.Looped.{found_at}
use Rattle.k_operate.proofs.AbsorbKept.{absorbing_goes_on, can_absorb_first, heap_known, heap_there, less_room, none_absorbed, rest_absorbed}
use Rattle.k_operate.proofs.absorbing.absorb_orphans.Goals as goal

pub index_mut-heap-requires : goal.index_mut-heap-requires
index_mut-heap-requires g c =
    subst (λ n. c.in-Some.id.0 < n) (sym c.loop-id.shared.ok.0)
    (heap_there g.world' c.loop-id.kernel c.loop-id.shared.items c.loop-id.book c.loop-id.invariant.rest c.in-Some.id (sym c.in-Some.ensures))

pub absorb_orphan-requires : goal.absorb_orphan-requires
absorb_orphan-requires g c =
    can_absorb_first g.world' c.loop-id.kernel c.loop-id.shared.items c.loop-id.book c.loop-id.invariant.rest c.in-Some.id (sym c.in-Some.ensures) c.index_mut-heap.result.now
    (found_at c.loop-id.shared.items g.world'.trace.shared_heaps c.in-Some.id.0 c.in-Some.id.0 c.index_mut-heap.result.now c.index_mut-heap.result.now c.loop-id.invariant.rest.shared.count
    (heap_known g.world'.trace c.loop-id.book c.loop-id.invariant.rest.book.stands c.in-Some.id (sym c.in-Some.ensures)) refl c.index_mut-heap.ensures.value refl)

pub loop-id-preserved : goal.loop-id-preserved
loop-id-preserved g c =
    let at = found_at c.loop-id.shared.items g.world'.trace.shared_heaps c.in-Some.id.0 c.in-Some.id.0 c.index_mut-heap.result.now c.index_mut-heap.result.now c.loop-id.invariant.rest.shared.count
    (heap_known g.world'.trace c.loop-id.book c.loop-id.invariant.rest.book.stands c.in-Some.id (sym c.in-Some.ensures)) refl c.index_mut-heap.ensures.value refl in
    record {
      rest = rest_absorbed g.world' c.loop-id.kernel c.loop-id.shared.items c.loop-id.book c.loop-id.invariant.rest c.in-Some.id (sym c.in-Some.ensures) c.index_mut-heap.result.now at
          c.absorb_orphan.new.shared c.absorb_orphan.new.kernel c.absorb_orphan.new.book c.absorb_orphan.ensures;
      journal = absorbing_goes_on g.world' c.loop-id.kernel c.loop-id.shared.items c.loop-id.book c.loop-id.invariant.rest c.in-Some.id (sym c.in-Some.ensures) c.index_mut-heap.result.now at
          c.absorb_orphan.new.shared c.absorb_orphan.new.kernel c.absorb_orphan.new.book c.absorb_orphan.ensures _ c.loop-id.invariant.journal;
    }

pub loop-id-smaller : goal.loop-id-smaller
loop-id-smaller g c = less_room g.world' c.loop-id.book c.absorb_orphan.new.book c.index_mut-heap.result.now.id c.absorb_orphan.ensures.book c.absorb_orphan.ensures.journal

pub returns : goal.returns
returns g c = record {
  rest = c.loop-id.invariant.rest;
  none = sym c.in_default.ensures;
  journal = none_absorbed g.world' c.loop-id.kernel c.loop-id.shared.items c.loop-id.book c.loop-id.invariant.rest (sym c.in_default.ensures) _ c.loop-id.invariant.journal;
}
