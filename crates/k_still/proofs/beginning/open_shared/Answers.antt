use Rattle.std.proofs.Common.{◌≡◌, sym, ap, ◌∙◌, subst, length, get_or, Some, slice_get, arith, List}
use Rattle.std.proofs.lemmas.List.{length_push}
use Rattle.std.proofs.lemmas.Option.{slice_get-get_or}
use Rattle.k_shared.specs.SharedHeaps.{SharedRecord}
use Rattle.k_still.specs.Opening.{ArePendingShared}
use Rattle.k_still.proofs.Begun.{heap_can_open, heaps_go_on, heaps_opened}
use Rattle.k_still.proofs.beginning.open_shared.Goals as goal

pub loop-room-init : goal.loop-room-init
loop-room-init g c = record {
  pending = subst (ArePendingShared g.world' c.args.setup.now c.args.exits.now c.args.beginnings.now) (sym c.in_ok-shared.ensures.items) c.requires;
  count = ap length c.in_ok-shared.ensures.items;
}

pub open_heap-requires : goal.open_heap-requires
open_heap-requires g c =
    let at : c.len.result ≡ length c.loop-room.shared.items = omega (arith, c.len.ensures) in
    let place : c.loop-room.room-index ≡ c.len.result = sym (at ∙ c.loop-room.invariant.count) in
    heap_can_open g.world' c.args.setup.now c.args.exits.now c.loop-room.beginnings c.loop-room.shared.items (record { 0 = c.len.result }) c.loop-room.invariant.pending at _
    (subst (λ k. slice_get c.args.exits.now k ≡ Some (get_or c.args.exits.now c.loop-room.room-index 0)) place (slice_get-get_or c.args.exits.now c.loop-room.room-index 0 c.loop-room-test.true))

pub loop-room-preserved : goal.loop-room-preserved
loop-room-preserved g c =
    let at : c.len.result ≡ length c.loop-room.shared.items = omega (arith, c.len.ensures) in
    record {
      pending = subst (ArePendingShared g.world' c.args.setup.now c.args.exits.now c.open_heap.new.beginnings) (sym {A = List SharedRecord} c.in_ok-push.ensures.items)
          (heaps_go_on g.world' c.args.setup.now c.args.exits.now c.loop-room.beginnings c.loop-room.shared.items (record { 0 = c.len.result }) c.loop-room.invariant.pending at
          c.open_heap.new.beginnings c.in_ok-open_heap.field-0 c.in_ok-open_heap.ensures);
      count = omega (arith, c.loop-room.invariant.count, ap length c.in_ok-push.ensures.items, length_push c.loop-room.shared.items c.in_ok-open_heap.field-0);
    }

pub returns : goal.returns
returns g c =
    heaps_opened g.world' c.args.setup.now c.args.exits.now c.loop-room.beginnings c.loop-room.shared.items (omega (arith, c.loop-room.invariant.count, c.loop-room-test.false, c.loop-room.auto.room-index-end)) c.loop-room.invariant.pending
