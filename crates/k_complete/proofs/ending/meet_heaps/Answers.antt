use Rattle.std.proofs.Common.{◌≡◌, ◌<◌, refl, sym, ap, ◌∙◌, subst, List, length, get_or, arith}
use Rattle.std.proofs.lemmas.Option.{slice_get-get_or, slice_get_within}
use Rattle.k_book.specs.Books.{BookRecord}
use Rattle.k_shared.specs.SharedHeaps.{SharedRecord}
use Rattle.k_complete.specs.Meetings.{HeapsAndBook, HeapsMet}
use Rattle.k_complete.proofs.EndKept.{heap_met_list, one_heap_met}
use Rattle.k_operate.proofs.Kept.{set_below, shared_can_meet}
use Rattle.k_operate.proofs.Looped.{all_of}
use Rattle.k_complete.proofs.ending.meet_heaps.Goals as goal

pub loop-heap-init : goal.loop-heap-init
loop-heap-init g c = record {
  stand = subst (λ (ss : List SharedRecord). HeapsAndBook g.world' ss c.args.book.now) (sym c.deref_mut-heap-items.ensures.value) c.requires;
  met = λ k s inside at. absurd (omega (arith, inside));
  book_is = refl;
}

pub meet_shared-requires : goal.meet_shared-requires
meet_shared-requires g c =
    let s : SharedRecord = get_or c.loop-heap.heap-items c.loop-heap.heap-index c.heap-item.result in
    let stand = c.loop-heap.invariant.stand in
    shared_can_meet g.world'.trace g.world'.table c.loop-heap.book c.loop-heap.book stand.book.stands stand.book.table s
    (stand.heaps.each c.loop-heap.heap-index s (slice_get-get_or c.loop-heap.heap-items c.loop-heap.heap-index c.heap-item.result (subst (λ n. c.loop-heap.heap-index < n) (sym c.loop-heap.auto.heap-items) c.loop-heap-test.true)))

pub loop-heap-preserved : goal.loop-heap-preserved
loop-heap-preserved g c = record {
  stand = one_heap_met g.world' c.loop-heap.heap-items c.loop-heap.book c.meet_shared.new.book c.loop-heap.invariant.stand c.loop-heap.heap-index
      (get_or c.loop-heap.heap-items c.loop-heap.heap-index c.heap-item.result)
      (slice_get-get_or c.loop-heap.heap-items c.loop-heap.heap-index c.heap-item.result (subst (λ n. c.loop-heap.heap-index < n) (sym c.loop-heap.auto.heap-items) c.loop-heap-test.true))
      c.meet_shared.new.shared c.meet_shared.ensures;
  met = set_below (λ (s : SharedRecord). s.note.list ≡ c.meet_shared.new.book.journal.list) c.loop-heap.heap-items c.loop-heap.heap-index c.meet_shared.new.shared
      (λ k s inside at. c.loop-heap.invariant.met k s inside at ∙ ap (λ (b : BookRecord). b.journal.list) (sym c.meet_shared.ensures.book_is))
      (heap_met_list g.world' c.loop-heap.heap-items c.loop-heap.book c.meet_shared.new.book c.loop-heap.invariant.stand c.loop-heap.heap-index
      (get_or c.loop-heap.heap-items c.loop-heap.heap-index c.heap-item.result)
      (slice_get-get_or c.loop-heap.heap-items c.loop-heap.heap-index c.heap-item.result (subst (λ n. c.loop-heap.heap-index < n) (sym c.loop-heap.auto.heap-items) c.loop-heap-test.true))
      c.meet_shared.new.shared c.meet_shared.ensures);
  book_is = c.meet_shared.ensures.book_is ∙ c.loop-heap.invariant.book_is;
}

pub returns : goal.returns
returns g c =
    subst (λ (ss : List SharedRecord). HeapsMet g.world' ss c.args.book.now c.loop-heap.book) (sym (all_of c.loop-heap.heap-items c.args.shared.now.items c.args.shared.now.len (c.loop-heap.auto.heap-items ∙ ap length c.deref_mut-heap-items.ensures.value) (sym c.deref_mut-heap-items.ensures.len ∙ ap length c.deref_mut-heap-items.ensures.value))) (record {
      stand = c.loop-heap.invariant.stand;
      met = λ k s at.
          let within = slice_get_within c.loop-heap.heap-items k s at in
          let all = c.loop-heap.auto.heap-items in
          let over = c.loop-heap-test.false in
          c.loop-heap.invariant.met k s (omega (arith, within, all, over)) at;
      book_is = c.loop-heap.invariant.book_is;
    })
