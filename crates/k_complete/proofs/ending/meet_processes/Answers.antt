use Rattle.std.proofs.Common.{◌≡◌, ◌<◌, refl, sym, ap, ◌∙◌, subst, List, length, get_or, arith}
use Rattle.std.proofs.lemmas.Option.{slice_get-get_or, slice_get_within}
use Rattle.k_book.specs.Books.{BookRecord}
use Rattle.k_operate.specs.k_process.declared.process.Process.{Process}
use Rattle.k_complete.specs.Meetings.{AreSameButNotes, ProcessesAndBook, ProcessesMet}
use Rattle.k_complete.proofs.EndKept.{all_same, met_list, one_met, one_same}
use Rattle.k_operate.proofs.Kept.{heap_can_meet, set_below}
use Rattle.k_operate.proofs.Looped.{all_of}
use Rattle.k_complete.proofs.ending.meet_processes.Goals as goal

pub loop-process-init : goal.loop-process-init
loop-process-init g c = record {
  stand = subst (λ (ps : List Process). ProcessesAndBook g.world' ps c.args.book.now) (sym c.deref_mut-process-items.ensures.value) c.requires;
  same = subst (AreSameButNotes c.args.processes.now.items) (sym c.deref_mut-process-items.ensures.value) (all_same c.args.processes.now.items);
  met = λ k p inside at. absurd (omega (arith, inside));
  book_is = refl;
}

pub meet_heap-requires : goal.meet_heap-requires
meet_heap-requires g c =
    let p : Process = get_or c.loop-process.process-items c.loop-process.process-index c.process-item.result in
    let stand = c.loop-process.invariant.stand in
    heap_can_meet g.world'.trace g.world'.table c.loop-process.book c.loop-process.book stand.book.stands stand.book.table p.cell
    (stand.processes.each c.loop-process.process-index p (slice_get-get_or c.loop-process.process-items c.loop-process.process-index c.process-item.result (subst (λ n. c.loop-process.process-index < n) (sym c.loop-process.auto.process-items) c.loop-process-test.true))).cell

pub loop-process-preserved : goal.loop-process-preserved
loop-process-preserved g c = record {
  stand = one_met g.world' c.loop-process.process-items c.loop-process.book c.meet_heap.new.book c.loop-process.invariant.stand c.loop-process.process-index
      (get_or c.loop-process.process-items c.loop-process.process-index c.process-item.result)
      (slice_get-get_or c.loop-process.process-items c.loop-process.process-index c.process-item.result (subst (λ n. c.loop-process.process-index < n) (sym c.loop-process.auto.process-items) c.loop-process-test.true))
      c.meet_heap.new.cell c.meet_heap.ensures;
  same = one_same c.args.processes.now.items c.loop-process.process-items c.loop-process.process-index
      (get_or c.loop-process.process-items c.loop-process.process-index c.process-item.result)
      c.meet_heap.new.cell _ c.loop-process.invariant.same
      (slice_get-get_or c.loop-process.process-items c.loop-process.process-index c.process-item.result (subst (λ n. c.loop-process.process-index < n) (sym c.loop-process.auto.process-items) c.loop-process-test.true))
      c.meet_heap.ensures.cell_is;
  met = set_below (λ (p : Process). p.cell.note.list ≡ c.meet_heap.new.book.journal.list) c.loop-process.process-items c.loop-process.process-index
      (record { cell = c.meet_heap.new.cell; ops = (get_or c.loop-process.process-items c.loop-process.process-index c.process-item.result).ops })
      (λ k p inside at. c.loop-process.invariant.met k p inside at ∙ ap (λ (b : BookRecord). b.journal.list) (sym c.meet_heap.ensures.book_is))
      (met_list g.world' c.loop-process.process-items c.loop-process.book c.meet_heap.new.book c.loop-process.invariant.stand c.loop-process.process-index
      (get_or c.loop-process.process-items c.loop-process.process-index c.process-item.result)
      (slice_get-get_or c.loop-process.process-items c.loop-process.process-index c.process-item.result (subst (λ n. c.loop-process.process-index < n) (sym c.loop-process.auto.process-items) c.loop-process-test.true))
      c.meet_heap.new.cell c.meet_heap.ensures);
  book_is = c.meet_heap.ensures.book_is ∙ c.loop-process.invariant.book_is;
}

pub returns : goal.returns
returns g c =
    subst (λ (ps : List Process). ProcessesMet g.world' c.args.processes.now.items ps c.args.book.now c.loop-process.book) (sym (all_of c.loop-process.process-items c.args.processes.now.items c.args.processes.now.len (c.loop-process.auto.process-items ∙ ap length c.deref_mut-process-items.ensures.value) (sym c.deref_mut-process-items.ensures.len ∙ ap length c.deref_mut-process-items.ensures.value))) (record {
      stand = c.loop-process.invariant.stand;
      same = c.loop-process.invariant.same;
      met = λ k p at.
          let within = slice_get_within c.loop-process.process-items k p at in
          let all = c.loop-process.auto.process-items in
          let over = c.loop-process-test.false in
          c.loop-process.invariant.met k p (omega (arith, within, all, over)) at;
      book_is = c.loop-process.invariant.book_is;
    })
