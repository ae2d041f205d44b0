use Rattle.std.proofs.Common.{◌≤◌, ◌+◌, length, sym, subst}
use Rattle.k_types.specs.declared.names.Heap.TheVariants.{User}
use Rattle.k_types.specs.Agree.{CellValue}
use Rattle.k_mark.specs.Listening.{AreTold}
use Rattle.k_agree.specs.Ending.{freed_objects}
use Rattle.k_commit.specs.k_cell.Changes.{freed_at}
use Rattle.k_collect.proofs.Alone.{can_end_met, can_sweep_met, ended_at_last}
use Rattle.k_collect.proofs.Freed.{all_freed, fits_all, met_value}
use Rattle.k_collect.proofs.ending.end_heap_telling.Goals as goal

pub meet_heap-requires : goal.meet_heap-requires
meet_heap-requires g c = record { agrees = c.requires.1.collects.agrees; book_agrees = c.requires.1.book_stands.agrees; table = c.requires.1.collects.table }

pub sweep_heap_telling-freed-requires : goal.sweep_heap_telling-freed-requires
sweep_heap_telling-freed-requires g c = λ κs alive. (alive, can_sweep_met g.trace c.args.cell.now c.meet_heap.new.cell c.args.book.now c.meet_heap.new.book c.requires.1 c.meet_heap.ensures)

pub end_swept_heap-requires : goal.end_swept_heap-requires
end_swept_heap-requires g c = record {
  before = c.meet_heap.new.cell;
  can = can_end_met g.trace c.args.cell.now c.meet_heap.new.cell c.args.book.now c.meet_heap.new.book c.requires.1 c.meet_heap.ensures;
  swept = c.sweep_heap_telling-freed.ensures.swept;
}

pub returns-clause-ended : goal.returns-clause-ended
returns-clause-ended g c =
    ended_at_last g.trace c.args.cell.now c.meet_heap.new.cell c.args.book.now c.meet_heap.new.book c.requires.1 c.meet_heap.ensures c.sweep_heap_telling-freed.new.cell c.end_swept_heap.new.cell c.end_swept_heap.new.book
    c.sweep_heap_telling-freed.result c.end_swept_heap.result c.sweep_heap_telling-freed.ensures.swept c.end_swept_heap.ensures.ended

pub returns-clause-told : goal.returns-clause-told
returns-clause-told g c = λ fits.
    let met = c.meet_heap.ensures in
    let shows = met.told.shows.shows c.requires.1.collects.settled in
    let legal = c.requires.1.book_stands.agrees.legal in
    let keeps = c.requires.1.book_stands.keeps in
    let value = met_value g.trace c.args.cell.now c.meet_heap.new.cell c.args.book.now c.meet_heap.new.book met in
    let few : length (g.L.Listener.heard c.args.listener.now) + freed_objects c.args.cell.now.value ≤ g.L.Listener.room c.args.listener.now =
    fits_all c.args.cell.now.value (length (g.L.Listener.heard c.args.listener.now)) (g.L.Listener.room c.args.listener.now) fits in
    let told = c.sweep_heap_telling-freed.ensures.told (subst (λ (v : CellValue). length (g.L.Listener.heard c.args.listener.now) + freed_objects v ≤ g.L.Listener.room c.args.listener.now) (sym value) few) in
    let ended =
    ended_at_last g.trace c.args.cell.now c.meet_heap.new.cell c.args.book.now c.meet_heap.new.book c.requires.1 c.meet_heap.ensures c.sweep_heap_telling-freed.new.cell c.end_swept_heap.new.cell c.end_swept_heap.new.book
    c.sweep_heap_telling-freed.result c.end_swept_heap.result c.sweep_heap_telling-freed.ensures.swept c.end_swept_heap.ensures.ended in
    all_freed g.trace c.args.book.now.journal.list keeps legal (User c.args.cell.now.pid) c.args.cell.now.value shows c.requires.1.collects.in_phase ended.objects ended.bytes ended.exits ended.shares c.end_swept_heap.result ended.event_is
    (g.L.Listener.heard c.args.listener.now) (g.L.Listener.heard c.sweep_heap_telling-freed.new.listener)
    (subst (λ (v : CellValue). AreTold (freed_at v) (freed_objects v) (g.L.Listener.heard c.args.listener.now) (g.L.Listener.heard c.sweep_heap_telling-freed.new.listener)) value told)
