use Rattle.std.proofs.Common.{◌≤◌, ◌+◌, length, sym, subst}
use Rattle.k_types.specs.declared.names.Heap.TheVariants.{Kernel}
use Rattle.k_types.specs.Agree.{CellValue}
use Rattle.k_mark.specs.Listening.{AreTold}
use Rattle.k_agree.specs.Ending.{freed_objects}
use Rattle.k_commit.specs.k_cell.Changes.{freed_at}
use Rattle.k_collect.proofs.Alone.{kernel_can_end_met, kernel_can_sweep_met, kernel_ended_at_last}
use Rattle.k_collect.proofs.Freed.{all_freed, fits_all, kernel_met_value}
use Rattle.k_collect.proofs.ending.end_kernel_telling.Goals as goal

pub meet_kernel-requires : goal.meet_kernel-requires
meet_kernel-requires g c = record { agrees = c.requires.1.collects.agrees; book_agrees = c.requires.1.book_stands.agrees; table = c.requires.1.collects.table }

pub sweep_kernel_telling-freed-requires : goal.sweep_kernel_telling-freed-requires
sweep_kernel_telling-freed-requires g c = λ κs alive. (alive, kernel_can_sweep_met g.trace c.args.kernel.now c.meet_kernel.new.kernel c.args.book.now c.meet_kernel.new.book c.requires.1 c.meet_kernel.ensures)

pub end_swept_kernel-requires : goal.end_swept_kernel-requires
end_swept_kernel-requires g c = record {
  before = c.meet_kernel.new.kernel;
  can = kernel_can_end_met g.trace c.args.kernel.now c.meet_kernel.new.kernel c.args.book.now c.meet_kernel.new.book c.requires.1 c.meet_kernel.ensures;
  swept = c.sweep_kernel_telling-freed.ensures.swept;
}

pub returns-clause-ended : goal.returns-clause-ended
returns-clause-ended g c =
    kernel_ended_at_last g.trace c.args.kernel.now c.meet_kernel.new.kernel c.args.book.now c.meet_kernel.new.book c.requires.1 c.meet_kernel.ensures c.sweep_kernel_telling-freed.new.kernel c.end_swept_kernel.new.kernel c.end_swept_kernel.new.book
    c.sweep_kernel_telling-freed.result c.end_swept_kernel.result c.sweep_kernel_telling-freed.ensures.swept c.end_swept_kernel.ensures

pub returns-clause-told : goal.returns-clause-told
returns-clause-told g c = λ fits.
    let met = c.meet_kernel.ensures in
    let shows = met.told.shows.shows c.requires.1.collects.agrees.tail in
    let legal = c.requires.1.book_stands.agrees.legal in
    let keeps = c.requires.1.book_stands.keeps in
    let value = kernel_met_value g.trace c.args.kernel.now c.meet_kernel.new.kernel c.args.book.now c.meet_kernel.new.book met in
    let few : length (g.L.Listener.heard c.args.listener.now) + freed_objects c.args.kernel.now.value ≤ g.L.Listener.room c.args.listener.now =
    fits_all c.args.kernel.now.value (length (g.L.Listener.heard c.args.listener.now)) (g.L.Listener.room c.args.listener.now) fits in
    let told = c.sweep_kernel_telling-freed.ensures.told (subst (λ (v : CellValue). length (g.L.Listener.heard c.args.listener.now) + freed_objects v ≤ g.L.Listener.room c.args.listener.now) (sym value) few) in
    let ended =
    kernel_ended_at_last g.trace c.args.kernel.now c.meet_kernel.new.kernel c.args.book.now c.meet_kernel.new.book c.requires.1 c.meet_kernel.ensures c.sweep_kernel_telling-freed.new.kernel c.end_swept_kernel.new.kernel c.end_swept_kernel.new.book
    c.sweep_kernel_telling-freed.result c.end_swept_kernel.result c.sweep_kernel_telling-freed.ensures.swept c.end_swept_kernel.ensures in
    all_freed g.trace c.args.book.now.journal.list keeps legal Kernel c.args.kernel.now.value shows c.requires.1.collects.in_phase ended.objects ended.bytes ended.exits 0 c.end_swept_kernel.result ended.event_is
    (g.L.Listener.heard c.args.listener.now) (g.L.Listener.heard c.sweep_kernel_telling-freed.new.listener)
    (subst (λ (v : CellValue). AreTold (freed_at v) (freed_objects v) (g.L.Listener.heard c.args.listener.now) (g.L.Listener.heard c.sweep_kernel_telling-freed.new.listener)) value told)
