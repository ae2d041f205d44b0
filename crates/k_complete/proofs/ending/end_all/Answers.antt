use Rattle.std.proofs.Common.{sym, subst}
use Rattle.k_types.specs.Complete.{IsPrefixOf}
use Rattle.k_book.specs.Books.{BookRecord}
use Rattle.k_operate.specs.k_process.Heaps.{value_of}
use Rattle.k_complete.proofs.EndKept.{all_closed, all_met}
use Rattle.k_operate.proofs.Grown.{prefix_by, prefix_trans}
use Rattle.k_complete.proofs.ending.end_all.Goals as goal

pub close_all-requires : goal.close_all-requires
close_all-requires g c = c.complete_all.ensures.through.stand.rest

pub meet_all-requires : goal.meet_all-requires
meet_all-requires g c = record {
  processes = c.complete_all.ensures.through.stand.processes;
  kernel = c.close_all.ensures.kernel;
  shared = c.close_all.ensures.shared;
  book = c.close_all.ensures.book;
}

pub returns-clause-met : goal.returns-clause-met
returns-clause-met g c =
    all_met g.world' (record { processes = c.complete_all.new.heaps.processes.items; kernel = c.close_all.new.kernel; shared = c.close_all.new.shared.items; book = c.close_all.new.book }) (value_of c.meet_all.new.heaps)
    (all_closed g.world' (value_of c.complete_all.new.heaps) c.close_all.new.kernel c.close_all.new.shared.items c.close_all.new.book c.complete_all.ensures.through c.close_all.ensures)
    c.meet_all.ensures

pub returns-clause-grows : goal.returns-clause-grows
returns-clause-grows g c =
    subst (λ (b : BookRecord). IsPrefixOf c.args.heaps.now.book.journal.list b.journal.list) (sym c.meet_all.ensures.book_is)
    (prefix_trans c.args.heaps.now.book.journal.list c.complete_all.new.heaps.book.journal.list c.close_all.new.book.journal.list c.complete_all.ensures.grows
    (prefix_by c.complete_all.new.heaps.book.journal.list c.close_all.new.book.journal.list _ c.close_all.ensures.journal))
