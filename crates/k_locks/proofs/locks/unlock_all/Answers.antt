use Rattle.std.proofs.Common.{sym, ◌∙◌, subst}
use Rattle.k_process.specs.k_book.Books.{BookRecord}
use Rattle.k_process.specs.Keeping.{BookKeeps}
use Rattle.k_watch.specs.Shown.{IsShown}
use Rattle.k_locks.proofs.locks.unlock_all.Goals as goal

pub returns-clause-stand : goal.returns-clause-stand
returns-clause-stand g c = record {
  processes = c.gather-processes.ensures.processes;
  rest = record {
    kernel = c.into_kernel-kernel.ensures.stands;
    shared = c.gather_shared-shared.ensures.shared;
    book = subst (BookKeeps g.W.WorldName.world.trace g.W.WorldName.world.table) (sym (c.gather_shared-shared.ensures.book ∙ c.gather-processes.ensures.book)) c.into_parts-book.ensures.stands;
  };
}

pub returns-clause-shown : goal.returns-clause-shown
returns-clause-shown g c =
    subst (λ (b : BookRecord). IsShown g.W.WorldName.watched g.W.WorldName.world.trace b.journal.list c.into_parts-book.result.1)
    (sym (c.gather_shared-shared.ensures.book ∙ c.gather-processes.ensures.book)) c.into_parts-book.ensures.shown
