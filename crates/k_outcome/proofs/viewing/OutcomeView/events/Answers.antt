use Rattle.std.proofs.Common.{ap, length, arith}
use Rattle.k_book.specs.Books.{BookRecord}
use Rattle.k_outcome.proofs.Told.{book_shown}
use Rattle.k_outcome.proofs.viewing.OutcomeView.events.Goals as goal

pub overflow_cast-result : goal.overflow_cast-result
overflow_cast-result c =
    let same = ap (λ (b : BookRecord). length b.journal.list) (book_shown c.args.self.now.cells c.cells.result.now c.book.result.now c.cells.ensures.cells c.book.ensures) in
    let few = c.cells.ensures.end.few in
    omega (arith, c.len.ensures.length, same, few)
