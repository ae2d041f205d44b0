use Rattle.std.proofs.Common.{ℕ, ◌+◌, ◌≤◌, sym, ap, ◌∙◌, subst, length, slice_get, arith}
use Rattle.k_book.specs.Books.{BookRecord}
use Rattle.k_outcome.proofs.Told.{book_shown, event_known}
use Rattle.k_outcome.proofs.viewing.OutcomeView.event.Goals as goal

pub event-requires-clause-kept : goal.event-requires-clause-kept
event-requires-clause-kept c =
    let e = c.args.self.now in
    let all = c.cells.ensures.end.kept in
    subst (λ (b : BookRecord). length b.journal.list ≤ c.from.result + b.kept) (sym (book_shown e.cells c.cells.result.now c.book.result.now c.cells.ensures.cells c.book.ensures)) (omega (arith, all))

pub returns-clause-known : goal.returns-clause-known
returns-clause-known c =
    let e = c.args.self.now in
    event_known e c.cells.ensures.end c.args.i c.event.result.now
    (ap (λ (b : BookRecord). slice_get b.journal.list c.args.i) (sym (book_shown e.cells c.cells.result.now c.book.result.now c.cells.ensures.cells c.book.ensures))
    ∙ ap (λ (i : ℕ). slice_get c.book.result.now.journal.list i) (sym c.from.ensures) ∙ c.event.ensures)
