use Rattle.std.proofs.Common.{◌<◌, sym, ap, ◌∙◌, subst, length}
use Rattle.k_limits.specs.Limits.{use_at}
use Rattle.k_book.specs.Books.{BookRecord, book_limits}
use Rattle.k_outcome.proofs.Told.{book_shown, limits_long, limits_told}
use Rattle.k_outcome.proofs.viewing.OutcomeView.use_of.Goals as goal

pub use_of-requires : goal.use_of-requires
use_of-requires c =
    let e = c.args.self.now in
    subst (λ (b : BookRecord). c.args.at.0 < length b.rows) (sym (book_shown e.cells c.cells.result.now c.book.result.now c.cells.ensures.cells c.book.ensures))
    (subst (λ n. c.args.at.0 < n) (sym (limits_long e c.cells.ensures.end)) c.requires)

pub returns : goal.returns
returns c =
    let e = c.args.self.now in
    c.use_of.ensures.sum
    ∙ ap (λ (b : BookRecord). use_at (book_limits b) c.args.at.0) (book_shown e.cells c.cells.result.now c.book.result.now c.cells.ensures.cells c.book.ensures)
    ∙ (limits_told e c.cells.ensures.end).uses c.args.at.0 c.requires
