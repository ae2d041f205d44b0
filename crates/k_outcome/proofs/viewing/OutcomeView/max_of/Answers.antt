use Rattle.std.proofs.Common.{◌<◌, sym, ap, ◌∙◌, subst, length}
use Rattle.k_types.specs.Limits.{max_of}
use Rattle.k_book.specs.Books.{BookRecord, book_limits}
use Rattle.k_outcome.proofs.Told.{book_shown, limits_long, limits_told}
use Rattle.k_outcome.proofs.viewing.OutcomeView.max_of.Goals as goal

pub max_of-requires : goal.max_of-requires
max_of-requires c =
    let e = c.args.self.now in
    subst (λ (b : BookRecord). c.args.at.0 < length b.rows) (sym (book_shown e.cells c.cells.result.now c.book.result.now c.cells.ensures.cells c.book.ensures))
    (subst (λ n. c.args.at.0 < n) (sym (limits_long e c.cells.ensures.end)) c.requires)

pub returns : goal.returns
returns c =
    let e = c.args.self.now in
    c.max_of.ensures.value
    ∙ ap (λ (b : BookRecord). max_of (book_limits b).rows c.args.at.0) (book_shown e.cells c.cells.result.now c.book.result.now c.cells.ensures.cells c.book.ensures)
    ∙ (limits_told e c.cells.ensures.end).max c.args.at.0
