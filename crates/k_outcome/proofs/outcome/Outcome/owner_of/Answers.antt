use Rattle.std.proofs.Common.{◌<◌, sym, ap, ◌∙◌, subst, length}
use Rattle.k_types.specs.Trace.{IsHeap}
use Rattle.k_book.specs.Books.{BookRecord}
use Rattle.k_entry.specs.Entries.{home_of}
use Rattle.k_outcome.specs.Cells.{IsThere}
use Rattle.k_outcome.specs.Ends.{last_state}
use Rattle.k_outcome.proofs.Told.{book_shown, book_tells, homes_long, owner_there}
use Rattle.k_outcome.proofs.outcome.Outcome.owner_of.Goals as goal
use Rattle.k_types.proofs.Owners.{owner_known}

pub owner-requires : goal.owner-requires
owner-requires c =
    let e = c.args.self.now in
    subst (λ (b : BookRecord). c.args.seg.0 < length b.value.homes) (sym (book_shown e.cells c.cells.result.now c.book.result.now c.cells.ensures.cells c.book.ensures))
    (subst (λ n. c.args.seg.0 < n) (sym (homes_long e c.cells.ensures.end)) c.requires)

pub returns-clause-owner : goal.returns-clause-owner
returns-clause-owner c =
    let e = c.args.self.now in
    c.owner.ensures
    ∙ ap (λ (b : BookRecord). home_of b.value.homes c.args.seg.0) (book_shown e.cells c.cells.result.now c.book.result.now c.cells.ensures.cells c.book.ensures)
    ∙ (book_tells e c.cells.ensures.end).owner c.args.seg.0 c.requires

pub returns-clause-there : goal.returns-clause-there
returns-clause-there c =
    let e = c.args.self.now in
    subst (IsThere e.cells) (sym (returns-clause-owner c)) (owner_there e c.cells.ensures.end c.args.seg.0 c.requires)

pub returns-clause-known : goal.returns-clause-known
returns-clause-known c =
    let e = c.args.self.now in
    subst (IsHeap e.setup) (sym (returns-clause-owner c)) (owner_known e.setup (last_state e) c.args.seg.0 c.requires)
