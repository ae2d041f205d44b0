use Rattle.std.proofs.Common.{ℕ, ◌∙◌, sym, ap, subst}
use Rattle.k_book.specs.Books.{BookRecord, opened}
use Rattle.k_process.specs.Keeping.{BookKeeps}
use Rattle.k_process.proofs.Lists.{nothing_is_something}
use Rattle.k_still.proofs.FirstBook.{none_is_refused}
use Rattle.k_still.proofs.Stands.{book_stands}
use Rattle.k_still.proofs.first.open_book.Goals as goal

pub unreachable-requires : goal.unreachable-requires
unreachable-requires g c = nothing_is_something _ _ (none_is_refused g.world' c.args.setup.now c.requires.of) (rw c.in-Err-ReserveFull.field-0-is at c.in-Err-ReserveFull.ensures.refused)

pub returns-in-Ok : goal.returns-in-Ok
returns-in-Ok g c =
    let made = c.in-Ok.ensures.made.0 ∙ ap (λ (n : ℕ). opened c.args.setup.now c.args.exits n c.args.events c.args.seat) c.from.ensures in (
      subst (BookKeeps g.world'.trace g.world'.table) (sym made)
          (book_stands g.world' c.args.setup.now c.requires.of c.args.exits c.args.events c.args.seat c.requires.empty c.requires.enough_exits c.requires.enough_events),
      ap (λ (b : BookRecord). b.journal) made,
    )
