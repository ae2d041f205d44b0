use Rattle.k_still.proofs.Preparation.{all_opened, book_can_open, heaps_can_open}
use Rattle.k_still.proofs.first.open_with.Goals as goal

pub open_book-requires : goal.open_book-requires
open_book-requires g c = book_can_open g.world' c.args.trace c.args.prepared c.args.tie c.args.seat c.args.notes.items c.requires

pub open_heaps-requires : goal.open_heaps-requires
open_heaps-requires g c =
    heaps_can_open g.world' c.args.trace c.args.prepared c.args.tie c.args.seat c.args.notes.items c.requires c.in_ok-book.book c.in_ok-book.ensures.0 c.in_ok-book.ensures.1

pub returns : goal.returns
returns g c =
    all_opened g.world' c.args.trace c.args.prepared c.args.tie c.args.seat c.args.notes.items c.requires c.in_ok-book.book c.in_ok-book.ensures.0 c.in_ok-book.ensures.1 c.in_ok-heaps.heaps
    c.in_ok-heaps.ensures
