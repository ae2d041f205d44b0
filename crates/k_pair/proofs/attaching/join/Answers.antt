use Rattle.std.proofs.Common.{◌<◌, length, subst, sym}
use Rattle.k_commit.specs.k_book.Books.{BookRecord}
use Rattle.k_pair.proofs.Facts.{phase_there}
use Rattle.k_pair.proofs.attaching.join.Goals as goal

pub shares-requires-clause-heap : goal.shares-requires-clause-heap
shares-requires-clause-heap g c = phase_there g.trace c.args.book.now c.requires.charge.stands c.args.id.0 c.requires.known

pub bytes_of-requires : goal.bytes_of-requires
bytes_of-requires g c = phase_there g.trace c.args.book.now c.requires.charge.stands c.args.id.0 c.requires.known

pub add_share-requires-clause-heap : goal.add_share-requires-clause-heap
add_share-requires-clause-heap g c =
    subst (λ (e : BookRecord). c.args.id.0 < length e.value.phases) (sym c.in_ok-charge_process.ensures.charged.book_is)
    (phase_there g.trace c.args.book.now c.requires.charge.stands c.args.id.0 c.requires.known)
