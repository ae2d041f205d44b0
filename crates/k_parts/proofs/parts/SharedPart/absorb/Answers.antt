use Rattle.std.proofs.Common.{refl, sym, ◌∙◌}
use Rattle.std.specs.Arc.{arc_value}
use Rattle.std.proofs.lemmas.Bool.{false≢true}
use Rattle.k_book.specs.Books.{BookRecord}
use Rattle.k_ends.specs.Collecting.{HasAbsorbedNow}
use Rattle.k_ends.specs.Refusals.{CanNotAbsorb}
use Rattle.k_parts.specs.Parts.{book_seen, kernel_seen, shared_seen}
use Rattle.k_parts.proofs.Hosted.{same_three}
use Rattle.k_parts.proofs.Kept.{absorbed}
use Rattle.k_parts.proofs.Meeting.{book_changed, book_held, done_of_three, kernel_held, lent_first, lent_with, rests_again, serves_lent, serves_on, shared_held, stays, was_one, why_of_three}
use Rattle.k_parts.proofs.parts.SharedPart.absorb.Goals as goal

pub try_absorb-requires-clause-shared : goal.try_absorb-requires-clause-shared
try_absorb-requires-clause-shared g c =
    let own = lent_first c.deref.ensures (shared_held (arc_value c.self.inside.head) c.self.inside.heap c.self.view_is c.self.invariant) in
    let book = lent_with own (book_held (arc_value c.book.inside.head) c.book.inside.book c.book.inside.freed c.book.view_is c.book.invariant) c.requires.book (c.are_three.ensures.0 c.if-not-are_three.false).1 in
    serves_on own _ (serves_lent book)

pub try_absorb-requires-clause-kernel : goal.try_absorb-requires-clause-kernel
try_absorb-requires-clause-kernel g c =
    let own = lent_first c.deref.ensures (shared_held (arc_value c.self.inside.head) c.self.inside.heap c.self.view_is c.self.invariant) in
    let kernel = lent_with own (kernel_held (arc_value c.kernel.inside.head) c.kernel.inside.kernel c.kernel.view_is c.kernel.invariant) c.requires.kernel (c.are_three.ensures.0 c.if-not-are_three.false).0 in
    let book = lent_with own (book_held (arc_value c.book.inside.head) c.book.inside.book c.book.inside.freed c.book.view_is c.book.invariant) c.requires.book (c.are_three.ensures.0 c.if-not-are_three.false).1 in
    serves_on kernel _ (serves_lent book)

pub try_absorb-requires-clause-book : goal.try_absorb-requires-clause-book
try_absorb-requires-clause-book g c =
    let own = lent_first c.deref.ensures (shared_held (arc_value c.self.inside.head) c.self.inside.heap c.self.view_is c.self.invariant) in
    let book = lent_with own (book_held (arc_value c.book.inside.head) c.book.inside.book c.book.inside.freed c.book.view_is c.book.invariant) c.requires.book (c.are_three.ensures.0 c.if-not-are_three.false).1 in
    (serves_lent book).serves

pub invariant_of-self : goal.invariant_of-self
invariant_of-self g c =
    let own = lent_first c.deref.ensures (shared_held (arc_value c.self.inside.head) c.self.inside.heap c.self.view_is c.self.invariant) in
    let kernel = lent_with own (kernel_held (arc_value c.kernel.inside.head) c.kernel.inside.kernel c.kernel.view_is c.kernel.invariant) c.requires.kernel (c.are_three.ensures.0 c.if-not-are_three.false).0 in
    let book = lent_with own (book_held (arc_value c.book.inside.head) c.book.inside.book c.book.inside.freed c.book.view_is c.book.invariant) c.requires.book (c.are_three.ensures.0 c.if-not-are_three.false).1 in
    let now = absorbed (serves_lent own) (serves_lent kernel) (serves_lent book) c.try_absorb.new.shared c.try_absorb.new.kernel c.try_absorb.new.book c.try_absorb.result c.try_absorb.ensures.done c.try_absorb.ensures.same in
    rests_again own _ c.try_absorb.new.shared now.shared.table now.shared

pub invariant_of-kernel : goal.invariant_of-kernel
invariant_of-kernel g c =
    let own = lent_first c.deref.ensures (shared_held (arc_value c.self.inside.head) c.self.inside.heap c.self.view_is c.self.invariant) in
    let kernel = lent_with own (kernel_held (arc_value c.kernel.inside.head) c.kernel.inside.kernel c.kernel.view_is c.kernel.invariant) c.requires.kernel (c.are_three.ensures.0 c.if-not-are_three.false).0 in
    let book = lent_with own (book_held (arc_value c.book.inside.head) c.book.inside.book c.book.inside.freed c.book.view_is c.book.invariant) c.requires.book (c.are_three.ensures.0 c.if-not-are_three.false).1 in
    let now = absorbed (serves_lent own) (serves_lent kernel) (serves_lent book) c.try_absorb.new.shared c.try_absorb.new.kernel c.try_absorb.new.book c.try_absorb.result c.try_absorb.ensures.done c.try_absorb.ensures.same in
    rests_again kernel _ c.try_absorb.new.kernel now.kernel.table now.kernel

pub invariant_of-book : goal.invariant_of-book
invariant_of-book g c =
    let own = lent_first c.deref.ensures (shared_held (arc_value c.self.inside.head) c.self.inside.heap c.self.view_is c.self.invariant) in
    let kernel = lent_with own (kernel_held (arc_value c.kernel.inside.head) c.kernel.inside.kernel c.kernel.view_is c.kernel.invariant) c.requires.kernel (c.are_three.ensures.0 c.if-not-are_three.false).0 in
    let book = lent_with own (book_held (arc_value c.book.inside.head) c.book.inside.book c.book.inside.freed c.book.view_is c.book.invariant) c.requires.book (c.are_three.ensures.0 c.if-not-are_three.false).1 in
    let now = absorbed (serves_lent own) (serves_lent kernel) (serves_lent book) c.try_absorb.new.shared c.try_absorb.new.kernel c.try_absorb.new.book c.try_absorb.result c.try_absorb.ensures.done c.try_absorb.ensures.same in
    rests_again book _ c.try_absorb.new.book now.book.table_is now.book

pub returns-then-not-are_three : goal.returns-then-not-are_three
returns-then-not-are_three g c = record {
  done = tt;
  home = refl;
  other_home = refl;
  rest = refl;
  same = (refl, refl, refl);
  why = λ one. false≢true (sym c.if-not-are_three.true ∙ c.are_three.ensures.1 (was_one (shared_held (arc_value c.self.inside.head) c.self.inside.heap c.self.view_is c.self.invariant) (kernel_held (arc_value c.kernel.inside.head) c.kernel.inside.kernel c.kernel.view_is c.kernel.invariant) one.0, was_one (shared_held (arc_value c.self.inside.head) c.self.inside.heap c.self.view_is c.self.invariant) (book_held (arc_value c.book.inside.head) c.book.inside.book c.book.inside.freed c.book.view_is c.book.invariant) one.1));
}

pub returns : goal.returns
returns g c =
    let own = lent_first c.deref.ensures (shared_held (arc_value c.self.inside.head) c.self.inside.heap c.self.view_is c.self.invariant) in
    let kernel = lent_with own (kernel_held (arc_value c.kernel.inside.head) c.kernel.inside.kernel c.kernel.view_is c.kernel.invariant) c.requires.kernel (c.are_three.ensures.0 c.if-not-are_three.false).0 in
    let book = lent_with own (book_held (arc_value c.book.inside.head) c.book.inside.book c.book.inside.freed c.book.view_is c.book.invariant) c.requires.book (c.are_three.ensures.0 c.if-not-are_three.false).1 in
    let now = absorbed (serves_lent own) (serves_lent kernel) (serves_lent book) c.try_absorb.new.shared c.try_absorb.new.kernel c.try_absorb.new.book c.try_absorb.result c.try_absorb.ensures.done c.try_absorb.ensures.same in
    record {
      done = done_of_three own kernel book c.try_absorb.result c.hosted.ensures (λ basis t k b event. HasAbsorbedNow basis t c.try_absorb.new.shared c.try_absorb.new.kernel b c.try_absorb.new.book event) c.try_absorb.ensures.done;
      home = stays own _ now.shared.table;
      other_home = stays kernel _ now.kernel.table;
      rest = book_changed (arc_value c.book.inside.head) c.book.inside.book c.book.inside.freed c.book.view_is c.try_absorb.new.book (stays book _ now.book.table_is);
      same = same_three c.try_absorb.result c.hosted.ensures (shared_seen (arc_value c.self.inside.head)) (kernel_seen (arc_value c.kernel.inside.head)) (λ (b : BookRecord). book_seen (arc_value c.book.inside.head) b c.book.inside.freed c.book.inside.taken) c.try_absorb.new.shared c.try_absorb.new.kernel c.try_absorb.new.book c.try_absorb.ensures.same c.self.view_is c.kernel.view_is c.book.view_is;
      why = why_of_three own kernel book c.try_absorb.result c.hosted.ensures (λ basis t k b e. CanNotAbsorb basis k b t.id e) (c.are_three.ensures.0 c.if-not-are_three.false) c.try_absorb.ensures.why;
    }
