use Rattle.std.proofs.Common.{ap, refl, sym, ◌∙◌}
use Rattle.std.specs.Arc.{arc_value}
use Rattle.std.proofs.lemmas.Bool.{false≢true}
use Rattle.k_mark.specs.Listening.{FreedNames}
use Rattle.k_book.specs.Books.{BookRecord}
use Rattle.k_ends.specs.Whole.{AreFreedLast, CanNotCollectKernel, HasCollectedKernel}
use Rattle.k_ends.specs.k_guests.Objects.{objects_after}
use Rattle.k_parts.specs.Parts.{BookPartValue, book_seen, guest_seen, kernel_seen}
use Rattle.k_parts.proofs.Hosted.{same_three_with}
use Rattle.k_parts.proofs.Kept.{collected_kernel}
use Rattle.k_parts.proofs.Meeting.{book_collected, book_held, done_of_three, guest_held, kernel_held, lent_first, lent_with, names_of, rests_again, serves_lent, serves_on, stays, was_one, why_of_three}
use Rattle.k_parts.proofs.parts.GuestPart.collect_kernel.Goals as goal

pub try_collect_kernel-requires-clause-guest : goal.try_collect_kernel-requires-clause-guest
try_collect_kernel-requires-clause-guest g c =
    let own = lent_first c.deref.ensures (guest_held (arc_value c.self.inside.head) c.self.inside.guest c.self.view_is c.self.invariant) in
    let book = lent_with own (book_held (arc_value c.book.inside.head) c.book.inside.book c.book.inside.freed c.book.view_is c.book.invariant) c.requires.book (c.are_three.ensures.0 c.if-not-are_three.false).1 in
    (serves_on own _ (serves_lent book)).serves

pub try_collect_kernel-requires-clause-kernel : goal.try_collect_kernel-requires-clause-kernel
try_collect_kernel-requires-clause-kernel g c =
    let own = lent_first c.deref.ensures (guest_held (arc_value c.self.inside.head) c.self.inside.guest c.self.view_is c.self.invariant) in
    let kernel = lent_with own (kernel_held (arc_value c.kernel.inside.head) c.kernel.inside.kernel c.kernel.view_is c.kernel.invariant) c.requires.kernel (c.are_three.ensures.0 c.if-not-are_three.false).0 in
    let book = lent_with own (book_held (arc_value c.book.inside.head) c.book.inside.book c.book.inside.freed c.book.view_is c.book.invariant) c.requires.book (c.are_three.ensures.0 c.if-not-are_three.false).1 in
    serves_on kernel _ (serves_lent book)

pub try_collect_kernel-requires-clause-book : goal.try_collect_kernel-requires-clause-book
try_collect_kernel-requires-clause-book g c =
    let own = lent_first c.deref.ensures (guest_held (arc_value c.self.inside.head) c.self.inside.guest c.self.view_is c.self.invariant) in
    let book = lent_with own (book_held (arc_value c.book.inside.head) c.book.inside.book c.book.inside.freed c.book.view_is c.book.invariant) c.requires.book (c.are_three.ensures.0 c.if-not-are_three.false).1 in
    (serves_lent book).serves

pub invariant_of-self : goal.invariant_of-self
invariant_of-self g c =
    let own = lent_first c.deref.ensures (guest_held (arc_value c.self.inside.head) c.self.inside.guest c.self.view_is c.self.invariant) in
    let kernel = lent_with own (kernel_held (arc_value c.kernel.inside.head) c.kernel.inside.kernel c.kernel.view_is c.kernel.invariant) c.requires.kernel (c.are_three.ensures.0 c.if-not-are_three.false).0 in
    let book = lent_with own (book_held (arc_value c.book.inside.head) c.book.inside.book c.book.inside.freed c.book.view_is c.book.invariant) c.requires.book (c.are_three.ensures.0 c.if-not-are_three.false).1 in
    let now = collected_kernel (serves_lent own) (serves_lent book) c.try_collect_kernel.new.guest c.try_collect_kernel.new.book (serves_lent kernel) c.try_collect_kernel.new.kernel c.try_collect_kernel.result c.try_collect_kernel.ensures.done c.try_collect_kernel.ensures.same in
    rests_again own _ c.try_collect_kernel.new.guest now.0.guest.serves.table now.0.guest

pub invariant_of-kernel : goal.invariant_of-kernel
invariant_of-kernel g c =
    let own = lent_first c.deref.ensures (guest_held (arc_value c.self.inside.head) c.self.inside.guest c.self.view_is c.self.invariant) in
    let kernel = lent_with own (kernel_held (arc_value c.kernel.inside.head) c.kernel.inside.kernel c.kernel.view_is c.kernel.invariant) c.requires.kernel (c.are_three.ensures.0 c.if-not-are_three.false).0 in
    let book = lent_with own (book_held (arc_value c.book.inside.head) c.book.inside.book c.book.inside.freed c.book.view_is c.book.invariant) c.requires.book (c.are_three.ensures.0 c.if-not-are_three.false).1 in
    let now = collected_kernel (serves_lent own) (serves_lent book) c.try_collect_kernel.new.guest c.try_collect_kernel.new.book (serves_lent kernel) c.try_collect_kernel.new.kernel c.try_collect_kernel.result c.try_collect_kernel.ensures.done c.try_collect_kernel.ensures.same in
    rests_again kernel _ c.try_collect_kernel.new.kernel now.1.table now.1

pub invariant_of-book : goal.invariant_of-book
invariant_of-book g c =
    let own = lent_first c.deref.ensures (guest_held (arc_value c.self.inside.head) c.self.inside.guest c.self.view_is c.self.invariant) in
    let kernel = lent_with own (kernel_held (arc_value c.kernel.inside.head) c.kernel.inside.kernel c.kernel.view_is c.kernel.invariant) c.requires.kernel (c.are_three.ensures.0 c.if-not-are_three.false).0 in
    let book = lent_with own (book_held (arc_value c.book.inside.head) c.book.inside.book c.book.inside.freed c.book.view_is c.book.invariant) c.requires.book (c.are_three.ensures.0 c.if-not-are_three.false).1 in
    let now = collected_kernel (serves_lent own) (serves_lent book) c.try_collect_kernel.new.guest c.try_collect_kernel.new.book (serves_lent kernel) c.try_collect_kernel.new.kernel c.try_collect_kernel.result c.try_collect_kernel.ensures.done c.try_collect_kernel.ensures.same in
    rests_again book _ c.try_collect_kernel.new.book now.0.book.table_is now.0.book

pub returns-then-not-are_three-clause-done : goal.returns-then-not-are_three-clause-done
returns-then-not-are_three-clause-done g c = record {
  done = tt;
  home = refl;
  other_home = refl;
  rest = refl;
  same = (refl, refl, refl);
  why = λ one. false≢true (sym c.if-not-are_three.true ∙ c.are_three.ensures.1 (was_one (guest_held (arc_value c.self.inside.head) c.self.inside.guest c.self.view_is c.self.invariant) (kernel_held (arc_value c.kernel.inside.head) c.kernel.inside.kernel c.kernel.view_is c.kernel.invariant) one.0, was_one (guest_held (arc_value c.self.inside.head) c.self.inside.guest c.self.view_is c.self.invariant) (book_held (arc_value c.book.inside.head) c.book.inside.book c.book.inside.freed c.book.view_is c.book.invariant) one.1));
}

pub returns-clause-done : goal.returns-clause-done
returns-clause-done g c =
    let own = lent_first c.deref.ensures (guest_held (arc_value c.self.inside.head) c.self.inside.guest c.self.view_is c.self.invariant) in
    let kernel = lent_with own (kernel_held (arc_value c.kernel.inside.head) c.kernel.inside.kernel c.kernel.view_is c.kernel.invariant) c.requires.kernel (c.are_three.ensures.0 c.if-not-are_three.false).0 in
    let book = lent_with own (book_held (arc_value c.book.inside.head) c.book.inside.book c.book.inside.freed c.book.view_is c.book.invariant) c.requires.book (c.are_three.ensures.0 c.if-not-are_three.false).1 in
    let now = collected_kernel (serves_lent own) (serves_lent book) c.try_collect_kernel.new.guest c.try_collect_kernel.new.book (serves_lent kernel) c.try_collect_kernel.new.kernel c.try_collect_kernel.result c.try_collect_kernel.ensures.done c.try_collect_kernel.ensures.same in
    record {
      done = done_of_three own kernel book c.try_collect_kernel.result c.hosted.ensures (λ basis x k b event. HasCollectedKernel basis x c.try_collect_kernel.new.guest c.try_collect_kernel.new.kernel b c.try_collect_kernel.new.book event) c.try_collect_kernel.ensures.done;
      home = stays own _ now.0.guest.serves.table;
      other_home = stays kernel _ now.1.table;
      rest = book_collected (arc_value c.book.inside.head) c.book.inside.book c.book.inside.freed c.book.view_is c.try_collect_kernel.new.book c.try_collect_kernel.new.freed c.try_collect_kernel.ensures.room (stays book _ now.0.book.table_is);
      same = same_three_with c.try_collect_kernel.result c.hosted.ensures (guest_seen (arc_value c.self.inside.head)) (kernel_seen (arc_value c.kernel.inside.head)) (λ (b : BookRecord) (n : FreedNames). book_seen (arc_value c.book.inside.head) b n c.book.inside.taken) c.try_collect_kernel.new.guest c.try_collect_kernel.new.kernel c.try_collect_kernel.new.book c.try_collect_kernel.new.freed c.try_collect_kernel.ensures.same c.try_collect_kernel.ensures.kept c.self.view_is c.kernel.view_is c.book.view_is;
      why = why_of_three own kernel book c.try_collect_kernel.result c.hosted.ensures (λ basis x k b e. CanNotCollectKernel basis k b x e) (c.are_three.ensures.0 c.if-not-are_three.false) c.try_collect_kernel.ensures.why;
    }

pub returns-clause-freed : goal.returns-clause-freed
returns-clause-freed g c =
    let own = lent_first c.deref.ensures (guest_held (arc_value c.self.inside.head) c.self.inside.guest c.self.view_is c.self.invariant) in
    let book = lent_with own (book_held (arc_value c.book.inside.head) c.book.inside.book c.book.inside.freed c.book.view_is c.book.invariant) c.requires.book (c.are_three.ensures.0 c.if-not-are_three.false).1 in
    names_of own book c.try_collect_kernel.result c.hosted.ensures (λ basis b. objects_after basis.trace b.journal.list) (λ basis. AreFreedLast basis.trace c.try_collect_kernel.new.book.journal.list c.try_collect_kernel.new.freed.names) _ _ (ap (λ (v : BookPartValue). v.room) c.book.view_is) c.try_collect_kernel.ensures.freed
