use Rattle.std.proofs.Common.{ap, refl, sym, ◌∙◌}
use Rattle.std.specs.Arc.{arc_value}
use Rattle.std.proofs.lemmas.Bool.{false≢true}
use Rattle.k_mark.specs.Listening.{FreedNames}
use Rattle.k_book.specs.Books.{BookRecord}
use Rattle.k_ends.specs.Whole.{AreFreedLast, CanNotCollect, HasCollected}
use Rattle.k_ends.specs.k_guests.Objects.{objects_after}
use Rattle.k_parts.specs.Parts.{BookPartValue, book_seen, guest_seen}
use Rattle.k_parts.proofs.Hosted.{same_two_with}
use Rattle.k_parts.proofs.Kept.{collected}
use Rattle.k_parts.proofs.Meeting.{book_collected, book_held, done_of_two, guest_held, lent_first, lent_with, names_of, rests_again, serves_lent, serves_on, stays, was_one, why_of_two}
use Rattle.k_parts.proofs.parts.GuestPart.collect.Goals as goal

pub try_collect-requires-clause-guest : goal.try_collect-requires-clause-guest
try_collect-requires-clause-guest g c =
    let own = lent_first c.deref.ensures (guest_held (arc_value c.self.inside.head) c.self.inside.guest c.self.view_is c.self.invariant) in
    let book = lent_with own (book_held (arc_value c.book.inside.head) c.book.inside.book c.book.inside.freed c.book.view_is c.book.invariant) c.requires (c.are_one.ensures.0 c.if-not-are_one.false) in
    (serves_on own _ (serves_lent book)).serves

pub try_collect-requires-clause-book : goal.try_collect-requires-clause-book
try_collect-requires-clause-book g c =
    let own = lent_first c.deref.ensures (guest_held (arc_value c.self.inside.head) c.self.inside.guest c.self.view_is c.self.invariant) in
    let book = lent_with own (book_held (arc_value c.book.inside.head) c.book.inside.book c.book.inside.freed c.book.view_is c.book.invariant) c.requires (c.are_one.ensures.0 c.if-not-are_one.false) in
    (serves_lent book).serves

pub invariant_of-self : goal.invariant_of-self
invariant_of-self g c =
    let own = lent_first c.deref.ensures (guest_held (arc_value c.self.inside.head) c.self.inside.guest c.self.view_is c.self.invariant) in
    let book = lent_with own (book_held (arc_value c.book.inside.head) c.book.inside.book c.book.inside.freed c.book.view_is c.book.invariant) c.requires (c.are_one.ensures.0 c.if-not-are_one.false) in
    let now = collected (serves_lent own) (serves_lent book) c.try_collect.new.guest c.try_collect.new.book c.try_collect.result c.try_collect.ensures.done c.try_collect.ensures.same in
    rests_again own _ c.try_collect.new.guest now.guest.serves.table now.guest

pub invariant_of-book : goal.invariant_of-book
invariant_of-book g c =
    let own = lent_first c.deref.ensures (guest_held (arc_value c.self.inside.head) c.self.inside.guest c.self.view_is c.self.invariant) in
    let book = lent_with own (book_held (arc_value c.book.inside.head) c.book.inside.book c.book.inside.freed c.book.view_is c.book.invariant) c.requires (c.are_one.ensures.0 c.if-not-are_one.false) in
    let now = collected (serves_lent own) (serves_lent book) c.try_collect.new.guest c.try_collect.new.book c.try_collect.result c.try_collect.ensures.done c.try_collect.ensures.same in
    rests_again book _ c.try_collect.new.book now.book.table_is now.book

pub returns-then-not-are_one-clause-done : goal.returns-then-not-are_one-clause-done
returns-then-not-are_one-clause-done g c = record {
  done = tt;
  home = refl;
  rest = refl;
  same = (refl, refl);
  why = λ one. false≢true (sym c.if-not-are_one.true ∙ c.are_one.ensures.1 (was_one (guest_held (arc_value c.self.inside.head) c.self.inside.guest c.self.view_is c.self.invariant) (book_held (arc_value c.book.inside.head) c.book.inside.book c.book.inside.freed c.book.view_is c.book.invariant) one));
}

pub returns-clause-done : goal.returns-clause-done
returns-clause-done g c =
    let own = lent_first c.deref.ensures (guest_held (arc_value c.self.inside.head) c.self.inside.guest c.self.view_is c.self.invariant) in
    let book = lent_with own (book_held (arc_value c.book.inside.head) c.book.inside.book c.book.inside.freed c.book.view_is c.book.invariant) c.requires (c.are_one.ensures.0 c.if-not-are_one.false) in
    let now = collected (serves_lent own) (serves_lent book) c.try_collect.new.guest c.try_collect.new.book c.try_collect.result c.try_collect.ensures.done c.try_collect.ensures.same in
    record {
      done = done_of_two own book c.try_collect.result c.hosted.ensures (λ basis x b event. HasCollected basis x c.try_collect.new.guest b c.try_collect.new.book event) c.try_collect.ensures.done;
      home = stays own _ now.guest.serves.table;
      rest = book_collected (arc_value c.book.inside.head) c.book.inside.book c.book.inside.freed c.book.view_is c.try_collect.new.book c.try_collect.new.freed c.try_collect.ensures.room (stays book _ now.book.table_is);
      same = same_two_with c.try_collect.result c.hosted.ensures (guest_seen (arc_value c.self.inside.head)) (λ (b : BookRecord) (n : FreedNames). book_seen (arc_value c.book.inside.head) b n c.book.inside.taken) c.try_collect.new.guest c.try_collect.new.book c.try_collect.new.freed c.try_collect.ensures.same c.try_collect.ensures.kept c.self.view_is c.book.view_is;
      why = why_of_two own book c.try_collect.result c.hosted.ensures (λ basis x b e. CanNotCollect basis b x e) (c.are_one.ensures.0 c.if-not-are_one.false) c.try_collect.ensures.why;
    }

pub returns-clause-freed : goal.returns-clause-freed
returns-clause-freed g c =
    let own = lent_first c.deref.ensures (guest_held (arc_value c.self.inside.head) c.self.inside.guest c.self.view_is c.self.invariant) in
    let book = lent_with own (book_held (arc_value c.book.inside.head) c.book.inside.book c.book.inside.freed c.book.view_is c.book.invariant) c.requires (c.are_one.ensures.0 c.if-not-are_one.false) in
    names_of own book c.try_collect.result c.hosted.ensures (λ basis b. objects_after basis.trace b.journal.list) (λ basis. AreFreedLast basis.trace c.try_collect.new.book.journal.list c.try_collect.new.freed.names) _ _ (ap (λ (v : BookPartValue). v.room) c.book.view_is) c.try_collect.ensures.freed
