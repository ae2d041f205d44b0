use Rattle.std.proofs.Common.{refl, sym, ◌∙◌}
use Rattle.std.specs.Arc.{arc_value}
use Rattle.std.proofs.lemmas.Bool.{false≢true}
use Rattle.k_book.specs.Books.{BookRecord}
use Rattle.k_ends.specs.CallsRefusals.{CanNotPublish}
use Rattle.k_ends.specs.Doing.{HasPublishedAll}
use Rattle.k_parts.specs.Parts.{book_seen, guest_seen}
use Rattle.k_parts.proofs.Hosted.{same_two}
use Rattle.k_parts.proofs.Kept.{published}
use Rattle.k_parts.proofs.Meeting.{book_changed, book_held, done_of_two, guest_held, lent_first, lent_with, rests_again, serves_lent, serves_on, stays, was_one, why_of_two}
use Rattle.k_parts.proofs.parts.GuestPart.publish.Goals as goal

pub try_publish-requires-clause-guest : goal.try_publish-requires-clause-guest
try_publish-requires-clause-guest g c =
    let own = lent_first c.deref.ensures (guest_held (arc_value c.self.inside.head) c.self.inside.guest c.self.view_is c.self.invariant) in
    let book = lent_with own (book_held (arc_value c.book.inside.head) c.book.inside.book c.book.inside.freed c.book.view_is c.book.invariant) c.requires (c.are_one.ensures.0 c.if-not-are_one.false) in
    (serves_on own _ (serves_lent book)).serves

pub try_publish-requires-clause-book : goal.try_publish-requires-clause-book
try_publish-requires-clause-book g c =
    let own = lent_first c.deref.ensures (guest_held (arc_value c.self.inside.head) c.self.inside.guest c.self.view_is c.self.invariant) in
    let book = lent_with own (book_held (arc_value c.book.inside.head) c.book.inside.book c.book.inside.freed c.book.view_is c.book.invariant) c.requires (c.are_one.ensures.0 c.if-not-are_one.false) in
    (serves_lent book).serves

pub invariant_of-self : goal.invariant_of-self
invariant_of-self g c =
    let own = lent_first c.deref.ensures (guest_held (arc_value c.self.inside.head) c.self.inside.guest c.self.view_is c.self.invariant) in
    let book = lent_with own (book_held (arc_value c.book.inside.head) c.book.inside.book c.book.inside.freed c.book.view_is c.book.invariant) c.requires (c.are_one.ensures.0 c.if-not-are_one.false) in
    let now = published (serves_lent own) (serves_lent book) c.try_publish.new.guest c.try_publish.new.book c.try_publish.result c.try_publish.ensures.done c.try_publish.ensures.same in
    rests_again own _ c.try_publish.new.guest now.guest.serves.table now.guest

pub invariant_of-book : goal.invariant_of-book
invariant_of-book g c =
    let own = lent_first c.deref.ensures (guest_held (arc_value c.self.inside.head) c.self.inside.guest c.self.view_is c.self.invariant) in
    let book = lent_with own (book_held (arc_value c.book.inside.head) c.book.inside.book c.book.inside.freed c.book.view_is c.book.invariant) c.requires (c.are_one.ensures.0 c.if-not-are_one.false) in
    let now = published (serves_lent own) (serves_lent book) c.try_publish.new.guest c.try_publish.new.book c.try_publish.result c.try_publish.ensures.done c.try_publish.ensures.same in
    rests_again book _ c.try_publish.new.book now.book.table_is now.book

pub returns-then-not-are_one : goal.returns-then-not-are_one
returns-then-not-are_one g c = record {
  done = tt;
  home = refl;
  rest = refl;
  same = (refl, refl);
  why = λ one. false≢true (sym c.if-not-are_one.true ∙ c.are_one.ensures.1 (was_one (guest_held (arc_value c.self.inside.head) c.self.inside.guest c.self.view_is c.self.invariant) (book_held (arc_value c.book.inside.head) c.book.inside.book c.book.inside.freed c.book.view_is c.book.invariant) one));
}

pub returns : goal.returns
returns g c =
    let own = lent_first c.deref.ensures (guest_held (arc_value c.self.inside.head) c.self.inside.guest c.self.view_is c.self.invariant) in
    let book = lent_with own (book_held (arc_value c.book.inside.head) c.book.inside.book c.book.inside.freed c.book.view_is c.book.invariant) c.requires (c.are_one.ensures.0 c.if-not-are_one.false) in
    let now = published (serves_lent own) (serves_lent book) c.try_publish.new.guest c.try_publish.new.book c.try_publish.result c.try_publish.ensures.done c.try_publish.ensures.same in
    record {
      done = done_of_two own book c.try_publish.result c.hosted.ensures (λ basis x b _. HasPublishedAll basis x c.try_publish.new.guest b c.try_publish.new.book) c.try_publish.ensures.done;
      home = stays own _ now.guest.serves.table;
      rest = book_changed (arc_value c.book.inside.head) c.book.inside.book c.book.inside.freed c.book.view_is c.try_publish.new.book (stays book _ now.book.table_is);
      same = same_two c.try_publish.result c.hosted.ensures (guest_seen (arc_value c.self.inside.head)) (λ (b : BookRecord). book_seen (arc_value c.book.inside.head) b c.book.inside.freed c.book.inside.taken) c.try_publish.new.guest c.try_publish.new.book c.try_publish.ensures.same c.self.view_is c.book.view_is;
      why = why_of_two own book c.try_publish.result c.hosted.ensures (λ basis x b e. CanNotPublish basis b x e) (c.are_one.ensures.0 c.if-not-are_one.false) c.try_publish.ensures.why;
    }
