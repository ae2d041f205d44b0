use Rattle.std.proofs.Common.{refl, sym, ◌∙◌}
use Rattle.std.specs.Arc.{arc_value}
use Rattle.std.proofs.lemmas.Bool.{false≢true}
use Rattle.k_book.specs.Books.{BookRecord}
use Rattle.k_ends.specs.Apart.{CanNotDoAlone, HasComeAlone}
use Rattle.k_parts.specs.Parts.{book_seen, guest_seen}
use Rattle.k_parts.proofs.Hosted.{same_two}
use Rattle.k_parts.proofs.Kept.{came_alone}
use Rattle.k_parts.proofs.Meeting.{book_changed, book_held, done_of_two, guest_held, lent_first, lent_with, rests_again, serves_lent, serves_on, stays, was_one, why_of_two}
use Rattle.k_parts.proofs.parts.GuestPart.operate.Goals as goal

pub try_own-requires-clause-guest : goal.try_own-requires-clause-guest
try_own-requires-clause-guest g c =
    let own = lent_first c.deref-2.ensures (guest_held (arc_value c.self.inside.head) c.self.inside.guest c.self.view_is c.self.invariant) in
    let book = lent_with own (book_held (arc_value c.book.inside.head) c.book.inside.book c.book.inside.freed c.book.view_is c.book.invariant) c.requires (c.are_one.ensures.0 c.if-not-are_one.false) in
    (serves_on own _ (serves_lent book)).serves

pub try_own-requires-clause-book : goal.try_own-requires-clause-book
try_own-requires-clause-book g c =
    let own = lent_first c.deref-2.ensures (guest_held (arc_value c.self.inside.head) c.self.inside.guest c.self.view_is c.self.invariant) in
    let book = lent_with own (book_held (arc_value c.book.inside.head) c.book.inside.book c.book.inside.freed c.book.view_is c.book.invariant) c.requires (c.are_one.ensures.0 c.if-not-are_one.false) in
    (serves_lent book).serves

pub try_own-requires-clause-few : goal.try_own-requires-clause-few
try_own-requires-clause-few g c =
    let own = lent_first c.deref-2.ensures (guest_held (arc_value c.self.inside.head) c.self.inside.guest c.self.view_is c.self.invariant) in
    (serves_lent own).few

pub invariant_of-self : goal.invariant_of-self
invariant_of-self g c =
    let own = lent_first c.deref-2.ensures (guest_held (arc_value c.self.inside.head) c.self.inside.guest c.self.view_is c.self.invariant) in
    let book = lent_with own (book_held (arc_value c.book.inside.head) c.book.inside.book c.book.inside.freed c.book.view_is c.book.invariant) c.requires (c.are_one.ensures.0 c.if-not-are_one.false) in
    let now = came_alone (serves_lent own) (serves_lent book) c.try_own.new.guest c.try_own.new.book c.args.op.now c.try_own.result c.try_own.ensures.done c.try_own.ensures.same in
    rests_again own _ c.try_own.new.guest now.guest.serves.table now.guest

pub invariant_of-book : goal.invariant_of-book
invariant_of-book g c =
    let own = lent_first c.deref-2.ensures (guest_held (arc_value c.self.inside.head) c.self.inside.guest c.self.view_is c.self.invariant) in
    let book = lent_with own (book_held (arc_value c.book.inside.head) c.book.inside.book c.book.inside.freed c.book.view_is c.book.invariant) c.requires (c.are_one.ensures.0 c.if-not-are_one.false) in
    let now = came_alone (serves_lent own) (serves_lent book) c.try_own.new.guest c.try_own.new.book c.args.op.now c.try_own.result c.try_own.ensures.done c.try_own.ensures.same in
    rests_again book _ c.try_own.new.book now.book.table_is now.book

pub returns-then-not-are_one : goal.returns-then-not-are_one
returns-then-not-are_one g c = record {
  done = tt;
  home = refl;
  rest = refl;
  same = (refl, refl);
  why = λ one. false≢true (sym c.if-not-are_one.true ∙ c.are_one.ensures.1 (was_one (guest_held (arc_value c.self.inside.head) c.self.inside.guest c.self.view_is c.self.invariant) (book_held (arc_value c.book.inside.head) c.book.inside.book c.book.inside.freed c.book.view_is c.book.invariant) one));
}

pub returns : goal.returns
returns g c =
    let own = lent_first c.deref-2.ensures (guest_held (arc_value c.self.inside.head) c.self.inside.guest c.self.view_is c.self.invariant) in
    let book = lent_with own (book_held (arc_value c.book.inside.head) c.book.inside.book c.book.inside.freed c.book.view_is c.book.invariant) c.requires (c.are_one.ensures.0 c.if-not-are_one.false) in
    let now = came_alone (serves_lent own) (serves_lent book) c.try_own.new.guest c.try_own.new.book c.args.op.now c.try_own.result c.try_own.ensures.done c.try_own.ensures.same in
    record {
      done = done_of_two own book c.try_own.result c.hosted.ensures (λ basis x b came. HasComeAlone basis c.args.op.now x c.try_own.new.guest b c.try_own.new.book came) c.try_own.ensures.done;
      home = stays own _ now.guest.serves.table;
      rest = book_changed (arc_value c.book.inside.head) c.book.inside.book c.book.inside.freed c.book.view_is c.try_own.new.book (stays book _ now.book.table_is);
      same = same_two c.try_own.result c.hosted.ensures (guest_seen (arc_value c.self.inside.head)) (λ (b : BookRecord). book_seen (arc_value c.book.inside.head) b c.book.inside.freed c.book.inside.taken) c.try_own.new.guest c.try_own.new.book c.try_own.ensures.same c.self.view_is c.book.view_is;
      why = why_of_two own book c.try_own.result c.hosted.ensures (λ basis x b e. CanNotDoAlone basis b c.args.op.now x e) (c.are_one.ensures.0 c.if-not-are_one.false) c.try_own.ensures.why;
    }
