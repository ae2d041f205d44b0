use Rattle.std.proofs.Common.{refl, subst, sym, ◌∙◌}
use Rattle.std.specs.Arc.{arc_value}
use Rattle.std.proofs.lemmas.Bool.{false≢true}
use Rattle.std.specs.Prelude.{IfErr, IfOk}
use Rattle.k_types.specs.declared.names.Pid.{Pid}
use Rattle.k_types.specs.declared.op.Op.TheVariants.{Kill}
use Rattle.k_book.specs.Books.{BookRecord}
use Rattle.k_ends.specs.Killing.{CanNotKill, HasTriedToKill}
use Rattle.k_ends.specs.k_guests.Serving.{basis_of}
use Rattle.k_parts.specs.Parts.{book_seen, guest_seen, kernel_seen}
use Rattle.k_parts.proofs.Hosted.{same_four}
use Rattle.k_parts.proofs.Kept.{killed}
use Rattle.k_parts.proofs.Meeting.{book_changed, book_held, done_of_four, guest_held, kernel_held, lent_first, lent_with, rests_again, serves_lent, serves_on, stays, was_one, why_of_four}
use Rattle.k_parts.proofs.parts.GuestPart.kill.Goals as goal

pub try_kill-requires-clause-guest : goal.try_kill-requires-clause-guest
try_kill-requires-clause-guest g c =
    let own = lent_first c.deref.ensures (guest_held (arc_value c.self.inside.head) c.self.inside.guest c.self.view_is c.self.invariant) in
    let book = lent_with own (book_held (arc_value c.book.inside.head) c.book.inside.book c.book.inside.freed c.book.view_is c.book.invariant) c.requires.book (c.are_four.ensures.0 c.if-not-are_four.false).2 in
    (serves_on own _ (serves_lent book)).serves

pub try_kill-requires-clause-target : goal.try_kill-requires-clause-target
try_kill-requires-clause-target g c =
    let own = lent_first c.deref.ensures (guest_held (arc_value c.self.inside.head) c.self.inside.guest c.self.view_is c.self.invariant) in
    let target = lent_with own (guest_held (arc_value c.target.inside.head) c.target.inside.guest c.target.view_is c.target.invariant) c.requires.target (c.are_four.ensures.0 c.if-not-are_four.false).0 in
    let book = lent_with own (book_held (arc_value c.book.inside.head) c.book.inside.book c.book.inside.freed c.book.view_is c.book.invariant) c.requires.book (c.are_four.ensures.0 c.if-not-are_four.false).2 in
    (serves_on target _ (serves_lent book)).serves

pub try_kill-requires-clause-kernel : goal.try_kill-requires-clause-kernel
try_kill-requires-clause-kernel g c =
    let own = lent_first c.deref.ensures (guest_held (arc_value c.self.inside.head) c.self.inside.guest c.self.view_is c.self.invariant) in
    let kernel = lent_with own (kernel_held (arc_value c.kernel.inside.head) c.kernel.inside.kernel c.kernel.view_is c.kernel.invariant) c.requires.kernel (c.are_four.ensures.0 c.if-not-are_four.false).1 in
    let book = lent_with own (book_held (arc_value c.book.inside.head) c.book.inside.book c.book.inside.freed c.book.view_is c.book.invariant) c.requires.book (c.are_four.ensures.0 c.if-not-are_four.false).2 in
    serves_on kernel _ (serves_lent book)

pub try_kill-requires-clause-book : goal.try_kill-requires-clause-book
try_kill-requires-clause-book g c =
    let own = lent_first c.deref.ensures (guest_held (arc_value c.self.inside.head) c.self.inside.guest c.self.view_is c.self.invariant) in
    let book = lent_with own (book_held (arc_value c.book.inside.head) c.book.inside.book c.book.inside.freed c.book.view_is c.book.invariant) c.requires.book (c.are_four.ensures.0 c.if-not-are_four.false).2 in
    (serves_lent book).serves

pub invariant_of-self : goal.invariant_of-self
invariant_of-self g c =
    let own = lent_first c.deref.ensures (guest_held (arc_value c.self.inside.head) c.self.inside.guest c.self.view_is c.self.invariant) in
    let target = lent_with own (guest_held (arc_value c.target.inside.head) c.target.inside.guest c.target.view_is c.target.invariant) c.requires.target (c.are_four.ensures.0 c.if-not-are_four.false).0 in
    let kernel = lent_with own (kernel_held (arc_value c.kernel.inside.head) c.kernel.inside.kernel c.kernel.view_is c.kernel.invariant) c.requires.kernel (c.are_four.ensures.0 c.if-not-are_four.false).1 in
    let book = lent_with own (book_held (arc_value c.book.inside.head) c.book.inside.book c.book.inside.freed c.book.view_is c.book.invariant) c.requires.book (c.are_four.ensures.0 c.if-not-are_four.false).2 in
    let now = killed (serves_lent own) (serves_lent book) c.try_kill.new.guest c.try_kill.new.book (serves_lent kernel) c.try_kill.new.kernel (serves_lent target) c.try_kill.new.target (Kill c.pid.result) c.try_kill.result c.try_kill.ensures.done c.try_kill.ensures.same in
    rests_again own _ c.try_kill.new.guest now.0.guest.serves.table now.0.guest

pub invariant_of-target : goal.invariant_of-target
invariant_of-target g c =
    let own = lent_first c.deref.ensures (guest_held (arc_value c.self.inside.head) c.self.inside.guest c.self.view_is c.self.invariant) in
    let target = lent_with own (guest_held (arc_value c.target.inside.head) c.target.inside.guest c.target.view_is c.target.invariant) c.requires.target (c.are_four.ensures.0 c.if-not-are_four.false).0 in
    let kernel = lent_with own (kernel_held (arc_value c.kernel.inside.head) c.kernel.inside.kernel c.kernel.view_is c.kernel.invariant) c.requires.kernel (c.are_four.ensures.0 c.if-not-are_four.false).1 in
    let book = lent_with own (book_held (arc_value c.book.inside.head) c.book.inside.book c.book.inside.freed c.book.view_is c.book.invariant) c.requires.book (c.are_four.ensures.0 c.if-not-are_four.false).2 in
    let now = killed (serves_lent own) (serves_lent book) c.try_kill.new.guest c.try_kill.new.book (serves_lent kernel) c.try_kill.new.kernel (serves_lent target) c.try_kill.new.target (Kill c.pid.result) c.try_kill.result c.try_kill.ensures.done c.try_kill.ensures.same in
    rests_again target _ c.try_kill.new.target now.2.serves.table now.2

pub invariant_of-kernel : goal.invariant_of-kernel
invariant_of-kernel g c =
    let own = lent_first c.deref.ensures (guest_held (arc_value c.self.inside.head) c.self.inside.guest c.self.view_is c.self.invariant) in
    let target = lent_with own (guest_held (arc_value c.target.inside.head) c.target.inside.guest c.target.view_is c.target.invariant) c.requires.target (c.are_four.ensures.0 c.if-not-are_four.false).0 in
    let kernel = lent_with own (kernel_held (arc_value c.kernel.inside.head) c.kernel.inside.kernel c.kernel.view_is c.kernel.invariant) c.requires.kernel (c.are_four.ensures.0 c.if-not-are_four.false).1 in
    let book = lent_with own (book_held (arc_value c.book.inside.head) c.book.inside.book c.book.inside.freed c.book.view_is c.book.invariant) c.requires.book (c.are_four.ensures.0 c.if-not-are_four.false).2 in
    let now = killed (serves_lent own) (serves_lent book) c.try_kill.new.guest c.try_kill.new.book (serves_lent kernel) c.try_kill.new.kernel (serves_lent target) c.try_kill.new.target (Kill c.pid.result) c.try_kill.result c.try_kill.ensures.done c.try_kill.ensures.same in
    rests_again kernel _ c.try_kill.new.kernel now.1.table now.1

pub invariant_of-book : goal.invariant_of-book
invariant_of-book g c =
    let own = lent_first c.deref.ensures (guest_held (arc_value c.self.inside.head) c.self.inside.guest c.self.view_is c.self.invariant) in
    let target = lent_with own (guest_held (arc_value c.target.inside.head) c.target.inside.guest c.target.view_is c.target.invariant) c.requires.target (c.are_four.ensures.0 c.if-not-are_four.false).0 in
    let kernel = lent_with own (kernel_held (arc_value c.kernel.inside.head) c.kernel.inside.kernel c.kernel.view_is c.kernel.invariant) c.requires.kernel (c.are_four.ensures.0 c.if-not-are_four.false).1 in
    let book = lent_with own (book_held (arc_value c.book.inside.head) c.book.inside.book c.book.inside.freed c.book.view_is c.book.invariant) c.requires.book (c.are_four.ensures.0 c.if-not-are_four.false).2 in
    let now = killed (serves_lent own) (serves_lent book) c.try_kill.new.guest c.try_kill.new.book (serves_lent kernel) c.try_kill.new.kernel (serves_lent target) c.try_kill.new.target (Kill c.pid.result) c.try_kill.result c.try_kill.ensures.done c.try_kill.ensures.same in
    rests_again book _ c.try_kill.new.book now.0.book.table_is now.0.book

pub returns-then-not-are_four : goal.returns-then-not-are_four
returns-then-not-are_four g c = record {
  done = tt;
  home = refl;
  target_home = refl;
  kernel_home = refl;
  rest = refl;
  same = (refl, refl, refl, refl);
  why = λ one. false≢true (sym c.if-not-are_four.true ∙ c.are_four.ensures.1 (was_one (guest_held (arc_value c.self.inside.head) c.self.inside.guest c.self.view_is c.self.invariant) (guest_held (arc_value c.target.inside.head) c.target.inside.guest c.target.view_is c.target.invariant) one.0, was_one (guest_held (arc_value c.self.inside.head) c.self.inside.guest c.self.view_is c.self.invariant) (kernel_held (arc_value c.kernel.inside.head) c.kernel.inside.kernel c.kernel.view_is c.kernel.invariant) one.1, was_one (guest_held (arc_value c.self.inside.head) c.self.inside.guest c.self.view_is c.self.invariant) (book_held (arc_value c.book.inside.head) c.book.inside.book c.book.inside.freed c.book.view_is c.book.invariant) one.2));
}

pub returns : goal.returns
returns g c =
    let own = lent_first c.deref.ensures (guest_held (arc_value c.self.inside.head) c.self.inside.guest c.self.view_is c.self.invariant) in
    let target = lent_with own (guest_held (arc_value c.target.inside.head) c.target.inside.guest c.target.view_is c.target.invariant) c.requires.target (c.are_four.ensures.0 c.if-not-are_four.false).0 in
    let kernel = lent_with own (kernel_held (arc_value c.kernel.inside.head) c.kernel.inside.kernel c.kernel.view_is c.kernel.invariant) c.requires.kernel (c.are_four.ensures.0 c.if-not-are_four.false).1 in
    let book = lent_with own (book_held (arc_value c.book.inside.head) c.book.inside.book c.book.inside.freed c.book.view_is c.book.invariant) c.requires.book (c.are_four.ensures.0 c.if-not-are_four.false).2 in
    let now = killed (serves_lent own) (serves_lent book) c.try_kill.new.guest c.try_kill.new.book (serves_lent kernel) c.try_kill.new.kernel (serves_lent target) c.try_kill.new.target (Kill c.pid.result) c.try_kill.result c.try_kill.ensures.done c.try_kill.ensures.same in
    record {
      done = done_of_four own target kernel book c.try_kill.result c.hosted.ensures (λ basis g t k b event. HasTriedToKill basis (Kill t.cell.pid) g c.try_kill.new.guest t c.try_kill.new.target k c.try_kill.new.kernel b c.try_kill.new.book event) (subst (λ (p : Pid). IfOk c.try_kill.result (λ event. HasTriedToKill (basis_of c.deref.result.now.terms) (Kill p) c.self.inside.guest c.try_kill.new.guest c.target.inside.guest c.try_kill.new.target c.kernel.inside.kernel c.try_kill.new.kernel c.book.inside.book c.try_kill.new.book event)) c.pid.ensures c.try_kill.ensures.done);
      home = stays own _ now.0.guest.serves.table;
      target_home = stays target _ now.2.serves.table;
      kernel_home = stays kernel _ now.1.table;
      rest = book_changed (arc_value c.book.inside.head) c.book.inside.book c.book.inside.freed c.book.view_is c.try_kill.new.book (stays book _ now.0.book.table_is);
      same = same_four c.try_kill.result c.hosted.ensures (guest_seen (arc_value c.self.inside.head)) (guest_seen (arc_value c.target.inside.head)) (kernel_seen (arc_value c.kernel.inside.head)) (λ (b : BookRecord). book_seen (arc_value c.book.inside.head) b c.book.inside.freed c.book.inside.taken) c.try_kill.new.guest c.try_kill.new.target c.try_kill.new.kernel c.try_kill.new.book c.try_kill.ensures.same c.self.view_is c.target.view_is c.kernel.view_is c.book.view_is;
      why = why_of_four own target kernel book c.try_kill.result c.hosted.ensures (λ basis g t k b e. CanNotKill basis k b (Kill t.cell.pid) t g e) (c.are_four.ensures.0 c.if-not-are_four.false) (subst (λ (p : Pid). IfErr c.try_kill.result (λ e. CanNotKill (basis_of c.deref.result.now.terms) c.kernel.inside.kernel c.book.inside.book (Kill p) c.target.inside.guest c.self.inside.guest e)) c.pid.ensures c.try_kill.ensures.why);
    }
