use Rattle.std.proofs.Common.{◌≡◌, ℕ, refl, sym, ap, subst, ◌∙◌, get_or, count_by, is_some}
use Rattle.k_space.specs.declared.marks.Place.TheVariants.{Empty, At}
use Rattle.k_space.specs.declared.marks.Mark.TheVariants.{White as MarkWhite, Gray as MarkGray, Black as MarkBlack}
use Rattle.k_space.specs.Segments.{SegmentValue, row_at, some_gray}
use Rattle.k_space.specs.Places.{IsGrayList, is_gray_place}
use Rattle.k_space.proofs.GrayQueue.{last_set}
use Rattle.k_space.proofs.ListedLemmas.{listed_recolored}
use Rattle.k_space.proofs.Bytes.{bytes_recolored}
use Rattle.k_space.proofs.GrayLists.{above_zero, first_left, head_gray, none_gray, no_head, At_inside}
use Rattle.k_space.proofs.Rows.{recolored, visited, gray_row, row_at_view}
use Rattle.k_space.proofs.segment.Segment.visit_gray_from.Goals as goal

pub returns-then-self-eq0-clause-none : goal.returns-then-self-eq0-clause-none
returns-then-self-eq0-clause-none c = λ serial.
    let places = c.self.inside.places.items in
    let grays : IsGrayList places (count_by is_gray_place places) 0 = subst (λ (h : ℕ). IsGrayList places (count_by is_gray_place places) h) c.if-self-eq0.true c.self.invariant.sound.grays in
    ap (λ (s : SegmentValue). some_gray (row_at s serial)) (sym c.self.view_is)
    ∙ ap some_gray (row_at_view c.self.inside.cells places serial)
    ∙ gray_row c.self.inside.cells (get_or places serial Empty) (none_gray places (no_head places _ grays) serial)

pub mark_in-requires : goal.mark_in-requires
mark_in-requires c = record { serial = c.self.inside.gray; was = MarkGray c.in-Gray.next; there = sym c.at_near-place.ensures ∙ (c.in-At.is ∙ ap (At c.in-At.slot) c.in-Gray.is) }

pub invariant_of-self : goal.invariant_of-self
invariant_of-self c =
    let places = c.self.inside.places.items in
    let at = c.self.inside.gray in
    let some = above_zero at c.if-self-eq0.false in
    let first = head_gray places _ at some c.self.invariant.sound.grays in
    let here = sym c.at_near-place.ensures ∙ (c.in-At.is ∙ ap (At c.in-At.slot) c.in-Gray.is) in
    rw (c.mark_in.ensures c.self.inside.gray (MarkGray c.in-Gray.next) here) (record {
      sound =
          recolored places c.self.inside.cells c.self.inside.room _ at c.in-Gray.next at c.in-At.slot (MarkGray c.in-Gray.next) MarkBlack c.self.invariant.sound here
          (first_left places _ at c.in-At.slot c.in-Gray.next (At c.in-At.slot MarkBlack) refl here some c.self.invariant.sound.grays refl);
      bytes = bytes_recolored places c.self.inside.cells c.self.inside.bytes at c.in-At.slot (MarkGray c.in-Gray.next) MarkBlack c.self.invariant.bytes here;
      listed = listed_recolored places _ _ at c.in-At.slot (MarkGray c.in-Gray.next) MarkBlack c.self.invariant.listed here refl;
      reserved = c.self.invariant.reserved;
      last = last_set places c.self.inside.last at (At c.in-At.slot MarkBlack) c.self.invariant.last (At_inside places at c.in-At.slot (MarkGray c.in-Gray.next) here) refl;
    })

pub unreachable-requires : goal.unreachable-requires
unreachable-requires c =
    let places = c.self.inside.places.items in
    let at = c.self.inside.gray in
    let first = head_gray places _ at (above_zero at c.if-self-eq0.false) c.self.invariant.sound.grays in
    let here = sym c.at_near-place.ensures ∙ (c.in-At.is ∙ ap (At c.in-At.slot) c.in-White.is) in
    let both : At first.0 (MarkGray first.1) ≡ At c.in-At.slot MarkWhite = sym first.2 ∙ here in
    cc

pub unreachable-requires-in-Black : goal.unreachable-requires-in-Black
unreachable-requires-in-Black c =
    let places = c.self.inside.places.items in
    let at = c.self.inside.gray in
    let first = head_gray places _ at (above_zero at c.if-self-eq0.false) c.self.invariant.sound.grays in
    let here = sym c.at_near-place.ensures ∙ (c.in-At.is ∙ ap (At c.in-At.slot) c.in-Black.is) in
    let both : At first.0 (MarkGray first.1) ≡ At c.in-At.slot MarkBlack = sym first.2 ∙ here in
    cc

pub copy_unless-fields-requires-clause-live : goal.copy_unless-fields-requires-clause-live
copy_unless-fields-requires-clause-live c =
    let here = sym c.at_near-place.ensures ∙ (c.in-At.is ∙ ap (At c.in-At.slot) c.in-Gray.is) in
    ap is_some (c.self.invariant.sound.placed c.self.inside.gray c.in-At.slot (MarkGray c.in-Gray.next) here).there

pub copy_unless-fields-requires-clause-few : goal.copy_unless-fields-requires-clause-few
copy_unless-fields-requires-clause-few c = λ cell e. (c.self.invariant.sound.kept c.in-At.slot cell e).few

pub returns-clause-some : goal.returns-clause-some
returns-clause-some c =
    let here = sym c.at_near-place.ensures ∙ (c.in-At.is ∙ ap (At c.in-At.slot) c.in-Gray.is) in
    let placed = c.self.invariant.sound.placed c.self.inside.gray c.in-At.slot (MarkGray c.in-Gray.next) here in
    rw (c.mark_in.ensures c.self.inside.gray (MarkGray c.in-Gray.next) here)
    (visited c.args.bound _ _ c.self.inside.places.items c.self.inside.cells c.args.self.now c.self.inside.gray c.in-At.slot c.in-Gray.next placed.cell c.copy_unless-fields.result c.copy_unless-fields.new.into c.self.view_is here placed.there c.copy_unless-fields.ensures.most
    (λ plain. c.copy_unless-fields.ensures.held (c.covers.ensures ∙ plain) placed.cell placed.there))
