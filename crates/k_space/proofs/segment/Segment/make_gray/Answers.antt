use Rattle.std.proofs.Common.{◌<◌, ℕ, Some, refl, sym, ap, subst, ◌∙◌, length, set, count_by, arith}
use Rattle.k_types.proofs.Lists.{some_one}
use Rattle.k_space.specs.declared.marks.Place.TheVariants.{At}
use Rattle.k_space.specs.declared.marks.Mark.TheVariants.{White as MarkWhite, Gray as MarkGray}
use Rattle.k_space.specs.Segments.{Row, Color, with_row, gray_or_black}
use Rattle.k_space.specs.Places.{IsGrayList, is_gray_place}
use Rattle.k_space.proofs.GrayLists.{At_inside, above_zero, joined, past_first}
use Rattle.k_space.proofs.GrayQueue.{gray_end, last_alone, still, queued, last_queued}
use Rattle.k_space.proofs.Rows.{kept_of, sound_of, recolored, recolored_kept, recolored_view, followed_view, row_there}
use Rattle.k_space.proofs.ListedLemmas.{listed_recolored}
use Rattle.k_space.proofs.Bytes.{bytes_recolored}
use Rattle.k_space.proofs.segment.Segment.make_gray.Goals as goal

pub mark_in-requires : goal.mark_in-requires
mark_in-requires c = record { serial = c.args.serial.0; was = MarkWhite; there = sym c.at_near-place.ensures ∙ (c.in-At.is ∙ ap (At c.in-At.slot) c.in-White.is) }

pub follow-requires : goal.follow-requires
follow-requires c =
    let places = c.self.inside.places.items in
    let within : c.args.serial.0 < length places = omega arith in
    let here = sym c.at_near-place.ensures ∙ (c.in-At.is ∙ ap (At c.in-At.slot) c.in-White.is) in
    let end = gray_end places _ c.self.inside.gray c.self.inside.last (above_zero c.self.inside.gray c.if-self-eq0.false) c.self.invariant.sound.grays c.self.invariant.last in
    let first = past_first places c.args.serial.0 c.in-At.slot MarkWhite c.self.invariant.sound.first here in
    rw (c.mark_in.ensures c.args.serial.0 MarkWhite here) (record { slot = end.slot; there = still places c.self.inside.last c.args.serial.0 c.in-At.slot end.slot c.self.invariant.last end.there (ap is_gray_place here) first within })

pub invariant_of-self : goal.invariant_of-self
invariant_of-self c =
    let places = c.self.inside.places.items in
    let within : c.args.serial.0 < length places = omega arith in
    let here = sym c.at_near-place.ensures ∙ (c.in-At.is ∙ ap (At c.in-At.slot) c.in-White.is) in
    let none = subst (λ (h : ℕ). IsGrayList places (count_by is_gray_place places) h) c.if-self-eq0.true c.self.invariant.sound.grays in
    rw (c.mark_in.ensures c.args.serial.0 MarkWhite here) (record {
      sound =
          recolored places c.self.inside.cells c.self.inside.room _ c.self.inside.gray c.args.serial.0 c.args.serial.0 c.in-At.slot MarkWhite (MarkGray 0) c.self.invariant.sound here
          (joined places c.args.serial.0 c.in-At.slot 0 (ap is_gray_place here) (past_first places c.args.serial.0 c.in-At.slot MarkWhite c.self.invariant.sound.first here) within none);
      last = last_alone places c.args.serial.0 c.in-At.slot none within;
      bytes = bytes_recolored places c.self.inside.cells c.self.inside.bytes c.args.serial.0 c.in-At.slot MarkWhite (MarkGray 0) c.self.invariant.bytes here;
      listed = listed_recolored places _ _ c.args.serial.0 c.in-At.slot MarkWhite (MarkGray 0) c.self.invariant.listed here refl;
      reserved = c.self.invariant.reserved;
    })

pub invariant_of-self-else-self-eq0 : goal.invariant_of-self-else-self-eq0
invariant_of-self-else-self-eq0 c =
    let places = c.self.inside.places.items in
    let within : c.args.serial.0 < length places = omega arith in
    let here = sym c.at_near-place.ensures ∙ (c.in-At.is ∙ ap (At c.in-At.slot) c.in-White.is) in
    let some = above_zero c.self.inside.gray c.if-self-eq0.false in
    let end = gray_end places _ c.self.inside.gray c.self.inside.last some c.self.invariant.sound.grays c.self.invariant.last in
    let first = past_first places c.args.serial.0 c.in-At.slot MarkWhite c.self.invariant.sound.first here in
    let there = still places c.self.inside.last c.args.serial.0 c.in-At.slot end.slot c.self.invariant.last end.there (ap is_gray_place here) first within in
    let one = set places c.args.serial.0 (At c.in-At.slot (MarkGray 0)) in
    let inside : c.self.inside.last < length one = At_inside one c.self.inside.last end.slot (MarkGray 0) there in
    let kept = recolored_kept places c.self.inside.cells c.self.inside.room _ c.args.serial.0 c.in-At.slot MarkWhite (MarkGray 0) (kept_of _ _ _ _ c.self.inside.gray c.self.invariant.sound) here in
    let listed = listed_recolored places _ _ c.args.serial.0 c.in-At.slot MarkWhite (MarkGray 0) c.self.invariant.listed here refl in
    rw (c.follow.ensures end.slot (rw (c.mark_in.ensures c.args.serial.0 MarkWhite here) there), (c.mark_in.ensures c.args.serial.0 MarkWhite here)) (record {
      sound =
          sound_of _ _ _ _ c.self.inside.gray
          (recolored_kept one c.self.inside.cells c.self.inside.room _ c.self.inside.last end.slot (MarkGray 0) (MarkGray c.args.serial.0) kept there)
          (queued places c.self.inside.last c.args.serial.0 c.in-At.slot end.slot c.self.invariant.last end.there (ap is_gray_place here) first within _ c.self.inside.gray refl some c.self.invariant.sound.grays);
      last = last_queued places c.self.inside.last c.args.serial.0 c.in-At.slot end.slot c.self.invariant.last end.there (ap is_gray_place here) first within;
      bytes =
          bytes_recolored one c.self.inside.cells c.self.inside.bytes c.self.inside.last end.slot (MarkGray 0) (MarkGray c.args.serial.0)
          (bytes_recolored places c.self.inside.cells c.self.inside.bytes c.args.serial.0 c.in-At.slot MarkWhite (MarkGray 0) c.self.invariant.bytes here) there;
      listed = listed_recolored one _ _ c.self.inside.last end.slot (MarkGray 0) (MarkGray c.args.serial.0) listed there refl;
      reserved = c.self.invariant.reserved;
    })

pub returns-then-self-eq0-clause-grayed : goal.returns-then-self-eq0-clause-grayed
returns-then-self-eq0-clause-grayed c = λ row at.
    let places = c.self.inside.places.items in
    let here = sym c.at_near-place.ensures ∙ (c.in-At.is ∙ ap (At c.in-At.slot) c.in-White.is) in
    let placed = c.self.invariant.sound.placed c.args.serial.0 c.in-At.slot MarkWhite here in
    let some = row_there _ _ places c.self.inside.cells c.args.self.now c.args.serial.0 c.in-At.slot MarkWhite (Some placed.cell) c.self.view_is here placed.there in
    let same = some_one (sym at ∙ some) in
    rw (c.mark_in.ensures c.args.serial.0 MarkWhite here)
    (recolored_view _ _ places c.self.inside.cells c.args.serial.0 c.in-At.slot MarkWhite (MarkGray 0) c.args.self.now row c.self.view_is here at
    ∙ ap (λ (x : Color). with_row c.args.self.now c.args.serial.0 (Some (record row { color = x }))) (sym (ap (λ (r : Row). gray_or_black r.color) same)))

pub returns-else-self-eq0-clause-grayed : goal.returns-else-self-eq0-clause-grayed
returns-else-self-eq0-clause-grayed c = λ row at.
    let places = c.self.inside.places.items in
    let within : c.args.serial.0 < length places = omega arith in
    let here = sym c.at_near-place.ensures ∙ (c.in-At.is ∙ ap (At c.in-At.slot) c.in-White.is) in
    let placed = c.self.invariant.sound.placed c.args.serial.0 c.in-At.slot MarkWhite here in
    let some = row_there _ _ places c.self.inside.cells c.args.self.now c.args.serial.0 c.in-At.slot MarkWhite (Some placed.cell) c.self.view_is here placed.there in
    let same = some_one (sym at ∙ some) in
    let end = gray_end places _ c.self.inside.gray c.self.inside.last (above_zero c.self.inside.gray c.if-self-eq0.false) c.self.invariant.sound.grays c.self.invariant.last in
    let first = past_first places c.args.serial.0 c.in-At.slot MarkWhite c.self.invariant.sound.first here in
    let there = still places c.self.inside.last c.args.serial.0 c.in-At.slot end.slot c.self.invariant.last end.there (ap is_gray_place here) first within in
    let one = set places c.args.serial.0 (At c.in-At.slot (MarkGray 0)) in
    rw (c.follow.ensures end.slot (rw (c.mark_in.ensures c.args.serial.0 MarkWhite here) there), (c.mark_in.ensures c.args.serial.0 MarkWhite here))
    (followed_view _ _ one c.self.inside.cells c.self.inside.last end.slot 0 c.args.serial.0 there
    ∙ recolored_view _ _ places c.self.inside.cells c.args.serial.0 c.in-At.slot MarkWhite (MarkGray 0) c.args.self.now row c.self.view_is here at
    ∙ ap (λ (x : Color). with_row c.args.self.now c.args.serial.0 (Some (record row { color = x }))) (sym (ap (λ (r : Row). gray_or_black r.color) same)))

pub returns-then-self-eq0-clause-gone : goal.returns-then-self-eq0-clause-gone
returns-then-self-eq0-clause-gone c = λ none.
    let places = c.self.inside.places.items in
    let here = sym c.at_near-place.ensures ∙ (c.in-At.is ∙ ap (At c.in-At.slot) c.in-White.is) in
    let placed = c.self.invariant.sound.placed c.args.serial.0 c.in-At.slot MarkWhite here in
    let some = row_there _ _ places c.self.inside.cells c.args.self.now c.args.serial.0 c.in-At.slot MarkWhite (Some placed.cell) c.self.view_is here placed.there in
    let both = sym none ∙ some in
    absurd (cc)

pub returns-else-self-eq0-clause-gone : goal.returns-else-self-eq0-clause-gone
returns-else-self-eq0-clause-gone c = λ none.
    let places = c.self.inside.places.items in
    let here = sym c.at_near-place.ensures ∙ (c.in-At.is ∙ ap (At c.in-At.slot) c.in-White.is) in
    let placed = c.self.invariant.sound.placed c.args.serial.0 c.in-At.slot MarkWhite here in
    let some = row_there _ _ places c.self.inside.cells c.args.self.now c.args.serial.0 c.in-At.slot MarkWhite (Some placed.cell) c.self.view_is here placed.there in
    let both = sym none ∙ some in
    absurd (cc)
