use Rattle.std.proofs.Common.{◌≡◌, ◌==◌, ℕ, true, refl, sym, ap, ◌∙◌, List, length, Option, Some, None, slice_get, eqb-true}
use Rattle.std.specs.List.{position_or_len}
use Rattle.std.proofs.lemmas.List.Sums.{prefix_len-le-length}
use Rattle.k_space.specs.Segments.{SegmentValue}
use Rattle.k_space.specs.Areas.{HasDistinct, has_number, place_of}
use Rattle.k_space.proofs.Segs.{none_below}
use Rattle.k_space.proofs.Hinted.{none_told}
use Rattle.k_space.proofs.area.place.Goals as goal

-- with distinct numbers a segment stands nowhere else than its number says
stands_first : (segments : List SegmentValue) (at number : ℕ) → HasDistinct segments → has_number (slice_get segments at) number ≡ true → at ≡ place_of segments number
stands_first segments at number distinct e = by_segment (slice_get segments at) refl e
  where
    by_segment : (o : Option SegmentValue) → slice_get segments at ≡ o → has_number o number ≡ true → at ≡ place_of segments number
    by_segment None there e = absurd (cc)
    by_segment (Some s) there e = sym (distinct at s there) ∙ ap (place_of segments) (eqb-true s.number number e)

pub returns-then-stands_at : goal.returns-then-stands_at
returns-then-stands_at c = stands_first c.args.segments.now 0 c.args.seg.0 c.requires.distinct (sym c.stands_at.ensures ∙ c.if-stands_at.true)

pub returns-then-stands_at-2 : goal.returns-then-stands_at-2
returns-then-stands_at-2 c = stands_first c.args.segments.now c.in-Some.hint.now c.args.seg.0 c.requires.distinct (sym c.stands_at-in-Some.ensures ∙ c.if-stands_at-2.true)

pub returns-in-None : goal.returns-in-None
returns-in-None c = none_below (position_or_len (λ s. s.number == c.args.seg.0) c.args.segments.now) (length c.args.segments.now) (prefix_len-le-length _ _) (sym c.in-None.ensures)

pub returns-then-exact : goal.returns-then-exact
returns-then-exact c =
    none_told c.args.segments.now c.args.hints.now c.args.seg.0 c.in-Some.hint.now _ (c.requires.exact c.if-exact.true) c.in-Some.ensures.lookup.0 c.in-Some.ensures.lookup.1 (sym c.stands_at-in-Some.ensures ∙ c.if-stands_at-2.false)
