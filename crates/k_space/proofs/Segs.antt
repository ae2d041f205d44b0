-- A segment that is put back as it was.
use Rattle.std.proofs.Common.{◌≡◌, ℕ, Option, Some, None, List, ◌==◌, ◌<◌, ◌≤◌, Bool, true, false, cond, ltb, nat_lt, arith, refl, sym, ap, ap₂, ◌∙◌, get_or, set, slice_get, length, [], ◌∷◌, map}
use Rattle.std.specs.Option.{IfNone, IfSome}
use Rattle.std.proofs.lemmas.Bool.{le-ltb}
use Rattle.std.proofs.lemmas.Bool.Decides.{nat_tests}
use Rattle.std.proofs.lemmas.List.{set-get_or}
use Rattle.std.proofs.lemmas.Option.{get_or_from_slice_get, slice_get_within}
use Rattle.k_types.specs.declared.names.Name.{Name}
use Rattle.k_space.specs.Bounds.{is_covered, nothing}
use Rattle.k_space.specs.declared.body.Stored.{Stored}
use Rattle.k_space.specs.declared.bound.Bound.{Bound}
use Rattle.k_space.specs.declared.segment.Visited.{Visited}
use Rattle.k_space.specs.Segments.{SegmentValue, Row, Black, row_at, with_row, gray_or_black, some_gray, White, unmarked_row, unmarked_segment}
use Rattle.k_space.specs.Areas.{AreaValue, place_of, segment_at, with_segment, row_in_segment, row_of_name, with_row_in, HasDistinct, grayed, grayed_row, unmarked}
use Rattle.k_space.specs.Visiting.{IsVisited, IsVisitedFrom, IsVisitedFromIn, IsVisitedIn}

pub put_back : (a : AreaValue) (number : ℕ) (s : SegmentValue) → Some s ≡ segment_at a.segments number → with_segment a number s ≡ a
put_back a number s e =
    let at : get_or a.segments (place_of a.segments number) s ≡ s = get_or_from_slice_get a.segments (place_of a.segments number) s s (sym e) in
    ap (λ (l : List SegmentValue). record a { segments = l }) (ap (set a.segments (place_of a.segments number)) (sym at) ∙ set-get_or a.segments (place_of a.segments number) s)

pub none_below : (p n : ℕ) → p ≤ n → ◌≡◌ {A = Option ℕ} (cond (ltb p n) (Some p) None) None → n ≡ p
none_below p n within e = grind (arith, nat_tests)

-- a segment in which an object was made gray, put back
pub grayed_in : (a : AreaValue) (n : Name) (s t : SegmentValue) → Some s ≡ segment_at a.segments n.seg.0 →
    ((row : Row) → row_at s n.serial.0 ≡ Some row → t ≡ with_row s n.serial.0 (Some (record row { color = gray_or_black row.color }))) →
    (row_at s n.serial.0 ≡ None → t ≡ s) → with_segment a n.seg.0 t ≡ grayed a n
grayed_in a n s t at some none = by_row (row_at s n.serial.0) refl
  where
    there : row_of_name a.segments n ≡ row_at s n.serial.0
    there = ap (λ (o : Option SegmentValue). row_in_segment o n.serial.0) (sym at)

    by_row : (o : Option Row) → row_at s n.serial.0 ≡ o → with_segment a n.seg.0 t ≡ grayed a n
    by_row None e = ap (with_segment a n.seg.0) (none e) ∙ put_back a n.seg.0 s at ∙ sym (ap (grayed_row a n) (there ∙ e))
    by_row (Some row) e =
        ap (with_segment a n.seg.0) (some row e)
        ∙ ap (λ (o : Option SegmentValue). with_row_in a n (Some (record row { color = gray_or_black row.color })) o) at
        ∙ sym (ap (grayed_row a n) (there ∙ e))

-- at its place in the list of an area
pub grayed_at : (segments : List SegmentValue) (room at : ℕ) (a : AreaValue) (n : Name) (s t : SegmentValue) → record { segments = segments; room = room } ≡ a → at ≡ place_of a.segments n.seg.0 → slice_get segments at ≡ Some s →
    ((row : Row) → row_at s n.serial.0 ≡ Some row → t ≡ with_row s n.serial.0 (Some (record row { color = gray_or_black row.color }))) →
    (row_at s n.serial.0 ≡ None → t ≡ s) → record { segments = set segments at t; room = room } ≡ grayed a n
grayed_at segments room at a n s t is place there some none =
    ap₂ (λ (x : AreaValue) p. record x { segments = set x.segments p t }) is place
    ∙ grayed_in a n s t (sym there ∙ ap₂ (λ (ss : List SegmentValue) p. slice_get ss p) (ap (λ (x : AreaValue). x.segments) is) place) some none

-- a segment of an area in which an object was visited
pub visited_at : (b : Bound) (segments : List SegmentValue) (room at : ℕ) (a : AreaValue) (s t : SegmentValue) (found : Visited) (list : List Stored) → record { segments = segments; room = room } ≡ a → HasDistinct a.segments → slice_get segments at ≡ Some s →
    IsVisitedFromIn b s t found list → IsVisitedFrom b a (record { segments = set segments at t; room = room }) found list
visited_at b segments room at a s t found list is distinct there visited =
    record {
      black = record {
        row = visited.row;
        there = ap (λ (o : Option SegmentValue). row_in_segment o found.name.serial.0) named ∙ visited.there;
        was = visited.was;
        now =
            ap₂ (λ (x : AreaValue) p. record x { segments = set x.segments p t }) is (sym place)
            ∙ ap (with_segment a found.name.seg.0) visited.now
            ∙ sym (ap (λ (o : Option SegmentValue). with_row_in a found.name (Some (record visited.row { color = Black })) o) named);
      };
      most = visited.most;
      held = visited.held;
    }
  where
    there_now : slice_get a.segments at ≡ Some s
    there_now = ap (λ (x : AreaValue). slice_get x.segments at) (sym is) ∙ there

    place : place_of a.segments found.name.seg.0 ≡ at
    place = ap (place_of a.segments) visited.number ∙ distinct at s there_now

    named : segment_at a.segments found.name.seg.0 ≡ Some s
    named = ap (slice_get a.segments) place ∙ there_now

-- an area without the segment of a name
pub grayed_none : (a : AreaValue) (n : Name) → segment_at a.segments n.seg.0 ≡ None → grayed a n ≡ a
grayed_none a n none = ap (λ (o : Option SegmentValue). grayed_row a n (row_in_segment o n.serial.0)) none

-- a segment that is as it was
pub as_before : (items segments : List SegmentValue) (i : ℕ) (x new : SegmentValue) → items ≡ segments → x ≡ get_or items i x → new ≡ x → set items i new ≡ segments
as_before items segments i x new same read kept = ap (set items i) (kept ∙ read) ∙ set-get_or items i x ∙ same

pub no_grays : (segments : List SegmentValue) (n : Name) → ((k : ℕ) (s : SegmentValue) → k < length segments → slice_get segments k ≡ Some s → (serial : ℕ) → some_gray (row_at s serial) ≡ false) → some_gray (row_of_name segments n) ≡ false
no_grays segments n h = by_segment (segment_at segments n.seg.0) refl
  where
    by_segment : (o : Option SegmentValue) → segment_at segments n.seg.0 ≡ o → some_gray (row_of_name segments n) ≡ false
    by_segment None e = ap (λ (x : Option SegmentValue). some_gray (row_in_segment x n.serial.0)) e
    by_segment (Some s) e = ap (λ (x : Option SegmentValue). some_gray (row_in_segment x n.serial.0)) e ∙ h (place_of segments n.seg.0) s (slice_get_within segments (place_of segments n.seg.0) s e) e n.serial.0

pub if_none : {A : Type 0} {P Q : Type 0} (o : Option A) → (P → Q) → IfNone o P → IfNone o Q
if_none None f p = f p
if_none (Some x) f p = p

pub if_some_more : {A : Type 0} (P Q : A → Type 0) (o : Option A) → ((a : A) → P a → Q a) → IfSome o P → IfSome o Q
if_some_more P Q None f p = p
if_some_more P Q (Some a) f p = f a p

-- nothing is covered
pub uncovered : (own : ℕ) (n : Name) → is_covered (nothing own) n ≡ false
uncovered own n = by_segment (n.seg.0 == own)
  where
    by_segment : (b : Bool) → cond b (nat_lt n.serial.0 0) false ≡ false
    by_segment true = le-ltb n.serial.0 0 (omega arith)
    by_segment false = refl

pub visited_all : (b : Bound) (own : ℕ) (old new : AreaValue) (found : Visited) (list : List Stored) → b ≡ nothing own → IsVisitedFrom b old new found list → IsVisited old new found list
visited_all b own old new found list none v = record { black = v.black; held = v.held (ap (λ (x : Bound). is_covered x found.name) none ∙ uncovered own found.name) }

pub visited_all_in : (b : Bound) (own : ℕ) (old new : SegmentValue) (found : Visited) (list : List Stored) → b ≡ nothing own → IsVisitedFromIn b old new found list → IsVisitedIn old new found list
visited_all_in b own old new found list none v =
    record { row = v.row; number = v.number; there = v.there; was = v.was; now = v.now; held = v.held (ap (λ (x : Bound). is_covered x found.name) none ∙ uncovered own found.name) }

-- marks are taken away once
pub unmarked_rows_twice : (rows : List (Option Row)) → map unmarked_row (map unmarked_row rows) ≡ map unmarked_row rows
unmarked_rows_twice [] = refl
unmarked_rows_twice (None ∷ rows) = ap (λ rs. None ∷ rs) (unmarked_rows_twice rows)
unmarked_rows_twice (Some row ∷ rows) = ap (λ rs. Some (record row { color = White }) ∷ rs) (unmarked_rows_twice rows)

pub unmarked_segments_twice : (segments : List SegmentValue) → map unmarked_segment (map unmarked_segment segments) ≡ map unmarked_segment segments
unmarked_segments_twice [] = refl
unmarked_segments_twice (s ∷ segments) = ap₂ (λ rows ss. record s { rows = rows } ∷ ss) (unmarked_rows_twice s.rows) (unmarked_segments_twice segments)

pub unmarked_twice : (a : AreaValue) → unmarked (unmarked a) ≡ unmarked a
unmarked_twice a = ap (λ ss. record a { segments = ss }) (unmarked_segments_twice a.segments)
