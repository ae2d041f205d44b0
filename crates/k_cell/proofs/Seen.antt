-- What holdings show after each change of their tables.
use Rattle.std.proofs.Common.{◌≡◌, inl, inr, ℕ, ◌+◌, ◌<◌, Bool, true, false, cond, refl, sym, ap, ap₂, subst, ◌∙◌, List, [], length, map, get_or, set, slice_set, Option, Some, None, option_map, arith}
use Rattle.std.proofs.lemmas.Bool.{cases_lt, false≢true}
use Rattle.std.proofs.lemmas.List.{length-set}
use Rattle.k_mark.specs.k_types.declared.names.Name.{Name}
use Rattle.k_mark.specs.k_types.declared.names.Link.{Link}
use Rattle.k_mark.specs.k_types.declared.names.CellPhase.{CellPhase}
use Rattle.k_mark.specs.k_types.declared.names.CellPhase.TheVariants.{Idle}
use Rattle.k_mark.specs.k_types.Agree.{CellValue}
use Rattle.k_mark.specs.k_types.Names.{name_of}
use Rattle.k_mark.specs.k_types.Owners.{object_bytes}
use Rattle.k_mark.specs.k_types.Replies.{is_ref}
use Rattle.k_mark.specs.k_types.State.{Content, Object, Holds, fields_of, object_at}
use Rattle.k_mark.specs.k_types.Totals.{total}
use Rattle.k_mark.specs.k_types.Types.{object_size}
use Rattle.k_mark.specs.k_types.Updates.{object_after_write, with_object}
use Rattle.k_mark.specs.k_laws.CellChanges.{given}
use Rattle.k_mark.specs.k_space.Objects.{BodyValue}
use Rattle.k_mark.specs.k_space.Segments.{Row, SegmentValue, living, made, placed, with_row}
use Rattle.k_mark.specs.k_space.Areas.{AreaValue, place_of, row_of_name, segment_at, with_row_in}
use Rattle.k_mark.proofs.AreaRows.{found, number_found, changed_is}
use Rattle.k_mark.specs.k_exit.Exits.{ExitList, ExitRow, with_target}
use Rattle.k_agree.specs.k_tie.Values.{NoteValue}
use Rattle.k_mark.specs.Shown.{area_objects, AreNumberedBelow, HasNoneFrom}
use Rattle.k_mark.specs.Lists.{made_list}
use Rattle.k_mark.proofs.Changed.{written_area}
use Rattle.k_mark.proofs.Joined.{placed_area}
use Rattle.k_mark.proofs.Named.{made_listed}
use Rattle.k_cell.specs.Changes.{next_in, with_body, with_exit_item, with_field}
use Rattle.k_cell.specs.Holdings.{HoldingsValue, AreBegun, AreHoldings, AreMarksKept, HasObjectRoom, cell_seen, holdings_seen, living_in, serial_rooms_of}
use Rattle.k_cell.specs.Looks.{field_among, field_count_among, row_fields}
use Rattle.k_cell.specs.Placed.{CanPlace, IsIntAt, IsPlacedIn, IsRefAt, IsWrittenIf, IsWrittenIn}
use Rattle.k_cell.proofs.Areas.{given_there, next_serial, placed_begun, placed_made, rooms_listed, set_begun, set_made_same, set_numbered, set_rooms}
use Rattle.k_cell.proofs.Found.{fields_found}
use Rattle.k_cell.proofs.Living.{living_there}
use Rattle.k_cell.proofs.Lists.{added_room, added_targets, int_field, ref_field, total_placed, total_written}

abbrev pub cell_of_lists : CellPhase → List Object → List (Option ℕ) → List Name → List Name → List Name → List Name → CellValue
cell_of_lists phase objects made exits gray black black_exits = record {
  objects = objects;
  made = made;
  exits = exits;
  process = None;
  phase = None;
  tail = [];
  collection = phase;
  gray = gray;
  black = black;
  black_exits = black_exits;
}

pub same_cell : (phase : CellPhase) {os ps : List Object} {ms ns : List (Option ℕ)} {es fs gs hs bs cs xs ys : List Name} → os ≡ ps → ms ≡ ns → es ≡ fs → gs ≡ hs → bs ≡ cs → xs ≡ ys →
    cell_of_lists phase os ms es gs bs xs ≡ cell_of_lists phase ps ns fs hs cs ys
same_cell phase {os} {ps} {ms} {ns} {es} {fs} {gs} {hs} {bs} {cs} {xs} {ys} o m e g b x =
    ap₂ (λ (os : List Object) (ms : List (Option ℕ)). cell_of_lists phase os ms es gs bs xs) o m
    ∙ ap₂ (λ (es gs : List Name). cell_of_lists phase ps ns es gs bs xs) e g
    ∙ ap₂ (λ (bs xs : List Name). cell_of_lists phase ps ns fs hs bs xs) b x

pub same_holdings : (note : NoteValue) (bound : ℕ) {v w : CellValue} {r s x y : ℕ} {rooms others : List (Option ℕ)} → v ≡ w → r ≡ s → rooms ≡ others → x ≡ y →
    ◌≡◌ {A = HoldingsValue} (record { value = v; note = note; bound = bound; segment_room = r; serial_rooms = rooms; exit_room = x })
    (record { value = w; note = note; bound = bound; segment_room = s; serial_rooms = others; exit_room = y })
same_holdings note bound {v} {w} {r} {s} {x} {y} {rooms} {others} ev er erooms ex =
    ap₂ (λ (v : CellValue) (r : ℕ). record { value = v; note = note; bound = bound; segment_room = r; serial_rooms = rooms; exit_room = x }) ev er
    ∙ ap₂ (λ (rooms : List (Option ℕ)) (x : ℕ). record { value = w; note = note; bound = bound; segment_room = s; serial_rooms = rooms; exit_room = x }) erooms ex

-- an object placed
module _ (bound : ℕ) (a new : AreaValue) (items : List ExitRow) (number : ℕ) (body : BodyValue) (link : Link) (numbered : AreNumberedBelow bound a.segments) (p : IsPlacedIn a new number body link) where
  own : p.segment.number ≡ number
  own = number_found a.segments number p.segment p.there

  segments_are : new.segments ≡ set a.segments (place_of a.segments number) (placed p.segment link.slot.0 body)
  segments_are = ap (λ (x : AreaValue). x.segments) p.placed

  objects_placed : area_objects bound new.segments ≡ with_object (record { name = record { seg = record { 0 = number }; serial = record { 0 = given (get_or (made_list bound a.segments) number None) + 1 } }; ty = body.ty; fields = body.fields }) (area_objects bound a.segments)
  objects_placed =
      ap (λ (segs : List SegmentValue). area_objects bound segs) segments_are
      ∙ subst (λ k. area_objects bound (set a.segments (place_of a.segments k) (placed p.segment link.slot.0 body)) ≡ with_object (record { name = record { seg = record { 0 = k }; serial = record { 0 = length p.segment.rows } }; ty = body.ty; fields = body.fields }) (area_objects bound a.segments)) own
      (placed_area a bound p.segment link.slot.0 body numbered.none (ap (segment_at a.segments) own ∙ p.there))
      ∙ ap (λ k. with_object (record { name = record { seg = record { 0 = number }; serial = record { 0 = k } }; ty = body.ty; fields = body.fields }) (area_objects bound a.segments)) (next_serial a.segments bound number link.slot.0 p.segment body numbered.none p.there p.begun)

  made_placed : made_list bound new.segments ≡ set (made_list bound a.segments) number (Some (given (get_or (made_list bound a.segments) number None) + 1))
  made_placed = ap (λ (segs : List SegmentValue). made_list bound segs) segments_are ∙ placed_made a.segments bound number link.slot.0 p.segment body numbered.none p.there p.begun

  rooms_placed : serial_rooms_of bound new.segments ≡ serial_rooms_of bound a.segments
  rooms_placed = ap (λ (segs : List SegmentValue). serial_rooms_of bound segs) segments_are ∙ set_rooms a.segments number p.segment (placed p.segment link.slot.0 body) p.there own bound refl

  pub placed_seen : (phase : CellPhase) (exits : ExitList) (note : NoteValue) → phase ≡ Idle →
      holdings_seen bound phase new exits note ≡ record (holdings_seen bound phase a exits note) { value = with_body number body (cell_seen bound phase a exits.items) }
  placed_seen phase exits note idle =
      subst (λ q. holdings_seen bound q new exits note ≡ record (holdings_seen bound q a exits note) { value = with_body number body (cell_seen bound q a exits.items) }) (sym idle)
      (same_holdings note bound (same_cell Idle objects_placed made_placed refl refl refl refl) (ap (λ (x : AreaValue). x.room) p.placed) rooms_placed refl)

  pub placed_name : (phase : CellPhase) → name_of link ≡ next_in number (cell_seen bound phase a items)
  placed_name phase = ap₂ (λ k i. record { seg = record { 0 = k }; serial = record { 0 = i } }) p.seg (p.serial ∙ next_serial a.segments bound number link.slot.0 p.segment body numbered.none p.there p.begun)

  pub placed_kept : (bytes : ℕ) (phase : CellPhase) → AreHoldings bound bytes phase a items → phase ≡ Idle → AreHoldings bound (bytes + object_size (length body.fields)) phase new items
  placed_kept bytes phase kept idle = record {
    numbered = subst (AreNumberedBelow bound) (sym segments_are) (set_numbered a.segments number p.segment (placed p.segment link.slot.0 body) p.there own bound numbered);
    begun = subst AreBegun (sym segments_are) (set_begun a.segments number p.segment (placed p.segment link.slot.0 body) p.there own (placed_begun a.segments bound number link.slot.0 p.segment body numbered.none p.there p.begun) kept.begun);
    weighed =
        let more : total object_bytes (area_objects bound new.segments) ≡ object_size (length body.fields) + total object_bytes (area_objects bound a.segments) =
        ap (total object_bytes) objects_placed ∙ total_placed object_bytes (record { name = record { seg = record { 0 = number }; serial = record { 0 = given (get_or (made_list bound a.segments) number None) + 1 } }; ty = body.ty; fields = body.fields }) (area_objects bound a.segments) in
        omega (arith, kept.weighed, more);
    marks = subst (λ q. AreMarksKept q new items) (sym idle) tt;
  }

-- the objects of a segment among those of the area
living_listed : (segments : List SegmentValue) (bound number : ℕ) (s : SegmentValue) → HasNoneFrom segments bound → segment_at segments number ≡ Some s → living_in number (area_objects bound segments) ≡ living s
living_listed segments bound number s none at =
    elim (cases_lt number bound) [
      | inl below ↦ living_there number segments s at bound below
      | inr past ↦ let off : None ≡ Some s = sym (none number past) ∙ at in absurd (cc)
    ]

-- the segment has room for one more object
pub can_place : (bound number : ℕ) (phase : CellPhase) (a : AreaValue) (exits : ExitList) (note : NoteValue) → HasNoneFrom a.segments bound → HasObjectRoom (holdings_seen bound phase a exits note) number → CanPlace a.segments number
can_place bound number phase a exits note none left = by_segment (segment_at a.segments number) refl
  where
    made_there : option_map made (segment_at a.segments number) ≡ Some left.given
    made_there = sym (made_listed a.segments bound number none) ∙ left.there

    room_at : option_map (λ (s : SegmentValue). s.room) (segment_at a.segments number) ≡ Some left.room
    room_at = sym (rooms_listed a.segments bound number none) ∙ left.can_give

    by_segment : (o : Option SegmentValue) → segment_at a.segments number ≡ o → CanPlace a.segments number
    by_segment None at = let off : None ≡ Some left.given = ap (option_map made) (sym at) ∙ made_there in absurd (cc)
    by_segment (Some s) at =
        let m : Some (made s) ≡ Some left.given = ap (option_map made) (sym at) ∙ made_there in
        let r : Some s.room ≡ Some left.room = ap (option_map (λ (t : SegmentValue). t.room)) (sym at) ∙ room_at in
        let m' : made s ≡ left.given = cc in
        let r' : s.room ≡ left.room = cc in
        let lives = living_listed a.segments bound number s none at in
        record {
          segment = s;
          there = at;
          left =
              elim left.left [
                | inl few ↦ inl (omega (arith, m', r', few))
                | inr both ↦ inr (record { few = omega (arith, lives, r', both.0); left = omega (arith, m', both.1) })
              ];
        }

pub left_there : (bound number : ℕ) (phase : CellPhase) (a : AreaValue) (exits : ExitList) (note : NoteValue) → HasNoneFrom a.segments bound → CanPlace a.segments number → HasObjectRoom (holdings_seen bound phase a exits note) number
left_there bound number phase a exits note none can = record {
  given = made can.segment;
  room = can.segment.room;
  there = given_there a.segments bound number can.segment none can.there;
  can_give = rooms_listed a.segments bound number none ∙ ap (option_map (λ (s : SegmentValue). s.room)) can.there;
  left =
      elim can.left [
        | inl few ↦ inl few
        | inr has ↦ inr (omega (arith, living_listed a.segments bound number can.segment none can.there, has.few), has.left)
      ];
}

-- a field written
module _ (bound : ℕ) (a new : AreaValue) (n : Name) (i : ℕ) (content : Content) (numbered : AreNumberedBelow bound a.segments) (w : IsWrittenIn a new n i content) where
  segments_now : new.segments ≡ set a.segments (place_of a.segments n.seg.0) (with_row (found a n w.row w.there).space n.serial.0 (Some (record w.row { fields = slice_set w.row.fields i content })))
  segments_now = ap (λ (x : AreaValue). x.segments) w.written ∙ changed_is a n w.row (record w.row { fields = slice_set w.row.fields i content }) (found a n w.row w.there)

  room_now : new.room ≡ a.room
  room_now = ap (λ (x : AreaValue). x.room) w.written ∙ ap (λ (o : Option SegmentValue). (with_row_in a n (Some (record w.row { fields = slice_set w.row.fields i content })) o).room) (found a n w.row w.there).at

  number_now : (found a n w.row w.there).space.number ≡ n.seg.0
  number_now = number_found a.segments n.seg.0 (found a n w.row w.there).space (found a n w.row w.there).at

  long : length (set (found a n w.row w.there).space.rows n.serial.0 (Some (record w.row { fields = slice_set w.row.fields i content }))) ≡ length (found a n w.row w.there).space.rows
  long = length-set (found a n w.row w.there).space.rows n.serial.0 (Some (record w.row { fields = slice_set w.row.fields i content }))

  objects_written : area_objects bound new.segments ≡ map (object_after_write n i content) (area_objects bound a.segments)
  objects_written = ap (λ (x : AreaValue). area_objects bound x.segments) w.written ∙ written_area a bound n w.row i content w.there

  made_written : made_list bound new.segments ≡ made_list bound a.segments
  made_written =
      ap (λ (segs : List SegmentValue). made_list bound segs) segments_now
      ∙ set_made_same a.segments n.seg.0 (found a n w.row w.there).space (with_row (found a n w.row w.there).space n.serial.0 (Some (record w.row { fields = slice_set w.row.fields i content }))) (found a n w.row w.there).at number_now bound long

  rooms_written : serial_rooms_of bound new.segments ≡ serial_rooms_of bound a.segments
  rooms_written =
      ap (λ (segs : List SegmentValue). serial_rooms_of bound segs) segments_now
      ∙ set_rooms a.segments n.seg.0 (found a n w.row w.there).space (with_row (found a n w.row w.there).space n.serial.0 (Some (record w.row { fields = slice_set w.row.fields i content }))) (found a n w.row w.there).at number_now bound refl

  pub written_seen : (phase : CellPhase) (exits : ExitList) (note : NoteValue) → phase ≡ Idle →
      holdings_seen bound phase new exits note ≡ record (holdings_seen bound phase a exits note) { value = with_field n i content (cell_seen bound phase a exits.items) }
  written_seen phase exits note idle =
      subst (λ q. holdings_seen bound q new exits note ≡ record (holdings_seen bound q a exits note) { value = with_field n i content (cell_seen bound q a exits.items) }) (sym idle)
      (same_holdings note bound (same_cell Idle objects_written made_written refl refl refl refl) room_now rooms_written refl)

  pub written_kept : (bytes : ℕ) (phase : CellPhase) (items : List ExitRow) → AreHoldings bound bytes phase a items → phase ≡ Idle → AreHoldings bound bytes phase new items
  written_kept bytes phase items kept idle = record {
    numbered =
        subst (AreNumberedBelow bound) (sym segments_now)
        (set_numbered a.segments n.seg.0 (found a n w.row w.there).space (with_row (found a n w.row w.there).space n.serial.0 (Some (record w.row { fields = slice_set w.row.fields i content }))) (found a n w.row w.there).at number_now bound numbered);
    begun =
        subst AreBegun (sym segments_now)
        (set_begun a.segments n.seg.0 (found a n w.row w.there).space (with_row (found a n w.row w.there).space n.serial.0 (Some (record w.row { fields = slice_set w.row.fields i content }))) (found a n w.row w.there).at number_now
        (omega (arith, long, kept.begun n.seg.0 (found a n w.row w.there).space (found a n w.row w.there).at)) kept.begun);
    weighed = kept.weighed ∙ sym (ap (total object_bytes) objects_written ∙ total_written n i content (area_objects bound a.segments));
    marks = subst (λ q. AreMarksKept q new items) (sym idle) tt;
  }

-- a field written where a test holds
module _ (bound : ℕ) (a new : AreaValue) (n : Name) (i : ℕ) (content : Content) (numbered : AreNumberedBelow bound a.segments) where
  pub written_if_seen : (b : Bool) → IsWrittenIf b a new n i content → (phase : CellPhase) (exits : ExitList) (note : NoteValue) → phase ≡ Idle →
      holdings_seen bound phase new exits note ≡ record (holdings_seen bound phase a exits note) { value = cond b (with_field n i content (cell_seen bound phase a exits.items)) (cell_seen bound phase a exits.items) }
  written_if_seen true w phase exits note idle = written_seen bound a new n i content numbered w phase exits note idle
  written_if_seen false same phase exits note idle = ap (λ (x : AreaValue). holdings_seen bound phase x exits note) same

  pub written_if_kept : (b : Bool) → IsWrittenIf b a new n i content → (bytes : ℕ) (phase : CellPhase) (items : List ExitRow) → AreHoldings bound bytes phase a items → phase ≡ Idle → AreHoldings bound bytes phase new items
  written_if_kept true w bytes phase items kept idle = written_kept bound a new n i content numbered w bytes phase items kept idle
  written_if_kept false same bytes phase items kept idle = subst (λ (x : AreaValue). AreHoldings bound bytes phase x items) (sym same) kept

-- the kind of a field of an object
pub ref_there : (bound : ℕ) (a : AreaValue) (n : Name) (i : ℕ) → HasNoneFrom a.segments bound → is_ref (field_among (area_objects bound a.segments) n i) ≡ true → IsRefAt a.segments n i
ref_there bound a n i none is = by_row (row_of_name a.segments n) refl (ap (λ (xs : List Content). is_ref (get_or xs i (Holds 0))) (sym (fields_found n a.segments bound none)) ∙ is)
  where
    by_row : (o : Option Row) → row_of_name a.segments n ≡ o → is_ref (get_or (row_fields (row_of_name a.segments n)) i (Holds 0)) ≡ true → IsRefAt a.segments n i
    by_row None at t = absurd (false≢true (ap (λ o. is_ref (get_or (row_fields o) i (Holds 0))) (sym at) ∙ t))
    by_row (Some row) at t =
        let target = ref_field row.fields i (ap (λ o. is_ref (get_or (row_fields o) i (Holds 0))) (sym at) ∙ t) in
        record { row = row; there = at; is = record { target = target.0; is = target.1 } }

pub int_there : (bound : ℕ) (a : AreaValue) (n : Name) (i : ℕ) → HasNoneFrom a.segments bound → i < field_count_among (area_objects bound a.segments) n → is_ref (field_among (area_objects bound a.segments) n i) ≡ false → IsIntAt a.segments n i
int_there bound a n i none within is =
    by_row (row_of_name a.segments n) refl (ap (λ (xs : List Content). is_ref (get_or xs i (Holds 0))) (sym (fields_found n a.segments bound none)) ∙ is) (ap (λ (xs : List Content). length xs) (fields_found n a.segments bound none))
  where
    by_row : (o : Option Row) → row_of_name a.segments n ≡ o → is_ref (get_or (row_fields (row_of_name a.segments n)) i (Holds 0)) ≡ false →
        length (fields_of (object_at (area_objects bound a.segments) n)) ≡ length (row_fields (row_of_name a.segments n)) → IsIntAt a.segments n i
    by_row None at t long = absurd (let none_there : length (row_fields (row_of_name a.segments n)) ≡ 0 = ap (λ o. length (row_fields o)) at in omega (arith, within, long, none_there))
    by_row (Some row) at t long =
        let own : length (row_fields (row_of_name a.segments n)) ≡ length row.fields = ap (λ o. length (row_fields o)) at in
        let number = int_field row.fields i (omega (arith, within, long, own)) (ap (λ o. is_ref (get_or (row_fields o) i (Holds 0))) (sym at) ∙ t) in
        record { row = row; there = at; is = record { number = number.0; is = number.1 } }

-- an exit item added
pub added_seen : (bound : ℕ) (phase : CellPhase) (a : AreaValue) (e : ExitList) (note : NoteValue) (n : Name) → phase ≡ Idle →
    holdings_seen bound phase a (with_target e n) note ≡ record (holdings_seen bound phase a e note) { value = with_exit_item n (cell_seen bound phase a e.items) }
added_seen bound phase a e note n idle =
    subst (λ q. holdings_seen bound q a (with_target e n) note ≡ record (holdings_seen bound q a e note) { value = with_exit_item n (cell_seen bound q a e.items) }) (sym idle)
    (same_holdings note bound (same_cell Idle refl refl (added_targets e n) refl refl refl) refl refl (added_room e n))
