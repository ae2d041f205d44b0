-- A segment with another room: its objects, their marks and all other segments are as they were.
use Rattle.std.proofs.Common.{◌≡◌, ◌≢◌, not, Bool, ◌++◌, ℕ, zero, suc, ◌≤◌, refl, sym, ap, ap₂, subst, ◌∙◌, inl, inr, Result, Ok, Err, OnOk, OnErr, List, map, filter, get_or, set, Option, Some, None, is_some, option_map, arith}
use Rattle.std.proofs.Math.Path.{fun_ext}
use Rattle.std.proofs.lemmas.Bool.{cases_eq}
use Rattle.k_mark.specs.k_types.declared.names.Name.{Name}
use Rattle.k_mark.specs.k_types.declared.names.CellPhase.{CellPhase}
use Rattle.k_mark.specs.k_types.declared.names.CellPhase.TheVariants.{Idle, Begun, Marked}
use Rattle.k_mark.specs.k_types.Names.{name_among}
use Rattle.k_mark.specs.k_types.Owners.{object_bytes}
use Rattle.k_mark.specs.k_types.State.{Object}
use Rattle.k_mark.specs.k_types.Totals.{total}
use Rattle.k_mark.specs.k_space.declared.bound.Bound.{Bound}
use Rattle.k_mark.specs.k_space.Segments.{Row, SegmentValue, living, some_black, some_gray}
use Rattle.k_mark.specs.k_space.Areas.{AreaValue, black_at, fields_at, gray_at, is_foreign, place_of, row_in_segment, row_of_name, segment_at}
use Rattle.k_mark.proofs.AreaRows.{number_found}
use Rattle.k_mark.specs.k_exit.Exits.{ExitList, ExitRow}
use Rattle.k_agree.specs.k_tie.Values.{NoteValue}
use Rattle.k_mark.specs.Kept.{old_at}
use Rattle.k_mark.specs.Marking.{refers_at, some_lead_to}
use Rattle.k_mark.specs.Shown.{area_objects, objects_of_some, AreNumberedBelow, HasNoneFrom}
use Rattle.k_mark.specs.Lists.{made_list, names_where}
use Rattle.k_mark.proofs.Found.{at_set_other, at_set_same, found_below}
use Rattle.k_mark.proofs.Lists.{set_below}
use Rattle.k_cell.specs.declared.carrying.Carried.{Carried}
use Rattle.k_cell.specs.Carried.{AreMarkedFor, AreMarkedIn, IsCarried}
use Rattle.k_cell.specs.Holdings.{AreBegun, AreHoldings, AreMarksKept, CanGrowTo, CanNarrowTo, black_in, gray_in, holdings_seen, living_in, serial_rooms_of}
use Rattle.k_cell.specs.Placed.{CanGrow, CanNarrow, IsResized}
use Rattle.k_cell.proofs.Areas.{rooms_listed, set_begun, set_made_same, set_numbered}
use Rattle.k_cell.proofs.Keeps.{fields_whole, led_from, old_same, same_kept, through}
use Rattle.k_cell.proofs.Living.{living_there}
use Rattle.k_cell.proofs.Seen.{same_cell, same_holdings}

-- what follows from either outcome
pub either_way : {T E P Q R : Type 0} (r : Result T E) → (P → R) → (Q → R) → OnOk r P → OnErr r Q → R
either_way (Ok x) f g ok err = f ok
either_way (Err e) f g ok err = g err

-- the objects of areas whose segments have the same
same_objects : (xs ys : List SegmentValue) → ((k : ℕ) → objects_of_some (segment_at ys k) ≡ objects_of_some (segment_at xs k)) → (n : ℕ) → area_objects n ys ≡ area_objects n xs
same_objects xs ys same zero = refl
same_objects xs ys same (suc n) = ap₂ (λ (os ps : List Object). os ++ ps) (same_objects xs ys same n) (same n)

module _ (a new : AreaValue) (number room : ℕ) (r : IsResized a new number room) where
  abbrev after : SegmentValue
  after = record r.segment { room = room }

  own : after.number ≡ number
  own = number_found a.segments number r.segment r.there

  segments_are : new.segments ≡ set a.segments (place_of a.segments number) after
  segments_are = ap (λ (x : AreaValue). x.segments) r.resized

  here : segment_at new.segments number ≡ Some after
  here = ap (λ (xs : List SegmentValue). segment_at xs number) segments_are ∙ at_set_same a.segments number r.segment after r.there own

  elsewhere : (k : ℕ) → k ≢ number → segment_at new.segments k ≡ segment_at a.segments k
  elsewhere k ne = ap (λ (xs : List SegmentValue). segment_at xs k) segments_are ∙ at_set_other a.segments number r.segment after r.there own k ne

  -- what does not look at the room
  alike : {B : Type 0} (f : Option SegmentValue → B) → f (Some after) ≡ f (Some r.segment) → (k : ℕ) → f (segment_at new.segments k) ≡ f (segment_at a.segments k)
  alike f same k =
      elim (cases_eq k number) [
        | inl e ↦
            ap (λ m. f (segment_at new.segments m)) e ∙ ap f here ∙ same ∙ sym (ap (λ m. f (segment_at a.segments m)) e ∙ ap f r.there)
        | inr ne ↦ ap f (elsewhere k ne)
      ]

  row_same : (n : Name) → row_of_name new.segments n ≡ row_of_name a.segments n
  row_same n = alike (λ o. row_in_segment o n.serial.0) refl n.seg.0

  foreign_same : (n : Name) → is_foreign new n ≡ is_foreign a n
  foreign_same n = alike (λ (o : Option SegmentValue). not (is_some o)) refl n.seg.0

  fields_same : (n : Name) → fields_at new n ≡ fields_at a n
  fields_same n = ap (option_map (λ (row : Row). row.fields)) (row_same n)

  gray_same : (n : Name) → gray_at new n ≡ gray_at a n
  gray_same n = ap some_gray (row_same n)

  black_same : (n : Name) → black_at new n ≡ black_at a n
  black_same n = ap some_black (row_same n)

  module _ (bound : ℕ) where
    objects_same : area_objects bound new.segments ≡ area_objects bound a.segments
    objects_same = same_objects a.segments new.segments (alike objects_of_some refl) bound

    made_same : made_list bound new.segments ≡ made_list bound a.segments
    made_same = ap (made_list bound) segments_are ∙ set_made_same a.segments number r.segment after r.there own bound refl

    rooms_set : serial_rooms_of bound new.segments ≡ set (serial_rooms_of bound a.segments) number (Some room)
    rooms_set =
        set_below (λ k. option_map (λ (x : SegmentValue). x.room) (segment_at new.segments k)) (λ k. option_map (λ (x : SegmentValue). x.room) (segment_at a.segments k)) bound number (Some room)
        (ap (option_map (λ (x : SegmentValue). x.room)) here) (λ k ne. ap (option_map (λ (x : SegmentValue). x.room)) (elsewhere k ne))

    named_same : (f g : Name → Bool) → ((n : Name) → f n ≡ g n) → names_where f bound new.segments ≡ names_where g bound a.segments
    named_same f g same = ap₂ (λ (t : Name → Bool) (os : List Object). map (λ (o : Object). o.name) (filter (λ (o : Object). t o.name) os)) (fun_ext same) objects_same

    grays : (phase : CellPhase) → gray_in phase bound new ≡ gray_in phase bound a
    grays Idle = refl
    grays Begun = named_same (gray_at new) (gray_at a) gray_same
    grays Marked = refl

    blacks : (phase : CellPhase) → black_in phase bound new ≡ black_in phase bound a
    blacks Idle = refl
    blacks Begun = refl
    blacks Marked = named_same (black_at new) (black_at a) black_same

    pub resized_seen : (phase : CellPhase) (e : ExitList) (note : NoteValue) →
        holdings_seen bound phase new e note ≡ record (holdings_seen bound phase a e note) { serial_rooms = set (serial_rooms_of bound a.segments) number (Some room) }
    resized_seen phase e note =
        same_holdings note bound (same_cell phase objects_same made_same refl (grays phase) (blacks phase) refl) (ap (λ (x : AreaValue). x.room) r.resized) rooms_set refl

    marks_same : (phase : CellPhase) (items : List ExitRow) → AreMarksKept phase a items → AreMarksKept phase new items
    marks_same Idle items was = tt
    marks_same Begun items was = ((λ n. black_same n ∙ was.0 n), was.1)
    marks_same Marked items was = λ n. gray_same n ∙ was n

    pub resized_kept : (bytes : ℕ) (phase : CellPhase) (items : List ExitRow) → AreHoldings bound bytes phase a items → AreHoldings bound bytes phase new items
    resized_kept bytes phase items kept = record {
      numbered = subst (AreNumberedBelow bound) (sym segments_are) (set_numbered a.segments number r.segment after r.there own bound kept.numbered);
      begun = subst AreBegun (sym segments_are) (set_begun a.segments number r.segment after r.there own (kept.begun number r.segment r.there) kept.begun);
      weighed = kept.weighed ∙ sym (ap (total object_bytes) objects_same);
      marks = marks_same phase items kept.marks;
    }

  -- what is known of the last collection
  marked_for : (items : List ExitRow) (these others : Name → Bool) (b : Bound) (roots : List Name) → ((n : Name) → others n ≡ these n) → AreMarkedFor a items these b roots → AreMarkedFor new items others b roots
  marked_for items these others b roots same was = record {
    kept = same_kept these others (refers_at a) (refers_at new) (λ n. name_among n roots) b same (λ n m e. ap (λ o. some_lead_to o m) (fields_same n)) was.kept;
    led = λ n. through (was.led n) (led_from a new these others same (λ k m e. ap (λ o. some_lead_to o m) (fields_same k)) foreign_same n);
  }

  marked_in : (phase : CellPhase) (items : List ExitRow) (these others : Name → Bool) (b : Bound) (roots : List Name) → ((n : Name) → others n ≡ these n) → AreMarkedIn phase a items these b roots → AreMarkedIn phase new items others b roots
  marked_in Idle items these others b roots same was = tt
  marked_in Begun items these others b roots same was = tt
  marked_in Marked items these others b roots same was = marked_for items these others b roots same was

  pub resized_carried : (phase : CellPhase) (items : List ExitRow) (c : Carried) → IsCarried phase a items c → IsCarried phase new items c
  resized_carried phase items c was = record {
    whole = λ t. fields_whole a new items c.bound c.first c.roots.items (λ n low. fields_same n) foreign_same (was.whole t);
    swept = λ t. marked_in phase items (old_at a c.bound) (old_at new c.bound) c.bound c.roots.items (old_same a new c.bound (λ n low. ap is_some (fields_same n))) (was.swept t);
    noted = λ t. marked_in phase items (black_at a) (black_at new) c.next c.pending.items black_same (was.noted t);
  }

-- what rooms are asked for
module _ (bound number room : ℕ) (segments : List SegmentValue) (none : HasNoneFrom segments bound) where
  room_is : (o : Option SegmentValue) (now : ℕ) → segment_at segments number ≡ o → get_or (serial_rooms_of bound segments) number None ≡ Some now → option_map (λ (s : SegmentValue). s.room) o ≡ Some now
  room_is o now at there = ap (option_map (λ (s : SegmentValue). s.room)) (sym at) ∙ sym (rooms_listed segments bound number none) ∙ there

  -- no more objects live in the segment than can
  pub living_within : (now : ℕ) → ((s : SegmentValue) → segment_at segments number ≡ Some s → living s ≤ s.room) → get_or (serial_rooms_of bound segments) number None ≡ Some now → living_in number (area_objects bound segments) ≤ now
  living_within now within there = by_segment (segment_at segments number) refl
    where
      by_segment : (o : Option SegmentValue) → segment_at segments number ≡ o → living_in number (area_objects bound segments) ≤ now
      by_segment None at = let off : None ≡ Some now = room_is None now at there in absurd (cc)
      by_segment (Some s) at =
          let is : Some s.room ≡ Some now = room_is (Some s) now at there in
          let same : s.room ≡ now = cc in
          omega (arith, same, within s at, living_there number segments s at bound (found_below segments bound number s none at))

  pub can_grow : CanGrowTo (serial_rooms_of bound segments) number room → CanGrow segments number room
  can_grow can = by_segment (segment_at segments number) refl
    where
      by_segment : (o : Option SegmentValue) → segment_at segments number ≡ o → CanGrow segments number room
      by_segment None at = let off : None ≡ Some can.now = room_is None can.now at can.there in absurd (cc)
      by_segment (Some s) at =
          let is : Some s.room ≡ Some can.now = room_is (Some s) can.now at can.there in
          let same : s.room ≡ can.now = cc in
          record { segment = s; there = at; more = omega (arith, same, can.more) }

  pub can_narrow : CanNarrowTo (serial_rooms_of bound segments) (area_objects bound segments) number room → CanNarrow segments number room
  can_narrow can = by_segment (segment_at segments number) refl
    where
      by_segment : (o : Option SegmentValue) → segment_at segments number ≡ o → CanNarrow segments number room
      by_segment None at = let off : None ≡ Some can.now = room_is None can.now at can.there in absurd (cc)
      by_segment (Some s) at =
          let is : Some s.room ≡ Some can.now = room_is (Some s) can.now at can.there in
          let same : s.room ≡ can.now = cc in
          record {
            segment = s;
            there = at;
            less = omega (arith, same, can.less);
            enough = omega (arith, can.enough, living_there number segments s at bound (found_below segments bound number s none at));
          }
