-- Segments that join holdings or leave them.
use Rattle.std.proofs.Common.{◌≡◌, ◌≢◌, ◌==◌, not, filter, ℕ, zero, suc, ◌+◌, ◌<◌, ◌≤◌, cond, refl, sym, ap, ap₂, subst, ◌∙◌, inl, inr, List, [], ◌∷◌, ◌++◌, length, map, get_or, set, Option, Some, None, option_map, eq-eqb, ne_eqb, arith}
use Rattle.std.proofs.lemmas.Bool.{cases_eq}
use Rattle.k_mark.specs.k_types.declared.names.CellPhase.{CellPhase}
use Rattle.k_mark.specs.k_types.declared.names.CellPhase.TheVariants.{Idle}
use Rattle.k_mark.specs.k_types.Numbers.{numbers_below}
use Rattle.k_mark.specs.k_types.Owners.{object_bytes}
use Rattle.k_mark.specs.k_types.State.{Object}
use Rattle.k_mark.specs.k_types.Totals.{total}
use Rattle.k_mark.specs.k_laws.CellChanges.{with_objects}
use Rattle.k_mark.specs.k_space.Segments.{SegmentValue, made, segment_bytes, segment_objects}
use Rattle.k_mark.specs.k_space.Areas.{AreaValue, HasDistinct, segment_at}
use Rattle.k_mark.proofs.AreaRows.{number_found}
use Rattle.k_mark.specs.k_exit.Exits.{ExitList, ExitRow}
use Rattle.k_agree.specs.k_tie.Values.{NoteValue}
use Rattle.k_mark.specs.Shown.{area_objects, objects_of_some, AreNumberedBelow, HasNoneFrom, IsTakenOut}
use Rattle.k_mark.specs.Lists.{made_list}
use Rattle.k_mark.proofs.Found.{at_push_other, at_push_same, found_below}
use Rattle.k_mark.proofs.Joined.{alone_area, joined_area, left_area, parted_area}
use Rattle.k_mark.proofs.Named.{made_listed}
use Rattle.k_mark.proofs.Sums.{segments_fewer}
use Rattle.k_cell.specs.declared.rooms.HoldingRooms.{HoldingRooms}
use Rattle.k_cell.specs.Holdings.{AreBegun, AreHoldings, HasGivenSegment, fresh_holdings, holdings_seen, serial_rooms_of, with_segment_added}
use Rattle.k_cell.proofs.Areas.{rooms_listed, same_below}
use Rattle.k_cell.proofs.Lists.{total_joined}
use Rattle.k_cell.proofs.Seen.{same_cell, same_holdings}
use Rattle.k_mark.proofs.KeptMarked.{at_same, at_other}
use Rattle.k_mark.proofs.Lists.{set_below, some_one}

-- one segment alone
module _ (seg : ℕ) (rooms : HoldingRooms) (s : SegmentValue) (is : s ≡ record { number = seg; room = rooms.objects; rows = None ∷ [] }) (below : seg < rooms.bound) where
  number_is : s.number ≡ seg
  number_is = ap (λ (x : SegmentValue). x.number) is

  alone_made : made_list rooms.bound (s ∷ []) ≡ map (λ k. cond (k == seg) (Some 0) None) (numbers_below rooms.bound)
  alone_made = same_below (λ k. option_map made (segment_at (s ∷ []) k)) (λ k. cond (k == seg) (Some 0) None) rooms.bound at
    where
      at : (k : ℕ) → option_map made (segment_at (s ∷ []) k) ≡ cond (k == seg) (Some 0) None
      at k =
          elim (cases_eq k seg) [
            | inl e ↦ ap (option_map made) (at_same s [] k (ap (λ (x : SegmentValue). x.number) is ∙ sym e)) ∙ ap (λ (x : SegmentValue). Some (made x)) is ∙ sym (ap (λ b. cond b (Some 0) None) (eq-eqb k seg e))
            | inr ne ↦ ap (option_map made) (at_other s [] k (λ e. ne (sym e ∙ ap (λ (x : SegmentValue). x.number) is))) ∙ sym (ap (λ b. cond b (Some 0) None) (ne_eqb k seg ne))
          ]

  alone_rooms : serial_rooms_of rooms.bound (s ∷ []) ≡ map (λ k. cond (k == seg) (Some rooms.objects) None) (numbers_below rooms.bound)
  alone_rooms = same_below (λ k. option_map (λ (x : SegmentValue). x.room) (segment_at (s ∷ []) k)) (λ k. cond (k == seg) (Some rooms.objects) None) rooms.bound at
    where
      at : (k : ℕ) → option_map (λ (x : SegmentValue). x.room) (segment_at (s ∷ []) k) ≡ cond (k == seg) (Some rooms.objects) None
      at k =
          elim (cases_eq k seg) [
            | inl e ↦
                ap (option_map (λ (x : SegmentValue). x.room)) (at_same s [] k (ap (λ (x : SegmentValue). x.number) is ∙ sym e)) ∙ ap (λ (x : SegmentValue). Some x.room) is
                ∙ sym (ap (λ b. cond b (Some rooms.objects) None) (eq-eqb k seg e))
            | inr ne ↦
                ap (option_map (λ (x : SegmentValue). x.room)) (at_other s [] k (λ e. ne (sym e ∙ ap (λ (x : SegmentValue). x.number) is)))
                ∙ sym (ap (λ b. cond b (Some rooms.objects) None) (ne_eqb k seg ne))
          ]

  alone_objects : area_objects rooms.bound (s ∷ []) ≡ []
  alone_objects = alone_area rooms.bound s (omega (arith, below, number_is)) ∙ ap segment_objects is

  pub fresh_seen : (a : AreaValue) (e : ExitList) (note : NoteValue) → a ≡ record { segments = s ∷ []; room = rooms.segments } → e ≡ record { items = []; room = rooms.exits } →
      holdings_seen rooms.bound Idle a e note ≡ fresh_holdings seg rooms note
  fresh_seen a e note area exits =
      ap₂ (λ (a : AreaValue) (e : ExitList). holdings_seen rooms.bound Idle a e note) area exits
      ∙ same_holdings note rooms.bound (same_cell Idle alone_objects alone_made refl refl refl refl) refl alone_rooms refl

  pub fresh_kept : (a : AreaValue) (items : List ExitRow) → a ≡ record { segments = s ∷ []; room = rooms.segments } → HasDistinct a.segments → AreHoldings rooms.bound 0 Idle a items
  fresh_kept a items area distinct = record {
    numbered = record { distinct = distinct; none = λ k past. ap (λ (x : AreaValue). segment_at x.segments k) area ∙ at_other s [] k (λ e. omega (arith, e, past, below, number_is)) };
    begun = λ k x there. begun k x (sym (ap (λ (y : AreaValue). segment_at y.segments k) area) ∙ there);
    weighed = sym (ap (λ (x : AreaValue). total object_bytes (area_objects rooms.bound x.segments)) area ∙ ap (total object_bytes) alone_objects);
    marks = tt;
  }
    where
      begun : (k : ℕ) (x : SegmentValue) → segment_at (s ∷ []) k ≡ Some x → 0 < length x.rows
      begun k x there =
          elim (cases_eq s.number k) [
            | inl e ↦
                let one : s ≡ x = some_one (sym (at_same s [] k e) ∙ there) in
                let long : length s.rows ≡ 1 = ap (λ (y : SegmentValue). length y.rows) is in
                subst (λ (y : SegmentValue). 0 < length y.rows) one (omega (arith, long))
            | inr ne ↦ let off : None ≡ Some x = sym (at_other s [] k ne) ∙ there in absurd (cc)
          ]

-- a segment more
module _ (bound bytes : ℕ) (a : AreaValue) (items : List ExitRow) (s : SegmentValue) (kept : AreHoldings bound bytes Idle a items) (none : segment_at a.segments s.number ≡ None) (below : s.number < bound) where
  joined_objects : area_objects bound (a.segments ++ s ∷ []) ≡ with_objects (segment_objects s) (area_objects bound a.segments)
  joined_objects = joined_area a.segments bound s below none

  joined_made : made_list bound (a.segments ++ s ∷ []) ≡ set (made_list bound a.segments) s.number (Some (made s))
  joined_made =
      set_below (λ k. option_map made (segment_at (a.segments ++ s ∷ []) k)) (λ k. option_map made (segment_at a.segments k)) bound s.number (Some (made s))
      (ap (option_map made) (at_push_same a.segments s none)) (λ k ne. ap (option_map made) (at_push_other a.segments s k (λ e. ne (sym e))))

  joined_rooms : serial_rooms_of bound (a.segments ++ s ∷ []) ≡ set (serial_rooms_of bound a.segments) s.number (Some s.room)
  joined_rooms =
      set_below (λ k. option_map (λ (x : SegmentValue). x.room) (segment_at (a.segments ++ s ∷ []) k)) (λ k. option_map (λ (x : SegmentValue). x.room) (segment_at a.segments k)) bound s.number (Some s.room)
      (ap (option_map (λ (x : SegmentValue). x.room)) (at_push_same a.segments s none)) (λ k ne. ap (option_map (λ (x : SegmentValue). x.room)) (at_push_other a.segments s k (λ e. ne (sym e))))

  joined_seen_here : (e : ExitList) (note : NoteValue) → holdings_seen bound Idle (record a { segments = a.segments ++ s ∷ [] }) e note ≡ with_segment_added s (holdings_seen bound Idle a e note)
  joined_seen_here e note = same_holdings note bound (same_cell Idle joined_objects joined_made refl refl refl refl) refl joined_rooms refl

  joined_kept_here : HasDistinct (a.segments ++ s ∷ []) → 0 < length s.rows → AreHoldings bound (bytes + segment_bytes s) Idle (record a { segments = a.segments ++ s ∷ [] }) items
  joined_kept_here distinct own = record {
    numbered = record { distinct = distinct; none = λ k past. at_push_other a.segments s k (λ e. omega (arith, e, past, below)) ∙ kept.numbered.none k past };
    begun = begun;
    weighed = let more : total object_bytes (area_objects bound (a.segments ++ s ∷ [])) ≡ total object_bytes (segment_objects s) + total object_bytes (area_objects bound a.segments) = ap (total object_bytes) joined_objects ∙ total_joined object_bytes (segment_objects s) (area_objects bound a.segments) in
        omega (arith, kept.weighed, more);
    marks = tt;
  }
    where
      begun : AreBegun (a.segments ++ s ∷ [])
      begun k x there =
          elim (cases_eq k s.number) [
            | inl e ↦ subst (λ (y : SegmentValue). 0 < length y.rows) (some_one (sym (at_push_same a.segments s none) ∙ ap (segment_at (a.segments ++ s ∷ [])) (sym e) ∙ there)) own
            | inr ne ↦ kept.begun k x (sym (at_push_other a.segments s k (λ e. ne (sym e))) ∙ there)
          ]

pub joined_seen : (bound bytes : ℕ) (phase : CellPhase) (a new : AreaValue) (e : ExitList) (note : NoteValue) (s : SegmentValue) → AreHoldings bound bytes phase a e.items → phase ≡ Idle → segment_at a.segments s.number ≡ None → s.number < bound →
    new ≡ record a { segments = a.segments ++ s ∷ [] } → holdings_seen bound phase new e note ≡ with_segment_added s (holdings_seen bound phase a e note)
joined_seen bound bytes phase a new e note s kept idle none below is =
    ap (λ (x : AreaValue). holdings_seen bound phase x e note) is
    ∙ subst (λ q. AreHoldings bound bytes q a e.items → holdings_seen bound q (record a { segments = a.segments ++ s ∷ [] }) e note ≡ with_segment_added s (holdings_seen bound q a e note)) (sym idle)
    (λ k. joined_seen_here bound bytes a e.items s k none below e note) kept

pub joined_kept : (bound bytes : ℕ) (phase : CellPhase) (a new : AreaValue) (items : List ExitRow) (s : SegmentValue) → AreHoldings bound bytes phase a items → phase ≡ Idle → segment_at a.segments s.number ≡ None → s.number < bound →
    new ≡ record a { segments = a.segments ++ s ∷ [] } → HasDistinct new.segments → 0 < length s.rows → AreHoldings bound (bytes + segment_bytes s) phase new items
joined_kept bound bytes phase a new items s kept idle none below is distinct own =
    subst (λ (x : AreaValue). AreHoldings bound (bytes + segment_bytes s) phase x items) (sym is)
    (subst (λ q. AreHoldings bound bytes q a items → AreHoldings bound (bytes + segment_bytes s) q (record a { segments = a.segments ++ s ∷ [] }) items) (sym idle)
    (λ k. joined_kept_here bound bytes a items s k none below (subst (λ (x : AreaValue). HasDistinct x.segments) is distinct) own) kept)

-- the segment that was added is there
pub joined_there : (bound : ℕ) (a new : AreaValue) (s : SegmentValue) → HasNoneFrom a.segments bound → segment_at a.segments s.number ≡ None → s.number < bound →
    new ≡ record a { segments = a.segments ++ s ∷ [] } → get_or (made_list bound new.segments) s.number None ≡ Some (made s)
joined_there bound a new s numbered none below is =
    ap (λ (x : AreaValue). get_or (made_list bound x.segments) s.number None) is
    ∙ made_listed (a.segments ++ s ∷ []) bound s.number (λ k past. at_push_other a.segments s k (λ e. omega (arith, e, past, below)) ∙ numbered k past)
    ∙ ap (option_map made) (at_push_same a.segments s none)

-- whether a number has no segment
none_mapped : (o : Option SegmentValue) → option_map made o ≡ None → o ≡ None
none_mapped None e = refl
none_mapped (Some s) e = absurd (cc)

pub none_there : (segments : List SegmentValue) (bound number : ℕ) → HasNoneFrom segments bound → get_or (made_list bound segments) number None ≡ None → segment_at segments number ≡ None
none_there segments bound number none e = none_mapped (segment_at segments number) (sym (made_listed segments bound number none) ∙ e)

pub room_left : (a : AreaValue) (bound number : ℕ) → AreNumberedBelow bound a.segments → number < bound → segment_at a.segments number ≡ None → bound ≤ a.room → length a.segments < a.room
room_left a bound number numbered below none room = omega (arith, segments_fewer a.segments bound number numbered below none, room)

-- a segment less
no_objects : (segments : List SegmentValue) (bound : ℕ) → ((k : ℕ) → segment_at segments k ≡ None) → area_objects bound segments ≡ []
no_objects segments zero none = refl
no_objects segments (suc n) none = ap₂ (λ os o. os ++ objects_of_some o) (no_objects segments n none) (none n)

pub record IsTakenBy (a new : AreaValue) (number : ℕ) (s : SegmentValue) : Type 0 where
  pub there : segment_at a.segments number ≡ Some s
  pub room : new.room ≡ a.room
  pub distinct : HasDistinct new.segments
  pub gone : segment_at new.segments number ≡ None
  pub others : (k : ℕ) → k ≢ number → segment_at new.segments k ≡ segment_at a.segments k

module _ (bound bytes : ℕ) (a new : AreaValue) (items : List ExitRow) (number : ℕ) (s : SegmentValue) (kept : AreHoldings bound bytes Idle a items) (t : IsTakenBy a new number s) where
  own : s.number ≡ number
  own = number_found a.segments number s t.there

  out : IsTakenOut bound a.segments new.segments s
  out = record {
    below = omega (arith, own, found_below a.segments bound number s kept.numbered.none t.there);
    there = ap (segment_at a.segments) own ∙ t.there;
    gone = ap (segment_at new.segments) own ∙ t.gone;
    others = λ k ne. t.others k (λ e. ne (e ∙ sym own));
  }

  none_after : HasNoneFrom new.segments bound
  none_after k past =
      elim (cases_eq k number) [
        | inl e ↦ ap (segment_at new.segments) e ∙ t.gone
        | inr ne ↦ t.others k ne ∙ kept.numbered.none k past
      ]

  left_made : made_list bound new.segments ≡ set (made_list bound a.segments) number None
  left_made =
      set_below (λ k. option_map made (segment_at new.segments k)) (λ k. option_map made (segment_at a.segments k)) bound number None
      (ap (option_map made) t.gone) (λ k ne. ap (option_map made) (t.others k ne))

  left_rooms : serial_rooms_of bound new.segments ≡ set (serial_rooms_of bound a.segments) number None
  left_rooms =
      set_below (λ k. option_map (λ (x : SegmentValue). x.room) (segment_at new.segments k)) (λ k. option_map (λ (x : SegmentValue). x.room) (segment_at a.segments k)) bound number None
      (ap (option_map (λ (x : SegmentValue). x.room)) t.gone) (λ k ne. ap (option_map (λ (x : SegmentValue). x.room)) (t.others k ne))

  weights : total object_bytes (area_objects bound a.segments) ≡ segment_bytes s + total object_bytes (area_objects bound new.segments)
  weights = ap (total object_bytes) (parted_area a.segments new.segments bound s out) ∙ total_joined object_bytes (segment_objects s) (area_objects bound new.segments)

  left_given : (e : ExitList) (note : NoteValue) → HasGivenSegment (holdings_seen bound Idle a e note) (holdings_seen bound Idle new e note) number s
  left_given e note = record {
    number_is = own;
    rest =
        same_holdings note bound
        (same_cell Idle (left_area a.segments new.segments bound s out ∙ ap (λ k. filter (λ (o : Object). not (o.name.seg.0 == k)) (area_objects bound a.segments)) own) left_made refl refl refl refl)
        t.room left_rooms refl;
    parts = parted_area a.segments new.segments bound s out;
    made = made_listed a.segments bound number kept.numbered.none ∙ ap (option_map made) t.there;
    room = rooms_listed a.segments bound number kept.numbered.none ∙ ap (option_map (λ (x : SegmentValue). x.room)) t.there;
    empty = λ none. no_objects new.segments bound (λ k. none_there new.segments bound k none_after (none k));
  }

  left_kept_here : (left : ℕ) → left + segment_bytes s ≡ bytes → AreHoldings bound left Idle new items
  left_kept_here left e = record {
    numbered = record { distinct = t.distinct; none = none_after };
    begun = begun;
    weighed = omega (arith, e, kept.weighed, weights);
    marks = tt;
  }
    where
      begun : AreBegun new.segments
      begun k x there =
          elim (cases_eq k number) [
            | inl e ↦ let off : None ≡ Some x = sym t.gone ∙ ap (segment_at new.segments) (sym e) ∙ there in absurd (cc)
            | inr ne ↦ kept.begun k x (sym (t.others k ne) ∙ there)
          ]

  most_here : segment_bytes s ≤ bytes
  most_here = omega (arith, kept.weighed, weights)

module _ (bound bytes : ℕ) (phase : CellPhase) (a new : AreaValue) (e : ExitList) (number : ℕ) (s : SegmentValue) (kept : AreHoldings bound bytes phase a e.items) (idle : phase ≡ Idle) (t : IsTakenBy a new number s) where
  kept_idle : AreHoldings bound bytes Idle a e.items
  kept_idle = subst (λ q. AreHoldings bound bytes q a e.items) idle kept

  pub left_seen : (note : NoteValue) → HasGivenSegment (holdings_seen bound phase a e note) (holdings_seen bound phase new e note) number s
  left_seen note =
      subst (λ q. HasGivenSegment (holdings_seen bound q a e note) (holdings_seen bound q new e note) number s) (sym idle) (left_given bound bytes a new e.items number s kept_idle t e note)

  pub left_kept : (left : ℕ) → left + segment_bytes s ≡ bytes → AreHoldings bound left phase new e.items
  left_kept left is = subst (λ q. AreHoldings bound left q new e.items) (sym idle) (left_kept_here bound bytes a new e.items number s kept_idle t left is)

  pub left_most : segment_bytes s ≤ bytes
  left_most = most_here bound bytes a new e.items number s kept_idle t
