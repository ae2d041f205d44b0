-- Areas that change in one segment, or in marks alone, by number.
use Rattle.std.proofs.Common.{◌≡◌, ◌⊎◌, ℕ, zero, suc, ◌+◌, ◌-◌, ◌<◌, ◌≤◌, refl, sym, ap, subst, ◌∙◌, inl, inr, List, [], ◌∷◌, ◌++◌, length, map, get_or, set, Option, Some, None, option_map, arith}
use Rattle.std.proofs.Math.Path.{fun_ext}
use Rattle.std.proofs.lemmas.Bool.{cases_eq}
use Rattle.std.proofs.lemmas.List.{length-append, length-map}
use Rattle.k_mark.specs.k_types.Numbers.{numbers_from, numbers_below}
use Rattle.k_mark.specs.k_laws.CellChanges.{given}
use Rattle.k_mark.specs.k_space.Objects.{BodyValue}
use Rattle.k_mark.specs.k_space.Segments.{HasRoom, IsSegment, LiesAt, Row, SegmentValue, made, new_row, placed, row_at, unmarked_row, unmarked_segment}
use Rattle.k_mark.specs.k_space.Areas.{AreaValue, place_of, segment_at, unmarked}
use Rattle.k_mark.proofs.AreaRows.{number_found}
use Rattle.k_mark.specs.Shown.{area_objects, HasNoneFrom, AreNumberedBelow}
use Rattle.k_mark.specs.Lists.{made_list}
use Rattle.k_mark.proofs.Found.{at_map, at_set_same, at_set_other, set_number, same_numbered, unmarked_numbers}
use Rattle.k_mark.proofs.Changed.{same_area}
use Rattle.k_mark.proofs.Named.{made_listed}
use Rattle.k_cell.specs.Holdings.{serial_rooms_of, AreBegun}
use Rattle.k_cell.specs.Placed.{CanPlace}
use Rattle.k_cell.proofs.Living.{living_alike}
use Rattle.k_mark.proofs.Lists.{set_below, some_one}

pub same_below : {A : Type 0} (f g : ℕ → A) (n : ℕ) → ((i : ℕ) → f i ≡ g i) → map f (numbers_below n) ≡ map g (numbers_below n)
same_below f g n same = ap (λ h. map h (numbers_below n)) (fun_ext same)

-- a segment in the place of another of that number
module _ (segments : List SegmentValue) (number : ℕ) (s t : SegmentValue) (at : segment_at segments number ≡ Some s) (same : t.number ≡ number) where
  pub set_begun : 0 < length t.rows → AreBegun segments → AreBegun (set segments (place_of segments number) t)
  set_begun here begun k x there =
      elim (cases_eq k number) [
        | inl e ↦
            let one : t ≡ x = some_one (sym (at_set_same segments number s t at same) ∙ ap (segment_at (set segments (place_of segments number) t)) (sym e) ∙ there) in
            subst (λ (y : SegmentValue). 0 < length y.rows) one here
        | inr ne ↦ begun k x (sym (at_set_other segments number s t at same k ne) ∙ there)
      ]

  pub set_numbered : (bound : ℕ) → AreNumberedBelow bound segments → AreNumberedBelow bound (set segments (place_of segments number) t)
  set_numbered bound was = same_numbered segments (set segments (place_of segments number) t) bound (set_number segments number s t at same) was

  pub set_rooms : (bound : ℕ) → t.room ≡ s.room → serial_rooms_of bound (set segments (place_of segments number) t) ≡ serial_rooms_of bound segments
  set_rooms bound room =
      same_below (λ k. option_map (λ (x : SegmentValue). x.room) (segment_at (set segments (place_of segments number) t) k)) (λ k. option_map (λ (x : SegmentValue). x.room) (segment_at segments k)) bound room_at
    where
      room_at : (k : ℕ) → option_map (λ (x : SegmentValue). x.room) (segment_at (set segments (place_of segments number) t) k) ≡ option_map (λ (x : SegmentValue). x.room) (segment_at segments k)
      room_at k =
          elim (cases_eq k number) [
            | inl e ↦
                ap (λ m. option_map (λ (x : SegmentValue). x.room) (segment_at (set segments (place_of segments number) t) m)) e
                ∙ ap (option_map (λ (x : SegmentValue). x.room)) (at_set_same segments number s t at same)
                ∙ ap Some room
                ∙ sym (ap (λ m. option_map (λ (x : SegmentValue). x.room) (segment_at segments m)) e ∙ ap (option_map (λ (x : SegmentValue). x.room)) at)
            | inr ne ↦ ap (option_map (λ (x : SegmentValue). x.room)) (at_set_other segments number s t at same k ne)
          ]

  pub set_made : (bound : ℕ) → made_list bound (set segments (place_of segments number) t) ≡ set (made_list bound segments) number (Some (made t))
  set_made bound =
      set_below (λ k. option_map made (segment_at (set segments (place_of segments number) t) k)) (λ k. option_map made (segment_at segments k)) bound number (Some (made t))
      (ap (option_map made) (at_set_same segments number s t at same))
      (λ k ne. ap (option_map made) (at_set_other segments number s t at same k ne))

  pub set_made_same : (bound : ℕ) → length t.rows ≡ length s.rows → made_list bound (set segments (place_of segments number) t) ≡ made_list bound segments
  set_made_same bound long =
      same_below (λ k. option_map made (segment_at (set segments (place_of segments number) t) k)) (λ k. option_map made (segment_at segments k)) bound made_at
    where
      made_at : (k : ℕ) → option_map made (segment_at (set segments (place_of segments number) t) k) ≡ option_map made (segment_at segments k)
      made_at k =
          elim (cases_eq k number) [
            | inl e ↦
                ap (λ m. option_map made (segment_at (set segments (place_of segments number) t) m)) e
                ∙ ap (option_map made) (at_set_same segments number s t at same)
                ∙ ap (λ l. Some (l - 1)) long
                ∙ sym (ap (λ m. option_map made (segment_at segments m)) e ∙ ap (option_map made) at)
            | inr ne ↦ ap (option_map made) (at_set_other segments number s t at same k ne)
          ]

-- the serials given in a segment that is there
pub given_there : (segments : List SegmentValue) (bound number : ℕ) (s : SegmentValue) → HasNoneFrom segments bound → segment_at segments number ≡ Some s →
    get_or (made_list bound segments) number None ≡ Some (made s)
given_there segments bound number s none at = made_listed segments bound number none ∙ ap (option_map made) at

-- what an object placed is called, and what is then given
module _ (segments : List SegmentValue) (bound number slot : ℕ) (s : SegmentValue) (body : BodyValue) (none : HasNoneFrom segments bound) (at : segment_at segments number ≡ Some s) (begun : 0 < length s.rows) where
  pub next_serial : length s.rows ≡ given (get_or (made_list bound segments) number None) + 1
  next_serial =
      let plain : length s.rows ≡ length s.rows - 1 + 1 = omega (arith, begun) in
      plain ∙ ap (λ o. given o + 1) (sym (given_there segments bound number s none at))

  longer : length (s.rows ++ Some (new_row slot body) ∷ []) ≡ length s.rows + 1
  longer = length-append s.rows (Some (new_row slot body) ∷ [])

  pub placed_begun : 0 < length (placed s slot body).rows
  placed_begun = omega (arith, longer)

  pub placed_made : made_list bound (set segments (place_of segments number) (placed s slot body)) ≡ set (made_list bound segments) number (Some (given (get_or (made_list bound segments) number None) + 1))
  placed_made =
      let count : length (s.rows ++ Some (new_row slot body) ∷ []) - 1 ≡ given (get_or (made_list bound segments) number None) + 1 = omega (arith, next_serial, longer) in
      set_made segments number s (placed s slot body) at (number_found segments number s at) bound
      ∙ ap (λ k. set (made_list bound segments) number (Some k)) count

-- areas that differ in marks alone
pub record AreAlike (bound : ℕ) (a b : AreaValue) : Type 0 where
  pub objects : area_objects bound b.segments ≡ area_objects bound a.segments
  pub made : made_list bound b.segments ≡ made_list bound a.segments
  pub rooms : serial_rooms_of bound b.segments ≡ serial_rooms_of bound a.segments
  pub room : b.room ≡ a.room
  pub numbered : AreNumberedBelow bound a.segments → AreNumberedBelow bound b.segments
  pub begun : AreBegun a.segments → AreBegun b.segments

made_unmarked : (o : Option SegmentValue) → option_map made (option_map unmarked_segment o) ≡ option_map made o
made_unmarked None = refl
made_unmarked (Some s) = ap (λ l. Some (l - 1)) (length-map s.rows unmarked_row)

room_unmarked : (o : Option SegmentValue) → option_map (λ (s : SegmentValue). s.room) (option_map unmarked_segment o) ≡ option_map (λ (s : SegmentValue). s.room) o
room_unmarked None = refl
room_unmarked (Some s) = refl

room_alike : (t s : SegmentValue) → unmarked_segment t ≡ unmarked_segment s → (made s < s.room) ⊎ HasRoom s → (made t < t.room) ⊎ HasRoom t
room_alike t s one has =
    let long : length (map unmarked_row t.rows) ≡ length (map unmarked_row s.rows) = ap (λ (y : SegmentValue). length y.rows) one in
    let rows : length t.rows ≡ length s.rows = sym (length-map t.rows unmarked_row) ∙ long ∙ length-map s.rows unmarked_row in
    let room : t.room ≡ s.room = ap (λ (y : SegmentValue). y.room) one in
    elim has [
      | inl few ↦ inl (omega (arith, rows, room, few))
      | inr h ↦ inr (record { few = omega (arith, living_alike t s one, room, h.few); left = omega (arith, rows, h.left) })
    ]

module _ (a b : AreaValue) (same : unmarked b ≡ unmarked a) where
  both : (k : ℕ) → option_map unmarked_segment (segment_at b.segments k) ≡ option_map unmarked_segment (segment_at a.segments k)
  both k =
      sym (at_map unmarked_segment (λ s. refl) b.segments k)
      ∙ ap (λ (x : AreaValue). segment_at x.segments k) same
      ∙ at_map unmarked_segment (λ s. refl) a.segments k

  made_at : (k : ℕ) → option_map made (segment_at b.segments k) ≡ option_map made (segment_at a.segments k)
  made_at k = sym (made_unmarked (segment_at b.segments k)) ∙ ap (option_map made) (both k) ∙ made_unmarked (segment_at a.segments k)

  room_at : (k : ℕ) → option_map (λ (s : SegmentValue). s.room) (segment_at b.segments k) ≡ option_map (λ (s : SegmentValue). s.room) (segment_at a.segments k)
  room_at k = sym (room_unmarked (segment_at b.segments k)) ∙ ap (option_map (λ (s : SegmentValue). s.room)) (both k) ∙ room_unmarked (segment_at a.segments k)

  begun_at : AreBegun a.segments → AreBegun b.segments
  begun_at begun k x there = by_segment (segment_at a.segments k) refl (sym (ap (option_map unmarked_segment) there) ∙ both k)
    where
      by_segment : (o : Option SegmentValue) → segment_at a.segments k ≡ o → Some (unmarked_segment x) ≡ option_map unmarked_segment o → 0 < length x.rows
      by_segment None at e = absurd (cc)
      by_segment (Some s) at e =
          let one : unmarked_segment x ≡ unmarked_segment s = some_one e in
          let long : length (map unmarked_row x.rows) ≡ length (map unmarked_row s.rows) = ap (λ (y : SegmentValue). length y.rows) one in
          omega (arith, long, length-map x.rows unmarked_row, length-map s.rows unmarked_row, begun k s at)

  pub can_place_alike : (k : ℕ) → CanPlace a.segments k → CanPlace b.segments k
  can_place_alike k can = by_segment (segment_at b.segments k) refl
    where
      by_segment : (o : Option SegmentValue) → segment_at b.segments k ≡ o → CanPlace b.segments k
      by_segment None at =
          let off : None ≡ Some (unmarked_segment can.segment) = sym (ap (option_map unmarked_segment) at) ∙ both k ∙ ap (option_map unmarked_segment) can.there in
          absurd (cc)
      by_segment (Some t) at =
          let one : unmarked_segment t ≡ unmarked_segment can.segment = some_one (sym (ap (option_map unmarked_segment) at) ∙ both k ∙ ap (option_map unmarked_segment) can.there) in
          record { segment = t; there = at; left = room_alike t can.segment one can.left }

  pub alike : (bound : ℕ) → AreAlike bound a b
  alike bound = record {
    objects = same_area b a bound same;
    made = same_below (λ k. option_map made (segment_at b.segments k)) (λ k. option_map made (segment_at a.segments k)) bound made_at;
    rooms = same_below (λ k. option_map (λ (s : SegmentValue). s.room) (segment_at b.segments k)) (λ k. option_map (λ (s : SegmentValue). s.room) (segment_at a.segments k)) bound room_at;
    room = ap (λ (x : AreaValue). x.room) same;
    numbered = λ was. same_numbered a.segments b.segments bound (unmarked_numbers b a same) was;
    begun = begun_at;
  }

-- a list over the numbers below the bound, of which what is past it gives nothing
listed_from : (f : ℕ → Option ℕ) (first n k : ℕ) → ((i : ℕ) → first + n ≤ i → f i ≡ None) → get_or (map f (numbers_from first n)) k None ≡ f (first + k)
listed_from f first zero k none = sym (none (first + k) (omega arith))
listed_from f first (suc n) zero none = ap f (omega arith)
listed_from f first (suc n) (suc k) none = listed_from f (suc first) n k (λ i past. none i (omega (arith, past))) ∙ ap f (omega arith)

pub rooms_listed : (segments : List SegmentValue) (bound number : ℕ) → HasNoneFrom segments bound → get_or (serial_rooms_of bound segments) number None ≡ option_map (λ (s : SegmentValue). s.room) (segment_at segments number)
rooms_listed segments bound number none =
    listed_from (λ k. option_map (λ (s : SegmentValue). s.room) (segment_at segments k)) 0 bound number (λ i past. ap (option_map (λ (s : SegmentValue). s.room)) (none i (omega (arith, past))))
    ∙ ap (λ k. option_map (λ (s : SegmentValue). s.room) (segment_at segments k)) (omega arith)

-- no two objects lie in one slot
pub same_row : (s : SegmentValue) (slot serial at : ℕ) (row own : Row) → IsSegment s → LiesAt s slot serial row → row_at s at ≡ Some own → slot ≡ own.slot → row ≡ own
same_row s slot serial at row own sound lies there is =
    let e : serial ≡ at = sound.apart serial at row own lies.there there (lies.slot_is ∙ is) in
    let both : Some row ≡ Some own = sym lies.there ∙ ap (row_at s) e ∙ there in
    cc
