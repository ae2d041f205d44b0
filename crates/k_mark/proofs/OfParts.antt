-- Areas that show the part of a cell.
use Rattle.std.proofs.Common.{◌≡◌, ◌≢◌, ◌==◌, ◌&&◌, not, ℕ, ◌+◌, ◌-◌, ◌<◌, Bool, false, cond, refl, sym, ap, ap₂, subst, ◌∙◌, inl, inr, List, [], ◌∷◌, ◌++◌, length, map, filter, set, slice_set, Option, Some, None, is_some, option_map, unwrap_or, eq-eqb, ne_eqb, arith}
use Rattle.std.proofs.Math.Path.{fun_ext}
use Rattle.std.proofs.lemmas.Bool.{cases_eq}
use Rattle.std.proofs.lemmas.List.{length-append, length-map, length-set}
use Rattle.k_laws.specs.k_types.declared.names.Name.{Name}
use Rattle.k_laws.specs.k_types.declared.names.Heap.{Heap}
use Rattle.k_laws.specs.k_types.declared.names.TypeId.{TypeId}
use Rattle.k_laws.specs.k_types.declared.names.Field.{Field}
use Rattle.k_laws.specs.k_types.Names.{name_eq, name_among}
use Rattle.k_laws.specs.k_types.Types.{type_row}
use Rattle.k_laws.specs.k_types.State.{Object, Content, has, refers}
use Rattle.k_laws.specs.k_types.Owners.{object_bytes}
use Rattle.k_laws.specs.k_types.Reach.{reach_among}
use Rattle.k_laws.specs.k_types.Totals.{total}
use Rattle.k_laws.specs.k_types.Updates.{with_object, object_after_write}
use Rattle.k_laws.specs.k_types.Cells.{CellPart}
use Rattle.k_laws.specs.PartUpdates.{with_written}
use Rattle.k_space.specs.Objects.{new_body}
use Rattle.k_space.specs.Segments.{Row, Color, White, Gray, Black, is_gray, is_black, is_marked, some_gray, some_black, some_marked, SegmentValue, object_of, placed, made, new_row, with_row, unmarked_row, unmarked_segment}
use Rattle.k_space.specs.Areas.{AreaValue, black_at, is_foreign, marked_at, place_of, row_of_name, segment_at, with_segment, with_row_of, unmarked, gray_at}
use Rattle.k_space.proofs.AreaRows.{Found, found, number_found, changed_is}
use Rattle.k_laws.proofs.NameTests.{name_eq_refl}
use Rattle.k_space.proofs.Numbers.{distinct_push}
use Rattle.k_mark.specs.Marking.{ShowsObjects, some_lead_to}
use Rattle.k_mark.specs.Sweeping.{swept, swept_segment, survivor, dead_bytes, dead_objects}
use Rattle.k_mark.proofs.ReachedIs.{area_reaches, area_exits}
use Rattle.k_laws.specs.CellChanges.{given, with_created, with_objects, collected, reached_in, taking_in, either_of, given_away}
use Rattle.k_mark.specs.Shown.{area_objects, HasNoneFrom}
use Rattle.k_mark.proofs.Shown.{at_row, any_area}
use Rattle.k_mark.specs.Parts.{ShowsPart, ShowBoth, IsMarkedPart, AreExitsMarked}
use Rattle.k_mark.proofs.Found.{at_map, at_push_same, at_push_other, at_set_same, at_set_other, found_below, same_numbered, set_number, map_number, unmarked_numbers}
use Rattle.k_mark.proofs.Changed.{same_area, swept_objects, written_area}
use Rattle.k_mark.proofs.Joined.{placed_area, joined_area, alone_area, none_area}
use Rattle.k_exit.specs.Exits.{ExitRow, target_marked}
use Rattle.std.specs.List.{list_any}
use Rattle.k_laws.proofs.Tests.{same_test}
use Rattle.k_mark.specs.Lists.{black_names, marked_targets}
use Rattle.k_mark.proofs.Named.{black_named, marked_named}
use Rattle.k_mark.proofs.Sums.{dead_counted, dead_weighed}
use Rattle.k_mark.proofs.KeptMarked.{at_same, at_other}
use Rattle.k_laws.proofs.Lists.{some_one}

-- what is black is what is marked, where nothing is gray
pub black_marked : (a : AreaValue) → ((n : Name) → gray_at a n ≡ false) → (n : Name) → black_at a n ≡ marked_at a n
black_marked a off n = by_row (row_of_name a.segments n) (off n)
  where
    by_color : (color : Color) → is_gray color ≡ false → is_black color ≡ is_marked color
    by_color White f = refl
    by_color Gray f = absurd (cc)
    by_color Black f = refl

    by_row : (o : Option Row) → some_gray o ≡ false → some_black o ≡ some_marked o
    by_row None f = refl
    by_row (Some row) f = by_color row.color f

-- the serials given are those of the segment found
made_some : (c : CellPart) (segments : List SegmentValue) (number : ℕ) (o : Option SegmentValue) → c.made number ≡ option_map made (segment_at segments number) → segment_at segments number ≡ o → c.made number ≡ option_map made o
made_some c segments number o given at = given ∙ ap (option_map made) at

-- a segment in the place of another
module _ (segments : List SegmentValue) (s t : SegmentValue) (at : segment_at segments s.number ≡ Some s) (same : t.number ≡ s.number) where
  set_begun : 0 < length t.rows → ((number : ℕ) (x : SegmentValue) → segment_at segments number ≡ Some x → 0 < length x.rows) →
      (number : ℕ) (x : SegmentValue) → segment_at (set segments (place_of segments s.number) t) number ≡ Some x → 0 < length x.rows
  set_begun here begun number x there =
      elim (cases_eq number s.number) [
        | inl e ↦
            let one : t ≡ x = some_one (sym (at_set_same segments s.number s t at same) ∙ ap (segment_at (set segments (place_of segments s.number) t)) (sym e) ∙ there) in
            subst (λ (y : SegmentValue). 0 < length y.rows) one here
        | inr ne ↦ begun number x (sym (at_set_other segments s.number s t at same number ne) ∙ there)
      ]

  made_same : (number : ℕ) → number ≡ s.number → option_map made (segment_at (set segments (place_of segments s.number) t) number) ≡ Some (made t)
  made_same number e = ap (λ k. option_map made (segment_at (set segments (place_of segments s.number) t) k)) e ∙ ap (option_map made) (at_set_same segments s.number s t at same)

  made_other : (number : ℕ) → number ≢ s.number → option_map made (segment_at (set segments (place_of segments s.number) t) number) ≡ option_map made (segment_at segments number)
  made_other number ne = ap (option_map made) (at_set_other segments s.number s t at same number ne)

pub created_part : (bound : ℕ) (a : AreaValue) (c : CellPart) (s : SegmentValue) (slot : ℕ) (types : List (List Field)) (ty : TypeId) → ShowsPart bound a.segments c → segment_at a.segments s.number ≡ Some s →
    ShowsPart bound (with_segment a s.number (placed s slot (new_body types ty))).segments (with_created s.number ty (type_row types ty) c)
created_part bound a c s slot types ty sh at = record {
  numbered = same_numbered a.segments (with_segment a s.number (placed s slot (new_body types ty))).segments bound (set_number a.segments s.number s (placed s slot (new_body types ty)) at refl) sh.numbered;
  begun = set_begun a.segments s (placed s slot (new_body types ty)) at refl (omega (arith, longer)) sh.begun;
  objects = sym (placed_area a bound s slot (new_body types ty) sh.numbered.none at ∙ ap₂ (λ k os. with_object (object_of s.number k (new_row slot (new_body types ty))) os) next (sym sh.objects));
  given = made_at;
}
  where
    longer : length (s.rows ++ Some (new_row slot (new_body types ty)) ∷ []) ≡ length s.rows + 1
    longer = length-append s.rows (Some (new_row slot (new_body types ty)) ∷ [])

    had : c.made s.number ≡ Some (made s)
    had = made_some c a.segments s.number (Some s) (sh.given s.number) at

    begun : 0 < length s.rows
    begun = sh.begun s.number s at

    next : length s.rows ≡ given (c.made s.number) + 1
    next = let plain : length s.rows ≡ length s.rows - 1 + 1 = omega (arith, begun) in plain ∙ ap (λ o. given o + 1) (sym had)

    made_at : (number : ℕ) → cond (number == s.number) (Some (given (c.made s.number) + 1)) (c.made number) ≡ option_map made (segment_at (with_segment a s.number (placed s slot (new_body types ty))).segments number)
    made_at number =
        elim (cases_eq number s.number) [
          | inl e ↦
              let count : given (c.made s.number) + 1 ≡ length (s.rows ++ Some (new_row slot (new_body types ty)) ∷ []) - 1 = omega (arith, next, longer) in
              ap (λ b. cond b (Some (given (c.made s.number) + 1)) (c.made number)) (eq-eqb number s.number e)
              ∙ ap Some count
              ∙ sym (made_same a.segments s (placed s slot (new_body types ty)) at refl number e)
          | inr ne ↦
              ap (λ b. cond b (Some (given (c.made s.number) + 1)) (c.made number)) (ne_eqb number s.number ne)
              ∙ sh.given number ∙ sym (made_other a.segments s (placed s slot (new_body types ty)) at refl number ne)
        ]

-- areas that differ in the objects alone
module _ (f : SegmentValue → SegmentValue) (same : (s : SegmentValue) → (f s).number ≡ s.number) (long : (s : SegmentValue) → length (f s).rows ≡ length s.rows) (xs : List SegmentValue) where
  pub map_begun : ((number : ℕ) (x : SegmentValue) → segment_at xs number ≡ Some x → 0 < length x.rows) → (number : ℕ) (x : SegmentValue) → segment_at (map f xs) number ≡ Some x → 0 < length x.rows
  map_begun begun number x there = by_segment (segment_at xs number) refl (sym (at_map f same xs number) ∙ there)
    where
      by_segment : (o : Option SegmentValue) → segment_at xs number ≡ o → option_map f o ≡ Some x → 0 < length x.rows
      by_segment None at e = absurd (cc)
      by_segment (Some s) at e = let one : f s ≡ x = cc in subst (λ (y : SegmentValue). 0 < length y.rows) one (omega (arith, begun number s at, long s))

  pub map_unbegun : ((number : ℕ) (x : SegmentValue) → segment_at (map f xs) number ≡ Some x → 0 < length x.rows) → (number : ℕ) (x : SegmentValue) → segment_at xs number ≡ Some x → 0 < length x.rows
  map_unbegun begun number x there = omega (arith, begun number (f x) (at_map f same xs number ∙ ap (option_map f) there), long x)

  pub map_made : (number : ℕ) → option_map made (segment_at (map f xs) number) ≡ option_map made (segment_at xs number)
  map_made number = ap (option_map made) (at_map f same xs number) ∙ by_segment (segment_at xs number)
    where
      by_segment : (o : Option SegmentValue) → option_map made (option_map f o) ≡ option_map made o
      by_segment None = refl
      by_segment (Some s) = ap (λ k. Some (k - 1)) (long s)

unmarked_long : (s : SegmentValue) → length (unmarked_segment s).rows ≡ length s.rows
unmarked_long s = length-map s.rows unmarked_row

pub marked_part : (bound : ℕ) (a b : AreaValue) (c : CellPart) → ShowsPart bound a.segments c → unmarked b ≡ unmarked a → ShowsPart bound b.segments c
marked_part bound a b c sh e = record {
  numbered = same_numbered a.segments b.segments bound (unmarked_numbers b a e) sh.numbered;
  begun = map_unbegun unmarked_segment (λ s. refl) unmarked_long b.segments
      (subst (λ (xs : List SegmentValue). (number : ℕ) (x : SegmentValue) → segment_at xs number ≡ Some x → 0 < length x.rows) (ap (λ (x : AreaValue). x.segments) (sym e)) (map_begun unmarked_segment (λ s. refl) unmarked_long a.segments sh.begun));
  objects = sh.objects ∙ sym (same_area b a bound e);
  given = λ number. sh.given number ∙ sym (map_made unmarked_segment (λ s. refl) unmarked_long a.segments number)
      ∙ ap (λ (x : AreaValue). option_map made (segment_at x.segments number)) (sym e)
      ∙ map_made unmarked_segment (λ s. refl) unmarked_long b.segments number;
}

pub written_part : (bound : ℕ) (a : AreaValue) (c : CellPart) (n : Name) (row : Row) (field : ℕ) (content : Content) → ShowsPart bound a.segments c → row_of_name a.segments n ≡ Some row →
    ShowsPart bound (with_row_of a n (Some (record row { fields = slice_set row.fields field content }))).segments (with_written n field content c)
written_part bound a c n row field content sh there = record {
  numbered = same_numbered a.segments (with_row_of a n (Some (record row { fields = slice_set row.fields field content }))).segments bound
      (ap (map (λ (s : SegmentValue). s.number)) is ∙ set_number a.segments n.seg.0 f.space t f.at number) sh.numbered;
  begun = subst (λ (xs : List SegmentValue). (number : ℕ) (x : SegmentValue) → segment_at xs number ≡ Some x → 0 < length x.rows) (sym is_own)
      (set_begun a.segments f.space t at refl (omega (arith, long, sh.begun n.seg.0 f.space f.at)) sh.begun);
  objects = ap (map (object_after_write n field content)) sh.objects ∙ sym (written_area a bound n row field content there);
  given = λ k. sh.given k ∙ sym (ap (λ (xs : List SegmentValue). option_map made (segment_at xs k)) is_own ∙ made_at k);
}
  where
    f : Found a n row
    f = found a n row there

    t : SegmentValue
    t = with_row (found a n row there).space n.serial.0 (Some (record row { fields = slice_set row.fields field content }))

    number : (found a n row there).space.number ≡ n.seg.0
    number = number_found a.segments n.seg.0 (found a n row there).space (found a n row there).at

    at : segment_at a.segments (found a n row there).space.number ≡ Some (found a n row there).space
    at = ap (segment_at a.segments) number ∙ (found a n row there).at

    is : (with_row_of a n (Some (record row { fields = slice_set row.fields field content }))).segments ≡ set a.segments (place_of a.segments n.seg.0) t
    is = changed_is a n row (record row { fields = slice_set row.fields field content }) (found a n row there)

    is_own : (with_row_of a n (Some (record row { fields = slice_set row.fields field content }))).segments ≡ set a.segments (place_of a.segments (found a n row there).space.number) t
    is_own = is ∙ ap (λ k. set a.segments (place_of a.segments k) t) (sym number)

    long : length t.rows ≡ length (found a n row there).space.rows
    long = length-set (found a n row there).space.rows n.serial.0 (Some (record row { fields = slice_set row.fields field content }))

    made_at : (k : ℕ) → option_map made (segment_at (set a.segments (place_of a.segments (found a n row there).space.number) t) k) ≡ option_map made (segment_at a.segments k)
    made_at k =
        elim (cases_eq k (found a n row there).space.number) [
          | inl e ↦
              made_same a.segments (found a n row there).space t at refl k e
              ∙ ap (λ l. Some (l - 1)) long
              ∙ sym (ap (λ m. option_map made (segment_at a.segments m)) e ∙ ap (option_map made) at)
          | inr ne ↦ made_other a.segments (found a n row there).space t at refl k ne
        ]

either_none : (o : Option ℕ) → either_of o None ≡ o
either_none None = refl
either_none (Some n) = refl

taken_apart : (bound : ℕ) (segments : List SegmentValue) (kernel heap : CellPart) (s : SegmentValue) (own : ℕ → Heap) (g : Heap) → ShowsPart bound segments kernel → ShowsPart bound (s ∷ []) heap →
    segment_at segments s.number ≡ None → ShowsPart bound (segments ++ s ∷ []) (taking_in own g heap kernel)
taken_apart bound segments kernel heap s own g theirs mine none = record {
  numbered = record {
    distinct = distinct_push segments s theirs.numbered.distinct none;
    none = λ number past_it. at_push_other segments s number (λ e. omega (arith, e, past_it, within)) ∙ theirs.numbered.none number past_it;
  };
  begun = begun;
  objects = ap₂ with_objects (mine.objects ∙ alone_area bound s within) theirs.objects ∙ sym (joined_area segments bound s within none);
  given = made_at;
}
  where
    alone : segment_at (s ∷ []) s.number ≡ Some s
    alone = at_same s [] s.number refl

    within : s.number < bound
    within = found_below (s ∷ []) bound s.number s mine.numbered.none alone

    begun : (number : ℕ) (x : SegmentValue) → segment_at (segments ++ s ∷ []) number ≡ Some x → 0 < length x.rows
    begun number x there =
        elim (cases_eq number s.number) [
          | inl e ↦
              let one : Some s ≡ Some x = sym (at_push_same segments s none) ∙ ap (segment_at (segments ++ s ∷ [])) (sym e) ∙ there in
              mine.begun s.number x (alone ∙ one)
          | inr ne ↦ theirs.begun number x (sym (at_push_other segments s number (λ e. ne (sym e))) ∙ there)
        ]

    made_at : (number : ℕ) → either_of (kernel.made number) (heap.made number) ≡ option_map made (segment_at (segments ++ s ∷ []) number)
    made_at number =
        elim (cases_eq number s.number) [
          | inl e ↦
              ap (λ k. either_of (kernel.made k) (heap.made k)) e
              ∙ ap₂ either_of (made_some kernel segments s.number None (theirs.given s.number) none) (made_some heap (s ∷ []) s.number (Some s) (mine.given s.number) alone)
              ∙ sym (ap (λ k. option_map made (segment_at (segments ++ s ∷ []) k)) e ∙ ap (option_map made) (at_push_same segments s none))
          | inr ne ↦
              ap (either_of (kernel.made number)) (made_some heap (s ∷ []) number None (mine.given number) (at_other s [] number (λ e. ne (sym e))))
              ∙ either_none (kernel.made number) ∙ theirs.given number ∙ sym (ap (option_map made) (at_push_other segments s number (λ e. ne (sym e))))
        ]

pub taken_part : (bound : ℕ) (segments : List SegmentValue) (kernel heap : CellPart) (s : SegmentValue) (own : ℕ → Heap) (g : Heap) → ShowBoth bound segments s kernel heap →
    ShowsPart bound (segments ++ s ∷ []) (taking_in own g heap kernel)
taken_part bound segments kernel heap s own g both = taken_apart bound segments kernel heap s own g both.kernel_shown both.heap_shown both.new

pub empty_part : (bound : ℕ) (c : CellPart) → ShowsPart bound [] (given_away c)
empty_part bound c = record {
  numbered = record { distinct = λ i s e. absurd (cc); none = λ number past_it. refl };
  begun = λ number s e. absurd (cc);
  objects = sym (none_area bound);
  given = λ number. refl;
}

lives : (n : Name) (o : Option Row) → at_row (λ (x : Object). name_eq x.name n) n o ≡ is_some (option_map (λ (row : Row). row.fields) o)
lives n None = refl
lives n (Some row) = name_eq_refl n

pub leads : (n m : Name) (o : Option Row) → at_row (λ (x : Object). name_eq x.name n && refers x m) n o ≡ some_lead_to (option_map (λ (row : Row). row.fields) o) m
leads n m None = refl
leads n m (Some row) = ap (λ b. b && refers (object_of n.seg.0 n.serial.0 row) m) (name_eq_refl n)

pub shows : (area : AreaValue) (bound : ℕ) → HasNoneFrom area.segments bound → ShowsObjects area (area_objects bound area.segments)
shows area bound none = record {
  lives = λ n. any_area (λ (x : Object). name_eq x.name n) n (λ o e. e) area.segments bound none ∙ lives n (row_of_name area.segments n);
  refers = λ n m. any_area (λ (x : Object). name_eq x.name n && refers x m) n (λ o e. ap (λ b. b && refers o m) e) area.segments bound none ∙ leads n m (row_of_name area.segments n);
}

module _ (bound : ℕ) (begun ended : AreaValue) (c : CellPart) (p : IsMarkedPart bound begun ended c) where
  pub shown_begun : ShowsObjects begun c.objects
  shown_begun = subst (λ os. ShowsObjects begun os) (sym p.shows.objects) (shows begun bound p.shows.numbered.none)

  pub same_mark : (n : Name) → marked_at ended n ≡ has (reached_in c) n
  same_mark n =
      let in_area = area_reaches begun c.objects (unwrap_or c.scan []) shown_begun p.roots n in
      same_test (marked_at ended n) (has (reach_among c.objects (unwrap_or c.scan [])) n) (λ t. in_area.0 ((p.marked.reached n).0 t)) (λ t. (p.marked.reached n).1 (in_area.1 t))

  pub shown_ended : ShowsPart bound ended.segments c
  shown_ended = marked_part bound begun ended c p.shows p.marked.kept

  pub collected_part : ShowsPart bound (swept ended).segments (collected c)
  collected_part = record {
    numbered = same_numbered ended.segments (swept ended).segments bound (map_number swept_segment (λ s. refl) ended.segments) shown_ended.numbered;
    begun = map_begun swept_segment (λ s. refl) (λ s. length-map s.rows survivor) ended.segments shown_ended.begun;
    objects = sym (swept_objects ended bound ∙ ap₂ (λ (t : Name → Bool) os. filter (λ o. t o.name) os) (fun_ext same_mark) (sym shown_ended.objects));
    given = λ number. shown_ended.given number ∙ sym (map_made swept_segment (λ s. refl) (λ s. length-map s.rows survivor) ended.segments number);
  }

  pub dead_part : dead_objects ended ≡ length (filter (λ o. not (has (reached_in c) o.name)) c.objects)
  dead_part = dead_counted ended bound shown_ended.numbered ∙ ap₂ (λ (t : Name → Bool) os. length (filter (λ o. not (t o.name)) os)) (fun_ext same_mark) (sym shown_ended.objects)

  pub bytes_part : dead_bytes ended ≡ total object_bytes (filter (λ o. not (has (reached_in c) o.name)) c.objects)
  bytes_part = dead_weighed ended bound shown_ended.numbered ∙ ap₂ (λ (t : Name → Bool) os. total object_bytes (filter (λ o. not (t o.name)) os)) (fun_ext same_mark) (sym shown_ended.objects)

  same_black : (n : Name) → black_at ended n ≡ marked_at ended n
  same_black = black_marked ended p.marked.black

  pub black_reached : (n : Name) → name_among n (black_names bound ended) ≡ has (reached_in c) n
  black_reached n = black_named ended bound n shown_ended.numbered.none ∙ same_black n ∙ same_mark n

  pub exits_reached : (items : List ExitRow) (n : Name) → AreExitsMarked begun items → name_among n (marked_targets items) ≡ (is_foreign begun n && list_any (λ x. refers x n) (reached_in c))
  exits_reached items n are =
      let in_area = area_exits begun c.objects (unwrap_or c.scan []) shown_begun p.roots n in
      marked_named items n
      ∙ same_test (target_marked items n) (is_foreign begun n && list_any (λ x. refers x n) (reached_in c)) (λ t. in_area.0 ((are n).0 t)) (λ t. (are n).1 (in_area.1 t))
