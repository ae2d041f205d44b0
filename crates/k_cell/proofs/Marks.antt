-- What holdings show while a collection is open.
use Rattle.std.proofs.Common.{◌≡◌, ◌↔◌, ◌&&◌, ◌||◌, not, ℕ, ◌+◌, ◌-◌, ◌≤◌, Bool, true, false, cond, refl, sym, ap, ap₂, subst, ◌∙◌, List, [], ◌∷◌, length, map, filter, get_or, slice_get, IsTrue, IsFalse, Option, Some, None, is_some, option_map, arith}
use Rattle.std.specs.List.{list_any}
use Rattle.std.proofs.Math.Path.{fun_ext}
use Rattle.std.proofs.lemmas.List.{length-map}
use Rattle.std.proofs.lemmas.List.Sorted.{list_any-IsPermutation}
use Rattle.k_mark.specs.k_types.declared.names.Name.{Name}
use Rattle.k_mark.specs.k_types.declared.names.Link.{Link}
use Rattle.k_mark.specs.k_types.declared.names.CellPhase.{CellPhase}
use Rattle.k_mark.specs.k_types.declared.names.CellPhase.TheVariants.{Idle, Begun, Marked}
use Rattle.k_mark.specs.k_types.Names.{name_among, name_eq, name_of}
use Rattle.k_mark.specs.k_types.Owners.{object_bytes}
use Rattle.k_mark.specs.k_types.Reach.{reach_among}
use Rattle.k_mark.specs.k_types.declared.names.TypeId.{TypeId}
use Rattle.k_mark.specs.k_types.State.{Content, Object, refers, refers_in}
use Rattle.k_mark.specs.k_types.Totals.{total}
use Rattle.k_agree.proofs.NameTests.{name_eq-same}
use Rattle.k_mark.specs.k_space.Segments.{Color, White, Gray, Black, Row, SegmentValue, is_black, is_marked, gray_or_black, made, some_black, some_marked}
use Rattle.k_mark.specs.k_space.Areas.{AreaValue, black_at, gray_at, grayed, grayed_row, is_foreign, marked_at, row_of_name, segment_at, unmarked}
use Rattle.k_mark.proofs.AreaRows.{same_unmarked}
use Rattle.k_mark.specs.k_exit.Exits.{ExitList, ExitRow, IsTaken, has_target, target_marked, targets, unmarked as unmarked_exits}
use Rattle.k_mark.proofs.Takes.{targets_distinct}
use Rattle.k_mark.specs.Marking.{IsExit, IsReachedIn, refers_at}
use Rattle.k_mark.specs.Listening.{dead_at}
use Rattle.k_mark.specs.Sweeping.{dead_bytes, dead_objects, dead_row, survivor, swept, swept_segment}
use Rattle.k_agree.specs.k_tie.Values.{NoteValue}
use Rattle.k_agree.specs.Marking.{begun, marked}
use Rattle.k_mark.specs.Shown.{area_objects, AreNumberedBelow, HasNoneFrom}
use Rattle.k_mark.specs.Lists.{black_names, gray_names, made_list}
use Rattle.k_mark.specs.Parts.{IsMarkedPart}
use Rattle.k_mark.proofs.Changed.{swept_objects}
use Rattle.k_mark.proofs.Foreign.{area_has}
use Rattle.k_mark.proofs.Found.{at_map, map_number, same_numbered}
use Rattle.k_mark.proofs.Looked.{black_same, gray_one, gray_swept, row_swept, row_unmarked}
use Rattle.k_mark.proofs.Named.{black_named, gray_named, made_listed, marked_named, targets_named, unmarked_gray_empty}
use Rattle.k_mark.proofs.OfParts.{black_reached, exits_reached, map_begun, leads, black_marked}
use Rattle.k_mark.proofs.Shown.{any_area}
use Rattle.k_mark.proofs.Sums.{dead_counted, dead_weighed}
use Rattle.k_cell.specs.Changes.{HasDroppedExit, HasItsExits, HasMarked, HasRoot, freed_at, with_black_alone}
use Rattle.k_cell.specs.Holdings.{AreBegun, AreHoldings, AreMarksKept, cell_seen, holdings_seen, serial_rooms_of}
use Rattle.k_cell.proofs.Areas.{AreAlike, alike, same_below}
use Rattle.k_cell.proofs.Lists.{all_rows_marked, none_target_marked, unmarked_targets}
use Rattle.k_cell.proofs.Seen.{same_cell, same_holdings}
use Rattle.k_mark.proofs.Lists.{filter_stronger}
use Rattle.k_mark.proofs.BaseSums.{bit, parts_sum}
use Rattle.k_mark.proofs.Segs.{unmarked_twice}
use Rattle.k_mark.proofs.Rows.{black_unmarked}

-- what the holdings are besides, with another area that differs in marks
pub kept_alike : (bound bytes : ℕ) (phase other : CellPhase) (a b : AreaValue) (items others : List ExitRow) → AreAlike bound a b → AreHoldings bound bytes phase a items → AreMarksKept other b others → AreHoldings bound bytes other b others
kept_alike bound bytes phase other a b items others like kept marks =
    record { numbered = like.numbered kept.numbered; begun = like.begun kept.begun; weighed = kept.weighed ∙ sym (ap (total object_bytes) like.objects); marks = marks }

-- a collection begun
module _ (bound : ℕ) (phase : CellPhase) (a new : AreaValue) (e added : ExitList) (area_is : new ≡ unmarked a) (exits_is : added ≡ unmarked_exits e) where
  like : AreAlike bound a new
  like = alike a new (ap unmarked area_is ∙ unmarked_twice a) bound

  pub begun_seen : (note : NoteValue) → holdings_seen bound Begun new added note ≡ record (holdings_seen bound phase a e note) { value = begun [] (cell_seen bound phase a e.items) }
  begun_seen note =
      same_holdings note bound
      (same_cell Begun like.objects like.made (ap (λ (x : ExitList). targets x.items) exits_is ∙ unmarked_targets e.items) (ap (gray_names bound) area_is ∙ unmarked_gray_empty a bound) refl refl)
      like.room like.rooms (ap (λ (x : ExitList). x.room) exits_is)

  pub begun_kept : (bytes : ℕ) → AreHoldings bound bytes phase a e.items → AreHoldings bound bytes Begun new added.items
  begun_kept bytes kept = kept_alike bound bytes phase Begun a new e.items added.items like kept (not_black, not_marked)
    where
      not_black : (n : Name) → black_at new n ≡ false
      not_black n = ap (λ (x : AreaValue). black_at x n) area_is ∙ ap some_black (row_unmarked a n) ∙ black_unmarked (row_of_name a.segments n)

      not_marked : (n : Name) → target_marked added.items n ≡ false
      not_marked n = ap (λ (x : ExitList). target_marked x.items n) exits_is ∙ none_target_marked e.items n

-- a root
pub grayed_same : (a : AreaValue) (n : Name) → unmarked (grayed a n) ≡ unmarked a
grayed_same a n = by_row (row_of_name a.segments n) refl
  where
    by_row : (o : Option Row) → row_of_name a.segments n ≡ o → unmarked (grayed_row a n o) ≡ unmarked a
    by_row None e = refl
    by_row (Some row) e = same_unmarked a n row (gray_or_black row.color) e

module _ (bound bytes : ℕ) (a new : AreaValue) (items : List ExitRow) (n : Name) (kept : AreHoldings bound bytes Begun a items) (is : new ≡ grayed a n) where
  rooted_like : AreAlike bound a new
  rooted_like = alike a new (ap unmarked is ∙ grayed_same a n) bound

  rooted_kept_here : AreHoldings bound bytes Begun new items
  rooted_kept_here = kept_alike bound bytes Begun Begun a new items items rooted_like kept ((λ m. ap (λ (x : AreaValue). black_at x m) is ∙ black_same a n m ∙ kept.marks.0 m), kept.marks.1)

  rooted_here : HasRoot (cell_seen bound Begun a items) (cell_seen bound Begun new items) n
  rooted_here = record {
    rest = same_cell Begun rooted_like.objects rooted_like.made refl refl refl refl;
    gray = λ m.
        gray_named new bound m (rooted_like.numbered kept.numbered).none
        ∙ ap (λ (x : AreaValue). gray_at x m) is
        ∙ gray_one a n m (kept.marks.0 n)
        ∙ ap₂ (λ x y. x || (name_eq n m && y)) (sym (gray_named a bound m kept.numbered.none)) (sym (area_has a.segments bound kept.numbered.none n));
  }

pub rooted : (bound bytes : ℕ) (phase : CellPhase) (a new : AreaValue) (items : List ExitRow) (n : Name) → AreHoldings bound bytes phase a items → phase ≡ Begun → new ≡ grayed a n →
    HasRoot (cell_seen bound phase a items) (cell_seen bound phase new items) n
rooted bound bytes Idle a new items n kept begun is = absurd (cc)
rooted bound bytes Begun a new items n kept begun is = rooted_here bound bytes a new items n kept is
rooted bound bytes Marked a new items n kept begun is = absurd (cc)

pub rooted_kept : (bound bytes : ℕ) (phase : CellPhase) (a new : AreaValue) (items : List ExitRow) (n : Name) → AreHoldings bound bytes phase a items → phase ≡ Begun → new ≡ grayed a n → AreHoldings bound bytes phase new items
rooted_kept bound bytes Idle a new items n kept begun is = absurd (cc)
rooted_kept bound bytes Begun a new items n kept begun is = rooted_kept_here bound bytes a new items n kept is
rooted_kept bound bytes Marked a new items n kept begun is = absurd (cc)

pub rooted_rest : (bound : ℕ) (phase : CellPhase) (a new : AreaValue) (e : ExitList) (note : NoteValue) → unmarked new ≡ unmarked a →
    holdings_seen bound phase new e note ≡ record (holdings_seen bound phase a e note) { value = cell_seen bound phase new e.items }
rooted_rest bound phase a new e note same =
    let like = alike a new same bound in
    same_holdings note bound refl like.room like.rooms refl

refers_same : (a : AreaValue) (bound : ℕ) → HasNoneFrom a.segments bound → (x n : Name) → refers_in (area_objects bound a.segments) x n ≡ refers_at a x n
refers_same a bound none x n = any_area (λ (o : Object). name_eq o.name x && refers o n) x (λ o e. ap (λ b. b && refers o n) e) a.segments bound none ∙ leads x n (row_of_name a.segments x)

is_some_map : (o : Option SegmentValue) → is_some (option_map made o) ≡ is_some o
is_some_map None = refl
is_some_map (Some s) = refl

foreign_same : (a : AreaValue) (bound : ℕ) → HasNoneFrom a.segments bound → (n : Name) → not (is_some (get_or (made_list bound a.segments) n.seg.0 None)) ≡ is_foreign a n
foreign_same a bound none n = ap not (ap is_some (made_listed a.segments bound n.seg.0 none) ∙ is_some_map (segment_at a.segments n.seg.0))

pub exits_there : (bound : ℕ) (phase : CellPhase) (a : AreaValue) (items : List ExitRow) → HasNoneFrom a.segments bound → HasItsExits (cell_seen bound phase a items) →
    (x n : Name) → IsTrue (refers_at a x n) → IsTrue (is_foreign a n) → IsTrue (has_target items n)
exits_there bound phase a items none has_all x n r f = sym (targets_named items n) ∙ has_all x n (refers_same a bound none x n ∙ r) (foreign_same a bound none n ∙ f)

pub marks_clean : (bound bytes : ℕ) (phase : CellPhase) (a : AreaValue) (items : List ExitRow) → AreHoldings bound bytes phase a items → phase ≡ Begun → ((n : Name) → IsFalse (black_at a n)) × ((n : Name) → IsFalse (target_marked items n))
marks_clean bound bytes Idle a items kept begun = absurd (cc)
marks_clean bound bytes Begun a items kept begun = kept.marks
marks_clean bound bytes Marked a items kept begun = absurd (cc)

-- what the contract of marking says
pub record IsMarkedBy (a new : AreaValue) (e after : ExitList) : Type 0 where
  pub kept : unmarked new ≡ unmarked a
  pub targets : targets after.items ≡ targets e.items
  pub room : after.room ≡ e.room
  pub black : (n : Name) → IsFalse (gray_at new n)
  pub reached : (n : Name) → IsTrue (marked_at new n) ↔ IsReachedIn a n
  pub exits : (n : Name) → IsTrue (target_marked after.items n) ↔ IsExit a n

module _ (bound bytes : ℕ) (a new : AreaValue) (e after : ExitList) (kept : AreHoldings bound bytes Begun a e.items) (m : IsMarkedBy a new e after) where
  marked_like : AreAlike bound a new
  marked_like = alike a new m.kept bound

  part_marked : IsMarkedPart bound a new (record { objects = area_objects bound a.segments; made = λ k. option_map made (segment_at a.segments k); exits = λ n. false; scan = Some (gray_names bound a); process = None; phase = None })
  part_marked = record {
    shows = record { numbered = kept.numbered; begun = kept.begun; objects = refl; given = λ k. refl };
    roots = λ n. gray_named a bound n kept.numbered.none;
    marked = record { kept = m.kept; black = m.black; reached = m.reached };
  }

  marked_here : HasMarked (cell_seen bound Begun a e.items) (cell_seen bound Marked new after.items)
  marked_here = record {
    rest = same_cell Marked marked_like.objects marked_like.made m.targets refl refl refl;
    reached = record {
      objects = λ n. black_reached bound a new (record { objects = area_objects bound a.segments; made = λ k. option_map made (segment_at a.segments k); exits = λ n. false; scan = Some (gray_names bound a); process = None; phase = None }) part_marked n;
      exits = λ n.
          exits_reached bound a new (record { objects = area_objects bound a.segments; made = λ k. option_map made (segment_at a.segments k); exits = λ n. false; scan = Some (gray_names bound a); process = None; phase = None }) part_marked after.items n m.exits
          ∙ ap (λ b. b && list_any (λ (x : Object). refers x n) (reach_among (area_objects bound a.segments) (gray_names bound a))) (sym (foreign_same a bound kept.numbered.none n));
    };
  }

  marked_kept_here : AreHoldings bound bytes Marked new after.items
  marked_kept_here = kept_alike bound bytes Begun Marked a new e.items after.items marked_like kept m.black

pub marked_seen : (bound bytes : ℕ) (phase : CellPhase) (a new : AreaValue) (e after : ExitList) → AreHoldings bound bytes phase a e.items → phase ≡ Begun → IsMarkedBy a new e after →
    HasMarked (cell_seen bound phase a e.items) (cell_seen bound Marked new after.items)
marked_seen bound bytes Idle a new e after kept begun m = absurd (cc)
marked_seen bound bytes Begun a new e after kept begun m = marked_here bound bytes a new e after kept m
marked_seen bound bytes Marked a new e after kept begun m = absurd (cc)

pub marked_kept : (bound bytes : ℕ) (phase : CellPhase) (a new : AreaValue) (e after : ExitList) → AreHoldings bound bytes phase a e.items → phase ≡ Begun → IsMarkedBy a new e after → AreHoldings bound bytes Marked new after.items
marked_kept bound bytes Idle a new e after kept begun m = absurd (cc)
marked_kept bound bytes Begun a new e after kept begun m = marked_kept_here bound bytes a new e after kept m
marked_kept bound bytes Marked a new e after kept begun m = absurd (cc)

pub marked_rest : (bound : ℕ) (phase : CellPhase) (a new : AreaValue) (e after : ExitList) (note : NoteValue) → IsMarkedBy a new e after →
    holdings_seen bound Marked new after note ≡ record (holdings_seen bound phase a e note) { value = cell_seen bound Marked new after.items }
marked_rest bound phase a new e after note m =
    let like = alike a new m.kept bound in
    same_holdings note bound refl like.room like.rooms m.room

-- objects swept
module _ (bound bytes : ℕ) (a new : AreaValue) (items : List ExitRow) (kept : AreHoldings bound bytes Marked a items) (is : new ≡ swept a) where
  named_black : (n : Name) → marked_at a n ≡ name_among n (black_names bound a)
  named_black n = sym (black_named a bound n kept.numbered.none ∙ black_marked a kept.marks n)

  objects_swept : area_objects bound new.segments ≡ filter (λ (o : Object). name_among o.name (black_names bound a)) (area_objects bound a.segments)
  objects_swept = ap (λ (x : AreaValue). area_objects bound x.segments) is ∙ swept_objects a bound ∙ ap (λ (t : Name → Bool). filter (λ (o : Object). t o.name) (area_objects bound a.segments)) (fun_ext named_black)

  segments_swept : new.segments ≡ map swept_segment a.segments
  segments_swept = ap (λ (x : AreaValue). x.segments) is

  made_survives : (o : Option SegmentValue) → option_map made (option_map swept_segment o) ≡ option_map made o
  made_survives None = refl
  made_survives (Some s) = ap (λ l. Some (l - 1)) (length-map s.rows survivor)

  room_survives : (o : Option SegmentValue) → option_map (λ (s : SegmentValue). s.room) (option_map swept_segment o) ≡ option_map (λ (s : SegmentValue). s.room) o
  room_survives None = refl
  room_survives (Some s) = refl

  made_swept : made_list bound new.segments ≡ made_list bound a.segments
  made_swept =
      ap (λ (ss : List SegmentValue). made_list bound ss) segments_swept
      ∙ same_below (λ k. option_map made (segment_at (map swept_segment a.segments) k)) (λ k. option_map made (segment_at a.segments k)) bound
      (λ k. ap (option_map made) (at_map swept_segment (λ s. refl) a.segments k) ∙ made_survives (segment_at a.segments k))

  rooms_swept : serial_rooms_of bound new.segments ≡ serial_rooms_of bound a.segments
  rooms_swept =
      ap (λ (ss : List SegmentValue). serial_rooms_of bound ss) segments_swept
      ∙ same_below (λ k. option_map (λ (s : SegmentValue). s.room) (segment_at (map swept_segment a.segments) k)) (λ k. option_map (λ (s : SegmentValue). s.room) (segment_at a.segments k)) bound
      (λ k. ap (option_map (λ (s : SegmentValue). s.room)) (at_map swept_segment (λ s. refl) a.segments k) ∙ room_survives (segment_at a.segments k))

  black_left : (n : Name) → black_at new n ≡ black_at a n
  black_left n = ap (λ (x : AreaValue). black_at x n) is ∙ ap some_black (row_swept a n) ∙ by_row (row_of_name a.segments n)
    where
      by_color : (row : Row) (color : Color) → some_black (cond (is_marked color) (Some (record row { color = color })) None) ≡ is_black color
      by_color row White = refl
      by_color row Gray = refl
      by_color row Black = refl

      by_row : (o : Option Row) → some_black (survivor o) ≡ some_black o
      by_row None = refl
      by_row (Some row) = by_color row row.color

  black_of : (o : Object) → black_at a o.name ≡ true → name_among o.name (black_names bound a) ≡ true
  black_of o t = black_named a bound o.name kept.numbered.none ∙ t

  black_swept : black_names bound new ≡ black_names bound a
  black_swept =
      ap₂ (λ (t : Name → Bool) (os : List Object). map (λ (o : Object). o.name) (filter (λ (o : Object). t o.name) os)) (fun_ext black_left) objects_swept
      ∙ ap (map (λ (o : Object). o.name)) (filter_stronger (λ (o : Object). black_at a o.name) (λ (o : Object). name_among o.name (black_names bound a)) black_of (area_objects bound a.segments))

  swept_value : cell_seen bound Marked new items ≡ with_black_alone (cell_seen bound Marked a items)
  swept_value = same_cell Marked objects_swept made_swept refl refl black_swept refl

  dead_named : filter (λ (o : Object). not (marked_at a o.name)) (area_objects bound a.segments) ≡ filter (λ (o : Object). not (name_among o.name (black_names bound a))) (area_objects bound a.segments)
  dead_named = ap (λ (t : Name → Bool). filter (λ (o : Object). not (t o.name)) (area_objects bound a.segments)) (fun_ext named_black)

  dead_here : dead_objects a ≡ length (filter (λ (o : Object). not (name_among o.name (black_names bound a))) (area_objects bound a.segments))
  dead_here = dead_counted a bound kept.numbered ∙ ap (λ (os : List Object). length os) dead_named

  dead_bytes_here : dead_bytes a ≡ total object_bytes (filter (λ (o : Object). not (name_among o.name (black_names bound a))) (area_objects bound a.segments))
  dead_bytes_here = dead_weighed a bound kept.numbered ∙ ap (total object_bytes) dead_named

  freed_here : (n : Name) → dead_at a n ≡ freed_at (cell_seen bound Marked a items) n
  freed_here n =
      sym (ap₂ (λ h b. bit (h && not b)) (area_has a.segments bound kept.numbered.none n) (sym (named_black n)) ∙ by_row (row_of_name a.segments n))
    where
      by_color : (slot : ℕ) (color : Color) (ty : Option TypeId) (fields : List Content) → bit (not (is_marked color)) ≡ dead_row (Some (record { slot = slot; color = color; ty = ty; fields = fields }))
      by_color slot White ty fields = refl
      by_color slot Gray ty fields = refl
      by_color slot Black ty fields = refl

      by_row : (o : Option Row) → bit (is_some o && not (some_marked o)) ≡ dead_row o
      by_row None = refl
      by_row (Some row) = by_color row.slot row.color row.ty row.fields

  bytes_left : bytes ≡ total object_bytes (area_objects bound new.segments) + dead_bytes a
  bytes_left =
      let parts = parts_sum object_bytes (λ (o : Object). name_among o.name (black_names bound a)) (area_objects bound a.segments) in
      let now : total object_bytes (area_objects bound new.segments) ≡ total object_bytes (filter (λ (o : Object). name_among o.name (black_names bound a)) (area_objects bound a.segments)) = ap (total object_bytes) objects_swept in
      omega (arith, kept.weighed, parts, now, dead_bytes_here)

  kept_swept : (left : ℕ) → left + dead_bytes a ≡ bytes → AreHoldings bound left Marked new items
  kept_swept left e = record {
    numbered = subst (AreNumberedBelow bound) (sym segments_swept) (same_numbered a.segments (map swept_segment a.segments) bound (map_number swept_segment (λ s. refl) a.segments) kept.numbered);
    begun = subst AreBegun (sym segments_swept) (map_begun swept_segment (λ s. refl) (λ s. length-map s.rows survivor) a.segments kept.begun);
    weighed = omega (arith, e, bytes_left);
    marks = λ n. ap (λ (x : AreaValue). gray_at x n) is ∙ gray_swept a n (kept.marks n);
  }

pub record SweepIs (bound bytes : ℕ) (phase : CellPhase) (a : AreaValue) (items : List ExitRow) : Type 0 where
  pub objects : dead_objects a ≡ length (filter (λ (o : Object). not (name_among o.name (cell_seen bound phase a items).black)) (area_objects bound a.segments))
  pub bytes_of : dead_bytes a ≡ total object_bytes (filter (λ (o : Object). not (name_among o.name (cell_seen bound phase a items).black)) (area_objects bound a.segments))
  pub most : dead_bytes a ≤ bytes

pub sweep_is : (bound bytes : ℕ) (phase : CellPhase) (a : AreaValue) (items : List ExitRow) → AreHoldings bound bytes phase a items → phase ≡ Marked → SweepIs bound bytes phase a items
sweep_is bound bytes Idle a items kept marked = absurd (cc)
sweep_is bound bytes Begun a items kept marked = absurd (cc)
sweep_is bound bytes Marked a items kept marked = record {
  objects = dead_here bound bytes a (swept a) items kept refl;
  bytes_of = dead_bytes_here bound bytes a (swept a) items kept refl;
  most = omega (arith, bytes_left bound bytes a (swept a) items kept refl);
}

-- what is freed is what is not black
pub freed_named : (bound bytes : ℕ) (phase : CellPhase) (a : AreaValue) (items : List ExitRow) → AreHoldings bound bytes phase a items → phase ≡ Marked → (n : Name) → dead_at a n ≡ freed_at (cell_seen bound phase a items) n
freed_named bound bytes Idle a items kept marked n = absurd (cc)
freed_named bound bytes Begun a items kept marked n = absurd (cc)
freed_named bound bytes Marked a items kept marked n = freed_here bound bytes a (swept a) items kept refl n

pub swept_kept : (bound bytes left : ℕ) (phase : CellPhase) (a new : AreaValue) (items : List ExitRow) → AreHoldings bound bytes phase a items → phase ≡ Marked → new ≡ swept a → left + dead_bytes a ≡ bytes → AreHoldings bound left phase new items
swept_kept bound bytes left Idle a new items kept marked is e = absurd (cc)
swept_kept bound bytes left Begun a new items kept marked is e = absurd (cc)
swept_kept bound bytes left Marked a new items kept marked is e = kept_swept bound bytes a new items kept is left e

pub swept_seen : (bound bytes : ℕ) (phase : CellPhase) (a new : AreaValue) (e : ExitList) (note : NoteValue) → AreHoldings bound bytes phase a e.items → phase ≡ Marked → new ≡ swept a →
    holdings_seen bound phase new e note ≡ record (holdings_seen bound phase a e note) { value = with_black_alone (cell_seen bound phase a e.items) }
swept_seen bound bytes Idle a new e note kept marked is = absurd (cc)
swept_seen bound bytes Begun a new e note kept marked is = absurd (cc)
swept_seen bound bytes Marked a new e note kept marked is =
    same_holdings note bound (swept_value bound bytes a new e.items kept is) (ap (λ (x : AreaValue). x.room) is) (rooms_swept bound bytes a new e.items kept is) refl

-- an exit item added
pub added_kept : (bound bytes : ℕ) (phase : CellPhase) (a : AreaValue) (items others : List ExitRow) → AreHoldings bound bytes phase a items → phase ≡ Idle → AreHoldings bound bytes phase a others
added_kept bound bytes Idle a items others kept idle = record { numbered = kept.numbered; begun = kept.begun; weighed = kept.weighed; marks = tt }
added_kept bound bytes Begun a items others kept idle = absurd (cc)
added_kept bound bytes Marked a items others kept idle = absurd (cc)

-- an exit item taken
module _ (bound : ℕ) (a : AreaValue) (e after : ExitList) (link : Link) (row : ExitRow) (taken : IsTaken e after link row) where
  named_left : (m : Name) → name_among m (targets after.items) ≡ (name_among m (targets e.items) && not (name_eq (name_of link) m))
  named_left m = targets_named after.items m ∙ taken.left m ∙ ap₂ (λ x t. x && not (name_eq t m)) (sym (targets_named e.items m)) taken.target

  black_left_over : (phase : CellPhase) (m : Name) → name_among m (cell_seen bound phase a after.items).black_exits ≡ (name_among m (cell_seen bound phase a e.items).black_exits && not (name_eq (name_of link) m))
  black_left_over Idle m = refl
  black_left_over Begun m = refl
  black_left_over Marked m = marked_named after.items m ∙ taken.marks m ∙ ap₂ (λ x t. x && not (name_eq t m)) (sym (marked_named e.items m)) taken.target

  was_there : name_among (name_of link) (targets e.items) ≡ true
  was_there =
      targets_named e.items (name_of link)
      ∙ list_any-IsPermutation (λ (x : ExitRow). name_eq x.target (name_of link)) e.items (row ∷ after.items) taken.taken
      ∙ ap (λ b. b || has_target after.items (name_of link)) (name_eq-same row.target (name_of link) taken.target)

  pub dropped : (phase : CellPhase) → HasDroppedExit (cell_seen bound phase a e.items) (cell_seen bound phase a after.items) (name_of link)
  dropped phase = record {
    rest = refl;
    was = was_there;
    exits = named_left;
    black = black_left_over phase;
    fewer = omega (arith, taken.fewer, length-map after.items (λ (x : ExitRow). x.target), length-map e.items (λ (x : ExitRow). x.target));
    distinct = targets_distinct after.items taken.distinct;
  }

  pub dropped_kept : (bytes : ℕ) (phase : CellPhase) → AreHoldings bound bytes phase a e.items → AreHoldings bound bytes phase a after.items
  dropped_kept bytes phase kept = record { numbered = kept.numbered; begun = kept.begun; weighed = kept.weighed; marks = by_phase phase kept.marks }
    where
      still : (n : Name) → target_marked e.items n ≡ false → target_marked after.items n ≡ false
      still n off = taken.marks n ∙ ap (λ b. b && not (name_eq row.target n)) off

      by_phase : (q : CellPhase) → AreMarksKept q a e.items → AreMarksKept q a after.items
      by_phase Idle m = tt
      by_phase Begun m = (m.0, λ n. still n (m.1 n))
      by_phase Marked m = m

-- what is taken where the mark is looked at was not black
pub was_unmarked : (bound : ℕ) (phase : CellPhase) (a : AreaValue) (e after : ExitList) (link : Link) (row : ExitRow) → IsTaken e after link row → row.marked ≡ false →
    name_among (name_of link) (cell_seen bound phase a e.items).black_exits ≡ false
was_unmarked bound Idle a e after link row taken off = refl
was_unmarked bound Begun a e after link row taken off = refl
was_unmarked bound Marked a e after link row taken off =
    marked_named e.items (name_of link)
    ∙ list_any-IsPermutation (λ (x : ExitRow). name_eq x.target (name_of link) && x.marked) e.items (row ∷ after.items) taken.taken
    ∙ ap₂ (λ x y. x || y) (ap (λ b. name_eq row.target (name_of link) && b) off ∙ and_false (name_eq row.target (name_of link))) gone
  where
    and_false : (b : Bool) → (b && false) ≡ false
    and_false true = refl
    and_false false = refl

    gone : target_marked after.items (name_of link) ≡ false
    gone = taken.marks (name_of link) ∙ ap (λ b. target_marked e.items (name_of link) && not b) (name_eq-same row.target (name_of link) taken.target) ∙ and_false (target_marked e.items (name_of link))

pub all_black : (bound : ℕ) (phase : CellPhase) (a : AreaValue) (e : ExitList) → phase ≡ Marked → ((i : ℕ) (row : ExitRow) → slice_get e.items i ≡ Some row → IsTrue row.marked) →
    (n : Name) → IsTrue (name_among n (cell_seen bound phase a e.items).exits) → IsTrue (name_among n (cell_seen bound phase a e.items).black_exits)
all_black bound Idle a e marked all n t = absurd (cc)
all_black bound Begun a e marked all n t = absurd (cc)
all_black bound Marked a e marked all n t = marked_named e.items n ∙ all_rows_marked e.items all n (sym (targets_named e.items n) ∙ t)
