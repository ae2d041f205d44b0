-- What calls change of a cell, as functions of its value.
use Rattle.std.specs.Prelude.{◌≡◌, ℕ, Bool, ◌+◌, ◌==◌, ◌&&◌, ◌||◌, not, [], ◌∷◌, ◌++◌, map, filter, length, slice_index_or, slice_set, Option, Some, None, IsTrue, if◌then◌else◌}
use Rattle.k_mark.specs.k_types.declared.names.Name.{Name}
use Rattle.k_mark.specs.k_types.Agree.{CellValue}
use Rattle.k_mark.specs.k_types.Names.{name_eq, name_among}
use Rattle.k_mark.specs.k_types.State.{Content, Holds, Refers, has, refers_in}
use Rattle.k_mark.specs.k_types.Updates.{object_after_write, with_object}
use Rattle.k_mark.specs.k_types.Distinct.{AreDistinctNames}
use Rattle.k_mark.specs.k_space.Objects.{BodyValue}
use Rattle.k_mark.specs.k_space.Segments.{SegmentValue, made, segment_objects}
use Rattle.k_mark.specs.k_laws.CellChanges.{given, with_objects}
use Rattle.k_cell.specs.Looks.{found_among, holds_int, holds_ref}
use Rattle.k_agree.specs.Marking.{AreReached, begun, is_foreign_in, marked}

-- the name of the segment's next object
abbrev pub next_in : ℕ → CellValue → Name
next_in seg v = record { seg = record { 0 = seg }; serial = record { 0 = given (slice_index_or v.made seg None) + 1 } }

-- the segment has one more object
abbrev pub with_body : ℕ → BodyValue → CellValue → CellValue
with_body seg body v = record v {
  objects = with_object (record { name = next_in seg v; ty = body.ty; fields = body.fields }) v.objects;
  made = slice_set v.made seg (Some (given (slice_index_or v.made seg None) + 1));
}

-- the field of the object holds that
abbrev pub with_field : Name → ℕ → Content → CellValue → CellValue
with_field n i content v = record v { objects = map (object_after_write n i content) v.objects }

-- the field of the object, if it is there and a reference, holds that one
abbrev pub with_stored : Name → ℕ → Option Name → CellValue → CellValue
with_stored n i target v = if holds_ref (found_among v.objects n i) then with_field n i (Refers target) v else v

-- the field of the object, if it is there and an integer, holds that number
abbrev pub with_put : Name → ℕ → ℕ → CellValue → CellValue
with_put n i number v = if holds_int (found_among v.objects n i) then with_field n i (Holds number) v else v

-- the cell has an exit item to that object
abbrev pub with_exit_item : Name → CellValue → CellValue
with_exit_item n v = record v { exits = if name_among n v.exits then v.exits else v.exits ++ n ∷ [] }

-- the cell has the objects of one more segment
abbrev pub with_segment_of : SegmentValue → CellValue → CellValue
with_segment_of s v = record v { objects = with_objects (segment_objects s) v.objects; made = slice_set v.made s.number (Some (made s)) }

-- the cell has no segment of that number
abbrev pub without_segment : ℕ → CellValue → CellValue
without_segment number v = record v { objects = filter (λ o. not (o.name.seg.0 == number)) v.objects; made = slice_set v.made number None }

-- its objects are those that are black
abbrev pub with_black_alone : CellValue → CellValue
with_black_alone v = record v { objects = filter (λ o. name_among o.name v.black) v.objects }

-- 1 for an object that is not black
abbrev pub freed_at : CellValue → Name → ℕ
freed_at v n = if has v.objects n && not (name_among n v.black) then 1 else 0

-- that exit item is gone, and no other; the rest stand in any order, black or not as they were
pub record HasDroppedExit (old new : CellValue) (n : Name) : Type 0 where
  pub rest : new ≡ record old { exits = new.exits; black_exits = new.black_exits }
  pub was : IsTrue (name_among n old.exits)
  pub exits : (m : Name) → name_among m new.exits ≡ (name_among m old.exits && not (name_eq n m))
  pub black : (m : Name) → name_among m new.black_exits ≡ (name_among m old.black_exits && not (name_eq n m))
  pub fewer : length new.exits + 1 ≡ length old.exits
  pub distinct : AreDistinctNames new.exits

-- that object is gray too, if it is one of the cell's, and no other
pub record HasRoot (old new : CellValue) (n : Name) : Type 0 where
  pub rest : new ≡ begun new.gray old
  pub gray : (m : Name) → name_among m new.gray ≡ (name_among m old.gray || (name_eq n m && has old.objects n))

-- a collection of the cell has begun: some objects may be gray, and nothing is black
abbrev pub HasBegun : CellValue → Type 0
HasBegun v = v ≡ begun v.gray v

-- the objects of the cell that the test names are gray too, and nothing else has changed
pub record HasGrayed (test : Name → Bool) (old new : CellValue) : Type 0 where
  pub rest : new ≡ begun new.gray old
  pub gray : (n : Name) → name_among n new.gray ≡ (name_among n old.gray || (test n && has old.objects n))

-- marking found what the gray objects reach
pub record HasMarked (old new : CellValue) : Type 0 where
  pub rest : new ≡ marked new.black new.black_exits old
  pub reached : AreReached old new.black new.black_exits

-- there is an exit item to each object outside the cell's segments to which an object of the cell refers
abbrev pub HasItsExits : CellValue → Type 0
HasItsExits v = (x n : Name) → IsTrue (refers_in v.objects x n) → IsTrue (is_foreign_in v n) → IsTrue (name_among n v.exits)
