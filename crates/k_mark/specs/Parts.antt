-- An area that shows the part of a cell, as the machine has it.
use Rattle.std.specs.Prelude.{◌≡◌, ℕ, ◌<◌, ◌↔◌, not, List, [], ◌∷◌, length, IsTrue, IsFalse, Some, None, is_some, option_map, unwrap_or}
use Rattle.k_laws.specs.k_types.declared.names.Name.{Name}
use Rattle.k_laws.specs.k_types.Names.{name_among}
use Rattle.k_laws.specs.k_types.State.{has, refers_in}
use Rattle.k_laws.specs.k_types.Cells.{CellPart}
use Rattle.k_space.specs.Segments.{SegmentValue, made}
use Rattle.k_space.specs.Areas.{AreaValue, segment_at, marked_at, gray_at, is_foreign, unmarked}
use Rattle.k_exit.specs.Exits.{ExitRow, target_marked}
use Rattle.k_mark.specs.Marking.{IsReachedIn, IsExit}
use Rattle.k_mark.specs.Shown.{area_objects, AreNumberedBelow}

-- the segments have different numbers below the bound, and the part's objects and given serials are theirs
pub record ShowsPart (bound : ℕ) (segments : List SegmentValue) (c : CellPart) : Type 0 where
  pub numbered : AreNumberedBelow bound segments
  pub begun : (number : ℕ) (s : SegmentValue) → segment_at segments number ≡ Some s → 0 < length s.rows
  pub objects : c.objects ≡ area_objects bound segments
  pub given : (number : ℕ) → c.made number ≡ option_map made (segment_at segments number)

-- the segments show the one part and the segment of its own the other, and its number is new
pub record ShowBoth (bound : ℕ) (segments : List SegmentValue) (s : SegmentValue) (kernel heap : CellPart) : Type 0 where
  pub kernel_shown : ShowsPart bound segments kernel
  pub heap_shown : ShowsPart bound (s ∷ []) heap
  pub new : segment_at segments s.number ≡ None

-- the gray objects are the roots of the part's open collection
abbrev pub AreRootsGray : AreaValue → CellPart → Type 0
AreRootsGray a c = (n : Name) → name_among n (unwrap_or c.scan []) ≡ gray_at a n

-- marking led from the gray objects of the first area to the second, as the contract of mark says
pub record IsMarkedFrom (begun ended : AreaValue) : Type 0 where
  pub kept : unmarked ended ≡ unmarked begun
  pub black : (n : Name) → IsFalse (gray_at ended n)
  pub reached : (n : Name) → IsTrue (marked_at ended n) ↔ IsReachedIn begun n

-- the first area showed the part, the roots of its open collection gray, and marking led from it to the second
pub record IsMarkedPart (bound : ℕ) (begun ended : AreaValue) (c : CellPart) : Type 0 where
  pub shows : ShowsPart bound begun.segments c
  pub roots : AreRootsGray begun c
  pub marked : IsMarkedFrom begun ended

-- the marked exit items are those that reached objects of the area refer to, as the contract of mark says
abbrev pub AreExitsMarked : AreaValue → List ExitRow → Type 0
AreExitsMarked begun items = (n : Name) → IsTrue (target_marked items n) ↔ IsExit begun n

-- each reference of an object of the part into a segment of its own leads to one of its objects
abbrev pub IsSoundInside : CellPart → Type 0
IsSoundInside c = (x n : Name) → IsTrue (refers_in c.objects x n) → IsTrue (is_some (c.made n.seg.0)) → IsTrue (has c.objects n)

-- of what the part's objects refer to, that is foreign to the area which is no object of the part
abbrev pub AreForeignTold : AreaValue → CellPart → Type 0
AreForeignTold a c = (x n : Name) → IsTrue (refers_in c.objects x n) → is_foreign a n ≡ not (has c.objects n)
