-- What is seen of the holdings of a cell, and how the tables show it.
use Rattle.std.specs.Prelude.{◌≡◌, ◌⊎◌, ◌+◌, ◌^◌, ◌<◌, ◌≤◌, ◌==◌, count_by, if◌then◌else◌, slice_set, ℕ, List, [], map, length, slice_index_or, Option, Some, None, option_map, IsFalse}
use Rattle.k_mark.specs.k_types.declared.names.Name.{Name}
use Rattle.k_mark.specs.k_types.declared.names.CellPhase.{CellPhase}
use Rattle.k_mark.specs.k_types.declared.names.CellPhase.TheVariants.{Idle, Begun, Marked}
use Rattle.k_mark.specs.k_types.Agree.{CellValue}
use Rattle.k_mark.specs.k_types.Numbers.{numbers_below}
use Rattle.k_mark.specs.k_types.Owners.{object_bytes}
use Rattle.k_mark.specs.k_types.State.{Object}
use Rattle.k_mark.specs.k_types.Totals.{total}
use Rattle.k_mark.specs.k_space.Segments.{SegmentValue, made, segment_objects}
use Rattle.k_mark.specs.k_space.Areas.{AreaValue, segment_at, gray_at, black_at}
use Rattle.k_mark.specs.k_exit.Exits.{ExitList, ExitRow, target_marked, targets}
use Rattle.k_mark.specs.k_laws.CellChanges.{with_objects}
use Rattle.k_cell.specs.declared.rooms.HoldingRooms.{HoldingRooms}
use Rattle.k_cell.specs.Changes.{with_segment_of, without_segment}
use Rattle.k_agree.specs.k_tie.Values.{NoteValue}
use Rattle.k_mark.specs.Shown.{area_objects, AreNumberedBelow}
use Rattle.k_mark.specs.Lists.{made_list, gray_names, black_names, marked_targets}

-- what a cell shows of its heap, its note, and the rooms: how many numbers for segments there are, how many segments the cell
-- can have, how many objects can live in each of them at once, and how many exit items there can be
pub record HoldingsValue : Type 0 where
  pub value : CellValue
  pub note : NoteValue
  pub bound : ℕ
  pub segment_room : ℕ
  pub serial_rooms : List (Option ℕ)
  pub exit_room : ℕ

-- for each number below the bound, how many objects can live in its segment at once
abbrev pub serial_rooms_of : ℕ → List SegmentValue → List (Option ℕ)
serial_rooms_of bound segments = map (λ number. option_map (λ s. s.room) (segment_at segments number)) (numbers_below bound)

-- the gray objects, while a collection has begun
abbrev pub gray_in : CellPhase → ℕ → AreaValue → List Name
gray_in Idle bound a = []
gray_in Begun bound a = gray_names bound a
gray_in Marked bound a = []

-- the black objects, once marking is done
abbrev pub black_in : CellPhase → ℕ → AreaValue → List Name
black_in Idle bound a = []
black_in Begun bound a = []
black_in Marked bound a = black_names bound a

-- the marked exit items, once marking is done
abbrev pub black_exits_in : CellPhase → List ExitRow → List Name
black_exits_in Idle items = []
black_exits_in Begun items = []
black_exits_in Marked items = marked_targets items

-- the cell as its area and exit items show it
abbrev pub cell_seen : ℕ → CellPhase → AreaValue → List ExitRow → CellValue
cell_seen bound phase a items = record {
  objects = area_objects bound a.segments;
  made = made_list bound a.segments;
  exits = targets items;
  process = None;
  phase = None;
  tail = [];
  collection = phase;
  gray = gray_in phase bound a;
  black = black_in phase bound a;
  black_exits = black_exits_in phase items;
}

-- the holdings as their tables show them
abbrev pub holdings_seen : ℕ → CellPhase → AreaValue → ExitList → NoteValue → HoldingsValue
holdings_seen bound phase a exits note = record {
  value = cell_seen bound phase a exits.items;
  note = note;
  bound = bound;
  segment_room = a.room;
  serial_rooms = serial_rooms_of bound a.segments;
  exit_room = exits.room;
}

-- once a collection has begun nothing is black, and once it is marked nothing is gray
abbrev pub AreMarksKept : CellPhase → AreaValue → List ExitRow → Type 0
AreMarksKept Idle a items = Unit {0}
AreMarksKept Begun a items = ((n : Name) → IsFalse (black_at a n)) × ((n : Name) → IsFalse (target_marked items n))
AreMarksKept Marked a items = (n : Name) → IsFalse (gray_at a n)

-- each segment has its row at serial 0, where no object is
abbrev pub AreBegun : List SegmentValue → Type 0
AreBegun segments = (number : ℕ) (s : SegmentValue) → segment_at segments number ≡ Some s → 0 < length s.rows

-- what always holds of the tables: the segments have different numbers below the bound and are begun, the count of bytes is
-- that of the objects, and the marks are those of the phase
pub record AreHoldings (bound bytes : ℕ) (phase : CellPhase) (a : AreaValue) (items : List ExitRow) : Type 0 where
  pub numbered : AreNumberedBelow bound a.segments
  pub begun : AreBegun a.segments
  pub weighed : bytes ≡ total object_bytes (area_objects bound a.segments)
  pub marks : AreMarksKept phase a items

-- how many of the objects are of that segment
abbrev pub living_in : ℕ → List Object → ℕ
living_in seg objects = count_by (λ o. o.name.seg.0 == seg) objects

-- the segment is there and has room for one more object: fewer of its objects live than can at once, and a serial is left, both
-- of which hold where fewer serials were ever given
pub record HasObjectRoom (holdings : HoldingsValue) (seg : ℕ) : Type 0 where
  pub given : ℕ
  pub room : ℕ
  pub there : slice_index_or holdings.value.made seg None ≡ Some given
  pub can_give : slice_index_or holdings.serial_rooms seg None ≡ Some room
  pub left : (given < room) ⊎ ((living_in seg holdings.value.objects < room) × (given + 2 < 2 ^ 32))

-- by these rooms the segment is there, and no more than so many objects can live in it at once
pub record CanGrowTo (rooms : List (Option ℕ)) (seg room : ℕ) : Type 0 where
  pub now : ℕ
  pub there : slice_index_or rooms seg None ≡ Some now
  pub more : now ≤ room

-- by these rooms the segment is there, so many objects can live in it at once, and no more of these do
pub record CanNarrowTo (rooms : List (Option ℕ)) (objects : List Object) (seg room : ℕ) : Type 0 where
  pub now : ℕ
  pub there : slice_index_or rooms seg None ≡ Some now
  pub less : room ≤ now
  pub enough : living_in seg objects ≤ room

-- no more of the objects are of that segment than can live in it at once by these rooms
abbrev pub AreWithin : List (Option ℕ) → List Object → ℕ → Type 0
AreWithin rooms objects seg = (now : ℕ) → slice_index_or rooms seg None ≡ Some now → living_in seg objects ≤ now

-- a cell whose only segment has that number and no object yet
abbrev pub fresh_cell : ℕ → ℕ → CellValue
fresh_cell bound seg = record {
  objects = [];
  made = map (λ number. if number == seg then Some 0 else None) (numbers_below bound);
  exits = [];
  process = None;
  phase = None;
  tail = [];
  collection = Idle;
  gray = [];
  black = [];
  black_exits = [];
}

-- the holdings with which a cell begins
abbrev pub fresh_holdings : ℕ → HoldingRooms → NoteValue → HoldingsValue
fresh_holdings seg rooms note = record {
  value = fresh_cell rooms.bound seg;
  note = note;
  bound = rooms.bound;
  segment_room = rooms.segments;
  serial_rooms = map (λ number. if number == seg then Some rooms.objects else None) (numbers_below rooms.bound);
  exit_room = rooms.exits;
}

-- the holdings with one segment more
abbrev pub with_segment_added : SegmentValue → HoldingsValue → HoldingsValue
with_segment_added s h = record h { value = with_segment_of s h.value; serial_rooms = slice_set h.serial_rooms s.number (Some s.room) }

-- the segment of that number is given away, and no other
pub record HasGivenSegment (old new : HoldingsValue) (number : ℕ) (s : SegmentValue) : Type 0 where
  pub number_is : s.number ≡ number
  pub rest : new ≡ record old { value = without_segment number old.value; serial_rooms = slice_set old.serial_rooms number None }
  pub parts : old.value.objects ≡ with_objects (segment_objects s) new.value.objects
  pub made : slice_index_or old.value.made number None ≡ Some (made s)
  pub room : slice_index_or old.serial_rooms number None ≡ Some s.room
  pub empty : ((k : ℕ) → slice_index_or new.value.made k None ≡ None) → new.value.objects ≡ []
