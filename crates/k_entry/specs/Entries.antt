-- What a contract sees of the counted objects.
use Rattle.std.specs.Prelude.{◌≡◌, ℕ, zero, suc, ◌+◌, ◌<◌, ◌≤◌, ◌==◌, Bool, List, [], ◌∷◌, map, filter, length, count_by, slice_get, slice_index_or, Option, Some, None, if◌then◌else◌}
use Rattle.k_types.specs.declared.names.Name.{Name}
use Rattle.k_types.specs.declared.names.Heap.{Heap}
use Rattle.k_types.specs.declared.names.Heap.TheVariants.{Kernel}
use Rattle.k_types.specs.Names.{name_eq, heap_eq}
use Rattle.k_types.specs.Counted.{Counted, counted}

-- the items in the order of the walks, the home heap of each segment, and how many items there can be
pub record EntryValue : Type 0 where
  pub items : List Counted
  pub homes : List Heap
  pub room : ℕ

-- the home of a segment
abbrev pub home_of : List Heap → ℕ → Heap
home_of homes seg = slice_index_or homes seg Kernel

-- the item's segment has that home
abbrev pub is_at_home : List Heap → Heap → Counted → Bool
is_at_home homes h item = heap_eq (home_of homes item.object.seg.0) h

-- the items whose home is that heap, in the order of the walk
abbrev pub items_of : EntryValue → Heap → List Counted
items_of v h = filter (is_at_home v.homes h) v.items

-- the names of the items
abbrev pub objects : List Counted → List Name
objects items = map (λ item. item.object) items

-- the name of the first item
abbrev pub first_object : List Counted → Option Name
first_object [] = None
first_object (item ∷ items) = Some item.object

-- the object after that one
abbrev pub object_after : List Counted → Name → Option Name
object_after [] t = None
object_after (item ∷ items) t = if name_eq item.object t then first_object items else object_after items t

-- the objects that a walk passes from one on, so many at most
unfoldable pub passed : List Counted → ℕ → Option Name → List Name
passed items zero from = []
passed items (suc n) None = []
passed items (suc n) (Some t) = t ∷ passed items n (object_after items t)

-- each object stands there once, with a count above 0 and in a segment that has a home, and all have room
pub record AreEntries (v : EntryValue) : Type 0 where
  pub distinct : (t : Name) → count_by (λ item. name_eq item.object t) v.items ≤ 1
  pub some : (i : ℕ) (item : Counted) → slice_get v.items i ≡ Some item → 0 < item.count
  pub homed : (i : ℕ) (item : Counted) → slice_get v.items i ≡ Some item → item.object.seg.0 < length v.homes
  pub within : length v.items ≤ v.room

-- that object is counted once more, and all else stays; the order of the items is free
pub record HasMore (old new : EntryValue) (t : Name) : Type 0 where
  pub counts : (n : Name) → counted new.items n ≡ counted old.items n + (if name_eq t n then 1 else 0)
  pub items : length new.items ≡ length old.items + (if counted old.items t == 0 then 1 else 0)
  pub homes : new.homes ≡ old.homes
  pub room : new.room ≡ old.room
  pub entries : AreEntries new

-- that object is counted once less, its item is gone where that was all, and all else stays; the order of the items is free
pub record HasLess (old new : EntryValue) (t : Name) : Type 0 where
  pub counts : (n : Name) → counted new.items n + (if name_eq t n then 1 else 0) ≡ counted old.items n
  pub items : length new.items + (if counted old.items t == 1 then 1 else 0) ≡ length old.items
  pub homes : new.homes ≡ old.homes
  pub room : new.room ≡ old.room
  pub entries : AreEntries new
