-- How the items are kept. No public clause cites this file.
use Rattle.std.specs.Prelude.{◌≡◌, ℕ, ◌+◌, ◌-◌, ◌%◌, ◌<◌, ◌≤◌, ◌==◌, ◌^◌, IsTrue, List, [], ◌∷◌, map, filter, length, count_by, slice_get, slice_set, slice_index_or, Option, Some, None, if◌then◌else◌}
use Rattle.std.specs.List.{concat}
use Rattle.k_types.specs.declared.names.Name.{Name}
use Rattle.k_types.specs.declared.names.Heap.{Heap}
use Rattle.k_types.specs.declared.names.Heap.TheVariants.{Kernel, User, Shared}
use Rattle.k_types.specs.Names.{name_eq, heap_eq}
use Rattle.k_types.specs.Counted.{Counted}
use Rattle.k_lists.specs.Lists.{ListsValue, AreApart, IsFree, members, is_in, without}
use Rattle.k_lists.specs.Hash.{bucket as chain}
use Rattle.k_entry.specs.declared.item.Item.{Item}
use Rattle.k_entry.specs.Entries.{EntryValue, home_of}

-- an item as contracts see it
abbrev pub row_of : Item → Counted
row_of item = record { object = item.target; count = item.count }

-- what is read where there is no slot
abbrev pub blank : Item
blank = record { target = record { seg = record { 0 = 0 }; serial = record { 0 = 0 } }; count = 0 }

-- the item in the slot
abbrev pub at : List Item → ℕ → Item
at slots i = slice_index_or slots i blank

-- the objects in the slots
abbrev pub objects_in : List Item → List ℕ → List Name
objects_in slots is = map (λ i. (at slots i).target) is

-- a slot's item as contracts see it
abbrev pub row_at : List Item → ℕ → Counted
row_at slots i = row_of (at slots i)

-- the hash chains: how many there are, and the number of an object's
unfoldable pub buckets : ℕ → ℕ
buckets room = if room == 0 then 1 else room

-- the number of the chain of an object
unfoldable pub bucket : ℕ → Name → ℕ
bucket room t = chain (buckets room) t

-- the number of the walk on which the segments of a heap are, by the number of segments
unfoldable pub walk_of : ℕ → Heap → ℕ
walk_of n Kernel = 0
walk_of n (User p) = (1 + p.0) % (n + 1)
walk_of n (Shared s) = n - 1 - s.0

-- the walks after a segment was put on one, where it had no slot
abbrev pub entered : ListsValue → ℕ → ℕ → List ℕ → ListsValue
entered walks walk seg [] = record walks { lists = slice_set walks.lists walk (seg ∷ members walks walk) }
entered walks walk seg (i ∷ is) = walks

-- the walks after a segment was taken off one, where it has no slot left
abbrev pub left : ListsValue → ℕ → ℕ → List ℕ → ListsValue
left walks walk seg [] = record walks { lists = slice_set walks.lists walk (without seg (members walks walk)) }
left walks walk seg (i ∷ is) = walks

-- the walks after a segment that has a slot went from one to another
abbrev pub changed : ListsValue → ℕ → ℕ → ℕ → List ℕ → ListsValue
changed walks from into seg [] = walks
changed walks from into seg (i ∷ is) = entered (left walks from seg []) into seg []

-- the segments of that home
abbrev pub homed : List Heap → Heap → List ℕ → List ℕ
homed homes heap segs = filter (λ s. heap_eq (home_of homes s) heap) segs

-- the first slot of the first of these segments
abbrev pub first_slot : ListsValue → List ℕ → Option ℕ
first_slot segments [] = None
first_slot segments (s ∷ segs) = slice_get (members segments s) 0

-- the members from that one on
abbrev pub since : ℕ → List ℕ → List ℕ
since i [] = []
since i (x ∷ xs) = if x == i then x ∷ xs else since i xs

-- the members from the next slot on, if there is one
abbrev pub onward : List ℕ → Option ℕ → List ℕ
onward xs None = []
onward xs (Some i) = since i xs

-- a slot that was in the list of free ones, or a new one, has the item and is in no list; other slots and lists stay
pub record GivesSlot (slots given : List Item) (lists after : ListsValue) (free i : ℕ) (item : Item) : Type 0 where
  pub here : at given i ≡ item
  pub others : (j : ℕ) → (j ≡ i → ⊥) → at given j ≡ at slots j
  pub within : i < length given
  pub grows : length slots ≤ length given
  pub by_one : length given ≤ length slots + 1
  pub again : 0 < length (members lists free) → length given ≡ length slots
  pub count : length given + length (members lists free) ≡ length slots + length (members after free) + 1
  pub same : (list : ℕ) → (list ≡ free → ⊥) → members after list ≡ members lists list
  pub rest : (j : ℕ) → IsTrue (is_in (members after free) j) → IsTrue (is_in (members lists free) j)
  pub unlisted : IsFree after i
  pub size : length after.lists ≡ length lists.lists
  pub room : after.room ≡ lists.room

-- the parts of a table
pub record Parts : Type 0 where
  pub slots : List Item
  pub chains : ListsValue
  pub segments : ListsValue
  pub walks : ListsValue
  pub homes : List Heap
  pub room : ℕ

-- the segments on the walks, and the slots in these
abbrev pub order : Parts → List ℕ
order p = concat p.walks.lists

-- the slots of the items, in the order of the walks
abbrev pub used : Parts → List ℕ
used p = concat (map (members p.segments) (order p))

-- the table as contracts see it
abbrev pub shown : Parts → EntryValue
shown p = record { items = map (row_at p.slots) (used p); homes = p.homes; room = p.room }

-- how many lists there are, and over how many numbers
pub record HaveSizes (p : Parts) : Type 0 where
  pub chains : length p.chains.lists ≡ buckets p.room
  pub chains_room : p.chains.room ≡ p.room
  pub segments : length p.segments.lists ≡ length p.homes + 1
  pub segments_room : p.segments.room ≡ p.room
  pub walks : length p.walks.lists ≡ length p.homes + 1
  pub walks_room : p.walks.room ≡ length p.homes
  pub homes : length p.homes < 2 ^ 32
  pub slots : length p.slots ≤ p.room

-- the slot is an item's, and that chain is its object's
pub record IsListed (p : Parts) (chain i : ℕ) : Type 0 where
  pub own : chain ≡ bucket p.room (at p.slots i).target
  pub homed : (at p.slots i).target.seg.0 < length p.homes
  pub there : IsTrue (is_in (members p.segments (at p.slots i).target.seg.0) i)

-- the objects are distinct; what is in a list of a segment is an item of that segment, in its chain; what is in a chain is in the list of its segment;
-- a segment that has an item, and no other, is on the walk of its home; and each slot is an item's or free
pub record AreKept (p : Parts) : Type 0 where
  pub distinct : (t : Name) → count_by (λ item. name_eq item.object t) (shown p).items ≤ 1
  pub sizes : HaveSizes p
  pub segments_apart : AreApart p.segments
  pub walks_apart : AreApart p.walks
  pub below : (list i : ℕ) → IsTrue (is_in (members p.segments list) i) → i < length p.slots
  pub positive : (s i : ℕ) → s < length p.homes → IsTrue (is_in (members p.segments s) i) → 0 < (at p.slots i).count
  pub placed : (s i : ℕ) → s < length p.homes → IsTrue (is_in (members p.segments s) i) → (at p.slots i).target.seg.0 ≡ s
  pub chained : (s i : ℕ) → s < length p.homes → IsTrue (is_in (members p.segments s) i) → IsTrue (is_in (members p.chains (bucket p.room (at p.slots i).target)) i)
  pub listed : (chain i : ℕ) → IsTrue (is_in (members p.chains chain) i) → IsListed p chain i
  pub walked : (s i : ℕ) → s < length p.homes → IsTrue (is_in (members p.segments s) i) → IsTrue (is_in (members p.walks (walk_of (length p.homes) (home_of p.homes s))) s)
  pub live : (walk s : ℕ) → IsTrue (is_in (members p.walks walk) s) → (walk ≡ walk_of (length p.homes) (home_of p.homes s)) × (0 < length (members p.segments s))
  pub full : length (used p) + length (members p.segments (length p.homes)) ≡ length p.slots

-- each slot with a count above 0 is in the chain of its object; a free slot has a count of 0
abbrev pub AreKnown : Parts → Type 0
AreKnown p = (i : ℕ) → 0 < (at p.slots i).count → IsTrue (is_in (members p.chains (bucket p.room (at p.slots i).target)) i)

-- of the first so many slots each one that has an item is in the chain of its object, and there is nothing else in the chains
pub record AreChained (slots : List Item) (room count : ℕ) (chains : ListsValue) : Type 0 where
  pub lists : length chains.lists ≡ buckets room
  pub over : chains.room ≡ room
  pub there : (i : ℕ) → i < count → 0 < (at slots i).count → IsTrue (is_in (members chains (bucket room (at slots i).target)) i)
  pub only : (chain i : ℕ) → IsTrue (is_in (members chains chain) i) → (i < count) × (0 < (at slots i).count) × (chain ≡ bucket room (at slots i).target)
