-- Marks beside the objects: for each segment a list, with one mark for each of its objects in order, or with none.
use Rattle.std.specs.Prelude.{◌≡◌, ℕ, ◌+◌, ◌<◌, ◌&&◌, ◌||◌, ◌⊎◌, not, cond, Bool, true, false, IsTrue, IsFalse, List, [], ◌∷◌, length, map, count_by, slice_index_or, Option, Some, None}
use Rattle.k_types.specs.declared.names.Heap.{Heap}
use Rattle.k_types.specs.declared.names.Name.{Name}
use Rattle.k_types.specs.Effects.{open_roots}
use Rattle.k_types.specs.Names.{heap_eq, name_eq, name_among}
use Rattle.k_types.specs.Numbers.{numbers_below}
use Rattle.k_types.specs.Owners.{owner_of}
use Rattle.k_types.specs.Reach.{reach_in}
use Rattle.k_types.specs.State.{Object, State, has}
use Rattle.k_types.specs.Totals.{total}
use Rattle.k_types.specs.Trace.{Trace, segment_count}
use Rattle.k_state.specs.Segments.{objects_in}

-- some object of that name is marked among these, by their marks
abbrev pub is_marked_in : List Object → List Bool → Name → Bool
is_marked_in [] marks n = false
is_marked_in (o ∷ objects) [] n = false
is_marked_in (o ∷ objects) (mark ∷ marks) n = (name_eq o.name n && mark) || is_marked_in objects marks n

-- some object of that name is marked, by the marks of its segment
abbrev pub is_marked : List Object → List (List Bool) → Name → Bool
is_marked objects marks n = is_marked_in (objects_in objects n.seg.0) (slice_index_or marks n.seg.0 []) n

-- how many marks each segment has
abbrev pub lengths : List (List Bool) → List ℕ
lengths marks = map (λ list. length list) marks

-- how many marks are not set
abbrev pub unmarked : List (List Bool) → ℕ
unmarked marks = total (λ list. count_by not list) marks

-- the segment is one of the heap, or any where no heap is given
abbrev pub covers : Trace → State → Option Heap → ℕ → Bool
covers trace st None seg = true
covers trace st (Some h) seg = heap_eq (owner_of trace st seg) h

-- a mark for each object of those segments, and none for those of others
unfoldable pub sizes_of : Trace → State → Option Heap → List ℕ
sizes_of trace st heap = map (λ seg. cond (covers trace st heap seg) (length (objects_in st.objects seg)) 0) (numbers_below (segment_count trace))

-- each mark of those segments is what the test says of its object's name
abbrev pub AreMarks : Trace → State → Option Heap → List (List Bool) → (Name → Bool) → Type 0
AreMarks trace st heap marks test =
    (seg : ℕ) → seg < segment_count trace → IsTrue (covers trace st heap seg) → slice_index_or marks seg [] ≡ map (λ o. test o.name) (objects_in st.objects seg)

-- the object is reached from the roots of the heap's open collection
abbrev pub is_reached : Trace → State → Heap → Name → Bool
is_reached trace st h n = has (reach_in trace st h (open_roots st h)) n

-- the object of that name is marked from now on, where there is one, and it is said whether it was not marked before
pub record IsMarked (objects : List Object) (name : Name) (old new : List (List Bool)) (fresh : Bool) : Type 0 where
  pub size : lengths new ≡ lengths old
  pub marks : (n : Name) → is_marked objects new n ≡ (is_marked objects old n || (has objects n && name_eq name n))
  pub same : IsFalse fresh → new ≡ old
  pub there : IsTrue fresh → IsTrue (has objects name)
  pub left : unmarked new + cond fresh 1 0 ≡ unmarked old

-- the objects of the pool that pass the test are marked from now on, and those that were not marked before are on the list
-- of work, beside what was there
pub record HasLooked (objects pool : List Object) (test : Name → Bool) (old new : List (List Bool)) (before after : List Name) : Type 0 where
  pub size : lengths new ≡ lengths old
  pub marks : (n : Name) → is_marked objects new n ≡ (is_marked objects old n || (has pool n && test n))
  pub listed : (n : Name) → IsTrue (is_marked objects new n) → IsTrue (is_marked objects old n) ⊎ IsTrue (name_among n after)
  pub kept : (n : Name) → IsTrue (name_among n before) → IsTrue (name_among n after)
  pub added : (n : Name) → IsTrue (name_among n after) → IsTrue (name_among n before) ⊎ IsTrue (is_marked objects new n)
  pub left : unmarked new + length after ≡ unmarked old + length before

-- the objects of the pool that pass the test are marked from now on
pub record HasFound (objects pool : List Object) (test : Name → Bool) (old new : List (List Bool)) : Type 0 where
  pub size : lengths new ≡ lengths old
  pub marks : (n : Name) → is_marked objects new n ≡ (is_marked objects old n || (has pool n && test n))
