-- How the items are linked. No public clause cites this file.
use Rattle.std.specs.Prelude.{◌≡◌, ℕ, zero, suc, ◌-◌, ◌<◌, ◌≤◌, ◌==◌, ◌^◌, ◌&&◌, ◌⊎◌, not, Bool, true, false, List, length, take, slice_get, slice_set, slice_index_or, if◌then◌else◌, Option, Some, None}
use Rattle.k_lists.specs.Hash.{bucket}
use Rattle.k_exit.specs.declared.chains.Item.{Item}
use Rattle.k_exit.specs.declared.table.Wanted.{Wanted}
use Rattle.k_exit.specs.declared.table.Wanted.TheVariants.{Any, Unmarked, Into}
use Rattle.k_exit.specs.Exits.{ExitRow}

-- an item as contracts see it
abbrev pub row_of : Item → ExitRow
row_of s = record { target = s.target; marked = s.marked }

-- what is read where there is no item
abbrev pub blank : Item
blank = record { target = record { seg = record { 0 = 0 }; serial = record { 0 = 0 } }; marked = false; next = 0 }

-- the item at the place
abbrev pub at : List Item → ℕ → Item
at items i = slice_index_or items i blank

-- the items where the one at i has another link
abbrev pub with_next : List Item → ℕ → ℕ → List Item
with_next items i next = slice_set items i (record (at items i) { next = next })

-- one more than the last place below k that passes; 0 where none does
unfoldable pub last : (ℕ → Bool) → ℕ → ℕ
last passes zero = 0
last passes (suc k) = if passes k then suc k else last passes k

-- the place is in that chain of so many, and isn't the one that is left out
abbrev pub in_chain : List Item → ℕ → ℕ → ℕ → ℕ → Bool
in_chain items room out b j = not (j == out) && (bucket room (at items j).target == b)

-- of the first places, but for the one that is left out, each chain leads from its last place down to its first. Where none
-- is left out, out is the end
pub record IsLinked (items : List Item) (heads : List ℕ) (end out : ℕ) : Type 0 where
  pub end_in : end ≤ length items
  pub room : length items ≤ length heads
  pub small : length heads < 2 ^ 32
  pub firsts : (b : ℕ) → b < length heads → slice_index_or heads b 0 ≡ last (in_chain items (length heads) out b) end
  pub nexts : (i : ℕ) → i < end → (i ≡ out → ⊥) → (at items i).next ≡ last (in_chain items (length heads) out (bucket (length heads) (at items i).target)) i

-- all places are linked
abbrev pub IsChained : List Item → List ℕ → Type 0
IsChained items heads = IsLinked items heads (length items) (length items)

-- the links from places above i are right
pub record IsLinkedAbove (items : List Item) (heads : List ℕ) (end i : ℕ) : Type 0 where
  pub out : ℕ
  pub linked : IsLinked items heads end out
  pub side : (out ≡ i) ⊎ (end ≤ out)

-- the place is the lowest of its chain above i
pub record IsNextAbove (items : List Item) (heads : List ℕ) (end chain i p : ℕ) : Type 0 where
  pub above : i < p
  pub below : p < end
  pub in_it : bucket (length heads) (at items p).target ≡ chain
  pub lowest : (j : ℕ) → i < j → j < p → bucket (length heads) (at items j).target ≡ chain → ⊥

-- no place of the chain lies above i
abbrev pub HasNoneAbove : List Item → List ℕ → ℕ → ℕ → ℕ → Type 0
HasNoneAbove items heads end chain i = (j : ℕ) → i < j → j < end → bucket (length heads) (at items j).target ≡ chain → ⊥

-- where a climb to the lowest place above i is: the last place found, or the end
abbrev pub top : Option ℕ → ℕ → ℕ
top None end = end
top (Some p) end = p

-- the next place, where it is above i, is in the chain, and none between it and the last place found is
pub record IsClimb (items : List Item) (heads : List ℕ) (end chain i : ℕ) (found : Option ℕ) (next : ℕ) : Type 0 where
  pub within : top found end ≤ end
  pub in_it : (p : ℕ) → found ≡ Some p → (i < p) × (p < end) × (bucket (length heads) (at items p).target ≡ chain)
  pub leads : (m : ℕ) → next ≡ suc m → i < m → (m < top found end) × (bucket (length heads) (at items m).target ≡ chain)
  pub skips : (j : ℕ) → i < j → next ≤ j → j < top found end → bucket (length heads) (at items j).target ≡ chain → ⊥

-- the item is such as is wanted
abbrev pub is_wanted : Wanted → ExitRow → Bool
is_wanted Any row = true
is_wanted Unmarked row = not row.marked
is_wanted (Into seg) row = row.target.seg.0 == seg.0

-- no item from that place on is such as is wanted
pub record HasPassed (rows : List ExitRow) (wanted : Wanted) (from : ℕ) : Type 0 where
  pub within : from ≤ length rows
  pub passed : (j : ℕ) (row : ExitRow) → from ≤ j → slice_get rows j ≡ Some row → is_wanted wanted row ≡ false

-- the place, among the first ones, is the last of such an item
pub record IsLastWanted (rows : List ExitRow) (wanted : Wanted) (end i : ℕ) : Type 0 where
  pub row : ExitRow
  pub there : slice_get rows i ≡ Some row
  pub wants : is_wanted wanted row ≡ true
  pub below : i < end
  pub last : (j : ℕ) (other : ExitRow) → i < j → j < end → slice_get rows j ≡ Some other → is_wanted wanted other ≡ false

-- no item of the first ones is such as is wanted
abbrev pub HasNoneWanted : List ExitRow → Wanted → ℕ → Type 0
HasNoneWanted rows wanted end = (j : ℕ) (row : ExitRow) → j < end → slice_get rows j ≡ Some row → is_wanted wanted row ≡ false

-- the last row takes the place of the one at i
abbrev pub rows_without : List ExitRow → ℕ → List ExitRow
rows_without rows i = take (length rows - 1) (slice_set rows i (slice_index_or rows (length rows - 1) (record { target = record { seg = record { 0 = 0 }; serial = record { 0 = 0 } }; marked = false })))

-- the item with no mark
abbrev pub unmarked_item : Item → Item
unmarked_item item = record item { marked = false }

-- the item with a mark
abbrev pub marked_item : Item → Item
marked_item item = record item { marked = true }
