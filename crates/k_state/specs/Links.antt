-- How exit items whose targets are of one chain lead to one another.
use Rattle.std.specs.Prelude.{◌≡◌, ◌≢◌, ◌&&◌, ℕ, ◌-◌, ◌<◌, ◌≤◌, ◌^◌, IsTrue, IsFalse, List, length, slice_index_or}
use Rattle.k_lists.specs.Hash.{bucket}
use Rattle.k_types.specs.declared.names.Heap.{Heap}
use Rattle.k_types.specs.declared.names.Name.{Name}
use Rattle.k_types.specs.Names.{heap_eq, name_eq}
use Rattle.k_types.specs.State.{ExitItem}

-- For each chain, and for each item, how many items stand up to another one.
pub record Links : Type 0 where
  pub lasts : List ℕ
  pub befores : List ℕ

-- Of the first items, so many stand up to the last one of the chain; none where the chain has none of them.
pub record IsUpTo (chains : ℕ) (items : List ExitItem) (chain count up_to : ℕ) : Type 0 where
  pub within : up_to ≤ count
  pub last : (d : ExitItem) → 0 < up_to → bucket chains (slice_index_or items (up_to - 1) d).target ≡ chain
  pub others : (k : ℕ) (d : ExitItem) → up_to ≤ k → k < count → bucket chains (slice_index_or items k d).target ≢ chain

-- Each chain leads to its last one of the first items, and each of these to the one before it in its chain.
pub record AreLinked (items : List ExitItem) (count : ℕ) (chains : ℕ) (links : Links) : Type 0 where
  pub lasts : (chain : ℕ) → chain < chains → IsUpTo chains items chain count (slice_index_or links.lasts chain 0)
  pub befores : (k : ℕ) (d : ExitItem) → k < count →
      IsUpTo chains items (bucket chains (slice_index_or items k d).target) k (slice_index_or links.befores k 0)

-- There are chains and places for so many items, and no more chains than numbers of 32 bits.
pub record HaveRoom (count : ℕ) (links : Links) : Type 0 where
  pub lasts : count ≤ length links.lasts
  pub befores : count ≤ length links.befores
  pub few : length links.lasts ≤ 2 ^ 32

-- All items are linked, and there is room for them.
abbrev pub AreFound : List ExitItem → Links → Type 0
AreFound items links = AreLinked items (length items) (length links.lasts) links × HaveRoom (length items) links

-- The item of that place is the heap's to that target, and it is the last such item.
pub record IsExitAt (items : List ExitItem) (h : Heap) (n : Name) (at : ℕ) : Type 0 where
  pub within : at < length items
  pub is : (d : ExitItem) → IsTrue (heap_eq (slice_index_or items at d).heap h && name_eq (slice_index_or items at d).target n)
  pub last : (k : ℕ) (d : ExitItem) → at < k → k < length items →
      IsFalse (heap_eq (slice_index_or items k d).heap h && name_eq (slice_index_or items k d).target n)
