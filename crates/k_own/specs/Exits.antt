-- Exit items that go, or become the kernel's, where a heap does.
use Rattle.std.specs.Prelude.{◌≡◌, ℕ, ◌+◌, ◌<◌, ◌≤◌, ◌==◌, ◌&&◌, ◌||◌, not, Bool, IsTrue, List, [], filter, length}
use Rattle.k_types.specs.declared.names.Heap.{Heap}
use Rattle.k_types.specs.declared.names.Name.{Name}
use Rattle.k_types.specs.Agree.{BookValue, CellValue}
use Rattle.k_types.specs.Counted.{counted}
use Rattle.k_types.specs.Names.{name_among}
use Rattle.k_types.specs.Reach.{is_shared_heap}
use Rattle.k_laws.specs.Counts.{one_if}
use Rattle.k_entry.specs.Entries.{home_of}

-- each of these objects is entered
abbrev pub AreEntered : List Name → BookValue → Type 0
AreEntered names book = (n : Name) → IsTrue (name_among n names) → 0 < counted book.entries n

-- of these exit items those into the segment
abbrev pub into_segment : ℕ → List Name → List Name
into_segment seg exits = filter (λ n. n.seg.0 == seg) exits

-- the cell has no exit item left, and all else as it was but for the marks of exit items
abbrev pub HasNoExits : CellValue → CellValue → Type 0
HasNoExits old new = new ≡ record old { exits = []; black_exits = new.black_exits }

-- the cell's exit items into the segment are gone, and no other; all else is as it was but for the marks of exit items
pub record HasCut (seg : ℕ) (old new : CellValue) : Type 0 where
  pub rest : new ≡ record old { exits = new.exits; black_exits = new.black_exits }
  pub exits : (n : Name) → name_among n new.exits ≡ (name_among n old.exits && not (n.seg.0 == seg))
  pub fewer : length new.exits ≤ length old.exits

-- an exit item to the object passes to the kernel: the object lies in a shared heap
abbrev pub is_passed : List Heap → Name → Bool
is_passed homes n = is_shared_heap (home_of homes n.seg.0)

-- the kernel has the heap's exit items into shared heaps beside its own
abbrev pub HasPassed : List Heap → List Name → List Name → List Name → Type 0
HasPassed homes exits kernel after = (n : Name) → name_among n after ≡ (name_among n kernel || (name_among n exits && is_passed homes n))

-- each object is entered by the heap no longer, and by the kernel as its exit items say
abbrev pub EntriesFollow : List Name → List Name → List Name → BookValue → BookValue → Type 0
EntriesFollow exits kernel after old new =
    (n : Name) → counted new.entries n + (one_if (name_among n exits) + one_if (name_among n kernel)) ≡ counted old.entries n + one_if (name_among n after)
