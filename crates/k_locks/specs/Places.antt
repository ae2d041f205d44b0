-- Places that fill up.
use Rattle.std.specs.Prelude.{◌≡◌, ℕ, ◌+◌, List, [], ◌∷◌, Option, Some, None, length, slice_get}
use Rattle.k_types.specs.Trace.{process_count}
use Rattle.k_process.specs.k_book.Books.{BookRecord}
use Rattle.k_process.specs.k_shared.SharedHeaps.{SharedRecord}
use Rattle.k_process.specs.Keeping.{SharedKeeps}
use Rattle.k_process.specs.declared.process.Process.{Process}
use Rattle.k_process.specs.BetweenSteps.{ProcessStands}
use Rattle.k_process.specs.Worlds.{WorldValue}

-- 1 where something is there
abbrev pub one_if_some : {A : Type 0} → Option A → ℕ
one_if_some (Some x) = 1
one_if_some None = 0

-- how many places are taken
abbrev pub filled : {A : Type 0} → List (Option A) → ℕ
filled [] = 0
filled (x ∷ xs) = one_if_some x + filled xs

-- each place is taken
abbrev pub AreFilled : {A : Type 0} → List (Option A) → Type 0
AreFilled xs = filled xs ≡ length xs

-- there is a place for each process, and each process that has one stands in the place of its number
pub record ArePlaces (world : WorldValue) (ps : List (Option Process)) : Type 0 where
  pub count : length ps ≡ process_count world.trace
  pub each : (k : ℕ) (p : Process) → slice_get ps k ≡ Some (Some p) → ProcessStands world p
  pub placed : (k : ℕ) (p : Process) → slice_get ps k ≡ Some (Some p) → p.cell.pid.0 ≡ k

-- the process can be placed
pub record CanPlace (world : WorldValue) (ps : List (Option Process)) (book : BookRecord) (p : Process) : Type 0 where
  pub places : ArePlaces world ps
  pub process : ProcessStands world p
  pub table : book.journal.table ≡ world.table

-- one place more is taken, and the book is as it was
pub record HasPlaced (world : WorldValue) (old new : List (Option Process)) (old_book book : BookRecord) : Type 0 where
  pub places : ArePlaces world new
  pub more : filled new ≡ filled old + 1
  pub book_is : book ≡ old_book

-- there is a place for each shared heap, and each cell that has one stands in the place of its number
pub record ArePlacesShared (world : WorldValue) (ss : List (Option SharedRecord)) : Type 0 where
  pub count : length ss ≡ world.trace.shared_heaps
  pub each : (k : ℕ) (s : SharedRecord) → slice_get ss k ≡ Some (Some s) → SharedKeeps world.trace world.table s
  pub placed : (k : ℕ) (s : SharedRecord) → slice_get ss k ≡ Some (Some s) → s.id.0 ≡ k

-- the cell of the shared heap can be placed
pub record CanPlaceShared (world : WorldValue) (ss : List (Option SharedRecord)) (book : BookRecord) (s : SharedRecord) : Type 0 where
  pub places : ArePlacesShared world ss
  pub shared : SharedKeeps world.trace world.table s
  pub table : book.journal.table ≡ world.table

-- one place more is taken, and the book is as it was
pub record HasPlacedShared (world : WorldValue) (old new : List (Option SharedRecord)) (old_book book : BookRecord) : Type 0 where
  pub places : ArePlacesShared world new
  pub more : filled new ≡ filled old + 1
  pub book_is : book ≡ old_book
