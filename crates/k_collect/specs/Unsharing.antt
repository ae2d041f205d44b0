-- The shares that the end of a collection drops.
use Rattle.std.specs.Prelude.{◌≡◌, ℕ, ◌+◌, ◌==◌, ◌<◌, ◌^◌, ◌&&◌, ◌||◌, not, Bool, false, List, Option, Some, None, IsTrue, length, slice_index_or, if◌then◌else◌}
use Rattle.std.specs.List.{list_any}
use Rattle.k_types.specs.declared.names.Name.{Name}
use Rattle.k_types.specs.Agree.{BookValue, CellValue}
use Rattle.k_types.specs.Bounds.{register_count}
use Rattle.k_types.specs.Numbers.{numbers_below}
use Rattle.k_types.specs.Owners.{phase_of}
use Rattle.k_types.specs.Replies.{is_populating}
use Rattle.k_types.specs.State.{has_share}
use Rattle.k_types.specs.Totals.{total}
use Rattle.k_commit.specs.k_book.Books.{BookRecord}
use Rattle.k_laws.specs.BookChanges.{registers_in}

-- the reference is into that segment
abbrev pub lies_in : ℕ → Option Name → Bool
lies_in seg None = false
lies_in seg (Some n) = n.seg.0 == seg

-- a register of the cell's process or an exit item of the cell leads into that segment, or the process populates the shared heap
abbrev pub has_way_by : CellValue → BookValue → ℕ → ℕ → ℕ → Bool
has_way_by v book p seg t =
    list_any (lies_in seg) (registers_in v.process)
    || list_any (λ n. n.seg.0 == seg) v.exits
    || is_populating (phase_of book.phases t) p

-- how many shares of the process go, of those into the shared heaps of these numbers, where the test tells which stay
abbrev pub shares_lost : (ℕ → Bool) → BookValue → ℕ → List ℕ → ℕ
shares_lost stays book p heaps = total (λ t. if has_share book.shares p t then (if stays t then 0 else 1) else 0) heaps

-- the bytes of the shared heaps of these numbers whose shares go, each in full
abbrev pub bytes_lost : (ℕ → Bool) → BookValue → ℕ → List ℕ → ℕ
bytes_lost stays book p heaps =
    total (λ t. if has_share book.shares p t && not (stays t) then slice_index_or book.shared_bytes t 0 else 0) heaps

-- whether the process has a way left into each shared heap, whose segment comes behind those of the kernel and the processes
abbrev pub ways_left : CellValue → ℕ → BookRecord → ℕ → Bool
ways_left v p book t = has_way_by v book.value p (1 + length book.procs + t) t

-- the process is one of the book's and has all its registers; the book's segments have numbers of 32 bits; its shares are of heaps of the
-- book; and the bytes of the heaps whose shares go fit 64 bits
pub record CanUnshare (value : CellValue) (p : ℕ) (book : BookRecord) : Type 0 where
  pub process : p < length book.procs
  pub registers : length (registers_in value.process) ≡ register_count
  pub segments : 1 + length book.procs + length book.value.phases < 2 ^ 32
  pub known : (t : ℕ) → IsTrue (has_share book.value.shares p t) → t < length book.value.phases
  pub bytes : bytes_lost (ways_left value p book) book.value p (numbers_below (length book.value.phases)) < 2 ^ 64

-- the process has lost the shares that the test does not keep, and nothing else of the book has changed
pub record HasUnshared (stays : ℕ → Bool) (p : ℕ) (old new : BookRecord) : Type 0 where
  pub rest : new ≡ record old { value = record old.value { shares = new.value.shares } }
  pub shares : (q t : ℕ) → has_share new.value.shares q t ≡ (has_share old.value.shares q t && (not (q == p) || stays t))
