-- All heaps of a run and its book, seen as one value.
use Rattle.std.specs.Prelude.{List}
use Rattle.k_commit.specs.k_book.Books.{BookRecord}
use Rattle.k_commit.specs.k_heap.Holdings.{HoldingsValue}
use Rattle.k_commit.specs.SharedHeaps.{SharedRecord}
use Rattle.k_process.specs.declared.heaps.Heaps.{Heaps}
use Rattle.k_process.specs.declared.process.Process.{Process}

-- each process with its cell, the kernel's cell, the cell of each shared heap, and the book
pub record HeapsValue : Type 0 where
  pub processes : List Process
  pub kernel : HoldingsValue
  pub shared : List SharedRecord
  pub book : BookRecord

-- what is seen of all heaps
abbrev pub value_of : Heaps → HeapsValue
value_of heaps = record { processes = heaps.processes.items; kernel = heaps.kernel; shared = heaps.shared.items; book = heaps.book }
