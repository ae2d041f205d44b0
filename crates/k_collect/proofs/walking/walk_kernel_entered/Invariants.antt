use Rattle.std.proofs.Common.{◌≡◌, ◌-◌, length, option_map}
use Rattle.k_types.specs.declared.names.Heap.TheVariants.{Kernel}
use Rattle.k_types.specs.Names.{name_of}
use Rattle.k_commit.specs.k_book.Books.{book_entries}
use Rattle.k_entry.specs.Entries.{items_of}
use Rattle.k_collect.proofs.Grayed.{IsGraying}
use Rattle.k_collect.proofs.Walks.{passed_before}
use Rattle.k_collect.proofs.walking.walk_kernel_entered.Given as goal

abbrev pub invariant-loop-at : goal.invariant-loop-at
invariant-loop-at l = record {
  rest : l.kernel ≡ record l.fn.kernel { value = l.kernel.value };
  graying : IsGraying (items_of (book_entries l.book) Kernel) l.fn.kernel.value l.kernel.value (option_map name_of l.at);
}

abbrev pub decreases-loop-at : goal.decreases-loop-at
decreases-loop-at l = length (items_of (book_entries l.book) Kernel) - length (passed_before (items_of (book_entries l.book) Kernel) (option_map name_of l.at))
