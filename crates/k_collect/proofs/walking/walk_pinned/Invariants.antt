use Rattle.std.proofs.Common.{◌≡◌, ◌-◌, length, option_map}
use Rattle.k_types.specs.declared.names.Heap.TheVariants.{User}
use Rattle.k_types.specs.Names.{name_of}
use Rattle.k_commit.specs.k_book.Books.{book_pins}
use Rattle.k_entry.specs.Entries.{items_of}
use Rattle.k_collect.proofs.Grayed.{IsGraying}
use Rattle.k_collect.proofs.Walks.{passed_before}
use Rattle.k_collect.proofs.walking.walk_pinned.Given as goal

abbrev pub invariant-loop-at : goal.invariant-loop-at
invariant-loop-at l = record {
  rest : l.cell ≡ record l.fn.cell { value = l.cell.value };
  graying : IsGraying (items_of (book_pins l.book) (User l.fn.cell.pid)) l.fn.cell.value l.cell.value (option_map name_of l.at);
}

abbrev pub decreases-loop-at : goal.decreases-loop-at
decreases-loop-at l = length (items_of (book_pins l.book) (User l.fn.cell.pid)) - length (passed_before (items_of (book_pins l.book) (User l.fn.cell.pid)) (option_map name_of l.at))
