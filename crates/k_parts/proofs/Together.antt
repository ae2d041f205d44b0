-- All parts of one host are a host.
use Rattle.std.proofs.Common.{sym, subst, List, Option}
use Rattle.atomic_table.specs.Seated.{TableId}
use Rattle.k_book.specs.Books.{BookRecord}
use Rattle.k_cell.specs.Holdings.{HoldingsValue}
use Rattle.k_shared.specs.SharedHeaps.{SharedRecord}
use Rattle.k_ends.specs.k_guests.declared.guest.Guest.{Guest}
use Rattle.k_ends.specs.k_guests.Serving.{GuestServes, KernelServes, SharedServes}
use Rattle.k_host.specs.Hosts.{HostServes}
use Rattle.k_parts.specs.Parts.{Home}
use Rattle.k_parts.specs.Together.{AreAllPartsOf, host_together}

pub one_host : (named : Option Home) (home : Home) (gs : List Guest) (k : HoldingsValue) (ss : List SharedRecord) (b : BookRecord) → AreAllPartsOf named home gs k ss b → HostServes (host_together home gs k ss b)
one_host named home gs k ss b all = let table = sym all.book.serves.table_is in record {
  all = record {
    count = all.count;
    each = λ i g at. subst (λ (n : TableId). GuestServes home.basis n g) table (all.each i g at).serves.serves;
    placed = all.placed;
  };
  rest = record {
    kernel = subst (λ (n : TableId). KernelServes home.basis n k) table all.kernel.serves;
    heaps = record {
      count = all.heap_count;
      each = λ i s at. subst (λ (n : TableId). SharedServes home.basis n s) table (all.each_heap i s at).serves;
      placed = all.heaps_placed;
    };
    book = all.book.serves.serves;
  };
  few = λ i g at. (all.each i g at).serves.few;
}
