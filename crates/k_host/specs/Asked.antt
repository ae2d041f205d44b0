-- What a host is asked of one of its processes.
use Rattle.std.specs.Prelude.{ℕ, Bool, Option, if◌then◌else◌}
use Rattle.k_types.specs.declared.names.Name.{Name}
use Rattle.k_types.specs.Agree.{BookValue}
use Rattle.k_types.specs.Owners.{object_bytes}
use Rattle.k_types.specs.Totals.{total}
use Rattle.k_types.specs.Trace.{Trace}
use Rattle.k_laws.specs.PartUpdates.{done_in, held_in}
use Rattle.k_agree.specs.GivingOnTheBook.{charged}
use Rattle.k_heap.specs.Heaps.{has_ended_in}
use Rattle.k_ends.specs.k_guests.declared.guest.Guest.{Guest}
use Rattle.k_host.specs.Hosts.{HostValue}

-- the bytes of the process's own objects
abbrev pub heap_bytes_of : Guest → ℕ
heap_bytes_of g = total object_bytes g.cell.value.objects

-- how many operations of the process are done
abbrev pub done_by : Guest → ℕ
done_by g = done_in g.cell.value.process

-- what the register of the process holds
abbrev pub held_by : ℕ → Guest → Option Name
held_by r g = held_in g.cell.value.process r

-- whether the process has ended
abbrev pub has_ended_of : Guest → Bool
has_ended_of g = has_ended_in g.cell.value.process

-- what the process is charged, by its cell and the book: nothing once it has ended
abbrev pub charge_by : Trace → BookValue → Guest → ℕ
charge_by trace book g = if has_ended_of g then 0 else charged trace book g.cell.value g.cell.pid.0

abbrev pub charge_told : HostValue → Guest → ℕ
charge_told h g = charge_by h.basis.trace h.book.value g
