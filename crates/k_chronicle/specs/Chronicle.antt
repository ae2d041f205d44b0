-- The journal of a host, as it is printed, and when it can't be.
use Rattle.std.specs.Prelude.{◌≢◌, ◌<◌, length}
use Rattle.k_state.specs.Setups.{setup_of}
use Rattle.k_keeper.specs.k_host.Hosts.{HostValue}
use Rattle.k_print.specs.declared.errors.PrintError.TheVariants.{Unspelled}
use Rattle.k_print.specs.Printed.{IsNotPrinted, Journal}
use Rattle.k_chronicle.specs.declared.errors.ChronicleError.{ChronicleError}
use Rattle.k_chronicle.specs.declared.errors.ChronicleError.TheVariants.{Forgotten, Print}

-- what the host declares, its names, and the events of its journal
abbrev pub journal_in : HostValue → Journal
journal_in h = record { names = h.basis.names; trace = setup_of h.basis.trace; history = h.book.journal.list }

-- nothing is printed of the host: its journal has forgotten its first events, or can't be printed. That no line can have an operation is
-- never the reason
abbrev pub IsNotTold : HostValue → ChronicleError → Type 0
IsNotTold h Forgotten = h.basis.rooms.kept < length h.book.journal.list
IsNotTold h (Print why) = IsNotPrinted (journal_in h) why × (why ≢ Unspelled)
