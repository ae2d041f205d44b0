use Rattle.std.proofs.Common.{◌≡◌, take}
use Rattle.k_chronicle.proofs.telling.events_of.Given as goal

abbrev pub invariant-loop-number : goal.invariant-loop-number
invariant-loop-number l = l.events.items ≡ take l.number l.host.book.journal.list
