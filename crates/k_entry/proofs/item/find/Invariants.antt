use Rattle.std.proofs.Common.{length}
use Rattle.k_lists.specs.Lists.{members}
use Rattle.k_entry.specs.Slots.{onward}
use Rattle.k_entry.proofs.Ways.{HasPassed}
use Rattle.k_entry.proofs.item.find.Given as goal

abbrev pub invariant-loop-next : goal.invariant-loop-next
invariant-loop-next l = HasPassed l.slots l.target (members l.chains l.chain) l.next

abbrev pub decreases-loop-next : goal.decreases-loop-next
decreases-loop-next l = length (onward (members l.chains l.chain) l.next)
