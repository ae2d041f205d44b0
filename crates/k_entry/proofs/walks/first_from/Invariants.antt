use Rattle.std.proofs.Common.{length}
use Rattle.k_lists.specs.Lists.{members}
use Rattle.k_entry.specs.Slots.{onward, walk_of}
use Rattle.k_entry.proofs.Ways.{LooksOn}
use Rattle.k_entry.proofs.walks.first_from.Given as goal

abbrev pub invariant-loop-next : goal.invariant-loop-next
invariant-loop-next l = LooksOn l.homes l.heap (members l.walks (walk_of (length l.homes) l.heap)) l.fn.from l.next

abbrev pub decreases-loop-next : goal.decreases-loop-next
decreases-loop-next l = length (onward (members l.walks (walk_of (length l.homes) l.heap)) l.next)
