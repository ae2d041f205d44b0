use Rattle.std.proofs.Common.{◌≡◌, length, vec_capacity}
use Rattle.k_lists.specs.Lists.{members}
use Rattle.k_entry.specs.Slots.{onward, walk_of}
use Rattle.k_entry.proofs.Copied.{HasCopiedLists}
use Rattle.k_entry.proofs.copying.copy_walk.Given as goal

abbrev pub invariant-loop-next : goal.invariant-loop-next
invariant-loop-next l = record {
  capacity : vec_capacity l.row ≡ vec_capacity l.fn.row;
  copied : HasCopiedLists (vec_capacity l.fn.row) l.slots l.segments l.homes l.heap (members l.walks (walk_of (length l.homes) l.heap)) l.next l.fn.row.items l.row.items;
}

abbrev pub decreases-loop-next : goal.decreases-loop-next
decreases-loop-next l = length (onward (members l.walks (walk_of (length l.homes) l.heap)) l.next)
