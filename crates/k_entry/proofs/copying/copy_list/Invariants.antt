use Rattle.std.proofs.Common.{◌≡◌, length, vec_capacity}
use Rattle.k_lists.specs.Lists.{members}
use Rattle.k_entry.specs.Slots.{onward}
use Rattle.k_entry.proofs.Copied.{HasCopied}
use Rattle.k_entry.proofs.copying.copy_list.Given as goal

abbrev pub invariant-loop-next : goal.invariant-loop-next
invariant-loop-next l = record {
  capacity : vec_capacity l.row ≡ vec_capacity l.fn.row;
  copied : HasCopied (vec_capacity l.fn.row) l.slots (members l.lists l.list) l.next l.fn.row.items l.row.items;
}

abbrev pub decreases-loop-next : goal.decreases-loop-next
decreases-loop-next l = length (onward (members l.lists l.list) l.next)
