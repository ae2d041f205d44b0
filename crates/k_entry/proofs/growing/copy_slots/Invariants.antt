use Rattle.std.proofs.Common.{◌≡◌, take, vec_capacity}
use Rattle.k_entry.proofs.growing.copy_slots.Given as goal

abbrev pub invariant-loop-slot : goal.invariant-loop-slot
invariant-loop-slot l = (l.into.items ≡ take l.slot-index l.slots) × (vec_capacity l.into ≡ vec_capacity l.fn.into)
