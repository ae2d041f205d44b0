use Rattle.k_entry.specs.Slots.{AreChained}
use Rattle.k_entry.proofs.growing.chain_all.Given as goal

abbrev pub invariant-loop-i : goal.invariant-loop-i
invariant-loop-i l = AreChained l.slots l.room l.i l.chains
