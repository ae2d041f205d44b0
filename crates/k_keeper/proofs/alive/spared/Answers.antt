use Rattle.std.proofs.Common.{refl}
use Rattle.k_keeper.proofs.alive.spared.Goals as goal
use Rattle.std.proofs.lemmas.Bool.{iff_false}

pub returns-then-not-is_enough-clause-why : goal.returns-then-not-is_enough-clause-why
returns-then-not-is_enough-clause-why c = record { error_is = refl; fails = iff_false c.is_enough.ensures c.if-not-is_enough.true }
