use Rattle.std.proofs.Common.{arith, refl}
use Rattle.k_ends.proofs.starting.try_settle_kernel.Goals as goal

pub returns-then-len-terms-clause-why : goal.returns-then-len-terms-clause-why
returns-then-len-terms-clause-why c = record { error_is = refl; fails = λ few. omega (arith, few, c.if-len-terms.true, c.len.ensures) }
