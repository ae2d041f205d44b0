use Rattle.std.proofs.Common.{◌≤◌, ◌⊎◌, inl}
use Rattle.k_limits.proofs.Making.{handed_on}
use Rattle.k_host.specs.HostError.TheVariants.{Reserved}
use Rattle.k_host.specs.CallsRefusals.{Lacks}
use Rattle.k_keeper.specs.Kept.{IsAlive, IsGone}
use Rattle.k_keeper.proofs.Refused.{both_on, second_of}
use Rattle.k_keeper.proofs.alive.ready.Goals as goal

pub returns-in_err-alive-clause-why : goal.returns-in_err-alive-clause-why
returns-in_err-alive-clause-why c =
    handed_on (λ why. IsGone c.args.host.now c.args.pid why ⊎ Lacks Reserved (c.args.needed ≤ c.args.left) why) c.from_residual.result c.in_err-alive.field-0.0 c.from_residual.ensures.1 (inl c.in_err-alive.ensures.why)

pub returns-clause-ok : goal.returns-clause-ok
returns-clause-ok c = both_on (IsAlive c.args.host.now c.args.pid) (c.args.needed ≤ c.args.left) c.spared.result c.in_ok-alive.ensures.ok c.spared.ensures.ok

pub returns-clause-why : goal.returns-clause-why
returns-clause-why c = second_of (λ why. IsGone c.args.host.now c.args.pid why) (λ why. Lacks Reserved (c.args.needed ≤ c.args.left) why) c.spared.result c.spared.ensures.why
