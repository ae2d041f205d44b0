use Rattle.std.proofs.Common.{◌≡◌, ◌↔◌, IsTrue, subst, inl, inr}
use Rattle.k_types.specs.declared.names.CellPhase.{CellPhase}
use Rattle.k_types.specs.declared.names.CellPhase.TheVariants.{Idle}
use Rattle.k_heap.specs.Heaps.{has_ended_in}
use Rattle.k_calls.specs.declared.errors.HostError.TheVariants.{Ended, Phase}
use Rattle.k_calls.proofs.Refused.{lacks, lacks_lives}
use Rattle.k_calls.proofs.readiness.awake.Goals as goal

pub returns-then-not-lives-clause-why : goal.returns-then-not-lives-clause-why
returns-then-not-lives-clause-why c = inl (lacks_lives Ended (has_ended_in c.args.guest.now.cell.value.process) c.lives.result c.lives.ensures c.if-not-lives.true)

pub returns-then-not-is_idle-clause-why : goal.returns-then-not-is_idle-clause-why
returns-then-not-is_idle-clause-why c =
    inr (lacks Phase (c.args.guest.now.cell.value.collection ≡ Idle) c.is_idle.result
    (subst (λ (phase : CellPhase). IsTrue c.is_idle.result ↔ (phase ≡ Idle)) c.phase.ensures c.is_idle.ensures) c.if-not-is_idle.true)
