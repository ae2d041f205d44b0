use Rattle.std.proofs.Common.{IsTrue, subst, ◌↔◌, ◌≡◌}
use Rattle.k_types.specs.declared.names.CellPhase.{CellPhase}
use Rattle.k_types.specs.declared.names.CellPhase.TheVariants.{Begun}
use Rattle.k_calls.proofs.Refused.{lacks}
use Rattle.k_calls.specs.declared.errors.HostError.TheVariants.{Phase}
use Rattle.k_ends.proofs.starting.try_mark.Goals as goal

pub returns-then-not-is_begun-clause-why : goal.returns-then-not-is_begun-clause-why
returns-then-not-is_begun-clause-why c = lacks Phase (c.args.guest.now.cell.value.collection ≡ Begun) c.is_begun.result (subst (λ (phase : CellPhase). IsTrue c.is_begun.result ↔ (phase ≡ Begun)) c.phase.ensures c.is_begun.ensures) c.if-not-is_begun.true
