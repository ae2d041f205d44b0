use Rattle.std.proofs.Common.{IsTrue, arith, inl, inr, refl, subst, ◌↔◌, ◌≡◌}
use Rattle.k_types.specs.declared.names.CellPhase.{CellPhase}
use Rattle.k_types.specs.declared.names.CellPhase.TheVariants.{Marked}
use Rattle.k_calls.proofs.Refused.{lacks}
use Rattle.k_calls.specs.declared.errors.HostError.TheVariants.{Phase}
use Rattle.k_ends.proofs.starting.try_end_kernel.Goals as goal

pub returns-then-not-is_marked-clause-why : goal.returns-then-not-is_marked-clause-why
returns-then-not-is_marked-clause-why c = inl (lacks Phase (c.args.kernel.now.value.collection ≡ Marked) c.is_marked.result (subst (λ (phase : CellPhase). IsTrue c.is_marked.result ↔ (phase ≡ Marked)) c.phase.ensures c.is_marked.ensures) c.if-not-is_marked.true)

pub returns-then-len-terms-clause-why : goal.returns-then-len-terms-clause-why
returns-then-len-terms-clause-why c = inr (record { error_is = refl; fails = λ few. omega (arith, few, c.if-len-terms.true, c.len.ensures) })
