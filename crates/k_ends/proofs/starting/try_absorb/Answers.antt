use Rattle.std.proofs.Common.{◌≡◌, ◌↔◌, ◌∙◌, IsTrue, Some, refl, sym, ap, subst, arith, inl, inr}
use Rattle.k_types.specs.declared.names.CellPhase.{CellPhase}
use Rattle.k_types.specs.declared.names.CellPhase.TheVariants.{Idle}
use Rattle.k_types.specs.declared.names.SharedId.{SharedId}
use Rattle.k_shares.specs.Sharers.{lowest_orphan}
use Rattle.k_calls.specs.declared.errors.HostError.TheVariants.{Orphan, Phase}
use Rattle.k_ends.proofs.Collected.{orphan_first}
use Rattle.k_calls.proofs.Refused.{lacks}
use Rattle.k_ends.proofs.starting.try_absorb.Goals as goal

pub returns-then-not-is_first_orphan-clause-why : goal.returns-then-not-is_first_orphan-clause-why
returns-then-not-is_first_orphan-clause-why c =
    let v = c.args.book.now.value in
    inl (lacks Orphan (lowest_orphan v.phases v.shares ≡ Some c.args.shared.now.id.0) c.is_first_orphan.result
    (subst (λ (id : SharedId). IsTrue c.is_first_orphan.result ↔ (lowest_orphan v.phases v.shares ≡ Some id.0)) c.id.ensures c.is_first_orphan.ensures) c.if-not-is_first_orphan.true)

pub returns-then-not-is_idle-clause-why : goal.returns-then-not-is_idle-clause-why
returns-then-not-is_idle-clause-why c =
    inr (inl (lacks Phase (c.args.kernel.now.value.collection ≡ Idle) c.is_idle.result
    (subst (λ (phase : CellPhase). IsTrue c.is_idle.result ↔ (phase ≡ Idle)) c.phase.ensures c.is_idle.ensures) c.if-not-is_idle.true))

pub returns-then-len-terms-clause-why : goal.returns-then-len-terms-clause-why
returns-then-len-terms-clause-why c = inr (inr (record { error_is = refl; fails = λ few. omega (arith, few, c.if-len-terms.true, c.len.ensures) }))

pub do_absorb-requires : goal.do_absorb-requires
do_absorb-requires c =
    let v = c.args.book.now.value in
    record {
      own = record {
        kernel = c.requires.kernel;
        book = c.requires.book;
        in_phase = sym c.phase.ensures ∙ c.is_idle.ensures.0 c.if-not-is_idle.false;
        room = omega (arith, c.if-len-terms.false, c.len.ensures);
      };
      shared = c.requires.shared;
      orphan = orphan_first v.phases v.shares c.args.shared.now.id.0 (c.is_first_orphan.ensures.0 c.if-not-is_first_orphan.false ∙ ap (λ (id : SharedId). Some id.0) c.id.ensures);
    }
