use Rattle.std.proofs.Common.{◌≡◌, ◌∙◌, ap, ◌+◌, subst, arith, OnErr, OnOk}
use Rattle.std.specs.Prelude.{IfErr, IfOk}
use Rattle.k_limits.proofs.Making.{handed_on}
use Rattle.k_host.specs.Calls.{HasAbsorbedIn}
use Rattle.k_keeper.specs.Keeping.{KeeperValue}
use Rattle.k_keeper.specs.Kept.{MayRefuseToAbsorb}
use Rattle.k_keeper.proofs.Absorbed.{absorb_kept}
use Rattle.k_keeper.proofs.Counted.{absorb_same, most_same}
use Rattle.k_keeper.proofs.Refused.{absorb_basis, absorption_refused, absorption_unready, keeper_of, takes, unchanged_rest}
use Rattle.k_keeper.proofs.keeper.Keeper.absorb.Goals as goal

pub returns-in_err-spared-clause-why : goal.returns-in_err-spared-clause-why
returns-in_err-spared-clause-why c =
    handed_on (MayRefuseToAbsorb c.args.self.now c.args.id) c.from_residual.result c.in_err-spared.field-0.0 c.from_residual.ensures.1
    (subst (λ (old : KeeperValue). MayRefuseToAbsorb old c.args.id c.in_err-spared.field-0.0) c.self.view_is
    (absorption_unready c.self.inside.host c.self.inside.left c.self.inside.freed.names c.self.inside.objects c.self.inside.taken c.args.id c.needed_to_absorb.result c.needed_to_absorb.ensures c.in_err-spared.field-0.0 c.in_err-spared.ensures.why))

pub left_after-self-inside-requires : goal.left_after-self-inside-requires
left_after-self-inside-requires c = (let enough = c.in_ok-spared.ensures.ok in let needed = c.needed_to_absorb.ensures in omega (arith, enough, needed))

pub invariant_of-self : goal.invariant_of-self
invariant_of-self c = record {
  kept = absorb_kept c.self.inside.host c.self.inside.left c.self.invariant.kept c.absorb-came.new.self c.args.id c.left_after-self-inside.result c.absorb-came.result c.serves.ensures c.absorb-came.ensures.done c.absorb-came.ensures.same (let enough = c.in_ok-spared.ensures.ok in let needed = c.needed_to_absorb.ensures in omega (arith, enough, needed)) c.left_after-self-inside.ensures;
  counted =
      absorb_same c.self.inside.host c.absorb-came.new.self c.self.invariant.kept.serves c.serves.ensures c.args.id c.absorb-came.result c.absorb-came.ensures.done c.absorb-came.ensures.same ∙ c.self.invariant.counted;
  listed = c.self.invariant.listed;
  room = c.self.invariant.room;
  named = c.self.invariant.named;
  most = most_same c.self.inside.host c.absorb-came.new.self c.self.inside.most c.self.invariant.most (absorb_basis c.self.inside.host c.absorb-came.new.self c.absorb-came.result c.absorb-came.ensures.same c.args.id c.absorb-came.ensures.done);
}

pub returns-clause-done : goal.returns-clause-done
returns-clause-done c = subst (λ (old : KeeperValue). IfOk c.absorb-came.result (λ event. HasAbsorbedIn old.host c.absorb-came.new.self c.args.id event)) c.self.view_is c.absorb-came.ensures.done

pub returns-clause-left : goal.returns-clause-left
returns-clause-left c =
    subst (λ (old : KeeperValue). OnOk c.absorb-came.result (old.left ≡ c.left_after-self-inside.result + 1)) c.self.view_is
    (takes c.self.inside.left 1 c.left_after-self-inside.result c.absorb-came.result (let enough = c.in_ok-spared.ensures.ok in let needed = c.needed_to_absorb.ensures in omega (arith, enough, needed)) c.left_after-self-inside.ensures)

pub returns-clause-same : goal.returns-clause-same
returns-clause-same c =
    subst (λ (old : KeeperValue). OnErr c.absorb-came.result (keeper_of c.absorb-came.new.self c.left_after-self-inside.result c.self.inside.freed.names c.self.inside.objects c.self.inside.taken ≡ old)) c.self.view_is
    (unchanged_rest c.self.inside.host c.absorb-came.new.self c.self.inside.left 1 c.left_after-self-inside.result c.self.inside.freed.names c.self.inside.objects c.self.inside.taken c.absorb-came.result c.left_after-self-inside.ensures c.absorb-came.ensures.same)

pub returns-clause-why : goal.returns-clause-why
returns-clause-why c =
    subst (λ (old : KeeperValue). IfErr c.absorb-came.result (λ why. MayRefuseToAbsorb old c.args.id why)) c.self.view_is
    (absorption_refused c.self.inside.host c.self.inside.left c.self.inside.freed.names c.self.inside.objects c.self.inside.taken c.args.id c.absorb-came.result c.absorb-came.ensures.why)

pub returns-clause-freed : goal.returns-clause-freed
returns-clause-freed c = ap (λ (old : KeeperValue). old.freed) c.self.view_is

pub returns-clause-taken : goal.returns-clause-taken
returns-clause-taken c = ap (λ (old : KeeperValue). old.taken) c.self.view_is
