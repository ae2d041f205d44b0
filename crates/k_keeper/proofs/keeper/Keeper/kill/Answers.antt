use Rattle.std.proofs.Common.{◌≡◌, ◌∙◌, ap, subst, OnErr}
use Rattle.std.specs.Prelude.{IfErr, IfOk}
use Rattle.k_limits.proofs.Making.{handed_on}
use Rattle.k_host.specs.Calls.{HasExitedIn}
use Rattle.k_keeper.specs.Keeping.{KeeperValue}
use Rattle.k_keeper.specs.Kept.{IsGone}
use Rattle.k_keeper.proofs.Counted.{exit_same, most_same}
use Rattle.k_keeper.proofs.Refused.{exit_basis, exit_kept, exit_why, keeper_of, unchanged_left}
use Rattle.k_keeper.proofs.keeper.Keeper.kill.Goals as goal

pub returns-in_err-alive-clause-why : goal.returns-in_err-alive-clause-why
returns-in_err-alive-clause-why c =
    handed_on (IsGone c.args.self.now.host c.args.pid) c.from_residual.result c.in_err-alive.field-0.0 c.from_residual.ensures.1
    (subst (λ (old : KeeperValue). IsGone old.host c.args.pid c.in_err-alive.field-0.0) c.self.view_is c.in_err-alive.ensures.why)

pub invariant_of-self : goal.invariant_of-self
invariant_of-self c = record {
  kept = exit_kept c.self.inside.host c.self.inside.left c.self.invariant.kept c.args.pid c.in_ok-alive.ensures.ok c.exit-came.new.self c.exit-came.result c.serves.ensures c.exit-came.ensures.done c.exit-came.ensures.same;
  counted =
      exit_same c.self.inside.host c.exit-came.new.self c.self.invariant.kept.serves c.serves.ensures c.args.pid c.exit-came.result c.exit-came.ensures.done c.exit-came.ensures.same ∙ c.self.invariant.counted;
  listed = c.self.invariant.listed;
  room = c.self.invariant.room;
  named = c.self.invariant.named;
  most = most_same c.self.inside.host c.exit-came.new.self c.self.inside.most c.self.invariant.most (exit_basis c.self.inside.host c.exit-came.new.self c.exit-came.result c.exit-came.ensures.same c.args.pid c.exit-came.ensures.done);
}

pub returns-clause-done : goal.returns-clause-done
returns-clause-done c =
    subst (λ (old : KeeperValue). IfOk c.exit-came.result (λ event. HasExitedIn old.host c.exit-came.new.self c.args.pid event)) c.self.view_is c.exit-came.ensures.done

pub returns-clause-left : goal.returns-clause-left
returns-clause-left c = ap (λ (old : KeeperValue). old.left) c.self.view_is

pub returns-clause-same : goal.returns-clause-same
returns-clause-same c =
    subst (λ (old : KeeperValue). OnErr c.exit-came.result (keeper_of c.exit-came.new.self c.self.inside.left c.self.inside.freed.names c.self.inside.objects c.self.inside.taken ≡ old)) c.self.view_is
    (unchanged_left c.self.inside.host c.exit-came.new.self c.self.inside.left c.self.inside.freed.names c.self.inside.objects c.self.inside.taken c.exit-came.result c.exit-came.ensures.same)

pub returns-clause-why : goal.returns-clause-why
returns-clause-why c =
    subst (λ (old : KeeperValue). IfErr c.exit-came.result (λ why. IsGone old.host c.args.pid why)) c.self.view_is
    (exit_why c.self.inside.host c.self.inside.left c.self.invariant.kept c.args.pid c.in_ok-alive.ensures.ok c.exit-came.result c.exit-came.ensures.why)

pub returns-clause-freed : goal.returns-clause-freed
returns-clause-freed c = ap (λ (old : KeeperValue). old.freed) c.self.view_is

pub returns-clause-taken : goal.returns-clause-taken
returns-clause-taken c = ap (λ (old : KeeperValue). old.taken) c.self.view_is
