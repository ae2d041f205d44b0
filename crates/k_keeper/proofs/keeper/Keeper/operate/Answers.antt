use Rattle.std.proofs.Common.{◌≡◌, ap, sym, ◌∙◌, ◌≤◌, ◌+◌, subst, arith, OnErr, OnOk}
use Rattle.std.specs.Prelude.{IfErr, IfOk}
use Rattle.k_limits.proofs.Making.{handed_on}
use Rattle.k_host.specs.Calls.{HasOperatedIn}
use Rattle.k_keeper.specs.Keeping.{KeeperValue, needed_to_operate}
use Rattle.k_keeper.specs.Kept.{MayRefuseOperation}
use Rattle.k_keeper.proofs.Counted.{can_count, most_low, most_same, operate_told, then_counted, then_listed}
use Rattle.k_keeper.proofs.Refused.{keeper_of, leaves_behind, operate_basis, operate_kept, operation_full, still, operation_unready, operation_unspelled, takes, unchanged, operation_refused}
use Rattle.k_keeper.proofs.keeper.Keeper.operate.Goals as goal

pub returns-in_err-ready-clause-why : goal.returns-in_err-ready-clause-why
returns-in_err-ready-clause-why c =
    handed_on (MayRefuseOperation c.args.self.now c.args.pid c.args.op.now) c.from_residual.result c.in_err-ready.field-0.0 c.from_residual.ensures.1
    (subst (λ (old : KeeperValue). MayRefuseOperation old c.args.pid c.args.op.now c.in_err-ready.field-0.0) c.self.view_is
    (operation_unready c.self.inside.host c.self.inside.left c.self.inside.freed.names c.self.inside.objects c.self.inside.taken c.args.pid c.args.op.now c.needed_to_operate.result c.needed_to_operate.ensures c.in_err-ready.field-0.0 c.in_err-ready.ensures.why))

pub returns-in_err-has_object_left-clause-why : goal.returns-in_err-has_object_left-clause-why
returns-in_err-has_object_left-clause-why c =
    handed_on (MayRefuseOperation c.args.self.now c.args.pid c.args.op.now) c.from_residual-in_err-has_object_left.result c.in_err-has_object_left.field-0.0 c.from_residual-in_err-has_object_left.ensures.1
    (subst (λ (old : KeeperValue). MayRefuseOperation old c.args.pid c.args.op.now c.in_err-has_object_left.field-0.0) c.self.view_is
    (operation_full c.self.inside.host c.self.inside.left c.self.inside.freed.names c.self.inside.objects c.self.inside.taken c.args.pid c.args.op.now c.self.inside.most c.self.invariant.most c.in_err-has_object_left.field-0.0 c.in_err-has_object_left.ensures.why))

pub returns-in_err-spelled-clause-why : goal.returns-in_err-spelled-clause-why
returns-in_err-spelled-clause-why c =
    handed_on (MayRefuseOperation c.args.self.now c.args.pid c.args.op.now) c.from_residual-in_err-spelled.result c.in_err-spelled.field-0.0 c.from_residual-in_err-spelled.ensures.1
    (subst (λ (old : KeeperValue). MayRefuseOperation old c.args.pid c.args.op.now c.in_err-spelled.field-0.0) c.self.view_is
    (operation_unspelled c.self.inside.host c.self.inside.left c.self.inside.freed.names c.self.inside.objects c.self.inside.taken c.args.pid c.args.op.now c.in_err-spelled.field-0.0 c.in_err-spelled.ensures.why))

pub objects_then-self-inside-requires : goal.objects_then-self-inside-requires
objects_then-self-inside-requires c =
    can_count c.self.inside.host c.operate-came.new.self c.self.inside.objects c.self.inside.most c.self.invariant.counted c.self.invariant.listed (most_low c.self.inside.host c.self.inside.most c.self.invariant.most) c.operate-came.result
    (operate_told c.self.inside.host c.operate-came.new.self c.self.inside.objects c.self.inside.most c.self.invariant.counted c.self.invariant.listed (most_low c.self.inside.host c.self.inside.most c.self.invariant.most)
    c.self.invariant.kept.serves c.serves.ensures c.args.pid c.args.op.now c.in_ok-has_object_left.ensures.ok c.operate-came.result c.operate-came.ensures.done)

pub left_after-self-inside-requires : goal.left_after-self-inside-requires
left_after-self-inside-requires c = let enough = c.in_ok-ready.ensures.ok.1 in let needed = c.needed_to_operate.ensures in omega (arith, enough, needed)

pub invariant_of-self : goal.invariant_of-self
invariant_of-self c = record {
  kept =
      operate_kept c.self.inside.host c.self.inside.left c.self.invariant.kept c.args.pid c.in_ok-ready.ensures.ok.0 c.operate-came.new.self c.args.op.now c.left_after-self-inside.result c.operate-came.result c.in_ok-spelled.ensures.ok c.serves.ensures c.operate-came.ensures.done c.operate-came.ensures.same
      (let enough = c.in_ok-ready.ensures.ok.1 in let needed = c.needed_to_operate.ensures in omega (arith, enough, needed)) c.left_after-self-inside.ensures;
  counted =
      then_counted c.self.inside.host c.operate-came.new.self c.self.inside.objects c.self.inside.most c.self.invariant.counted c.self.invariant.listed (most_low c.self.inside.host c.self.inside.most c.self.invariant.most) c.operate-came.result
      (operate_told c.self.inside.host c.operate-came.new.self c.self.inside.objects c.self.inside.most c.self.invariant.counted c.self.invariant.listed (most_low c.self.inside.host c.self.inside.most c.self.invariant.most)
      c.self.invariant.kept.serves c.serves.ensures c.args.pid c.args.op.now c.in_ok-has_object_left.ensures.ok c.operate-came.result c.operate-came.ensures.done)
      c.operate-came.ensures.same ∙ sym c.objects_then-self-inside.ensures;
  listed =
      let all =
      then_listed c.self.inside.host c.operate-came.new.self c.self.inside.objects c.self.inside.most c.self.invariant.counted c.self.invariant.listed (most_low c.self.inside.host c.self.inside.most c.self.invariant.most) c.operate-came.result
      (operate_told c.self.inside.host c.operate-came.new.self c.self.inside.objects c.self.inside.most c.self.invariant.counted c.self.invariant.listed (most_low c.self.inside.host c.self.inside.most c.self.invariant.most)
      c.self.invariant.kept.serves c.serves.ensures c.args.pid c.args.op.now c.in_ok-has_object_left.ensures.ok c.operate-came.result c.operate-came.ensures.done) in
      let is = c.objects_then-self-inside.ensures in
      omega (arith, all, is);
  room = c.self.invariant.room;
  named = c.self.invariant.named;
  most = most_same c.self.inside.host c.operate-came.new.self c.self.inside.most c.self.invariant.most (operate_basis c.self.inside.host c.operate-came.new.self c.operate-came.result c.operate-came.ensures.same c.args.pid c.args.op.now c.operate-came.ensures.done);
}

pub returns-clause-done : goal.returns-clause-done
returns-clause-done c = subst (λ (old : KeeperValue). IfOk c.operate-came.result (λ event. HasOperatedIn old.host c.operate-came.new.self c.args.pid c.args.op.now event)) c.self.view_is c.operate-came.ensures.done

pub returns-clause-left : goal.returns-clause-left
returns-clause-left c =
    subst (λ (old : KeeperValue). OnOk c.operate-came.result (old.left ≡ c.left_after-self-inside.result + 1)) c.self.view_is
    (takes c.self.inside.left 1 c.left_after-self-inside.result c.operate-came.result (let enough = c.in_ok-ready.ensures.ok.1 in let needed = c.needed_to_operate.ensures in omega (arith, enough, needed)) c.left_after-self-inside.ensures)

pub returns-clause-enough : goal.returns-clause-enough
returns-clause-enough c =
    subst (λ (old : KeeperValue). OnOk c.operate-came.result (needed_to_operate old.host ≤ c.left_after-self-inside.result + 1)) c.self.view_is
    (leaves_behind c.self.inside.left 1 c.left_after-self-inside.result (needed_to_operate c.self.inside.host) c.operate-came.result (let enough = c.in_ok-ready.ensures.ok.1 in let needed = c.needed_to_operate.ensures in omega (arith, enough, needed)) c.left_after-self-inside.ensures
    (let enough = c.in_ok-ready.ensures.ok.1 in let needed = c.needed_to_operate.ensures in omega (arith, enough, needed)))

pub returns-clause-same : goal.returns-clause-same
returns-clause-same c =
    subst (λ (old : KeeperValue). OnErr c.operate-came.result (keeper_of c.operate-came.new.self c.left_after-self-inside.result c.self.inside.freed.names c.objects_then-self-inside.result c.self.inside.taken ≡ old)) c.self.view_is
    (unchanged c.self.inside.host c.operate-came.new.self c.self.inside.left 1 c.left_after-self-inside.result c.self.inside.freed.names c.self.inside.freed.names c.self.inside.objects c.objects_then-self-inside.result c.self.inside.taken c.operate-came.result c.left_after-self-inside.ensures c.objects_then-self-inside.ensures c.operate-came.ensures.same (still c.self.inside.freed.names c.operate-came.result))

pub returns-clause-why : goal.returns-clause-why
returns-clause-why c =
    subst (λ (old : KeeperValue). IfErr c.operate-came.result (λ why. MayRefuseOperation old c.args.pid c.args.op.now why)) c.self.view_is
    (operation_refused c.self.inside.host c.self.inside.left c.self.inside.freed.names c.self.inside.objects c.self.inside.taken c.args.pid c.args.op.now c.operate-came.result c.operate-came.ensures.why)

pub returns-clause-freed : goal.returns-clause-freed
returns-clause-freed c = ap (λ (old : KeeperValue). old.freed) c.self.view_is

pub returns-clause-taken : goal.returns-clause-taken
returns-clause-taken c = ap (λ (old : KeeperValue). old.taken) c.self.view_is
