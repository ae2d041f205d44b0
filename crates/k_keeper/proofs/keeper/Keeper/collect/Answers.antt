use Rattle.std.proofs.Common.{◌≡◌, ◌≤◌, ◌+◌, ◌∙◌, ap, sym, subst, arith, OnErr, OnOk}
use Rattle.std.specs.Prelude.{IfOk}
use Rattle.k_limits.proofs.Making.{handed_on}
use Rattle.k_host.specs.Calls.{HasCollectedIn}
use Rattle.k_keeper.specs.Keeping.{KeeperValue, needed_by_the_kernel}
use Rattle.k_keeper.specs.Kept.{MayRefuseCollection}
use Rattle.k_keeper.proofs.Counted.{can_count, collect_told, most_low, most_same, then_counted, then_listed}
use Rattle.k_keeper.proofs.Listed.{collect_named}
use Rattle.k_keeper.proofs.Refused.{collect_basis, collect_kept, collect_why, collection_unready, keeper_of, leaves, names_kept, takes, unchanged}
use Rattle.k_keeper.proofs.keeper.Keeper.collect.Goals as goal

pub returns-in_err-ready-clause-why : goal.returns-in_err-ready-clause-why
returns-in_err-ready-clause-why c =
    handed_on (MayRefuseCollection c.args.self.now c.args.pid) c.from_residual.result c.in_err-ready.field-0.0 c.from_residual.ensures.1
    (subst (λ (old : KeeperValue). MayRefuseCollection old c.args.pid c.in_err-ready.field-0.0) c.self.view_is
    (collection_unready c.self.inside.host c.self.inside.left c.self.inside.freed.names c.self.inside.objects c.self.inside.taken c.args.pid c.needed_to_collect.result c.needed_to_collect.ensures c.in_err-ready.field-0.0 c.in_err-ready.ensures.why))

pub objects_then-self-inside-requires : goal.objects_then-self-inside-requires
objects_then-self-inside-requires c =
    can_count c.self.inside.host c.collect-came.new.self c.self.inside.objects c.self.inside.most c.self.invariant.counted c.self.invariant.listed (most_low c.self.inside.host c.self.inside.most c.self.invariant.most) c.collect-came.result
    (collect_told c.self.inside.host c.collect-came.new.self c.self.inside.objects c.self.inside.most c.self.invariant.counted c.self.invariant.listed (most_low c.self.inside.host c.self.inside.most c.self.invariant.most)
    c.self.invariant.kept.serves c.serves.ensures c.args.pid c.collect-came.result c.collect-came.ensures.done)

pub left_after-self-inside-requires : goal.left_after-self-inside-requires
left_after-self-inside-requires c = (let enough = c.in_ok-ready.ensures.ok.1 in let needed = c.needed_to_collect.ensures in omega (arith, enough, needed))

pub invariant_of-self : goal.invariant_of-self
invariant_of-self c = record {
  kept = collect_kept c.self.inside.host c.self.inside.left c.self.invariant.kept c.args.pid c.in_ok-ready.ensures.ok.0 c.collect-came.new.self c.left_after-self-inside.result c.collect-came.result c.serves.ensures c.collect-came.ensures.done c.collect-came.ensures.same
      (let enough = c.in_ok-ready.ensures.ok.1 in let needed = c.needed_to_collect.ensures in omega (arith, enough, needed)) c.left_after-self-inside.ensures;
  counted =
      then_counted c.self.inside.host c.collect-came.new.self c.self.inside.objects c.self.inside.most c.self.invariant.counted c.self.invariant.listed (most_low c.self.inside.host c.self.inside.most c.self.invariant.most) c.collect-came.result
      (collect_told c.self.inside.host c.collect-came.new.self c.self.inside.objects c.self.inside.most c.self.invariant.counted c.self.invariant.listed (most_low c.self.inside.host c.self.inside.most c.self.invariant.most)
      c.self.invariant.kept.serves c.serves.ensures c.args.pid c.collect-came.result c.collect-came.ensures.done)
      c.collect-came.ensures.same ∙ sym c.objects_then-self-inside.ensures;
  listed =
      let all =
      then_listed c.self.inside.host c.collect-came.new.self c.self.inside.objects c.self.inside.most c.self.invariant.counted c.self.invariant.listed (most_low c.self.inside.host c.self.inside.most c.self.invariant.most) c.collect-came.result
      (collect_told c.self.inside.host c.collect-came.new.self c.self.inside.objects c.self.inside.most c.self.invariant.counted c.self.invariant.listed (most_low c.self.inside.host c.self.inside.most c.self.invariant.most)
      c.self.invariant.kept.serves c.serves.ensures c.args.pid c.collect-came.result c.collect-came.ensures.done) in
      let is = c.objects_then-self-inside.ensures in
      omega (arith, all, is);
  room = c.collect-came.ensures.room ∙ c.self.invariant.room;
  named =
      let counted = c.self.invariant.counted in
      let listed = c.self.invariant.listed in
      let room = c.self.invariant.room in
      collect_named c.self.inside.host c.collect-came.new.self c.self.inside.objects c.self.inside.most counted listed c.self.invariant.kept.serves c.serves.ensures c.self.inside.freed c.collect-came.new.freed c.self.invariant.named c.args.pid c.collect-came.result
      c.collect-came.ensures.done c.collect-came.ensures.kept (c.collect-came.ensures.freed (omega (arith, counted, listed, room)));
  most = most_same c.self.inside.host c.collect-came.new.self c.self.inside.most c.self.invariant.most (collect_basis c.self.inside.host c.collect-came.new.self c.collect-came.result c.collect-came.ensures.same c.args.pid c.collect-came.ensures.done);
}

pub returns-clause-done : goal.returns-clause-done
returns-clause-done c = subst (λ (old : KeeperValue). IfOk c.collect-came.result (λ event. HasCollectedIn old.host c.collect-came.new.self c.args.pid event)) c.self.view_is c.collect-came.ensures.done

pub returns-clause-left : goal.returns-clause-left
returns-clause-left c =
    subst (λ (old : KeeperValue). OnOk c.collect-came.result (old.left ≡ c.left_after-self-inside.result + 2)) c.self.view_is
    (takes c.self.inside.left 2 c.left_after-self-inside.result c.collect-came.result (let enough = c.in_ok-ready.ensures.ok.1 in let needed = c.needed_to_collect.ensures in omega (arith, enough, needed)) c.left_after-self-inside.ensures)

pub returns-clause-enough : goal.returns-clause-enough
returns-clause-enough c =
    subst (λ (old : KeeperValue). OnOk c.collect-came.result (needed_by_the_kernel old.host ≤ c.left_after-self-inside.result)) c.self.view_is
    (leaves c.self.inside.left 2 c.left_after-self-inside.result (needed_by_the_kernel c.self.inside.host) c.collect-came.result (let enough = c.in_ok-ready.ensures.ok.1 in let needed = c.needed_to_collect.ensures in omega (arith, enough, needed)) c.left_after-self-inside.ensures
    (let enough = c.in_ok-ready.ensures.ok.1 in let needed = c.needed_to_collect.ensures in omega (arith, enough, needed)))

pub returns-clause-same : goal.returns-clause-same
returns-clause-same c =
    subst (λ (old : KeeperValue). OnErr c.collect-came.result (keeper_of c.collect-came.new.self c.left_after-self-inside.result c.collect-came.new.freed.names c.objects_then-self-inside.result c.self.inside.taken ≡ old)) c.self.view_is
    (unchanged c.self.inside.host c.collect-came.new.self c.self.inside.left 2 c.left_after-self-inside.result c.self.inside.freed.names c.collect-came.new.freed.names c.self.inside.objects c.objects_then-self-inside.result c.self.inside.taken c.collect-came.result c.left_after-self-inside.ensures c.objects_then-self-inside.ensures c.collect-came.ensures.same (names_kept c.self.inside.freed c.collect-came.new.freed c.collect-came.result c.collect-came.ensures.kept))

pub returns-clause-why : goal.returns-clause-why
returns-clause-why c = collect_why c.self.inside.host c.self.inside.left c.self.invariant.kept c.args.pid c.in_ok-ready.ensures.ok.0 (λ why. MayRefuseCollection c.args.self.now c.args.pid why) c.collect-came.result (let enough = c.in_ok-ready.ensures.ok.1 in let needed = c.needed_to_collect.ensures in omega (arith, enough, needed)) c.collect-came.ensures.why

pub returns-clause-freed : goal.returns-clause-freed
returns-clause-freed c =
    let counted = c.self.invariant.counted in
    let listed = c.self.invariant.listed in
    let room = c.self.invariant.room in
    c.collect-came.ensures.freed (omega (arith, counted, listed, room))

pub returns-clause-taken : goal.returns-clause-taken
returns-clause-taken c = ap (λ (old : KeeperValue). old.taken) c.self.view_is
