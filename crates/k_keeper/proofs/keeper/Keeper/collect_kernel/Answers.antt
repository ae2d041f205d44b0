use Rattle.std.proofs.Common.{◌≡◌, ◌∙◌, ap, sym, subst, arith}
use Rattle.std.specs.Prelude.{IfOk}
use Rattle.k_limits.proofs.Making.{handed_on}
use Rattle.k_keeper.specs.Keeping.{KeeperValue}
use Rattle.k_keeper.specs.Kept.{HasCollectedAll, MayRefuseKernel}
use Rattle.k_keeper.proofs.Counted.{can_count, kernel_told, most_low, most_same, still_counted, then_counted, then_listed}
use Rattle.k_keeper.proofs.Listed.{kernel_named}
use Rattle.k_keeper.proofs.Refused.{alive_still, collected_all, keeper_of, kernel_basis, kernel_kept, kernel_same, kernel_unready, kernel_why}
use Rattle.k_keeper.proofs.keeper.Keeper.collect_kernel.Goals as goal

pub returns-in_err-ready-clause-why : goal.returns-in_err-ready-clause-why
returns-in_err-ready-clause-why c =
    handed_on (MayRefuseKernel c.args.self.now c.args.pid) c.from_residual.result c.in_err-ready.field-0.0 c.from_residual.ensures.1
    (subst (λ (old : KeeperValue). MayRefuseKernel old c.args.pid c.in_err-ready.field-0.0) c.self.view_is
    (kernel_unready c.self.inside.host c.self.inside.left c.self.inside.freed.names c.self.inside.objects c.self.inside.taken c.args.pid c.needed_by_the_kernel.result c.needed_by_the_kernel.ensures c.in_err-ready.field-0.0 c.in_err-ready.ensures.why))

pub absorb_all-left-requires-clause-kept : goal.absorb_all-left-requires-clause-kept
absorb_all-left-requires-clause-kept c = c.self.invariant.kept

pub absorb_all-left-requires-clause-enough : goal.absorb_all-left-requires-clause-enough
absorb_all-left-requires-clause-enough c = let enough = c.in_ok-ready.ensures.ok.1 in let needed = c.needed_by_the_kernel.ensures in omega (arith, enough, needed)

pub objects_then-self-inside-requires : goal.objects_then-self-inside-requires
objects_then-self-inside-requires c =
    can_count c.absorb_all-left.new.host c.collect_kernel-came.new.self c.self.inside.objects c.self.inside.most (still_counted c.self.inside.host c.absorb_all-left.new.host c.self.inside.left c.absorb_all-left.result c.absorb_all-left.ensures.absorbed ∙ c.self.invariant.counted) c.self.invariant.listed (most_low c.self.inside.host c.self.inside.most c.self.invariant.most) c.collect_kernel-came.result
    (kernel_told c.absorb_all-left.new.host c.collect_kernel-came.new.self c.self.inside.objects c.self.inside.most (still_counted c.self.inside.host c.absorb_all-left.new.host c.self.inside.left c.absorb_all-left.result c.absorb_all-left.ensures.absorbed ∙ c.self.invariant.counted) c.self.invariant.listed (most_low c.self.inside.host c.self.inside.most c.self.invariant.most)
    c.absorb_all-left.ensures.kept.serves c.serves.ensures c.args.pid c.collect_kernel-came.result c.collect_kernel-came.ensures.done)

pub invariant_of-self : goal.invariant_of-self
invariant_of-self c = record {
  kept = kernel_kept c.absorb_all-left.new.host c.absorb_all-left.result c.absorb_all-left.ensures.kept c.args.pid (alive_still c.self.inside.host c.absorb_all-left.new.host c.args.pid c.absorb_all-left.ensures.absorbed.guests c.in_ok-ready.ensures.ok.0) c.collect_kernel-came.new.self c.left_after-self-inside.result c.collect_kernel-came.result c.serves.ensures c.collect_kernel-came.ensures.done c.collect_kernel-came.ensures.same
      c.absorb_all-left.ensures.enough c.left_after-self-inside.ensures;
  counted =
      then_counted c.absorb_all-left.new.host c.collect_kernel-came.new.self c.self.inside.objects c.self.inside.most (still_counted c.self.inside.host c.absorb_all-left.new.host c.self.inside.left c.absorb_all-left.result c.absorb_all-left.ensures.absorbed ∙ c.self.invariant.counted) c.self.invariant.listed (most_low c.self.inside.host c.self.inside.most c.self.invariant.most) c.collect_kernel-came.result
      (kernel_told c.absorb_all-left.new.host c.collect_kernel-came.new.self c.self.inside.objects c.self.inside.most (still_counted c.self.inside.host c.absorb_all-left.new.host c.self.inside.left c.absorb_all-left.result c.absorb_all-left.ensures.absorbed ∙ c.self.invariant.counted) c.self.invariant.listed (most_low c.self.inside.host c.self.inside.most c.self.invariant.most)
      c.absorb_all-left.ensures.kept.serves c.serves.ensures c.args.pid c.collect_kernel-came.result c.collect_kernel-came.ensures.done)
      c.collect_kernel-came.ensures.same ∙ sym c.objects_then-self-inside.ensures;
  listed =
      let all =
      then_listed c.absorb_all-left.new.host c.collect_kernel-came.new.self c.self.inside.objects c.self.inside.most (still_counted c.self.inside.host c.absorb_all-left.new.host c.self.inside.left c.absorb_all-left.result c.absorb_all-left.ensures.absorbed ∙ c.self.invariant.counted) c.self.invariant.listed (most_low c.self.inside.host c.self.inside.most c.self.invariant.most) c.collect_kernel-came.result
      (kernel_told c.absorb_all-left.new.host c.collect_kernel-came.new.self c.self.inside.objects c.self.inside.most (still_counted c.self.inside.host c.absorb_all-left.new.host c.self.inside.left c.absorb_all-left.result c.absorb_all-left.ensures.absorbed ∙ c.self.invariant.counted) c.self.invariant.listed (most_low c.self.inside.host c.self.inside.most c.self.invariant.most)
      c.absorb_all-left.ensures.kept.serves c.serves.ensures c.args.pid c.collect_kernel-came.result c.collect_kernel-came.ensures.done) in
      let is = c.objects_then-self-inside.ensures in
      omega (arith, all, is);
  room = c.collect_kernel-came.ensures.room ∙ c.self.invariant.room;
  named =
      let counted = still_counted c.self.inside.host c.absorb_all-left.new.host c.self.inside.left c.absorb_all-left.result c.absorb_all-left.ensures.absorbed ∙ c.self.invariant.counted in
      let listed = c.self.invariant.listed in
      let room = c.self.invariant.room in
      kernel_named c.absorb_all-left.new.host c.collect_kernel-came.new.self c.self.inside.objects c.self.inside.most counted listed c.absorb_all-left.ensures.kept.serves c.serves.ensures c.self.inside.freed c.collect_kernel-came.new.freed c.self.invariant.named c.args.pid c.collect_kernel-came.result
      c.collect_kernel-came.ensures.done c.collect_kernel-came.ensures.kept (c.collect_kernel-came.ensures.freed (omega (arith, counted, listed, room)));
  most = most_same c.self.inside.host c.collect_kernel-came.new.self c.self.inside.most c.self.invariant.most
      (kernel_basis c.absorb_all-left.new.host c.collect_kernel-came.new.self c.collect_kernel-came.result c.collect_kernel-came.ensures.same c.args.pid c.collect_kernel-came.ensures.done ∙ c.absorb_all-left.ensures.absorbed.basis);
}

pub returns-clause-done : goal.returns-clause-done
returns-clause-done c =
    subst (λ (old : KeeperValue). IfOk c.collect_kernel-came.result (λ event. HasCollectedAll old (keeper_of c.collect_kernel-came.new.self c.left_after-self-inside.result c.collect_kernel-came.new.freed.names c.objects_then-self-inside.result c.self.inside.taken) c.args.pid event)) c.self.view_is
    (collected_all c.self.inside.host c.absorb_all-left.new.host c.collect_kernel-came.new.self c.self.inside.left c.absorb_all-left.result c.left_after-self-inside.result c.self.inside.freed.names c.collect_kernel-came.new.freed.names c.self.inside.objects c.objects_then-self-inside.result c.self.inside.taken c.args.pid c.collect_kernel-came.result c.absorb_all-left.ensures.absorbed c.absorb_all-left.ensures.none_left c.absorb_all-left.ensures.enough c.left_after-self-inside.ensures c.collect_kernel-came.ensures.done)

pub returns-clause-same : goal.returns-clause-same
returns-clause-same c =
    kernel_same c.absorb_all-left.new.host c.absorb_all-left.result c.absorb_all-left.ensures.kept c.args.pid (alive_still c.self.inside.host c.absorb_all-left.new.host c.args.pid c.absorb_all-left.ensures.absorbed.guests c.in_ok-ready.ensures.ok.0) (keeper_of c.collect_kernel-came.new.self c.left_after-self-inside.result c.collect_kernel-came.new.freed.names c.objects_then-self-inside.result c.self.inside.taken ≡ c.args.self.now) c.collect_kernel-came.result c.absorb_all-left.ensures.enough c.absorb_all-left.ensures.none_left c.collect_kernel-came.ensures.why

pub returns-clause-why : goal.returns-clause-why
returns-clause-why c =
    kernel_why c.absorb_all-left.new.host c.absorb_all-left.result c.absorb_all-left.ensures.kept c.args.pid (alive_still c.self.inside.host c.absorb_all-left.new.host c.args.pid c.absorb_all-left.ensures.absorbed.guests c.in_ok-ready.ensures.ok.0) (λ why. MayRefuseKernel c.args.self.now c.args.pid why) c.collect_kernel-came.result c.absorb_all-left.ensures.enough c.absorb_all-left.ensures.none_left c.collect_kernel-came.ensures.why

pub returns-clause-freed : goal.returns-clause-freed
returns-clause-freed c =
    let between = still_counted c.self.inside.host c.absorb_all-left.new.host c.self.inside.left c.absorb_all-left.result c.absorb_all-left.ensures.absorbed in
    let counted = c.self.invariant.counted in
    let listed = c.self.invariant.listed in
    let room = c.self.invariant.room in
    c.collect_kernel-came.ensures.freed (omega (arith, between, counted, listed, room))

pub returns-clause-taken : goal.returns-clause-taken
returns-clause-taken c = ap (λ (old : KeeperValue). old.taken) c.self.view_is
