use Rattle.std.proofs.Common.{ap, ◌∙◌, sym, subst, [], ◌∷◌, false, true}
use Rattle.k_types.specs.declared.names.Heap.TheVariants.{Kernel, Shared, User}
use Rattle.k_locks.specs.k_process.k_book.Books.{BookRecord}
use Rattle.k_worker.specs.Running.{HasDoneBeside}
use Rattle.k_worker.proofs.Stepped.{none_reached, not_done, shared_not_kernel, two_reached, was_done}
use Rattle.k_locks.specs.k_process.k_heap.Heaps.{HeapRecord}
use Rattle.k_operate.specs.Readiness.{IsReady}
use Rattle.k_locks.specs.k_process.BetweenSteps.{ComesNext}
use Rattle.k_operate.proofs.Since.{can_reach, due}
use Rattle.k_worker.proofs.Shows.{operation_grows}
use Rattle.k_locks.proofs.ShownOn.{was_shown}
use Rattle.k_worker.proofs.stepping.do_under_kernel.Goals as goal

pub reach-requires : goal.reach-requires
reach-requires g c =
    can_reach g.W.WorldName.world c.process.inside.process c.book.inside.book c.args.op.now (record { process = c.process.invariant; book = c.book.invariant.0 })
    (subst (λ (x : HeapRecord). ComesNext g.W.WorldName.world.trace x c.args.op.now) (sym c.process.view_is) c.requires.ready.next)

pub do_with_kernel-requires : goal.do_with_kernel-requires
do_with_kernel-requires g c = record {
  due = due g.W.WorldName.world c.process.inside.process c.book.inside.book c.args.op.now (Kernel ∷ []) (record { process = c.process.invariant; book = c.book.invariant.0 })
      (subst (λ (x : HeapRecord). IsReady g.W.WorldName.world.trace x c.args.op.now) (sym c.process.view_is) c.requires.ready) c.requires.steps (sym c.in-Kernel.ensures);
  kernel = c.kernel.invariant;
}

pub returns-in-Own : goal.returns-in-Own
returns-in-Own g c =
    subst (λ (b : BookRecord). HasDoneBeside g.W.WorldName.world.trace c.args.op.now (Kernel) c.args.process.now c.args.process.now b false) c.book.view_is
    (subst (λ (x : HeapRecord). HasDoneBeside g.W.WorldName.world.trace c.args.op.now (Kernel) x x c.book.inside.book false) c.process.view_is
    (not_done g.W.WorldName.world.trace c.args.op.now (Kernel) c.process.inside.process.cell c.book.inside.book ([]) c.in-Own.ensures (none_reached Kernel)))

pub returns-in-Shared : goal.returns-in-Shared
returns-in-Shared g c =
    subst (λ (b : BookRecord). HasDoneBeside g.W.WorldName.world.trace c.args.op.now (Kernel) c.args.process.now c.args.process.now b false) c.book.view_is
    (subst (λ (x : HeapRecord). HasDoneBeside g.W.WorldName.world.trace c.args.op.now (Kernel) x x c.book.inside.book false) c.process.view_is
    (not_done g.W.WorldName.world.trace c.args.op.now (Kernel) c.process.inside.process.cell c.book.inside.book (Shared c.in-Shared.field-0 ∷ []) c.in-Shared.ensures (shared_not_kernel c.in-Shared.field-0)))

pub returns-in-Kernel : goal.returns-in-Kernel
returns-in-Kernel g c =
    subst (λ (b : BookRecord). HasDoneBeside g.W.WorldName.world.trace c.args.op.now Kernel c.args.process.now c.do_with_kernel.new.process.cell b true) c.book.view_is
    (subst (λ (x : HeapRecord). HasDoneBeside g.W.WorldName.world.trace c.args.op.now Kernel x c.do_with_kernel.new.process.cell c.book.inside.book true) c.process.view_is
    (was_done g.W.WorldName.world.trace c.args.op.now Kernel c.process.inside.process.cell c.book.inside.book c.do_with_kernel.new.process.cell c.do_with_kernel.ensures.done.own.done))

pub returns-in-End : goal.returns-in-End
returns-in-End g c =
    subst (λ (b : BookRecord). HasDoneBeside g.W.WorldName.world.trace c.args.op.now (Kernel) c.args.process.now c.args.process.now b false) c.book.view_is
    (subst (λ (x : HeapRecord). HasDoneBeside g.W.WorldName.world.trace c.args.op.now (Kernel) x x c.book.inside.book false) c.process.view_is
    (not_done g.W.WorldName.world.trace c.args.op.now (Kernel) c.process.inside.process.cell c.book.inside.book (User c.in-End.field-0 ∷ Kernel ∷ []) c.in-End.ensures (two_reached (User c.in-End.field-0) Kernel (Kernel))))

pub show-requires : goal.show-requires
show-requires g c = λ κs lives. (
  lives,
  (
    c.do_with_kernel.ensures.done.own.pair.book.stands,
    was_shown g.W.WorldName.watched g.W.WorldName.world.trace c.book.inside.book.journal.list c.do_with_kernel.new.book.journal.list c.book.inside.pen c.book.invariant.1 (operation_grows _ _ _ c.process.inside.process c.do_with_kernel.new.process c.book.inside.book c.do_with_kernel.new.book (ap (λ (x : HeapRecord). x.value.tail) c.process.view_is ∙ c.requires.ready.settled) c.do_with_kernel.ensures.done.own.settled c.do_with_kernel.ensures.events),
  ),
)
