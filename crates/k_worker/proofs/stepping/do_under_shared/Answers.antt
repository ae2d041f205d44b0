use Rattle.std.proofs.Common.{ap, ◌∙◌, sym, subst, [], ◌∷◌, false}
use Rattle.k_types.specs.declared.names.Heap.TheVariants.{Kernel, Shared, User}
use Rattle.k_locks.specs.k_process.k_book.Books.{BookRecord}
use Rattle.k_worker.specs.Running.{HasDoneBeside}
use Rattle.k_worker.proofs.Stepped.{kernel_not_shared, none_reached, not_done, two_reached}
use Rattle.k_locks.specs.k_process.k_heap.Heaps.{HeapRecord}
use Rattle.k_locks.specs.k_process.BetweenSteps.{ComesNext}
use Rattle.k_operate.proofs.Since.{can_reach}
use Rattle.k_worker.proofs.Shows.{operation_grows}
use Rattle.k_locks.proofs.ShownOn.{was_shown}
use Rattle.k_worker.proofs.stepping.do_under_shared.Goals as goal

pub reach-requires : goal.reach-requires
reach-requires g c =
    can_reach g.W.WorldName.world c.process.inside.process c.book.inside.book c.args.op.now (record { process = c.process.invariant; book = c.book.invariant.0 })
    (subst (λ (x : HeapRecord). ComesNext g.W.WorldName.world.trace x c.args.op.now) (sym c.process.view_is) c.requires.ready.next)

pub returns-in-Own : goal.returns-in-Own
returns-in-Own g c =
    subst (λ (b : BookRecord). HasDoneBeside g.W.WorldName.world.trace c.args.op.now (Shared c.args.shared.now.id) c.args.process.now c.args.process.now b false) c.book.view_is
    (subst (λ (x : HeapRecord). HasDoneBeside g.W.WorldName.world.trace c.args.op.now (Shared c.args.shared.now.id) x x c.book.inside.book false) c.process.view_is
    (not_done g.W.WorldName.world.trace c.args.op.now (Shared c.args.shared.now.id) c.process.inside.process.cell c.book.inside.book ([]) c.in-Own.ensures (none_reached (Shared c.args.shared.now.id))))

pub returns-in-Kernel : goal.returns-in-Kernel
returns-in-Kernel g c =
    subst (λ (b : BookRecord). HasDoneBeside g.W.WorldName.world.trace c.args.op.now (Shared c.args.shared.now.id) c.args.process.now c.args.process.now b false) c.book.view_is
    (subst (λ (x : HeapRecord). HasDoneBeside g.W.WorldName.world.trace c.args.op.now (Shared c.args.shared.now.id) x x c.book.inside.book false) c.process.view_is
    (not_done g.W.WorldName.world.trace c.args.op.now (Shared c.args.shared.now.id) c.process.inside.process.cell c.book.inside.book (Kernel ∷ []) c.in-Kernel.ensures (kernel_not_shared c.args.shared.now.id)))

pub returns-in-End : goal.returns-in-End
returns-in-End g c =
    subst (λ (b : BookRecord). HasDoneBeside g.W.WorldName.world.trace c.args.op.now (Shared c.args.shared.now.id) c.args.process.now c.args.process.now b false) c.book.view_is
    (subst (λ (x : HeapRecord). HasDoneBeside g.W.WorldName.world.trace c.args.op.now (Shared c.args.shared.now.id) x x c.book.inside.book false) c.process.view_is
    (not_done g.W.WorldName.world.trace c.args.op.now (Shared c.args.shared.now.id) c.process.inside.process.cell c.book.inside.book (User c.in-End.field-0 ∷ Kernel ∷ []) c.in-End.ensures (two_reached (User c.in-End.field-0) Kernel (Shared c.args.shared.now.id))))

pub show-requires : goal.show-requires
show-requires g c = λ κs lives. (
  lives,
  (
    c.do_with_shared.ensures.done.own.pair.book.stands,
    was_shown g.W.WorldName.watched g.W.WorldName.world.trace c.book.inside.book.journal.list c.do_with_shared.new.book.journal.list c.book.inside.pen c.book.invariant.1 (operation_grows _ _ _ c.process.inside.process c.do_with_shared.new.process c.book.inside.book c.do_with_shared.new.book (ap (λ (x : HeapRecord). x.value.tail) c.process.view_is ∙ c.requires.ready.settled) c.do_with_shared.ensures.done.own.settled c.do_with_shared.ensures.events),
  ),
)
