use Rattle.std.proofs.Common.{◌<◌, ◌∙◌, refl, sym, subst, []}
use Rattle.k_agree.specs.Shown.{idle_part}
use Rattle.k_process.proofs.Looped.{found_at}
use Rattle.k_operate.proofs.HeapsReached.{heap_reached}
use Rattle.k_operate.proofs.Killed.{reaches_no_end}
use Rattle.k_operate.proofs.NextKept.{can_kernel, can_reach_then, can_shared, due_then, next_alone, next_kernel, next_shared}
use Rattle.k_operate.proofs.stepping.do_by_step.Goals as goal

pub reach-requires : goal.reach-requires
reach-requires g c = can_reach_then g.world' c.args.process.now c.args.kernel.now c.args.shared.now.items c.args.book.now c.args.op.now c.requires

pub do_alone-requires : goal.do_alone-requires
do_alone-requires g c = due_then g.world' c.args.process.now c.args.kernel.now c.args.shared.now.items c.args.book.now c.args.op.now c.requires [] (sym c.in-Own.ensures)

pub do_with_kernel-requires : goal.do_with_kernel-requires
do_with_kernel-requires g c = can_kernel g.world' c.args.process.now c.args.kernel.now c.args.shared.now.items c.args.book.now c.args.op.now c.requires (sym c.in-Kernel.ensures)

pub index_mut-heap-requires : goal.index_mut-heap-requires
index_mut-heap-requires g c =
    subst (λ n. c.in-Shared.id.0 < n) (sym (c.args.shared.now.ok.0 ∙ c.requires.rest.shared.count))
    (heap_reached g.world'.trace c.args.book.now c.requires.rest.book.stands c.args.process.now.cell.pid.0 c.in-Shared.id (idle_part c.args.process.now.cell.value) c.args.op.now
    (can_reach_then g.world' c.args.process.now c.args.kernel.now c.args.shared.now.items c.args.book.now c.args.op.now c.requires).in_range (sym c.in-Shared.ensures))

pub do_with_shared-requires : goal.do_with_shared-requires
do_with_shared-requires g c =
    can_shared g.world' c.args.process.now c.args.kernel.now c.args.shared.now.items c.args.book.now c.args.op.now c.requires c.in-Shared.id c.index_mut-heap.result.now
    (found_at c.args.shared.now.items g.world'.trace.shared_heaps c.in-Shared.id.0 c.in-Shared.id.0 c.index_mut-heap.result.now c.index_mut-heap.result.now c.requires.rest.shared.count
    (heap_reached g.world'.trace c.args.book.now c.requires.rest.book.stands c.args.process.now.cell.pid.0 c.in-Shared.id (idle_part c.args.process.now.cell.value) c.args.op.now
    (can_reach_then g.world' c.args.process.now c.args.kernel.now c.args.shared.now.items c.args.book.now c.args.op.now c.requires).in_range (sym c.in-Shared.ensures)) refl c.index_mut-heap.ensures.value refl)
    (sym c.in-Shared.ensures)

pub unreachable-requires : goal.unreachable-requires
unreachable-requires g c =
    reaches_no_end g.world' c.args.process.now c.args.book.now c.args.op.now c.in-End.field-0 (record { process = c.requires.process; book = c.requires.rest.book }) c.requires.spares c.in-End.ensures

pub returns-in-Own : goal.returns-in-Own
returns-in-Own g c = record {
  done =
      next_alone g.world' c.args.op.now c.args.process.now c.do_alone.new.process c.args.kernel.now c.args.shared.now.items c.args.book.now c.do_alone.new.book c.requires.rest c.do_alone.ensures.done;
  events = c.do_alone.ensures.events;
}

pub returns-in-Kernel : goal.returns-in-Kernel
returns-in-Kernel g c = record {
  done =
      next_kernel g.world' c.args.op.now c.args.process.now c.do_with_kernel.new.process c.args.kernel.now c.do_with_kernel.new.kernel c.args.shared.now.items c.args.book.now c.do_with_kernel.new.book c.requires.rest c.do_with_kernel.ensures.done;
  events = c.do_with_kernel.ensures.events;
}

pub returns-in-Shared : goal.returns-in-Shared
returns-in-Shared g c = record {
  done =
      next_shared g.world' c.args.process.now c.args.kernel.now c.args.shared.now.items c.args.book.now c.args.op.now c.requires c.in-Shared.id c.index_mut-heap.result.now
      (found_at c.args.shared.now.items g.world'.trace.shared_heaps c.in-Shared.id.0 c.in-Shared.id.0 c.index_mut-heap.result.now c.index_mut-heap.result.now c.requires.rest.shared.count
      (heap_reached g.world'.trace c.args.book.now c.requires.rest.book.stands c.args.process.now.cell.pid.0 c.in-Shared.id (idle_part c.args.process.now.cell.value) c.args.op.now
      (can_reach_then g.world' c.args.process.now c.args.kernel.now c.args.shared.now.items c.args.book.now c.args.op.now c.requires).in_range (sym c.in-Shared.ensures)) refl c.index_mut-heap.ensures.value refl)
      c.do_with_shared.new.process c.do_with_shared.new.shared c.do_with_shared.new.book c.do_with_shared.ensures.done;
  events = c.do_with_shared.ensures.events;
}
