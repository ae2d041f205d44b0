use Rattle.std.proofs.Common.{ap, ◌∙◌, sym, subst}
use Rattle.k_types.specs.declared.op.Op.TheVariants.{Kill}
use Rattle.k_locks.specs.k_process.k_heap.Heaps.{HeapRecord}
use Rattle.k_operate.specs.Collecting.{HasSameLeft}
use Rattle.k_locks.specs.k_process.BetweenSteps.{ComesNext, HasDone}
use Rattle.k_worker.proofs.Shows.{kill_grows}
use Rattle.k_locks.proofs.ShownOn.{was_shown}
use Rattle.k_worker.proofs.collecting.kill.Goals as goal

pub do_kill-requires : goal.do_kill-requires
do_kill-requires g c = record {
  pair = record { process = c.process.invariant; book = c.book.invariant.0 };
  target = c.target.invariant;
  kernel = c.kernel.invariant;
  next = subst (λ (x : HeapRecord). ComesNext g.W.WorldName.world.trace x c.args.op.now) (sym c.process.view_is) c.requires.next;
  asks = c.requires.asks ∙ ap (λ (x : HeapRecord). Kill x.pid) (sym c.target.view_is);
}

pub returns-clause-own : goal.returns-clause-own
returns-clause-own g c =
    subst (λ (x : HeapRecord). HasDone g.W.WorldName.world.trace c.args.op.now x c.do_kill.new.process.cell) c.process.view_is c.do_kill.ensures.done.own.done

pub returns-clause-target : goal.returns-clause-target
returns-clause-target g c =
    subst (λ (x : HeapRecord). HasSameLeft g.W.WorldName.world.trace x c.do_kill.new.target.cell) c.target.view_is c.do_kill.ensures.done.same

pub show-requires : goal.show-requires
show-requires g c = λ κs lives. (
  lives,
  (
    c.do_kill.ensures.done.own.pair.book.stands,
    was_shown g.W.WorldName.watched g.W.WorldName.world.trace c.book.inside.book.journal.list c.do_kill.new.book.journal.list c.book.inside.pen c.book.invariant.1 (kill_grows _ _ _ c.process.inside.process c.target.inside.process c.do_kill.new.process c.book.inside.book c.do_kill.new.book c.do_kill.ensures.done.own.settled c.do_kill.ensures.events),
  ),
)
