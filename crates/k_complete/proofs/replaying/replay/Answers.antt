use Rattle.std.proofs.Common.{sym, subst, get_or}
use Rattle.k_types.specs.declared.names.Pid.{Pid}
use Rattle.k_operate.specs.k_process.Heaps.{value_of}
use Rattle.k_complete.proofs.ReplayKept.{Files, can_do_line, files_first, files_next, next_known, replayed}
use Rattle.k_complete.proofs.replaying.replay.Goals as goal
use Rattle.k_types.proofs.Numbered.{order_next, order_over}

pub loop-pid-init : goal.loop-pid-init
loop-pid-init g c = record {
  stand = c.requires.stand;
  published = c.requires.published;
  files = subst (Files g.world'.trace c.args.heaps.now.book.journal.list) (sym c.requires.order_is) (files_first g.world'.trace c.args.heaps.now.book.journal.list c.requires.empty);
}

pub do_line-requires : goal.do_line-requires
do_line-requires g c =
    let pid : Pid = get_or c.args.order.now c.loop-pid.pid-index (record { 0 = 0 }) in
    can_do_line g.world' (value_of c.loop-pid.heaps) c.loop-pid.invariant.stand c.loop-pid.invariant.published pid.0
    (next_known g.world'.trace c.args.order.now c.loop-pid.pid-index (record { 0 = 0 }) c.requires.stand.rest.book.stands.keeps c.requires.order_is c.loop-pid-test.true)

pub loop-pid-preserved : goal.loop-pid-preserved
loop-pid-preserved g c =
    let pid : Pid = get_or c.args.order.now c.loop-pid.pid-index (record { 0 = 0 }) in
    record {
      stand = c.do_line.ensures.stand;
      published = c.do_line.ensures.published;
      files = files_next g.world'.trace c.loop-pid.heaps.book.journal.list c.do_line.new.heaps.book.journal.list pid.0 _
          (subst (Files g.world'.trace c.loop-pid.heaps.book.journal.list) (order_next c.args.order.now c.loop-pid.pid-index (record { 0 = 0 }) c.loop-pid-test.true) c.loop-pid.invariant.files) c.do_line.ensures.journal;
    }

pub close_all-requires : goal.close_all-requires
close_all-requires g c = c.loop-pid.invariant.stand.rest

pub meet_all-requires : goal.meet_all-requires
meet_all-requires g c = record { processes = c.loop-pid.invariant.stand.processes; kernel = c.close_all.ensures.kernel; shared = c.close_all.ensures.shared; book = c.close_all.ensures.book }

pub returns : goal.returns
returns g c =
    replayed g.world' (record { processes = c.loop-pid.heaps.processes.items; kernel = c.close_all.new.kernel; shared = c.close_all.new.shared.items; book = c.close_all.new.book }) (value_of c.meet_all.new.heaps)
    c.loop-pid.heaps.book c.requires.stand.rest.book.stands.keeps c.loop-pid.invariant.published
    (subst (Files g.world'.trace c.loop-pid.heaps.book.journal.list) (order_over c.args.order.now c.loop-pid.pid-index c.loop-pid-test.false) c.loop-pid.invariant.files)
    c.close_all.ensures c.meet_all.ensures
