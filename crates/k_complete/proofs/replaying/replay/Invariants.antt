use Rattle.std.proofs.Common.{map, drop}
use Rattle.k_types.specs.declared.names.Pid.{Pid}
use Rattle.k_operate.specs.k_process.Heaps.{value_of}
use Rattle.k_operate.specs.k_process.BetweenSteps.{AllStand, ArePublished}
use Rattle.k_complete.proofs.ReplayKept.{Files}
use Rattle.k_complete.proofs.replaying.replay.Given as goal

abbrev pub ghost-do_line : goal.ghost-do_line
ghost-do_line g a = g.world'

abbrev pub ghost-close_all : goal.ghost-close_all
ghost-close_all g a = g.world'

abbrev pub ghost-meet_all : goal.ghost-meet_all
ghost-meet_all g a = g.world'

abbrev pub invariant-loop-pid : goal.invariant-loop-pid
invariant-loop-pid g l = record {
  stand : AllStand g.world' (value_of l.heaps);
  published : ArePublished l.heaps.processes.items;
  files : Files g.world'.trace l.heaps.book.journal.list (map (λ (pid : Pid). pid.0) (drop l.pid-index l.order));
}
