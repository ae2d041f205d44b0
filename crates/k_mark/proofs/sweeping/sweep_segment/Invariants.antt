use Rattle.std.proofs.Common.{◌≡◌, ◌≤◌, ◌+◌, length, sum_by}
use Rattle.k_mark.specs.Sweeping.{dead_row}
use Rattle.k_mark.proofs.SweepSteps.{IsSweeping}
use Rattle.k_mark.proofs.Telling.{IsTelling}
use Rattle.k_mark.proofs.sweeping.sweep_segment.Given as goal

abbrev pub invariant-loop-gone : goal.invariant-loop-gone
invariant-loop-gone g l = record {
  sweeping : IsSweeping l.fn.segment l.segment l.from_dead.objects l.from_dead.bytes l.fn.from_dead.objects l.fn.from_dead.bytes;
  room : g.L.Listener.room l.listener ≡ g.L.Listener.room l.fn.listener;
  telling : length (g.L.Listener.heard l.fn.listener) + sum_by dead_row l.fn.segment.rows ≤ g.L.Listener.room l.fn.listener → IsTelling l.fn.segment l.segment (g.L.Listener.heard l.fn.listener) (g.L.Listener.heard l.listener);
}

abbrev pub decreases-loop-gone : goal.decreases-loop-gone
decreases-loop-gone g l = sum_by dead_row l.segment.rows
