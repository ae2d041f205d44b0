use Rattle.std.proofs.Common.{◌≡◌, ◌≤◌, ◌+◌, ◌++◌, map, take, drop, length, sum_by}
use Rattle.k_space.specs.Segments.{SegmentValue}
use Rattle.k_space.specs.Areas.{HasDistinct}
use Rattle.k_mark.specs.Listening.{AreTold}
use Rattle.k_mark.specs.Sweeping.{swept_segment, dead_objects, dead_row, dead_bytes_of}
use Rattle.k_mark.proofs.Telling.{told_by}
use Rattle.k_mark.proofs.sweeping.sweep_telling.Given as goal

abbrev pub invariant-loop-i : goal.invariant-loop-i
invariant-loop-i g l = record {
  segments : l.area.segments ≡ map swept_segment (take l.i l.fn.area.segments) ++ drop l.i l.fn.area.segments;
  room : l.area.room ≡ l.fn.area.room;
  distinct : HasDistinct l.area.segments;
  len : length l.fn.area.segments ≡ l.i-end;
  objects : l.from_dead.objects ≡ l.fn.from_dead.objects + sum_by (λ (s : SegmentValue). sum_by dead_row s.rows) (take l.i l.fn.area.segments);
  bytes : l.from_dead.bytes ≡ l.fn.from_dead.bytes + sum_by (λ (s : SegmentValue). sum_by dead_bytes_of s.rows) (take l.i l.fn.area.segments);
  names_room : g.L.Listener.room l.listener ≡ g.L.Listener.room l.fn.listener;
  told : length (g.L.Listener.heard l.fn.listener) + dead_objects l.fn.area ≤ g.L.Listener.room l.fn.listener →
      AreTold (told_by (take l.i l.fn.area.segments)) (sum_by (λ (s : SegmentValue). sum_by dead_row s.rows) (take l.i l.fn.area.segments)) (g.L.Listener.heard l.fn.listener) (g.L.Listener.heard l.listener);
}
