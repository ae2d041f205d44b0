use Rattle.std.proofs.Common.{◌≡◌, ◌+◌, ◌-◌, ◌≤◌, length}
use Rattle.k_watch.specs.Samples.{newest_of}
use Rattle.k_cell_tests.proofs.watch_tests.publish_all.Given as goal

abbrev pub invariant-loop : goal.invariant-loop
invariant-loop g l = record {
  rows : length l.book.rows ≡ 1;
  room : length l.book.journal.list + (l.count - l.counter) ≤ l.book.event_room;
  newest : newest_of l.pen.samples ≤ length l.book.journal.list;
}
