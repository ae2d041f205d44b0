use Rattle.std.proofs.Common.{◌≤◌, List, length, ap, sym, subst, arith}
use Rattle.k_watch.specs.declared.sample.Sample.{Sample}
use Rattle.k_watch.specs.Numbers.{numbers_of}
use Rattle.k_watch.specs.Samples.{newest_of}
use Rattle.k_watch.specs.Values.{PenValue}
use Rattle.k_watch.proofs.SampleLists.{newest_snoc}
use Rattle.k_cell_tests.proofs.watch_tests.publish_all.Goals as goal

pub loop-preserved : goal.loop-preserved
loop-preserved g c =
    let room = c.loop.invariant.room in
    let more = c.grow.ensures.events in
    let same = c.grow.ensures.same_room in
    let inside = c.loop-test.true in
    let last = newest_snoc c.loop.pen.samples (numbers_of c.grow.new.book) in
    record {
      rows = c.grow.ensures.rows;
      room = omega (arith, room, more, same, inside);
      newest = subst (λ (ss : List Sample). newest_of ss ≤ length c.grow.new.book.journal.list) (sym (ap (λ (p : PenValue). p.samples) c.publish.ensures)) (omega (arith, last));
    }
