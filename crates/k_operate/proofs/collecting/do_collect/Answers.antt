use Rattle.k_operate.proofs.Collected.{collected, collected_adds}
use Rattle.k_operate.proofs.collecting.do_collect.Goals as goal

pub returns-clause-done : goal.returns-clause-done
returns-clause-done g c =
    collected g.world' c.args.process.now c.begin_collection.new.process c.mark_collection.new.process c.sweep_collection-freed.new.process c.end_collection.new.process c.sweep_collection-freed.result
    c.args.book.now c.begin_collection.new.book c.end_collection.new.book c.begin_collection.ensures c.mark_collection.ensures c.sweep_collection-freed.ensures c.end_collection.ensures

pub returns-clause-events : goal.returns-clause-events
returns-clause-events g c =
    collected_adds g.world' c.args.process.now c.begin_collection.new.process c.mark_collection.new.process c.sweep_collection-freed.new.process c.end_collection.new.process c.sweep_collection-freed.result
    c.args.book.now c.begin_collection.new.book c.end_collection.new.book c.begin_collection.ensures c.mark_collection.ensures c.sweep_collection-freed.ensures c.end_collection.ensures c.requires.settled
