use Rattle.k_types.specs.Names.{name_of}
use Rattle.k_entry.specs.Entries.{home_of}
use Rattle.k_measure.proofs.Walks.{first_counted, after_counted}
use Rattle.k_measure.proofs.entries.walk.Goals as goal

pub loop-step-init : goal.loop-step-init
loop-step-init c = λ link e. first_counted c.args.table.now c.args.heap c.first_of-at.result link c.first_of-at.ensures.entries c.first_of-at.ensures.first e

pub loop-step-preserved : goal.loop-step-preserved
loop-step-preserved c = λ link e.
    after_counted c.args.table.now (home_of c.args.table.now.homes c.in-Some.link.seg.0) (name_of c.in-Some.link) c.next_at-at.result link c.next_at-at.ensures.entries c.next_at-at.ensures.next e
