use Rattle.k_watch.proofs.ShownEnd.{watched_through}
use Rattle.k_watch.proofs.Told.{has_root}
use Rattle.k_watch.proofs.showing.show_end.Goals as goal

pub publish-requires-clause-root : goal.publish-requires-clause-root
publish-requires-clause-root g c = has_root g.trace c.args.book.now c.requires.1.0 c.requires.1.1.0

pub publish-requires-clause-later : goal.publish-requires-clause-later
publish-requires-clause-later g c = c.requires.1.1.1.1.2

pub returns : goal.returns
returns g c =
    watched_through g.trace c.args.book.now c.args.pen c.publish.new.self c.tell-told.new.self c.args.watcher c.tell-told.result c.sample-sample.new.self c.tell-watcher.result c.sample-sample.result
    (record { rules = c.requires.1.0; of_trace = c.requires.1.1.0; shows = c.requires.1.1.1.0; shown = c.requires.1.1.1.1 })
    c.publish.ensures c.tell-told.ensures.same c.tell-told.ensures.told c.sample-sample.ensures.taken c.sample-sample.ensures.told c.sample-sample.ensures.rises c.tell-watcher.ensures.told c.tell-watcher.ensures.published
