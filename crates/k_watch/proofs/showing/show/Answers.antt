use Rattle.std.proofs.Common.{subst, Option}
use Rattle.k_watch.specs.Shown.{CanShow}
use Rattle.k_watch.specs.Values.{PenValue}
use Rattle.k_watch.proofs.ShownOn.{none_newer, shown_on}
use Rattle.k_watch.proofs.Told.{has_root}
use Rattle.k_watch.proofs.showing.show.Goals as goal

pub publish-requires-clause-root : goal.publish-requires-clause-root
publish-requires-clause-root g c = has_root g.run.trace c.args.book.now c.requires.1.0.keeps c.requires.1.0.of_trace

pub publish-requires-clause-later : goal.publish-requires-clause-later
publish-requires-clause-later g c =
    none_newer g.run.watched g.run.trace c.args.book.now.journal.list c.in-Some.pen (subst (λ (p : Option PenValue). CanShow g.run p c.args.book.now) c.in-Some.is (record { stands = c.requires.1.0; shown = c.requires.1.1 })).shown

pub returns-in-Some : goal.returns-in-Some
returns-in-Some g c =
    shown_on g.run c.in-Some.pen c.publish.new.self c.args.book.now (subst (λ (p : Option PenValue). CanShow g.run p c.args.book.now) c.in-Some.is (record { stands = c.requires.1.0; shown = c.requires.1.1 })) c.publish.ensures
