use Rattle.std.proofs.Common.{◌≤◌, sym, subst}
use Rattle.k_watch.specs.Samples.{newest_of}
use Rattle.k_watch.specs.Values.{PenValue}
use Rattle.k_watch.proofs.RuleKept.{publishes_with}
use Rattle.k_watch.proofs.pen.WatchPen.publish_sample.Goals as goal

pub publish_next-requires-clause-rule : goal.publish_next-requires-clause-rule
publish_next-requires-clause-rule g c =
    publishes_with _ _ _ _ c.args.sample c.self.invariant.1 c.to_words.ensures.words c.to_words.ensures.small
    (subst (λ (p : PenValue). newest_of p.samples ≤ c.args.sample.events) (sym c.self.view_is) c.requires)
