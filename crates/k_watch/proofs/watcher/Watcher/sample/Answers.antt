use Rattle.k_watch.proofs.RuleKept.{takes}
use Rattle.k_watch.proofs.watcher.Watcher.sample.Goals as goal

pub take_sample-words-requires-clause-rule : goal.take_sample-words-requires-clause-rule
take_sample-words-requires-clause-rule g c = takes _ _ _ c.self.invariant.1
