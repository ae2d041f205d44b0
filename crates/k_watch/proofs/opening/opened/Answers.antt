use Rattle.std.proofs.Common.{◌∙◌, [], ◌∷◌}
use Rattle.k_watch.specs.Samples.{sample_in}
use Rattle.k_watch.specs.Steps.{newcomer}
use Rattle.k_watch.proofs.RuleKept.{opens_with, gives}
use Rattle.k_watch.proofs.opening.opened.Goals as goal

pub publish_first-requires-clause-rule : goal.publish_first-requires-clause-rule
publish_first-requires-clause-rule g c = opens_with _ _ _ c.args.sample c.in_ok-cell.ensures.1 c.to_words.ensures.words c.to_words.ensures.small

pub give_watcher-watching-requires : goal.give_watcher-watching-requires
give_watcher-watching-requires g c = record {
  cell = c.publish_first.ensures.cell.0 ∙ c.in_ok-cell.ensures.0;
  rule = gives _ _ (sample_in c.to_words.result ∷ []) newcomer [] c.publish_first.ensures.rule;
}
