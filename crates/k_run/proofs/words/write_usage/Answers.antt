use Rattle.k_status.proofs.Written.{written_by}
use Rattle.k_run.specs.Words.{usage_text}
use Rattle.k_run.proofs.words.write_usage.Goals as goal

pub returns : goal.returns
unfolding usage_text
returns g c = written_by _ _ _ _ _ _ _ _ (λ none. none) c.after_writing.ensures c.write_all-written.ensures
