use Rattle.k_agree.proofs.Committed.{commit_alone, commit_both}
use Rattle.k_agree.proofs.moving.moved_operations_commit.Goals as goal

pub returns-clause-alone : goal.returns-clause-alone
returns-clause-alone c = commit_alone

pub returns-clause-both : goal.returns-clause-both
returns-clause-both c = commit_both
