use Rattle.k_agree.proofs.Beside.{refused_beside}
use Rattle.k_agree.proofs.Given.{refused_alone}
use Rattle.k_agree.proofs.operating.refused_operations_count.Goals as goal

pub returns-clause-alone : goal.returns-clause-alone
returns-clause-alone c = refused_alone

pub returns-clause-both : goal.returns-clause-both
returns-clause-both c = refused_beside
