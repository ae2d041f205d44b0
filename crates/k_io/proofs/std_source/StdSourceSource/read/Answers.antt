use Rattle.k_io.proofs.Counted.{read_cause}
use Rattle.k_io.proofs.std_source.StdSourceSource.read.Goals as goal

pub returns-clause-cause : goal.returns-clause-cause
returns-clause-cause g c = read_cause c.read.result _ _ _ c.read_answer.ensures.later c.read_answer.ensures.seen
