use Rattle.k_process.proofs.Steps.{tail_fits, tail_follows}
use Rattle.k_process.proofs.keeping.tails_can_be_published.Goals as goal

pub returns-clause-room : goal.returns-clause-room
returns-clause-room c = λ trace tie h b hk bk fits. tail_fits trace tie h b hk bk fits

pub returns-clause-follows : goal.returns-clause-follows
returns-clause-follows c = λ trace tie h b hk bk fits. tail_follows trace tie h b hk bk fits
