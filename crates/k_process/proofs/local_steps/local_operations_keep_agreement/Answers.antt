use Rattle.k_process.proofs.LocalKept.{local_agrees, local_is_possible}
use Rattle.k_process.proofs.local_steps.local_operations_keep_agreement.Goals as goal

pub returns-clause-possible : goal.returns-clause-possible
returns-clause-possible c = λ trace pid note v op said limits a idle lives ranged answer. local_is_possible trace limits pid note v op said a idle lives ranged answer

pub returns-clause-agrees : goal.returns-clause-agrees
returns-clause-agrees c = λ trace pid note v op said limits a idle lives ranged answer. local_agrees trace limits pid note v op said a idle lives ranged answer
