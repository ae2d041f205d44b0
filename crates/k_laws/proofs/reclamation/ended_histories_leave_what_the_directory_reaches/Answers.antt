use Rattle.k_laws.proofs.OrderLaws.{ended_histories_leave_what_the_directory_reaches}
use Rattle.k_laws.proofs.reclamation.ended_histories_leave_what_the_directory_reaches.Goals as goal

pub returns : goal.returns
returns c = ended_histories_leave_what_the_directory_reaches
