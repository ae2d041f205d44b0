use Rattle.k_agree.proofs.Beside.{put_beside, put_refused_beside}
use Rattle.k_agree.proofs.accessing.puts_are_given.Goals as goal

pub returns-clause-written : goal.returns-clause-written
returns-clause-written c = put_beside

pub returns-clause-refused : goal.returns-clause-refused
returns-clause-refused c = put_refused_beside
