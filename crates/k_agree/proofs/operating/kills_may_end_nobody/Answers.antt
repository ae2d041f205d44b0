use Rattle.k_agree.proofs.Killing.{kill_idle, kill_refused}
use Rattle.k_agree.proofs.operating.kills_may_end_nobody.Goals as goal

pub returns-clause-refused : goal.returns-clause-refused
returns-clause-refused c = kill_refused

pub returns-clause-idle : goal.returns-clause-idle
returns-clause-idle c = kill_idle
