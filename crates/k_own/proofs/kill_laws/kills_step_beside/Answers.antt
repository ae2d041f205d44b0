use Rattle.k_own.proofs.Killed.{kill_beside}
use Rattle.k_own.proofs.kill_laws.kills_step_beside.Goals as goal

pub returns : goal.returns
returns c = kill_beside
