use Rattle.k_laws.proofs.FrameLaws.{untouched_processes_do_nothing}
use Rattle.k_laws.proofs.frame.untouched_processes_do_nothing.Goals as goal

pub returns : goal.returns
returns c = untouched_processes_do_nothing
