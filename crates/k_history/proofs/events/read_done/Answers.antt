use Rattle.k_reports.proofs.DoneLines.{one_sided, no_operation}
use Rattle.k_history.proofs.events.read_done.Goals as goal

pub returns-in_default : goal.returns-in_default
returns-in_default c = one_sided c.args.names.now _ c.in_default.ensures.none

pub returns-in_default-after_word : goal.returns-in_default-after_word
returns-in_default-after_word c = no_operation c.args.names.now _ _ _ c.in-Some.ensures.some.0 c.in_default-after_word.ensures.none
