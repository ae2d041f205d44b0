use Rattle.std.proofs.Common.{sym}
use Rattle.k_answers.proofs.Lists.{of_other}
use Rattle.k_answers.proofs.commands.command_named.Goals as goal

pub returns-in_default : goal.returns-in_default
returns-in_default c = sym (of_other c.args.word.now c.in_default.not-run c.in_default.not-replay c.in_default.not-check c.in_default.not-work c.in_default.not-snap c.in_default.not-audit c.in_default.not-tree)
