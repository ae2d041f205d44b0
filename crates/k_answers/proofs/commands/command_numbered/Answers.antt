use Rattle.std.proofs.Common.{sym}
use Rattle.k_answers.proofs.Lists.{of_other_pair}
use Rattle.k_answers.proofs.commands.command_numbered.Goals as goal

pub returns-in_default : goal.returns-in_default
returns-in_default c = sym (of_other_pair c.args.word.now c.args.number.now c.in_default.not-big c.in_default.not-watch)
