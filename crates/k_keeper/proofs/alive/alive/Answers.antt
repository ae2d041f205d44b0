use Rattle.k_keeper.proofs.Refused.{gone_ended, gone_unknown, told_alive}
use Rattle.k_keeper.proofs.alive.alive.Goals as goal

pub returns-in_default-clause-why : goal.returns-in_default-clause-why
returns-in_default-clause-why c = gone_unknown c.args.host.now c.args.pid c.in_default.ensures

pub returns-then-ended-clause-why : goal.returns-then-ended-clause-why
returns-then-ended-clause-why c = gone_ended c.args.host.now c.args.pid c.in-Some.ended c.if-ended.true c.in-Some.ensures

pub returns-clause-ok : goal.returns-clause-ok
returns-clause-ok c = told_alive c.args.host.now c.args.pid c.in-Some.ended c.if-ended.false c.in-Some.ensures
