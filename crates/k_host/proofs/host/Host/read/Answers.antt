use Rattle.k_trace.specs.Meaning.{meaning_of}
use Rattle.k_host.proofs.Opened.{read_made, read_refused, rules_open}
use Rattle.k_host.proofs.host.Host.read.Goals as goal

pub make-requires : goal.make-requires
make-requires c = rules_open c.in-Ok.trace.setup (meaning_of c.in-Ok.trace).trace.operations (meaning_of c.in-Ok.trace).trace.order c.in-Ok.ensures.rules

pub returns-in-Ok-clause-read : goal.returns-in-Ok-clause-read
returns-in-Ok-clause-read c =
    read_made c.args.text.now c.in-Ok.trace c.args.ty c.args.bodies c.args.rooms c.in-Ok.ensures.ok c.make.result c.make.ensures.made c.make.ensures.fit

pub returns-in-Ok-clause-why : goal.returns-in-Ok-clause-why
returns-in-Ok-clause-why c = read_refused c.args.text.now c.in-Ok.trace c.args.ty c.args.bodies c.args.rooms c.in-Ok.ensures.ok c.make.result c.make.ensures.why
