use Rattle.k_guests.proofs.Steps.{registers_there}
use Rattle.k_calls.proofs.Inside.{done_inside, not_inside, tail_left}
use Rattle.k_calls.proofs.doing.do_inside.Goals as goal

pub local-requires-clause-registers : goal.local-requires-clause-registers
local-requires-clause-registers g c = registers_there g.basis.trace c.args.op.now c.requires.in_range

pub local-requires-clause-room : goal.local-requires-clause-room
local-requires-clause-room g c = tail_left g.basis c.args.guest.now c.args.op.now c.requires

pub returns-clause-some : goal.returns-clause-some
returns-clause-some g c = done_inside g.basis c.args.guest.now c.args.op.now c.requires c.local.new.cell c.local.result c.local.ensures.answer c.local.ensures.some

pub returns-clause-outside : goal.returns-clause-outside
returns-clause-outside g c = not_inside g.basis c.args.guest.now c.args.op.now c.requires c.local.result c.local.ensures.told
