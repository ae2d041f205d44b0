use Rattle.std.proofs.Common.{sym, subst}
use Rattle.k_process.proofs.CanDo.{next_in_range}
use Rattle.k_process.proofs.Steps.{done_small, registers_there, tail_room_left}
use Rattle.k_operate.specs.Steps.{HasDoneInside}
use Rattle.k_operate.proofs.StepsKept.{done_inside}
use Rattle.k_operate.proofs.stepping.do_inside.Goals as goal

pub local-requires-clause-registers : goal.local-requires-clause-registers
local-requires-clause-registers g c =
    registers_there g.world'.trace c.args.op.now (next_in_range g.world'.trace g.world'.table c.args.process.now.cell c.requires.process.cell c.args.op.now c.requires.next.rest c.requires.next.left)

pub local-requires-clause-room : goal.local-requires-clause-room
local-requires-clause-room g c = tail_room_left g.world'.trace g.world'.table c.args.process.now.cell c.requires.process.cell c.args.op.now c.requires.next.rest c.requires.next.left

pub local-requires-clause-count : goal.local-requires-clause-count
local-requires-clause-count g c = done_small g.world'.trace g.world'.table c.args.process.now.cell c.requires.process.cell c.args.op.now c.requires.next.rest c.requires.next.left

pub returns : goal.returns
returns g c =
    subst (λ d. HasDoneInside g.world' c.args.op.now c.args.process.now (record { cell = c.local.new.cell; ops = c.args.process.now.ops }) d) (sym c.is_some.ensures)
    (done_inside g.world' c.args.process.now c.args.op.now c.requires c.local.new.cell c.local.result c.local.ensures.answer c.local.ensures.told c.local.ensures.none c.local.ensures.some)
