use Rattle.std.proofs.Common.{arith}
use Rattle.k_still.proofs.Passes.{events_all}
use Rattle.k_still.proofs.rooms.all_events.Goals as goal

pub returns : goal.returns
returns c = omega (arith, c.len-operations.ensures, c.args.trace.now.order.ok, events_all c.args.trace.now c.requires)
