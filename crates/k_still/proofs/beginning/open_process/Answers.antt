use Rattle.std.proofs.Common.{ap, ◌∙◌, arith}
use Rattle.k_laws.specs.Counts.{stores_in}
use Rattle.k_still.proofs.Begun.{process_begins}
use Rattle.k_still.proofs.beginning.open_process.Goals as goal

pub returns : goal.returns
returns g c =
    process_begins g.world' c.args.setup.now c.args.pid c.args.ops c.args.bodies.items c.args.objects c.args.note (record { objects = c.args.objects; exits = c.stores_in.result; tail = c.len.result }) c.in_ok-cell.cell c.requires
    c.in_ok-cell.ensures (omega arith)
    (omega (arith, c.stores_in.ensures ∙ ap stores_in c.deref.ensures.value))
    (omega (arith, c.len.ensures, c.args.ops.ok))
