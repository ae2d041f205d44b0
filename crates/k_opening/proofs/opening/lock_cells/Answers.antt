use Rattle.std.proofs.Common.{refl}
use Rattle.k_opening.proofs.Opened.{holds_run}
use Rattle.k_opening.proofs.opening.lock_cells.Goals as goal

pub put_together-requires : goal.put_together-requires
put_together-requires g c =
    holds_run g.W.WorldName.world c.args.cells.setup c.args.cells.heaps.processes.items c.args.cells.heaps.shared.items _ _ _ _ c.args.ready.rooms c.args.report c.args.ready.turns c.args.ready.passes.items
    c.requires.stands.processes c.requires.stands.rest.shared c.requires.setup c.lock_all-locks.ensures.0 c.lock_all-locks.ensures.1 refl refl c.requires.rooms c.requires.report c.requires.free
