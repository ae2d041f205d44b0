use Rattle.k_outcome.proofs.Told.{placed}
use Rattle.k_outcome.proofs.outcome.Outcome.holder.Goals as goal

pub owner_of-requires : goal.owner_of-requires
owner_of-requires c = placed c.args.self.now c.cells-cells.ensures.end c.args.name c.requires
