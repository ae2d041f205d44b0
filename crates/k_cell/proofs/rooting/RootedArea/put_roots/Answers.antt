use Rattle.k_cell.proofs.Rooted.{distinct_inside}
use Rattle.k_cell.proofs.rooting.RootedArea.put_roots.Goals as goal

pub settle-requires : goal.settle-requires
settle-requires c = distinct_inside c.self.inside.area c.args.self.now c.self.inside.noted.items c.self.view_is c.requires
