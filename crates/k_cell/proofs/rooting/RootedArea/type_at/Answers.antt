use Rattle.std.proofs.Common.{◌∙◌}
use Rattle.k_cell.proofs.Rooted.{distinct_inside, type_same}
use Rattle.k_cell.proofs.rooting.RootedArea.type_at.Goals as goal

pub type_at-requires : goal.type_at-requires
type_at-requires c = distinct_inside c.self.inside.area c.args.self.now c.self.inside.noted.items c.self.view_is c.requires

pub returns : goal.returns
returns c = c.type_at.ensures ∙ type_same c.self.inside.area c.args.self.now c.self.inside.noted.items c.args.at c.self.view_is
