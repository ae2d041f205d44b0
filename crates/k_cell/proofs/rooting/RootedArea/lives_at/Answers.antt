use Rattle.std.proofs.Common.{◌∙◌}
use Rattle.k_cell.proofs.Rooted.{distinct_inside, lives_same}
use Rattle.k_cell.proofs.rooting.RootedArea.lives_at.Goals as goal

pub lives_at-requires : goal.lives_at-requires
lives_at-requires c = distinct_inside c.self.inside.area c.args.self.now c.self.inside.noted.items c.self.view_is c.requires

pub returns : goal.returns
returns c = c.lives_at.ensures ∙ lives_same c.self.inside.area c.args.self.now c.self.inside.noted.items c.args.at c.self.view_is
