use Rattle.std.proofs.Common.{List, length, ap, ◌∙◌}
use Rattle.k_mark.specs.k_types.Names.{name_of}
use Rattle.k_mark.specs.k_types.State.{Content}
use Rattle.k_cell.proofs.Rooted.{distinct_inside, fields_same}
use Rattle.k_cell.proofs.rooting.RootedArea.count_at.Goals as goal

pub count_at-requires : goal.count_at-requires
count_at-requires c = distinct_inside c.self.inside.area c.args.self.now c.self.inside.noted.items c.self.view_is c.requires

pub returns : goal.returns
returns c = c.count_at.ensures ∙ ap (λ (xs : List Content). length xs) (fields_same c.self.inside.area c.args.self.now c.self.inside.noted.items (name_of c.args.at) c.self.view_is)
