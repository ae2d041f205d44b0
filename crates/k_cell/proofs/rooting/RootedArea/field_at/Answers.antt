use Rattle.std.proofs.Common.{List, get_or, ap, ◌∙◌}
use Rattle.k_mark.specs.k_types.Names.{name_of}
use Rattle.k_mark.specs.k_types.State.{Content, Holds}
use Rattle.k_cell.proofs.Rooted.{distinct_inside, fields_same}
use Rattle.k_cell.proofs.rooting.RootedArea.field_at.Goals as goal

pub field_at-requires : goal.field_at-requires
field_at-requires c = distinct_inside c.self.inside.area c.args.self.now c.self.inside.noted.items c.self.view_is c.requires

pub returns : goal.returns
returns c = c.field_at.ensures ∙ ap (λ (xs : List Content). get_or xs c.args.field (Holds 0)) (fields_same c.self.inside.area c.args.self.now c.self.inside.noted.items (name_of c.args.at) c.self.view_is)
