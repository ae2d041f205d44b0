use Rattle.std.proofs.Common.{◌∷◌, ◌++◌, [], ap, ◌∙◌}
use Rattle.k_mark.specs.k_types.declared.names.Name.{Name}
use Rattle.k_mark.specs.k_types.Names.{name_of}
use Rattle.k_mark.specs.k_space.Areas.{AreaValue, grayed}
use Rattle.k_cell.specs.Rooted.{grayed_all}
use Rattle.k_cell.proofs.Rooted.{distinct_inside, grayed_push}
use Rattle.k_cell.proofs.rooting.RootedArea.root.Goals as goal

pub settle-requires : goal.settle-requires
settle-requires c = distinct_inside c.self.inside.area c.args.self.now c.self.inside.noted.items c.self.view_is c.requires

pub returns-then-len-capacity : goal.returns-then-len-capacity
returns-then-len-capacity c =
    ap (grayed_all c.self.inside.area) (c.push_reserved.ensures.items ∙ ap (λ (n : Name). c.self.inside.noted.items ++ n ∷ []) c.name.ensures)
    ∙ grayed_push c.self.inside.area c.self.inside.noted.items (name_of c.args.target)
    ∙ ap (λ (a : AreaValue). grayed a (name_of c.args.target)) c.self.view_is
