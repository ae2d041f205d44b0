use Rattle.std.proofs.Common.{List, length, sym, ap, ◌∙◌}
use Rattle.k_mark.specs.k_types.Names.{name_of}
use Rattle.k_mark.specs.k_types.State.{Content}
use Rattle.k_cell.proofs.Found.{fields_found}
use Rattle.k_cell.proofs.holding.Holdings.field_count.Goals as goal

pub returns : goal.returns
returns c =
    rw (← c.self.view_is)
    (c.count_at.ensures ∙ sym (ap (λ (xs : List Content). length xs) (fields_found (name_of c.args.at) c.self.inside.area.segments c.self.inside.bound c.self.invariant.tables.numbered.none)))
