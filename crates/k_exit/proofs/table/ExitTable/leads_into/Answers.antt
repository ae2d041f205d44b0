use Rattle.std.proofs.Common.{◌==◌, List, ap, ◌∙◌}
use Rattle.std.specs.List.{list_any}
use Rattle.k_exit.specs.declared.chains.Item.{Item}
use Rattle.k_exit.specs.Exits.{ExitRow, ExitList, leads_into}
use Rattle.k_exit.proofs.Lists.{any_rows}
use Rattle.k_exit.proofs.table.ExitTable.leads_into.Goals as goal

pub returns : goal.returns
returns c =
    c.some_in.ensures
    ∙ ap (λ (xs : List Item). list_any (λ (x : Item). x.target.seg.0 == c.args.seg.0) xs) c.deref.ensures.value
    ∙ any_rows (λ (e : ExitRow). e.target.seg.0 == c.args.seg.0) c.self.inside.items.items
    ∙ ap (λ (e : ExitList). leads_into e.items c.args.seg.0) c.self.view_is
