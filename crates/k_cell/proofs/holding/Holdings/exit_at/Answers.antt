use Rattle.std.proofs.Common.{length, ap, arith}
use Rattle.std.proofs.lemmas.List.{length-map}
use Rattle.k_mark.specs.k_exit.Exits.{ExitRow}
use Rattle.k_cell.specs.Holdings.{HoldingsValue}
use Rattle.k_cell.proofs.Lists.{target_at}
use Rattle.k_cell.proofs.holding.Holdings.exit_at.Goals as goal

pub returns : goal.returns
returns c =
    let long = ap (λ (h : HoldingsValue). length h.value.exits) c.self.view_is in
    rw (← c.self.view_is) (target_at c.self.inside.exits.items c.args.i c.target.result (omega (arith, long, c.requires, length-map c.self.inside.exits.items (λ (e : ExitRow). e.target))) c.target.ensures)
