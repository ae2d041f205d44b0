use Rattle.std.proofs.Common.{List, length, sym, ap, subst, arith}
use Rattle.std.proofs.lemmas.List.{length-map}
use Rattle.k_mark.specs.k_exit.Exits.{ExitList, ExitRow}
use Rattle.k_cell.specs.Carried.{IsCarried}
use Rattle.k_cell.specs.Holdings.{AreHoldings, HoldingsValue, holdings_seen}
use Rattle.k_cell.proofs.holding.Holdings.move_exits.Goals as goal

pub move_into-requires : goal.move_into-requires
move_into-requires c =
    let long = ap (λ (h : HoldingsValue). length h.value.exits) c.self.view_is in
    omega (arith, c.requires, long, length-map c.self.inside.exits.items (λ (e : ExitRow). e.target))

pub returns : goal.returns
returns c =
    rw (← c.self.view_is)
    (ap (λ (e : ExitList). holdings_seen c.self.inside.bound c.self.inside.phase c.self.inside.area e c.self.inside.note) c.move_into.ensures)

pub invariant_of-self : goal.invariant_of-self
invariant_of-self c =
    let same = sym (ap (λ (e : ExitList). e.items) c.move_into.ensures) in
    record {
      tables = subst (λ (items : List ExitRow). AreHoldings c.self.inside.bound c.self.inside.bytes c.self.inside.phase c.self.inside.area items) same c.self.invariant.tables;
      carried = subst (λ (items : List ExitRow). IsCarried c.self.inside.phase c.self.inside.area items c.self.inside.carried) same c.self.invariant.carried;
    }
