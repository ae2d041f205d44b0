use Rattle.std.proofs.Common.{◌≡◌, length, sym, ap, subst, ◌∙◌}
use Rattle.k_mark.specs.k_types.declared.names.CellPhase.TheVariants.{Marked}
use Rattle.k_mark.specs.k_exit.Exits.{ExitList}
use Rattle.k_cell.specs.Carried.{IsCarried}
use Rattle.k_cell.specs.Holdings.{AreHoldings, HoldingsValue}
use Rattle.k_cell.proofs.Carried.{settled_carried, taken_carried}
use Rattle.k_cell.proofs.Marks.{all_black, dropped, dropped_kept, was_unmarked}
use Rattle.k_cell.proofs.holding.Holdings.take_unmarked.Goals as goal

pub invariant_of-self : goal.invariant_of-self
invariant_of-self c = record {
  tables =
      dropped_kept c.self.inside.bound c.self.inside.area c.self.inside.exits c.take_unmarked.new.self c.in-Some.link c.in-Some.ensures.some.0 c.in-Some.ensures.some.1 c.self.inside.bytes c.self.inside.phase c.self.invariant.tables;
  carried =
      taken_carried c.self.inside.phase c.self.inside.area c.self.inside.exits c.take_unmarked.new.self c.self.inside.carried c.in-Some.link c.in-Some.ensures.some.0 c.self.invariant.carried c.in-Some.ensures.some.1 c.in-Some.ensures.some.2;
}

pub invariant_of-self-in-None : goal.invariant_of-self-in-None
invariant_of-self-in-None c =
    let marked : c.self.inside.phase ≡ Marked = ap (λ (h : HoldingsValue). h.value.collection) c.self.view_is ∙ c.requires in
    record {
      tables = subst (λ (e : ExitList). AreHoldings c.self.inside.bound c.self.inside.bytes c.self.inside.phase c.self.inside.area e.items) (sym c.in-None.ensures.kept) c.self.invariant.tables;
      carried =
          subst (λ (e : ExitList). IsCarried c.self.inside.phase c.self.inside.area e.items c.settle.new.self) (sym c.in-None.ensures.kept)
          (settled_carried c.self.inside.phase c.self.inside.area c.self.inside.exits.items c.self.inside.carried c.settle.new.self c.len.result c.self.invariant.carried marked c.in-None.ensures.none
          (c.len.ensures.len ∙ ap (λ (e : ExitList). length e.items) c.in-None.ensures.kept) c.settle.ensures.swept c.settle.ensures.other);
    }

pub returns-in-Some-clause-some : goal.returns-in-Some-clause-some
returns-in-Some-clause-some c =
    rw (← c.self.view_is, c.name.ensures)
    (dropped c.self.inside.bound c.self.inside.area c.self.inside.exits c.take_unmarked.new.self c.in-Some.link c.in-Some.ensures.some.0 c.in-Some.ensures.some.1 c.self.inside.phase, was_unmarked c.self.inside.bound c.self.inside.phase c.self.inside.area c.self.inside.exits c.take_unmarked.new.self c.in-Some.link c.in-Some.ensures.some.0 c.in-Some.ensures.some.1 c.in-Some.ensures.some.2)

pub returns-in-None-clause-none : goal.returns-in-None-clause-none
returns-in-None-clause-none c =
    let marked : c.self.inside.phase ≡ Marked = ap (λ (h : HoldingsValue). h.value.collection) c.self.view_is ∙ c.requires in
    rw (← c.self.view_is) (all_black c.self.inside.bound c.self.inside.phase c.self.inside.area c.self.inside.exits marked c.in-None.ensures.none)
