use Rattle.std.proofs.Common.{sym, ap, subst, ◌∙◌}
use Rattle.std.proofs.lemmas.Result.{on_err_weaker, on_ok_weaker}
use Rattle.k_mark.specs.k_space.Areas.{AreaValue}
use Rattle.k_cell.specs.Carried.{IsCarried}
use Rattle.k_cell.specs.Holdings.{AreHoldings, AreWithin, CanGrowTo, HoldingsValue, holdings_seen}
use Rattle.k_cell.proofs.Resized.{can_grow, either_way, living_within, resized_carried, resized_kept, resized_seen}
use Rattle.k_cell.proofs.holding.Holdings.grow_objects.Goals as goal

pub grow_in-requires-clause-more : goal.grow_in-requires-clause-more
grow_in-requires-clause-more c =
    can_grow c.self.inside.bound c.args.seg.0 c.args.room c.self.inside.area.segments c.self.invariant.tables.numbered.none
    (subst (λ (h : HoldingsValue). CanGrowTo h.serial_rooms c.args.seg.0 c.args.room) (sym c.self.view_is) c.requires.more)

pub invariant_of-self : goal.invariant_of-self
invariant_of-self c =
    either_way c.grow_in.result
    (λ r. record {
      tables = resized_kept c.self.inside.area c.grow_in.new.self c.args.seg.0 c.args.room r c.self.inside.bound c.self.inside.bytes c.self.inside.phase c.self.inside.exits.items c.self.invariant.tables;
      carried = resized_carried c.self.inside.area c.grow_in.new.self c.args.seg.0 c.args.room r c.self.inside.phase c.self.inside.exits.items c.self.inside.carried c.self.invariant.carried;
    })
    (λ same. record {
      tables = subst (λ (a : AreaValue). AreHoldings c.self.inside.bound c.self.inside.bytes c.self.inside.phase a c.self.inside.exits.items) (sym same) c.self.invariant.tables;
      carried = subst (λ (a : AreaValue). IsCarried c.self.inside.phase a c.self.inside.exits.items c.self.inside.carried) (sym same) c.self.invariant.carried;
    })
    c.grow_in.ensures.ok c.grow_in.ensures.err

pub returns-clause-ok : goal.returns-clause-ok
returns-clause-ok c =
    on_ok_weaker c.grow_in.result
    (λ r. rw (← c.self.view_is) (resized_seen c.self.inside.area c.grow_in.new.self c.args.seg.0 c.args.room r c.self.inside.bound c.self.inside.phase c.self.inside.exits c.self.inside.note))
    c.grow_in.ensures.ok

pub returns-clause-err : goal.returns-clause-err
returns-clause-err c =
    on_err_weaker c.grow_in.result
    (λ same. ap (λ (a : AreaValue). holdings_seen c.self.inside.bound c.self.inside.phase a c.self.inside.exits c.self.inside.note) same ∙ c.self.view_is)
    c.grow_in.ensures.err

pub returns-clause-within : goal.returns-clause-within
returns-clause-within c =
    subst (λ (h : HoldingsValue). AreWithin h.serial_rooms h.value.objects c.args.seg.0) c.self.view_is
    (λ now there. living_within c.self.inside.bound c.args.seg.0 c.args.room c.self.inside.area.segments c.self.invariant.tables.numbered.none now c.grow_in.ensures.within there)
