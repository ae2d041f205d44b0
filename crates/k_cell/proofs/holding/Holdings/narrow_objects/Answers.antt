use Rattle.std.proofs.Common.{sym, subst}
use Rattle.k_cell.specs.Holdings.{CanNarrowTo, HoldingsValue}
use Rattle.k_cell.proofs.Resized.{can_narrow, resized_carried, resized_kept, resized_seen}
use Rattle.k_cell.proofs.holding.Holdings.narrow_objects.Goals as goal

pub narrow_in-requires-clause-less : goal.narrow_in-requires-clause-less
narrow_in-requires-clause-less c =
    can_narrow c.self.inside.bound c.args.seg.0 c.args.room c.self.inside.area.segments c.self.invariant.tables.numbered.none
    (subst (λ (h : HoldingsValue). CanNarrowTo h.serial_rooms h.value.objects c.args.seg.0 c.args.room) (sym c.self.view_is) c.requires)

pub invariant_of-self : goal.invariant_of-self
invariant_of-self c =
    let r = c.narrow_in.ensures in
    record {
      tables = resized_kept c.self.inside.area c.narrow_in.new.self c.args.seg.0 c.args.room r c.self.inside.bound c.self.inside.bytes c.self.inside.phase c.self.inside.exits.items c.self.invariant.tables;
      carried = resized_carried c.self.inside.area c.narrow_in.new.self c.args.seg.0 c.args.room r c.self.inside.phase c.self.inside.exits.items c.self.inside.carried c.self.invariant.carried;
    }

pub returns : goal.returns
returns c =
    rw (← c.self.view_is)
    (resized_seen c.self.inside.area c.narrow_in.new.self c.args.seg.0 c.args.room c.narrow_in.ensures c.self.inside.bound c.self.inside.phase c.self.inside.exits c.self.inside.note)
