use Rattle.std.proofs.Common.{IfSome}
use Rattle.std.specs.Arc.{arc_value}
use Rattle.std.specs.Prelude.{◌≡◌, IfErr, IfOk, is_some}
use Rattle.k_agree.specs.Shown.{idle_part}
use Rattle.k_laws.specs.Locals.{is_local_in}
use Rattle.k_ends.specs.CallsRefusals.{CanNotDoInside}
use Rattle.k_ends.specs.Doing.{HasDoneInside}
use Rattle.k_parts.proofs.Kept.{came_inside, left_inside, same_inside}
use Rattle.k_parts.proofs.Meeting.{guest_held, lent_first, of_table, rests_again, serves_lent, stays, told}
use Rattle.k_parts.proofs.parts.GuestPart.inside.Goals as goal

pub try_inside-requires : goal.try_inside-requires
try_inside-requires g c =
    let own = lent_first c.deref.ensures (guest_held (arc_value c.self.inside.head) c.self.inside.guest c.self.view_is c.self.invariant) in
    (serves_lent own).serves

pub invariant_of-self : goal.invariant_of-self
invariant_of-self g c =
    let own = lent_first c.deref.ensures (guest_held (arc_value c.self.inside.head) c.self.inside.guest c.self.view_is c.self.invariant) in
    let now = came_inside c.args.op.now (serves_lent own) (of_table own) c.try_inside.new.guest c.try_inside.result c.try_inside.ensures.done c.try_inside.ensures.few c.try_inside.ensures.none c.try_inside.ensures.same in
    rests_again own _ c.try_inside.new.guest now.serves.table now

pub returns : goal.returns
returns g c =
    let own = lent_first c.deref.ensures (guest_held (arc_value c.self.inside.head) c.self.inside.guest c.self.view_is c.self.invariant) in
    let now = came_inside c.args.op.now (serves_lent own) (of_table own) c.try_inside.new.guest c.try_inside.result c.try_inside.ensures.done c.try_inside.ensures.few c.try_inside.ensures.none c.try_inside.ensures.same in
    record {
      done = told own (λ basis x. IfOk c.try_inside.result (λ answer. IfSome answer (λ said. HasDoneInside basis c.args.op.now x c.try_inside.new.guest said))) c.try_inside.ensures.done;
      none = left_inside (arc_value c.self.inside.head) c.self.view_is c.try_inside.new.guest c.try_inside.result c.try_inside.ensures.none;
      told = told own (λ basis x. IfOk c.try_inside.result (λ answer. is_some answer ≡ is_local_in (idle_part x.cell.value) x.cell.pid.0 c.args.op.now)) c.try_inside.ensures.told;
      home = stays own _ now.serves.table;
      same = same_inside (arc_value c.self.inside.head) c.self.view_is c.try_inside.new.guest c.try_inside.result c.try_inside.ensures.same;
      why = told own (λ basis x. IfErr c.try_inside.result (λ why. CanNotDoInside basis c.args.op.now x why)) c.try_inside.ensures.why;
    }
