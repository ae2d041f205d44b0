use Rattle.std.proofs.Common.{sym, subst, ap, arith, List, length}
use Rattle.k_space.specs.Objects.{BodyValue}
use Rattle.k_measure.specs.Inside.{AreNew, LeadNowhere}
use Rattle.k_measure.proofs.Inside.{body_nowhere, new_pushed}
use Rattle.k_measure.proofs.heap.make.Goals as goal

pub loop-made-preserved : goal.loop-made-preserved
loop-made-preserved c =
    let at = c.loop-made.invariant in
    let items = c.push_reserved.ensures.items in
    let nowhere : LeadNowhere c.in_ok-make.field-0.fields = subst (λ (b : BodyValue). LeadNowhere b.fields) (sym c.in_ok-make.ensures) (body_nowhere c.args.types.now (record { 0 = 0 })) in
    record {
      len = omega (arith, at.len, ap (λ (bs : List BodyValue). length bs) items);
      room = omega (arith, at.room, c.push_reserved.ensures.capacity);
      new = subst (λ (bs : List BodyValue). AreNew bs) (sym items) (new_pushed c.loop-made.bodies.items c.in_ok-make.field-0 nowhere at.new);
    }
