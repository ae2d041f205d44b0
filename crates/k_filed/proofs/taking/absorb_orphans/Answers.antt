use Rattle.std.proofs.Common.{◌≡◌, ◌<◌, true, ◌+◌, ap, subst, sym, ◌∙◌, arith, Vec, Global}
use Rattle.k_types.specs.declared.event.Event.{Event}
use Rattle.k_types.specs.Steps.{is_orphan}
use Rattle.k_state.specs.Machines.{Machine}
use Rattle.k_filed.proofs.Absorptions.{Absorbing, absorbing_may, absorbing_passes, absorbing_takes}
use Rattle.k_filed.proofs.taking.absorb_orphans.Goals as goal
use Rattle.k_filed.proofs.taking.absorb_orphans.Goals.{then-is_orphan+in_ok-take, else-is_orphan}

pub take-requires-clause-possible : goal.take-requires-clause-possible
take-requires-clause-possible c =
    let before = c.args.state.now in
    let now = c.loop-s.state in
    let orphan : is_orphan now.state c.loop-s.s ≡ true
    = ap (λ (m : Machine). is_orphan m.state c.loop-s.s) (sym c.lists-in-loop-s.ensures.same) ∙ sym c.is_orphan.ensures ∙ c.if-is_orphan.true in
    let inside : c.loop-s.s < before.setup.shared_heaps = omega arith in
    absorbing_may before now c.args.events.now.items c.loop-s.events.items c.loop-s.s inside orphan c.loop-s.invariant.absorbing

pub loop-s-preserved : goal.loop-s-preserved
loop-s-preserved c =
    let before = c.args.state.now in
    let now = c.loop-s.state in
    let old = c.args.events.now.items in
    let s = c.loop-s.s in
    let inside : s < before.setup.shared_heaps = omega arith in
    let low : s < 64 = omega (arith, c.requires.few) in
    let test : is_orphan now.state s ≡ c.is_orphan.result
    = ap (λ (m : Machine). is_orphan m.state s) (sym c.lists-in-loop-s.ensures.same) ∙ sym c.is_orphan.ensures in
    elim c.if-is_orphan.branch [
      | then-is_orphan+in_ok-take w ↦ record {
        all = c.loop-s.invariant.all;
        absorbing = subst (λ (m : Machine). Absorbing before m old c.if-is_orphan.events.items (s + 1)) (sym w.state-is)
            (subst (λ (v : Vec Event Global). Absorbing before w.take.new.state old v.items (s + 1)) (sym w.events-is)
            (absorbing_takes before now w.take.new.state old c.loop-s.events.items w.take.new.events.items s inside low (test ∙ w.if-is_orphan.true)
            c.loop-s.invariant.absorbing w.in_ok-take.ensures));
      }
      | else-is_orphan w ↦ record {
        all = c.loop-s.invariant.all;
        absorbing = subst (λ (m : Machine). Absorbing before m old c.if-is_orphan.events.items (s + 1)) (sym w.state-is)
            (subst (λ (v : Vec Event Global). Absorbing before now old v.items (s + 1)) (sym w.events-is)
            (absorbing_passes before now old c.loop-s.events.items s inside (test ∙ w.if-is_orphan.false) c.loop-s.invariant.absorbing));
      }
    ]
