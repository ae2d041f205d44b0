use Rattle.std.proofs.Common.{◌≡◌, ◌-◌, ℕ, suc, subst, refl, arith}
use Rattle.k_exit.specs.Chains.{IsClimb}
use Rattle.k_exit.proofs.Relinks.{climb_begins, climb_goes}
use Rattle.k_exit.proofs.chains.above.Goals as goal

pub loop-next-init : goal.loop-next-init
loop-next-init c = climb_begins c.args.items.now c.args.heads.now c.args.end c.args.chain c.args.i _ c.requires.linked c.requires.chain refl

pub offset_bounds-items-next : goal.offset_bounds-items-next
offset_bounds-items-next c =
    let here = c.loop-next.invariant.leads (c.loop-next.next - 1) (omega arith) (omega arith) in
    let l = c.requires.linked.linked in
    omega (arith, here.0, c.loop-next.invariant.within, l.end_in, l.room, l.small)

pub bounds-items-next : goal.bounds-items-next
bounds-items-next c =
    let here = c.loop-next.invariant.leads (c.loop-next.next - 1) (omega arith) (omega arith) in
    omega (arith, here.0, c.loop-next.invariant.within, c.requires.linked.linked.end_in)

pub loop-next-smaller : goal.loop-next-smaller
loop-next-smaller c =
    let one : c.loop-next.next ≡ suc (c.loop-next.next - 1) = omega arith in
    let goes = climb_goes c.args.items.now c.args.heads.now c.args.end c.args.chain c.args.i c.loop-next.found (c.loop-next.next - 1) _ c.requires.linked
    (subst (λ (n : ℕ). IsClimb c.args.items.now c.args.heads.now c.args.end c.args.chain c.args.i c.loop-next.found n) one c.loop-next.invariant) (omega arith) refl in
    omega (arith, goes.1)

pub loop-next-preserved : goal.loop-next-preserved
loop-next-preserved c =
    let one : c.loop-next.next ≡ suc (c.loop-next.next - 1) = omega arith in
    (climb_goes c.args.items.now c.args.heads.now c.args.end c.args.chain c.args.i c.loop-next.found (c.loop-next.next - 1) _ c.requires.linked
    (subst (λ (n : ℕ). IsClimb c.args.items.now c.args.heads.now c.args.end c.args.chain c.args.i c.loop-next.found n) one c.loop-next.invariant) (omega arith) refl).0
