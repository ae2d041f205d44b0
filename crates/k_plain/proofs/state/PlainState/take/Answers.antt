use Rattle.std.proofs.Common.{subst, sym}
use Rattle.k_types.specs.Steps.{IsPossible}
use Rattle.k_scan.specs.k_state.Machines.{Machine}
use Rattle.k_plain.proofs.Moved.{stepped_sound}
use Rattle.k_plain.proofs.state.PlainState.take.Goals as goal

pub invariant_of-self : goal.invariant_of-self
invariant_of-self c =
    let may = subst (λ (m : Machine). IsPossible m.setup m.state c.args.event.now) (sym c.self.view_is) c.requires.possible in
    stepped_sound c.self.inside.lists c.take_step.new.lists c.args.event.now c.take_step.result c.self.invariant may
    c.take_step.ensures.setup c.take_step.ensures.ok c.take_step.ensures.err
