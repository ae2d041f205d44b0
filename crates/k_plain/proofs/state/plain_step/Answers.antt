use Rattle.k_plain.proofs.Moved.{tried_sound}
use Rattle.k_plain.proofs.state.plain_step.Goals as goal

pub invariant_of-state : goal.invariant_of-state
invariant_of-state c =
    let tried = c.step_if_possible.ensures in
    tried_sound c.state.inside.lists c.step_if_possible.new.lists c.args.event.now c.step_if_possible.result c.state.invariant
    tried.setup tried.possible tried.stepped tried.same tried.err
