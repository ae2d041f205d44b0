use Rattle.std.proofs.Common.{subst, sym}
use Rattle.k_types.specs.declared.event.Event.TheVariants.{Done}
use Rattle.k_types.specs.Steps.{IsPossible}
use Rattle.k_types.specs.Replies.{reply_to}
use Rattle.k_scan.specs.k_state.Machines.{Machine}
use Rattle.k_plain.proofs.Moved.{operated_sound}
use Rattle.k_plain.proofs.state.PlainState.operate.Goals as goal

pub invariant_of-self : goal.invariant_of-self
invariant_of-self c =
    let may = subst (λ (m : Machine). IsPossible m.setup m.state (Done c.args.pid c.args.op.now (reply_to m.setup m.state c.args.pid.0 c.args.op.now))) (sym c.self.view_is) c.requires.possible in
    operated_sound c.self.inside.lists c.operate.new.lists c.args.pid c.args.op.now c.operate.result c.self.invariant may
    c.operate.ensures.setup c.operate.ensures.reply c.operate.ensures.state c.operate.ensures.err
