use Rattle.k_host.proofs.Twined.{room_to_take, taken_more}
use Rattle.k_host.proofs.twin.Twin.take.Goals as goal

pub plain_step-requires : goal.plain_step-requires
plain_step-requires c = room_to_take c.self.inside.state c.self.inside.taken c.self.invariant

pub invariant_of-self-2 : goal.invariant_of-self-2
invariant_of-self-2 c =
    taken_more c.self.inside.state c.plain_step.new.state c.self.inside.taken c.args.event.now c.self.invariant c.if-self-ge-MOST_EVENTS.false c.plain_step.ensures.setup
    (c.in_ok-plain_step.ensures.stepped c.if-not-branch.false)
