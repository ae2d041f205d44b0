use Rattle.std.specs.Arc.{arc_value}
use Rattle.k_parts.proofs.Meeting.{shared_held, rests_seen}
use Rattle.k_parts.proofs.parts.SharedPart.rests.Goals as goal

pub returns : goal.returns
returns g c = rests_seen (shared_held (arc_value c.self.inside.head) c.self.inside.heap c.self.view_is c.self.invariant)
