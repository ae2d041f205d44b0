use Rattle.std.specs.Arc.{arc_value}
use Rattle.k_parts.proofs.Meeting.{guest_held, rests_seen}
use Rattle.k_parts.proofs.parts.GuestPart.rests.Goals as goal

pub returns : goal.returns
returns g c = rests_seen (guest_held (arc_value c.self.inside.head) c.self.inside.guest c.self.view_is c.self.invariant)
