use Rattle.std.specs.Arc.{arc_value}
use Rattle.k_parts.proofs.Meeting.{kernel_held, rests_seen}
use Rattle.k_parts.proofs.parts.KernelPart.rests.Goals as goal

pub returns : goal.returns
returns g c = rests_seen (kernel_held (arc_value c.self.inside.head) c.self.inside.kernel c.self.view_is c.self.invariant)
