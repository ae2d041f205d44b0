use Rattle.std.proofs.Common.{sym, ◌∙◌}
use Rattle.k_space.proofs.Soundness.{living_is, segment_sound}
use Rattle.k_space.proofs.segment.Segment.living.Goals as goal

pub returns-clause-value : goal.returns-clause-value
returns-clause-value c = c.len.ensures ∙ sym (living_is _ _ _ _ _ _ _ c.self.invariant.sound c.self.invariant.bytes c.args.self.now c.self.view_is)

pub returns-clause-sound : goal.returns-clause-sound
returns-clause-sound c = segment_sound _ _ _ _ _ _ _ c.self.invariant.sound c.self.invariant.bytes c.args.self.now c.self.view_is
