use Rattle.k_laws.proofs.Laws.{steps_are_sound}
use Rattle.k_laws.proofs.soundness.steps_are_sound.Goals as goal

pub returns : goal.returns
returns c = steps_are_sound
