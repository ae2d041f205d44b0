use Rattle.k_laws.proofs.Laws.{states_are_sound}
use Rattle.k_laws.proofs.soundness.states_are_sound.Goals as goal

pub returns : goal.returns
returns c = states_are_sound
