use Rattle.k_laws.proofs.Laws.{opening_is_sound}
use Rattle.k_laws.proofs.soundness.opening_is_sound.Goals as goal

pub returns : goal.returns
returns c = opening_is_sound
