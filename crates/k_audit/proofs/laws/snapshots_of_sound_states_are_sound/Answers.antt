use Rattle.k_audit.proofs.FoundSound.{found_sound}
use Rattle.k_audit.proofs.laws.snapshots_of_sound_states_are_sound.Goals as goal

pub returns : goal.returns
returns c = λ names trace st sound range. found_sound trace st sound range names
