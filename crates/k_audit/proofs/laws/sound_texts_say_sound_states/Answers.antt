use Rattle.k_audit.proofs.Shaped.{sound_text}
use Rattle.k_audit.proofs.laws.sound_texts_say_sound_states.Goals as goal

pub returns : goal.returns
returns c = sound_text
