use Rattle.k_mark.proofs.Foreign.{foreign_told, sound_inside}
use Rattle.k_mark.proofs.parts.foreign_references_are_told_by_objects.Goals as goal

pub returns-clause-told : goal.returns-clause-told
returns-clause-told c = foreign_told

pub returns-clause-sound : goal.returns-clause-sound
returns-clause-sound c = sound_inside
