use Rattle.k_mark.proofs.OfParts.{collected_part, dead_part, bytes_part}
use Rattle.k_mark.proofs.parts.a_sweep_is_the_collection_of_the_part.Goals as goal

pub returns-clause-collected : goal.returns-clause-collected
returns-clause-collected c = collected_part

pub returns-clause-dead : goal.returns-clause-dead
returns-clause-dead c = dead_part

pub returns-clause-bytes : goal.returns-clause-bytes
returns-clause-bytes c = bytes_part
