use Rattle.k_mark.proofs.Shown.{placed_objects, written_objects, recolored_objects, unmarked_objects, freed_objects}
use Rattle.k_mark.proofs.objects.segments_change_their_objects.Goals as goal

pub returns-clause-placed : goal.returns-clause-placed
returns-clause-placed c = placed_objects

pub returns-clause-written : goal.returns-clause-written
returns-clause-written c = written_objects

pub returns-clause-marked : goal.returns-clause-marked
returns-clause-marked c = recolored_objects

pub returns-clause-unmarked : goal.returns-clause-unmarked
returns-clause-unmarked c = unmarked_objects

pub returns-clause-freed : goal.returns-clause-freed
returns-clause-freed c = freed_objects
