use Rattle.k_mark.proofs.Joined.{placed_area, area_ordered}
use Rattle.k_mark.proofs.changes.placing_puts_the_object_in_its_place.Goals as goal

pub returns-clause-ordered : goal.returns-clause-ordered
returns-clause-ordered c = area_ordered

pub returns-clause-objects : goal.returns-clause-objects
returns-clause-objects c = placed_area
