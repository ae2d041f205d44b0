use Rattle.k_laws.proofs.Laws.{entered_objects_are_counted-entries, entered_objects_are_counted-entered}
use Rattle.k_laws.proofs.meaning.entered_objects_are_counted.Goals as goal

pub returns-clause-entries : goal.returns-clause-entries
returns-clause-entries c = entered_objects_are_counted-entries

pub returns-clause-entered : goal.returns-clause-entered
returns-clause-entered c = entered_objects_are_counted-entered
