use Rattle.k_laws.proofs.ChangesLaws.{cells_tell_what_is_read_of_them-objects, cells_tell_what_is_read_of_them-registers, cells_tell_what_is_read_of_them-names, cells_tell_what_is_read_of_them-bytes}
use Rattle.k_laws.proofs.telling.cells_tell_what_is_read_of_them.Goals as goal

pub returns-clause-objects : goal.returns-clause-objects
returns-clause-objects c = cells_tell_what_is_read_of_them-objects

pub returns-clause-registers : goal.returns-clause-registers
returns-clause-registers c = cells_tell_what_is_read_of_them-registers

pub returns-clause-names : goal.returns-clause-names
returns-clause-names c = cells_tell_what_is_read_of_them-names

pub returns-clause-bytes : goal.returns-clause-bytes
returns-clause-bytes c = cells_tell_what_is_read_of_them-bytes
