use Rattle.k_reader.proofs.Readers.{no_operation}
use Rattle.k_reader.proofs.reader.Reader.operation_line.Goals as goal

pub returns-in_default : goal.returns-in_default
returns-in_default c = no_operation _ _ _ c.in_default.ensures.none
