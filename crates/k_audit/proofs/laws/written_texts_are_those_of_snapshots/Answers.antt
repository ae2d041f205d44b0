use Rattle.k_audit.proofs.Written.{text_is}
use Rattle.k_audit.proofs.laws.written_texts_are_those_of_snapshots.Goals as goal

pub returns : goal.returns
returns c = text_is
