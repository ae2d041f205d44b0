use Rattle.k_laws.proofs.Laws.{a_living_process_owns_its_segment_alone}
use Rattle.k_laws.proofs.meaning.a_living_process_owns_its_segment_alone.Goals as goal

pub returns : goal.returns
returns c = a_living_process_owns_its_segment_alone
