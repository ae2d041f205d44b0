use Rattle.k_laws.proofs.KeptLaws.{frozen_heaps_keep_their_size}
use Rattle.k_laws.proofs.frozen_heaps.frozen_heaps_keep_their_size.Goals as goal

pub returns : goal.returns
returns c = frozen_heaps_keep_their_size
