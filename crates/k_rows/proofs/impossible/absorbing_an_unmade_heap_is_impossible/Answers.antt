use Rattle.k_rows.proofs.ImpossibleEvents.{absorbing_an_unmade_heap_is_not}
use Rattle.k_rows.proofs.impossible.absorbing_an_unmade_heap_is_impossible.Goals as goal

pub returns : goal.returns
returns c = absorbing_an_unmade_heap_is_not
