use Rattle.k_rows.proofs.ImpossibleEvents.{one_byte_too_few_is_not}
use Rattle.k_rows.proofs.impossible.one_byte_too_few_is_impossible.Goals as goal

pub returns : goal.returns
returns c = one_byte_too_few_is_not
