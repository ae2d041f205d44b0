use Rattle.std.proofs.Common.{refl}
use Rattle.k_big.proofs.laws.summaries_read_the_setup_alone.Goals as goal

pub returns : goal.returns
returns c objects trace operations order history st = refl
