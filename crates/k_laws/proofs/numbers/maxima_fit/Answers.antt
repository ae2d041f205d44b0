use Rattle.k_laws.proofs.KnownLaws.{maxima_fit}
use Rattle.k_laws.proofs.numbers.maxima_fit.Goals as goal

pub returns : goal.returns
returns c = maxima_fit
