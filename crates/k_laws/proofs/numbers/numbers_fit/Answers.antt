use Rattle.k_laws.proofs.KnownLaws.{numbers_fit}
use Rattle.k_laws.proofs.numbers.numbers_fit.Goals as goal

pub returns : goal.returns
returns c = numbers_fit
