use Rattle.k_laws.proofs.KnownLaws.{objects_fit_their_types}
use Rattle.k_laws.proofs.fits.objects_fit_their_types.Goals as goal

pub returns : goal.returns
returns c = objects_fit_their_types
