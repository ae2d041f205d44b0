use Rattle.k_laws.proofs.KnownLaws.{objects_are_at_most_the_serials}
use Rattle.k_laws.proofs.fits.objects_are_at_most_the_serials.Goals as goal

pub returns : goal.returns
returns c = objects_are_at_most_the_serials
