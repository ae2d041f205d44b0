use Rattle.k_laws.proofs.KnownLaws.{ended_collections_are_bounded}
use Rattle.k_laws.proofs.fits.ended_collections_are_bounded.Goals as goal

pub returns : goal.returns
returns c = ended_collections_are_bounded
