use Rattle.k_laws.proofs.KeptLaws.{scanned_heaps_are_left_alone}
use Rattle.k_laws.proofs.operations.scanned_heaps_are_left_alone.Goals as goal

pub returns : goal.returns
returns c = scanned_heaps_are_left_alone
