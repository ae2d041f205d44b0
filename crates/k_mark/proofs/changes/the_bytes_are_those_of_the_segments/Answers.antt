use Rattle.k_mark.proofs.Sums.{bytes_summed}
use Rattle.k_mark.proofs.changes.the_bytes_are_those_of_the_segments.Goals as goal

pub returns : goal.returns
returns c = bytes_summed
