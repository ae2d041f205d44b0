use Rattle.k_laws.proofs.OrderLaws.{scans_are_of_the_heaps_of_the_trace}
use Rattle.k_laws.proofs.waiting.scans_are_of_the_heaps_of_the_trace.Goals as goal

pub returns : goal.returns
returns c = scans_are_of_the_heaps_of_the_trace
