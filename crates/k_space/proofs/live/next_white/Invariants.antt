use Rattle.k_space.specs.Listed.{ArePassed, serials}
use Rattle.k_space.proofs.live.next_white.Given as goal

abbrev pub invariant-loop-at : goal.invariant-loop-at
invariant-loop-at l = ArePassed l.places.items (serials l.live) l.at
