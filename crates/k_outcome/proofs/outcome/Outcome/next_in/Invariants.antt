use Rattle.std.proofs.Common.{◌≡◌, ◌≤◌, ◌-◌, get_or}
use Rattle.k_outcome.specs.Ends.{last_state}
use Rattle.k_outcome.specs.Listed.{HasNoneBetween}
use Rattle.k_outcome.proofs.outcome.Outcome.next_in.Given as goal

abbrev pub invariant-loop-serial : goal.invariant-loop-serial
invariant-loop-serial l = record {
  given : l.made ≡ get_or (last_state l.self).made l.seg.0 0;
  low : l.after ≤ l.serial;
  none : HasNoneBetween (last_state l.self).objects l.seg.0 l.after l.serial;
}

abbrev pub decreases-loop-serial : goal.decreases-loop-serial
decreases-loop-serial l = l.made - l.serial
