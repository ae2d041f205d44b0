use Rattle.std.proofs.Common.{◌≡◌, map}
use Rattle.std.specs.Arc.{arc_value}
use Rattle.k_parts.specs.Parts.{guest_seen}
use Rattle.k_parts.proofs.splitting.split_guests.Given as goal

abbrev pub invariant-loop-guest : goal.invariant-loop-guest
invariant-loop-guest g l = l.made.items ≡ map (guest_seen (arc_value l.head)) l.yielded
