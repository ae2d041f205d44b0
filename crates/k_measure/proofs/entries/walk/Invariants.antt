use Rattle.std.proofs.Common.{◌≡◌, ◌<◌, Some}
use Rattle.k_types.specs.declared.names.Link.{Link}
use Rattle.k_types.specs.Names.{name_of}
use Rattle.k_types.specs.Counted.{counted}
use Rattle.k_measure.proofs.entries.walk.Given as goal

abbrev pub invariant-loop-step : goal.invariant-loop-step
invariant-loop-step l = (link : Link) → l.at ≡ Some link → 0 < counted l.fn.table.items (name_of link)
