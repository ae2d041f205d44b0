-- Two numbers that were read.
use Rattle.k_audit.specs.Reading.{Pair}
use Rattle.k_audit.specs.declared.charging.PairLine.{PairLine}

-- The numbers of the line.
abbrev pub pair : PairLine → Pair
pair line = record { first = line.first; second = line.second }
