use Rattle.std.proofs.Common.{◌-◌, length}
use Rattle.std.specs.Str.{bytes_eq}
use Rattle.k_reports.proofs.Parted.{IsPlace}
use Rattle.k_history.proofs.words.parted.Given as goal

abbrev pub invariant-words : goal.invariant-words
invariant-words l = IsPlace (λ w. bytes_eq w l.wanted) l.line l.at

abbrev pub decreases-words : goal.decreases-words
decreases-words l = length l.line - l.at
