-- Maxima change.
use Rattle.std.proofs.Common.{◌≡◌, refl, lit<}
use Rattle.k_types.specs.Steps.{IsLegalHistory}
use Rattle.k_types.specs.FileOrder.{file_order, file_order_from}
use Rattle.k_types.specs.TraceRules.{KeepsRules}
use Rattle.k_types.specs.Complete.{IsComplete}
use Rattle.k_rows.specs.Words.{trace_doing, governed}
use Rattle.k_rows.specs.Lefts.{left_by}
use Rattle.k_rows.specs.Worked.{IsWorked}
use Rattle.k_rows.specs.Governing.{maxima_change, maxima_change_left}
use Rattle.k_rows.proofs.Machine.{machine}
use Rattle.k_rows.proofs.Rules.{rules_kept, is_complete}

legal : IsLegalHistory (trace_doing governed maxima_change) maxima_change
unfolding machine
legal = (record { known = lit< tt; lives = refl; in_range = refl; idle = refl; orphans = refl; replied = refl }, (record { known = lit< tt; lives = refl; in_range = refl; idle = refl; orphans = refl; replied = refl }, (record { known = lit< tt; lives = refl; in_range = refl; idle = refl; orphans = refl; replied = refl }, (record { known = lit< tt; lives = refl; in_range = refl; idle = refl; orphans = refl; replied = refl }, (record { known = lit< tt; lives = refl; in_range = refl; idle = refl; orphans = refl; replied = refl }, (record { known = lit< tt; lives = refl; in_range = refl; idle = refl; orphans = refl; replied = refl }, (record { known = lit< tt; lives = refl; in_range = refl; idle = refl; orphans = refl; replied = refl }, (record { known = lit< tt; lives = refl; in_range = refl; idle = refl; orphans = refl; replied = refl }, (record { known = lit< tt; lives = refl; in_range = refl; idle = refl; orphans = refl; replied = refl }, (record { known = lit< tt; lives = refl; in_range = refl; idle = refl; orphans = refl; replied = refl }, tt))))))))))

filed : file_order (trace_doing governed maxima_change) ≡ maxima_change
unfolding machine file_order_from
filed = refl

left : left_by (trace_doing governed maxima_change) maxima_change ≡ maxima_change_left
unfolding machine
left = refl

rules : KeepsRules (trace_doing governed maxima_change)
unfolding machine
rules = rules_kept governed maxima_change refl refl refl

complete : IsComplete (trace_doing governed maxima_change) maxima_change
unfolding machine
complete = is_complete governed maxima_change refl refl

pub worked : IsWorked governed maxima_change maxima_change_left
worked = record { legal = legal; filed = filed; leaves = left; rules = rules; complete = complete }
