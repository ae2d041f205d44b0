-- A process whose limit is above that of another ends it.
use Rattle.std.proofs.Common.{◌≡◌, refl, lit<}
use Rattle.k_types.specs.Steps.{IsLegalHistory}
use Rattle.k_types.specs.FileOrder.{file_order, file_order_from}
use Rattle.k_types.specs.TraceRules.{KeepsRules}
use Rattle.k_types.specs.Complete.{IsComplete}
use Rattle.k_rows.specs.Words.{trace_asking, governed}
use Rattle.k_rows.specs.Lefts.{left_by}
use Rattle.k_rows.specs.Worked.{IsCut}
use Rattle.k_rows.specs.Governing.{a_process_ends_another, a_process_ends_another_undone, a_process_ends_another_left}
use Rattle.k_rows.proofs.Machine.{machine}
use Rattle.k_rows.proofs.Rules.{asked_kept, is_cut}

legal : IsLegalHistory (trace_asking governed a_process_ends_another a_process_ends_another_undone) a_process_ends_another
unfolding machine
legal = (record { known = lit< tt; lives = refl; in_range = refl; idle = refl; orphans = refl; replied = refl }, (record { known = lit< tt; lives = refl; in_range = refl; idle = refl; orphans = refl; replied = refl }, (record { known = lit< tt; lives = refl; in_range = refl; idle = refl; orphans = refl; replied = refl }, (record { known = lit< tt; lives = refl; in_range = refl; idle = refl; orphans = refl; replied = refl }, (record { known = lit< tt; lives = refl; in_range = refl; idle = refl; orphans = refl; replied = refl }, (record { known = lit< tt; lives = refl; in_range = refl; idle = refl; orphans = refl; replied = refl }, (record { known = lit< tt; lives = refl; in_range = refl; idle = refl; orphans = refl; replied = refl }, (record { known = lit< tt; lives = refl; in_range = refl; idle = refl; orphans = refl; replied = refl }, (record { known = lit< tt; lives = refl; in_range = refl; idle = refl; orphans = refl; replied = refl }, tt)))))))))

filed : file_order (trace_asking governed a_process_ends_another a_process_ends_another_undone) ≡ a_process_ends_another
unfolding machine file_order_from
filed = refl

left : left_by (trace_asking governed a_process_ends_another a_process_ends_another_undone) a_process_ends_another ≡ a_process_ends_another_left
unfolding machine
left = refl

rules : KeepsRules (trace_asking governed a_process_ends_another a_process_ends_another_undone)
unfolding machine
rules = asked_kept governed a_process_ends_another a_process_ends_another_undone refl refl refl

complete : IsComplete (trace_asking governed a_process_ends_another a_process_ends_another_undone) a_process_ends_another
unfolding machine
complete = is_cut governed a_process_ends_another a_process_ends_another_undone refl refl refl

pub worked : IsCut governed a_process_ends_another a_process_ends_another_undone a_process_ends_another_left
worked = record { legal = legal; filed = filed; leaves = left; rules = rules; complete = complete }
