-- What is demanded of a line, in the order of the reasons.
use Rattle.std.specs.Prelude.{Bool, Result, Err, if◌then◌else◌}
use Rattle.k_trace.specs.declared.reasons.Reason.{Reason}

-- where the test fails the reason applies
unfoldable pub demands : {A : Type 0} → Reason → Bool → Result A Reason → Result A Reason
demands reason test next = if test then next else Err reason
