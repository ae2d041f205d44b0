-- Why a line of a script is bad: a reason of traces, or one of two more.
use Rattle.std.specs.Prelude.{ℕ, nat_lt, Bool, true, false, Result, Ok, Err, if◌then◌else◌}
use Rattle.k_trace.specs.Reasons.{reason_number as trace_reason_number}
use Rattle.k_spawn.specs.declared.reasons.ScriptReason.{ScriptReason}
use Rattle.k_spawn.specs.declared.reasons.ScriptReason.TheVariants.{OfTrace, Stranger, Untimely}

-- the number by which a reason is told
abbrev pub reason_number : ScriptReason → ℕ
reason_number (OfTrace reason) = trace_reason_number reason
reason_number Stranger = 14
reason_number Untimely = 15

-- where the test fails the reason applies
unfoldable pub demands : {A : Type 0} → ScriptReason → Bool → Result A ScriptReason → Result A ScriptReason
demands reason test next = if test then next else Err reason

-- the lower one of two reasons
abbrev pub lower : ScriptReason → ScriptReason → ScriptReason
lower a b = if nat_lt (reason_number b) (reason_number a) then b else a

-- where the test fails the reason applies too; the lower one counts
unfoldable pub also : {A : Type 0} → ScriptReason → Bool → Result A ScriptReason → Result A ScriptReason
also reason true judged = judged
also reason false (Ok c) = Err reason
also reason false (Err other) = Err (lower reason other)
