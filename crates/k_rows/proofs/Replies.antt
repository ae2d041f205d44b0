-- Tests that tell replies apart.
use Rattle.std.specs.Prelude.{ℕ, Bool, true, false}
use Rattle.k_types.specs.declared.event.Reply.{Reply}
use Rattle.k_types.specs.declared.event.Reply.TheVariants.{Done, Made, Refused}

-- the serial of the object that was made
abbrev pub name_in : Reply → ℕ
name_in (Made n) = n.serial.0
name_in _ = 0

-- the operation was refused
abbrev pub is_refused : Reply → Bool
is_refused (Refused fault) = true
is_refused _ = false

-- the operation was answered without a value
abbrev pub is_done : Reply → Bool
is_done Done = true
is_done _ = false
