-- The exit statuses of the program.
use Rattle.std.specs.Prelude.{ℕ}
use Rattle.k_status.specs.declared.status.Status.{Status}
use Rattle.k_status.specs.declared.status.Status.TheVariants.{Good, BadTrace, Usage, WantOfMemory, ReadFault, WriteFault, Refused}

-- The number that the program ends with.
abbrev pub number_of : Status → ℕ
number_of Good = 0
number_of BadTrace = 1
number_of Usage = 2
number_of WantOfMemory = 3
number_of ReadFault = 4
number_of WriteFault = 5
number_of Refused = 6
