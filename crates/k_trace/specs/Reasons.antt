-- The numbers of the reasons.
use Rattle.std.specs.Prelude.{ℕ}
use Rattle.k_trace.specs.declared.reasons.Reason.{Reason}
use Rattle.k_trace.specs.declared.reasons.Reason.TheVariants.{TooManyBytes, LongLine, Unprintable, NoForm, NoNumber, NoName, NameTaken, Undeclared, TooMany, NoRoom, AfterExit, CutOff}

-- the number by which a reason is told
abbrev pub reason_number : Reason → ℕ
reason_number TooManyBytes = 1
reason_number LongLine = 2
reason_number Unprintable = 3
reason_number NoForm = 4
reason_number NoNumber = 5
reason_number NoName = 6
reason_number NameTaken = 7
reason_number Undeclared = 8
reason_number TooMany = 9
reason_number NoRoom = 10
reason_number AfterExit = 11
reason_number CutOff = 12
