-- What a source or sink over a reader or writer of the standard library answers, with its count of faults.
use Rattle.std.specs.Prelude.{ℕ, zero, suc, Result, Ok, Err}
use Rattle.k_io.specs.declared.errors.ReadFailed.{ReadFailed}
use Rattle.k_io.specs.declared.errors.WriteFailed.{WriteFailed}
use Rattle.k_io.specs.Memory.{one_more}

-- After a read: the same number of bytes and the same count. An error is one fault more.
abbrev pub read_answer : {E : Type 0} → Result ℕ E → ℕ → Result ℕ ReadFailed × ℕ
read_answer (Ok n) faults = (Ok n, faults)
read_answer (Err e) faults = (Err (record {}), one_more faults)

-- After a write the same, and taking nothing is a fault too.
abbrev pub write_answer : {E : Type 0} → Result ℕ E → ℕ → Result ℕ WriteFailed × ℕ
write_answer (Ok zero) faults = (Err (record {}), one_more faults)
write_answer (Ok (suc n)) faults = (Ok (suc n), faults)
write_answer (Err e) faults = (Err (record {}), one_more faults)
