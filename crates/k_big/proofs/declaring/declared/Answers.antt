use Rattle.k_trace.specs.Meaning.{meaning_of}
use Rattle.k_big.proofs.Declared.{declared_is, declared_is_good}
use Rattle.k_big.proofs.declaring.declared.Goals as goal

pub returns-in-Ok : goal.returns-in-Ok
returns-in-Ok c = declared_is (meaning_of c.in-Ok.trace) c.in-Ok.ensures.ok

pub unreachable-requires : goal.unreachable-requires
unreachable-requires c = declared_is_good _ _ (rw c.in-Err-Bad.field-0-is at c.in-Err-Bad.ensures.bad)
