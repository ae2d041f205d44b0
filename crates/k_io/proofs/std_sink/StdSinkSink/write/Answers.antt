use Rattle.k_io.proofs.Counted.{write_cause, write_takes}
use Rattle.k_io.proofs.std_sink.StdSinkSink.write.Goals as goal

pub returns-clause-cause : goal.returns-clause-cause
returns-clause-cause g c = write_cause c.write.result _ _ _ c.write_answer.ensures.later c.write_answer.ensures.seen

pub returns-clause-bytes : goal.returns-clause-bytes
returns-clause-bytes g c = write_takes c.write.result _ _ _ _ _ _ c.write_answer.ensures.seen c.write.ensures.bytes
