use Rattle.k_io.specs.declared.errors.WriteFailed.{WriteFailed}
use Rattle.k_status.specs.declared.status.Status.TheVariants.{Good}
use Rattle.k_status.proofs.Answered.{answered_written}
use Rattle.k_run.proofs.Runs.{error_told}
use Rattle.k_top.proofs.Works.{can_be_written, work_told}
use Rattle.k_status.proofs.Written.{never_unwritten, written_by}
use Rattle.k_top.proofs.working.work_file.Goals as goal

pub write_worked-requires : goal.write_worked-requires
write_worked-requires g c = can_be_written _ _ _ c.in-Ok.ensures.ok

pub returns-in-Ok-clause-answered : goal.returns-in-Ok-clause-answered
returns-in-Ok-clause-answered g c =
    answered_written _ _ Good _ _ (work_told _ _ _ c.in-Ok.ensures.ok) (written_by _ _ _ _ _ _ _ _ (λ none. none) c.after_writing.ensures c.write_worked.ensures)

pub returns-in-Ok-clause-unwritten : goal.returns-in-Ok-clause-unwritten
returns-in-Ok-clause-unwritten g c none = absurd (never_unwritten {E = WriteFailed} c.write_worked.result Good _ (λ no. no) c.after_writing.ensures none)

pub returns-in-Err-clause-answered : goal.returns-in-Err-clause-answered
returns-in-Err-clause-answered g c = answered_written _ _ _ _ _ (error_told _ _ _ c.in-Err.ensures.err) c.tell_end.ensures.written
