use Rattle.std.proofs.Common.{refl}
use Rattle.k_io.specs.declared.errors.WriteFailed.{WriteFailed}
use Rattle.k_status.specs.declared.status.Status.TheVariants.{Good, WantOfMemory}
use Rattle.k_status.proofs.Answered.{answered_unwritten, answered_written}
use Rattle.k_top.proofs.Workloads.{has_limits, has_small_charges, summary_of_run}
use Rattle.k_status.proofs.Written.{never_unwritten, written_by}
use Rattle.k_top.proofs.workload.run_workload.Goals as goal

pub summary-requires : goal.summary-requires
summary-requires g c = record { limits = has_limits c.args.objects _ c.in-Ok.ensures; charges = has_small_charges c.args.objects _ c.requires c.in-Ok.ensures }

pub returns-in-Ok-clause-answered : goal.returns-in-Ok-clause-answered
returns-in-Ok-clause-answered g c =
    answered_written _ _ _ _ _ (summary_of_run c.args.objects _ c.in-Ok.ensures) (written_by _ _ _ _ _ _ _ _ (λ none. none) c.after_writing.ensures c.summary.ensures)

pub returns-in-Err-clause-answered : goal.returns-in-Err-clause-answered
returns-in-Err-clause-answered g c = answered_unwritten _ _ _ WantOfMemory _ c.want_of_memory.ensures refl

pub returns-in-Ok-clause-unwritten : goal.returns-in-Ok-clause-unwritten
returns-in-Ok-clause-unwritten g c none = absurd (never_unwritten {E = WriteFailed} c.summary.result Good _ (λ no. no) c.after_writing.ensures none)
