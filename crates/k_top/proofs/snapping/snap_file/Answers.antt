use Rattle.std.proofs.Common.{Ok, ap, subst, sym}
use Rattle.k_io.specs.declared.errors.WriteFailed.{WriteFailed}
use Rattle.k_io.proofs.Writings.{writes_same}
use Rattle.k_text.specs.Named.{AreNamed}
use Rattle.k_run.specs.k_outcome.Ends.{EndValue, last_state}
use Rattle.k_answers.specs.k_audit.Snapshots.{snapshot_text}
use Rattle.k_status.specs.declared.status.Status.TheVariants.{Good}
use Rattle.k_status.proofs.Answered.{answered_written}
use Rattle.k_run.proofs.Runs.{error_told, replay_named}
use Rattle.k_top.proofs.Snaps.{snap_told}
use Rattle.k_status.proofs.Written.{never_unwritten, written_by}
use Rattle.k_top.proofs.snapping.snap_file.Goals as goal

pub snapshot-requires : goal.snapshot-requires
snapshot-requires g c = subst (λ (e : EndValue). AreNamed e.names c.in-Ok.outcome.setup) (sym c.outcome.view_is) (replay_named _ (Ok c.in-Ok.outcome) c.in-Ok.ensures.ok)

pub returns-in-Ok-clause-answered : goal.returns-in-Ok-clause-answered
returns-in-Ok-clause-answered g c =
    answered_written _ _ Good _ _ (snap_told _ _ c.in-Ok.ensures.ok)
    (written_by _ _ _ _ _ _ _ _ (λ none. none) c.after_writing.ensures
    (writes_same _ _ _ _ _ _ _ (ap (λ (e : EndValue). snapshot_text e.names c.in-Ok.outcome.setup (last_state c.in-Ok.outcome)) c.outcome.view_is) c.snapshot.ensures))

pub returns-in-Ok-clause-unwritten : goal.returns-in-Ok-clause-unwritten
returns-in-Ok-clause-unwritten g c none = absurd (never_unwritten {E = WriteFailed} c.snapshot.result Good _ (λ no. no) c.after_writing.ensures none)

pub returns-in-Err-clause-answered : goal.returns-in-Err-clause-answered
returns-in-Err-clause-answered g c = answered_written _ _ _ _ _ (error_told _ _ _ c.in-Err.ensures.err) c.tell_end.ensures.written
