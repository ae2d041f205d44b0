use Rattle.std.proofs.Common.{Ok, Result, ap, subst, sym}
use Rattle.std.specs.Prelude.{IfOk}
use Rattle.k_text.specs.Named.{AreNamed}
use Rattle.k_io.specs.declared.errors.WriteFailed.{WriteFailed}
use Rattle.k_io.proofs.Writings.{writes_same}
use Rattle.k_opening.specs.k_outcome.Ends.{EndValue, journal_of, last_state}
use Rattle.k_text.specs.Report.{text_over}
use Rattle.k_status.specs.declared.status.Status.TheVariants.{Good}
use Rattle.k_status.specs.declared.run_error.RunError.{RunError}
use Rattle.k_run.specs.Commands.{IsNamedEnd}
use Rattle.k_run.proofs.Runs.{end_written}
use Rattle.k_status.proofs.Written.{never_unwritten, written_by}
use Rattle.k_run.proofs.commands.tell_end.Goals as goal

pub report-requires : goal.report-requires
report-requires g c =
    let named : IfOk {E = RunError} (Ok c.in-Ok.outcome) IsNamedEnd = subst (λ (r : Result EndValue RunError). IfOk r IsNamedEnd) c.in-Ok.is c.requires in
    subst (λ (e : EndValue). AreNamed e.names c.in-Ok.outcome.setup) (sym c.outcome.view_is) named

pub returns-in-Ok-clause-written : goal.returns-in-Ok-clause-written
returns-in-Ok-clause-written g c =
    let end = c.in-Ok.outcome in
    let same = ap (λ (e : EndValue). text_over e.names end.setup (journal_of end) (last_state end)) c.outcome.view_is in
    end_written _ _ _ _ c.in-Ok.is (written_by _ _ _ _ _ _ _ _ (λ none. none) c.after_writing.ensures (writes_same _ _ _ _ _ _ _ same c.report.ensures))

pub returns-in-Ok-clause-unwritten : goal.returns-in-Ok-clause-unwritten
returns-in-Ok-clause-unwritten g c none = absurd (never_unwritten {E = WriteFailed} c.report.result Good _ (λ no. no) c.after_writing.ensures none)
