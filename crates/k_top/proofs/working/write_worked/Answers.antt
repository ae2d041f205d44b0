use Rattle.std.proofs.Common.{◌≤◌, length, ap, subst, sym, arith}
use Rattle.k_text.specs.Named.{AreNamed}
use Rattle.k_text.specs.Report.{text_over}
use Rattle.k_io.proofs.Writings.{writes_same, writes_then}
use Rattle.k_run.specs.k_outcome.Ends.{EndValue, journal_of, last_state}
use Rattle.k_answers.specs.k_work.Lines.{work_text}
use Rattle.k_status.proofs.Written.{writes_missing}
use Rattle.k_top.proofs.working.write_worked.Goals as goal

pub report-requires : goal.report-requires
report-requires g c = subst (λ (e : EndValue). AreNamed e.names c.args.outcome.now.setup) (sym c.outcome.view_is) c.requires.named

pub write_work-requires-clause-named : goal.write_work-requires-clause-named
write_work-requires-clause-named g c = subst (λ (e : EndValue). length c.args.table.now.procs ≤ length e.names.procs) (sym c.outcome.view_is) (omega (arith, c.requires.rows))

pub returns-in_err-report : goal.returns-in_err-report
returns-in_err-report g c =
    let end = c.args.outcome.now in
    let same = ap (λ (e : EndValue). text_over e.names end.setup (journal_of end) (last_state end)) c.outcome.view_is in
    writes_missing _ _ _ _ c.from_residual.result _ _ (work_text end.names c.args.table.now) c.from_residual.ensures.0 (writes_same _ _ _ _ _ _ _ same c.in_err-report.ensures)

pub returns : goal.returns
returns g c =
    let end = c.args.outcome.now in
    let same = ap (λ (e : EndValue). text_over e.names end.setup (journal_of end) (last_state end)) c.outcome.view_is in
    let same_work = ap (λ (e : EndValue). work_text e.names c.args.table.now) c.outcome.view_is in
    writes_then _ _ _ _ _ _ _ c.write_work.result _ _ (writes_same _ _ _ _ _ _ _ same c.in_ok-report.ensures) (writes_same _ _ _ _ _ _ _ same_work c.write_work.ensures)
