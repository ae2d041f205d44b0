use Rattle.std.proofs.Common.{ap, subst, sym}
use Rattle.k_text.specs.Named.{AreNamed}
use Rattle.k_text.specs.Report.{text_over}
use Rattle.k_io.proofs.Writings.{writes_same, writes_then}
use Rattle.k_run.specs.k_outcome.Ends.{EndValue, journal_of, last_state}
use Rattle.k_answers.specs.Samples.{samples_text}
use Rattle.k_status.proofs.Written.{writes_missing}
use Rattle.k_top.proofs.watching.write_watched.Goals as goal

pub report-requires : goal.report-requires
report-requires g c = subst (λ (e : EndValue). AreNamed e.names c.args.outcome.now.setup) (sym c.outcome.view_is) c.requires

pub returns-in_err-report : goal.returns-in_err-report
returns-in_err-report g c =
    let end = c.args.outcome.now in
    let same = ap (λ (e : EndValue). text_over e.names end.setup (journal_of end) (last_state end)) c.outcome.view_is in
    writes_missing _ _ _ _ c.from_residual.result _ _ (samples_text c.args.samples.now) c.from_residual.ensures.0 (writes_same _ _ _ _ _ _ _ same c.in_err-report.ensures)

pub returns : goal.returns
returns g c =
    let end = c.args.outcome.now in
    let same = ap (λ (e : EndValue). text_over e.names end.setup (journal_of end) (last_state end)) c.outcome.view_is in
    writes_then _ _ _ _ _ _ _ c.write_samples.result _ _ (writes_same _ _ _ _ _ _ _ same c.in_ok-report.ensures) c.write_samples.ensures
