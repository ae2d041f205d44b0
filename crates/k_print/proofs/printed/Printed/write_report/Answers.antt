use Rattle.std.proofs.Common.{◌∙◌, ap, ap₂, subst}
use Rattle.k_io.specs.declared.errors.WriteFailed.{WriteFailed}
use Rattle.k_io.specs.Writing.{Writes}
use Rattle.k_history.specs.Verdicts.{IsAccepted}
use Rattle.k_text.specs.Report.{text_over}
use Rattle.k_types.specs.State.{State}
use Rattle.k_types.specs.Trace.{Trace}
use Rattle.k_words.specs.Words.{Text}
use Rattle.k_print.specs.Printed.{Journal, journal_of, named_done, report_of}
use Rattle.k_print.proofs.Accepted.{accepted}
use Rattle.k_print.proofs.printed.Printed.write_report.Goals as goal

pub returns-clause-written : goal.returns-clause-written
returns-clause-written g c =
    subst (λ (t : Text). Writes {T = Unit {0}} {E = WriteFailed} (g.K.Sink.Holds c.args.out.now) (g.K.Sink.Holds c.report.new.out) (g.K.Sink.faults c.args.out.now) (g.K.Sink.faults c.report.new.out) c.report.result t)
    (ap₂ (λ (t : Trace) (st : State). text_over c.self.inside.names.now t c.self.inside.end.events st) c.self.invariant.setup c.self.invariant.state ∙ ap report_of c.self.view_is)
    c.report.ensures

pub returns-clause-accepted : goal.returns-clause-accepted
returns-clause-accepted g c =
    subst (λ (j : Journal). IsAccepted (named_done j) (report_of j)) c.self.view_is
    (accepted (journal_of c.self.inside.names.now c.self.inside.setup.now c.self.inside.end.events) c.self.invariant.is_journal c.self.invariant.can c.self.invariant.goes_on)
