use Rattle.std.proofs.Common.{◌≡◌, ◌∙◌, [], ap, subst, sym}
use Rattle.k_words.specs.Words.{Text}
use Rattle.k_text.specs.Report.{text_over, report_text}
use Rattle.k_trace.specs.Meaning.{meaning_of}
use Rattle.k_trace.specs.Named.{NamedTrace}
use Rattle.k_history.specs.Difference.{difference}
use Rattle.k_history.specs.Verdicts.{IsAccepted, IsRefused}
use Rattle.k_check.proofs.Outcomes.{same_report, other_report, written}
use Rattle.k_check.proofs.checking.compare.Goals as goal

pub returns-in-None : goal.returns-in-None
returns-in-None c =
    let t = c.args.walk.trace in
    let end = c.in_ok-end.end in
    let text : text_over (meaning_of c.args.trace.now).names end.machine.setup end.events end.machine.state ≡ report_text t.names t.trace c.args.walk.history =
    ap (λ (u : NamedTrace). text_over u.names end.machine.setup end.events end.machine.state) (sym c.requires.same) ∙ written t c.args.walk.history end c.in_ok-end.ensures in
    let taken = rw c.in-Ok.is at c.report.ensures.ok in
    let told = c.first_difference.ensures c.args.bytes.now _ (taken c.args.bytes.now [] c.over-sink.ensures) in
    subst (λ (u : NamedTrace). IsAccepted u c.args.bytes.now) c.requires.same
    (same_report t c.args.bytes.now c.args.walk.history c.requires.read.0 c.requires.good c.requires.read.1 c.requires.complete
    (ap (λ (xs : Text). difference xs c.args.bytes.now) (sym text) ∙ sym told ∙ c.in-None.is))

pub returns : goal.returns
returns c =
    let t = c.args.walk.trace in
    let end = c.in_ok-end.end in
    let text : text_over (meaning_of c.args.trace.now).names end.machine.setup end.events end.machine.state ≡ report_text t.names t.trace c.args.walk.history =
    ap (λ (u : NamedTrace). text_over u.names end.machine.setup end.events end.machine.state) (sym c.requires.same) ∙ written t c.args.walk.history end c.in_ok-end.ensures in
    let taken = rw c.in-Ok.is at c.report.ensures.ok in
    let told = c.first_difference.ensures c.args.bytes.now _ (taken c.args.bytes.now [] c.over-sink.ensures) in
    subst (λ (u : NamedTrace). IsRefused u c.args.bytes.now c.in-Some.line) c.requires.same
    (other_report t c.args.bytes.now c.args.walk.history c.requires.read.0 c.in-Some.line c.requires.good c.requires.read.1 c.requires.complete
    (ap (λ (xs : Text). difference xs c.args.bytes.now) (sym text) ∙ sym told ∙ c.in-Some.is))
