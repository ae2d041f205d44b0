use Rattle.std.proofs.Common.{◌∙◌, ap, subst, sym}
use Rattle.k_types.specs.Complete.{IsComplete}
use Rattle.k_trace.specs.Meaning.{meaning_of}
use Rattle.k_trace.specs.Named.{NamedTrace}
use Rattle.k_history.specs.Good.{IsRefusedAt}
use Rattle.k_check.specs.Stops.{IsAtGraph}
use Rattle.k_check.specs.Walks.{Walked}
use Rattle.k_check.proofs.Lifted.{refused}
use Rattle.k_check.proofs.Outcomes.{incomplete}
use Rattle.k_check.proofs.checking.check_report.Goals as goal

pub returns-in-Wrong : goal.returns-in-Wrong
returns-in-Wrong c =
    refused (meaning_of c.args.trace.now) c.args.bytes.now c.in-Wrong.line c.requires.good
    (subst (λ (t : NamedTrace). IsRefusedAt t c.args.bytes.now c.in-Wrong.line) (ap (λ (w : Walked). w.trace) c.in_ok-walk.ensures) (rw c.in-Wrong.is at c.in_ok-line.ensures.stop))

pub returns-else-is_complete : goal.returns-else-is_complete
returns-else-is_complete c =
    let begun = ap (λ (w : Walked). w.trace) c.in_ok-walk.ensures in
    incomplete (meaning_of c.args.trace.now) c.args.bytes.now c.read_events.new.walk.history c.in-Graph.line c.requires.good
    (subst (λ (t : NamedTrace). IsAtGraph t c.args.bytes.now c.read_events.new.walk.history c.in-Graph.line) begun (rw c.in-Graph.is at c.in_ok-line.ensures.stop))
    (λ complete. absurd (let done = c.is_complete.ensures.1 (subst (λ (t : NamedTrace). IsComplete t.trace c.read_events.new.walk.history) (sym (c.read_events.ensures.trace ∙ begun)) complete) in cc (done, c.if-is_complete.false)))
