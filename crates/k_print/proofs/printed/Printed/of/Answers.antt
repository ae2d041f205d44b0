use Rattle.std.proofs.Common.{List, sym, ap, subst}
use Rattle.k_types.specs.declared.event.Event.{Event}
use Rattle.k_limits.proofs.Making.{handed_on}
use Rattle.k_print.specs.Printed.{IsNotPrinted, IsShown, journal_of}
use Rattle.k_print.proofs.printed.Printed.of.Goals as goal

pub returns-in_err-end-clause-why : goal.returns-in_err-end-clause-why
returns-in_err-end-clause-why c =
    handed_on (IsNotPrinted (journal_of c.args.names.now c.args.setup.now c.args.events.items)) c.from_residual.result c.in_err-end.field-0.0 c.from_residual.ensures.1 (c.in_err-end.ensures.why c.args.names.now)

pub invariant_of-result : goal.invariant_of-result
invariant_of-result c =
    let shown = c.in_ok-end.ensures.shown c.args.names.now c.requires in
    subst (λ (es : List Event). IsShown (journal_of c.args.names.now c.args.setup.now es) c.in_ok-end.end) (sym shown.events) shown

pub returns-clause-of : goal.returns-clause-of
returns-clause-of c = ap (λ (es : List Event). journal_of c.args.names.now c.args.setup.now es) (c.in_ok-end.ensures.shown c.args.names.now c.requires).events
