use Rattle.std.proofs.Common.{◌≡◌, ◌≤◌, ◌∙◌, [], List, length, sym, ap, ap₂, subst, arith}
use Rattle.std.specs.List.{AllByRecursion}
use Rattle.k_types.specs.declared.event.Event.{Event}
use Rattle.k_types.specs.Complete.{all_ended}
use Rattle.k_types.specs.Known.{IsKnownEvent}
use Rattle.k_types.specs.State.{State}
use Rattle.k_types.specs.Steps.{state_after}
use Rattle.k_types.specs.Trace.{Trace, trace_of}
use Rattle.k_laws.proofs.KnownLaws.{events_are_known}
use Rattle.k_limits.proofs.Making.{handed_on}
use Rattle.k_solo.specs.Runs.{Run}
use Rattle.k_print.specs.Printed.{IsNotPrinted, journal_of}
use Rattle.k_print.proofs.Accepted.{rules_here, short}
use Rattle.k_print.proofs.stepping.shown.Goals as goal

pub returns-in_err-tested-clause-why : goal.returns-in_err-tested-clause-why
returns-in_err-tested-clause-why c =
    λ names. handed_on (IsNotPrinted (journal_of names c.args.setup.now c.args.events.items)) c.from_residual.result c.in_err-tested.field-0.0 c.from_residual.ensures.1
    (c.in_err-tested.ensures.why (journal_of names c.args.setup.now c.args.events.items) (sym c.deref.ensures.value))

pub stepped-requires-clause-few : goal.stepped-requires-clause-few
stepped-requires-clause-few c =
    let j = journal_of c.requires.0 c.args.setup.now c.args.events.items in
    subst (λ (es : List Event). length es ≤ 400066) (sym c.deref-2.ensures.value) (short j c.requires.1 (c.in_ok-tested.ensures.can j (sym c.deref.ensures.value)))

pub of-requires-clause-known : goal.of-requires-clause-known
of-requires-clause-known c =
    let j = journal_of c.requires.0 c.args.setup.now c.args.events.items in
    subst (λ (t : Trace). AllByRecursion (IsKnownEvent t) c.args.events.items) (sym c.in_ok-state.ensures.setup)
    (events_are_known (trace_of c.args.setup.now [] []) c.args.events.items (rules_here j c.requires.1).limits c.requires.1.legal)

pub of-requires-clause-few : goal.of-requires-clause-few
of-requires-clause-few c =
    let j = journal_of c.requires.0 c.args.setup.now c.args.events.items in
    let few : length c.args.events.items ≤ 400066 = short j c.requires.1 (c.in_ok-tested.ensures.can j (sym c.deref.ensures.value)) in
    omega (arith, few)

pub returns-clause-shown : goal.returns-clause-shown
returns-clause-shown c =
    let T : Trace = trace_of c.args.setup.now [] [] in
    let state : c.in_ok-state.state.state ≡ state_after T c.args.events.items = c.in_ok-state.ensures.state ∙ ap (λ (es : List Event). state_after T es) c.deref-2.ensures.value in
    λ names is. record {
      setup = ap (λ (r : Run). r.machine.setup) c.in_ok-of.ensures ∙ c.in_ok-state.ensures.setup;
      state = ap (λ (r : Run). r.machine.state) c.in_ok-of.ensures ∙ state;
      events = ap (λ (r : Run). r.events) c.in_ok-of.ensures;
      is_journal = is;
      can = c.in_ok-tested.ensures.can (journal_of names c.args.setup.now c.args.events.items) (sym c.deref.ensures.value);
      goes_on = record {
        quiet = ap (λ (st : State). st.scans) (sym state) ∙ c.in_ok-goes_on.ensures.quiet;
        some_lives = sym (ap₂ (λ (t : Trace) (st : State). all_ended t st) c.in_ok-state.ensures.setup state) ∙ c.in_ok-goes_on.ensures.lives;
      };
    }
