use Rattle.std.proofs.Common.{◌≡◌, ◌∙◌, sym, arith, length, refl}
use Rattle.std.proofs.lemmas.Bool.{eqb-true}
use Rattle.k_history.proofs.Lines.{one_more, bad_line, graph_line, no_line}
use Rattle.k_history.proofs.histories.read_events.Goals as goal

pub returns-then-is : goal.returns-then-is
returns-then-is c = c.loop-rest.invariant.read ∙ graph_line c.args.names.now c.loop-rest.number _ _ _ c.loop-rest.events.items c.next_line.ensures.lines (sym c.is.ensures ∙ c.if-is.true)

pub returns-in_default : goal.returns-in_default
returns-in_default c = c.loop-rest.invariant.read ∙ bad_line c.args.names.now c.loop-rest.number _ _ _ c.loop-rest.events.items c.next_line.ensures.lines (sym c.is.ensures ∙ c.if-is.false) (sym c.in_default.is ∙ c.read_event.ensures)

pub loop-rest-preserved : goal.loop-rest-preserved
loop-rest-preserved c = record {
  same = refl;
  read = c.loop-rest.invariant.read
      ∙ one_more c.args.names.now c.loop-rest.number _ _ _ c.loop-rest.events.items c.in-Some.event c.next_line.ensures.lines (sym c.is.ensures ∙ c.if-is.false) (sym c.in-Some.is ∙ c.read_event.ensures)
      ∙ rw c.in_ok-push.ensures.stored refl;
  few = omega (arith, c.loop-rest.invariant.few, c.next_line.ensures.shorter);
}

pub returns : goal.returns
returns c =
    let none : length c.loop-rest.rest.now ≡ 0 = eqb-true _ _ (sym c.loop-rest-test.ensures) in
    c.loop-rest.invariant.read ∙ no_line c.args.names.now c.loop-rest.number c.loop-rest.rest.now c.loop-rest.events.items none
