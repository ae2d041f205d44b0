use Rattle.std.proofs.Common.{◌+◌, sym, ap₂, ◌∙◌, arith}
use Rattle.k_types.specs.declared.names.Heap.{Heap}
use Rattle.k_types.specs.State.{has}
use Rattle.k_process.specs.Over.{OutcomeValue}
use Rattle.k_outcome.specs.Cells.{cell_at}
use Rattle.k_outcome.specs.Ends.{last_state}
use Rattle.k_outcome.specs.Listed.{name_at}
use Rattle.k_outcome.proofs.Told.{has_there, sound}
use Rattle.k_outcome.proofs.Walked.{next_found, none_left, none_more}
use Rattle.k_outcome.proofs.outcome.Outcome.next_in.Goals as goal

pub returns-then-has-clause-some : goal.returns-then-has-clause-some
returns-then-has-clause-some c =
    let e = c.args.self.now in
    let st = last_state e in
    let s = sound e c.cells-cells.ensures.end in
    let name = name_at c.args.seg.0 (c.loop-serial.serial + 1) in
    next_found e.setup st.objects st.made s.names.ordered s.names.numbered s.shape.placed c.args.seg.0 c.args.after c.loop-serial.serial c.loop-serial.invariant.low c.loop-serial.invariant.none
    (sym (c.has.ensures ∙ ap₂ (λ (o : OutcomeValue) (h : Heap). has (cell_at o h).objects name) c.cells-cells.ensures.cells c.owner_of-heap.ensures.owner ∙ has_there e c.cells-cells.ensures.end name c.requires) ∙ c.if-has.true)

pub loop-serial-preserved : goal.loop-serial-preserved
loop-serial-preserved c =
    let e = c.args.self.now in
    let st = last_state e in
    let s = sound e c.cells-cells.ensures.end in
    let name = name_at c.args.seg.0 (c.loop-serial.serial + 1) in
    record {
      given = c.loop-serial.invariant.given;
      low = omega (arith, c.loop-serial.invariant.low);
      none = none_more e.setup st.objects st.made s.names.ordered s.names.numbered s.shape.placed c.args.seg.0 c.args.after c.loop-serial.serial c.loop-serial.invariant.none
          (sym (c.has.ensures ∙ ap₂ (λ (o : OutcomeValue) (h : Heap). has (cell_at o h).objects name) c.cells-cells.ensures.cells c.owner_of-heap.ensures.owner ∙ has_there e c.cells-cells.ensures.end name c.requires) ∙ c.if-has.false);
    }

pub returns-clause-none : goal.returns-clause-none
returns-clause-none c =
    let e = c.args.self.now in
    let st = last_state e in
    let s = sound e c.cells-cells.ensures.end in
    none_left e.setup st.objects st.made s.names.ordered s.names.numbered s.shape.placed c.args.seg.0 c.args.after c.loop-serial.serial c.loop-serial.invariant.none
    (omega (arith, c.loop-serial.invariant.given, c.loop-serial-test.false))
