use Rattle.std.proofs.Common.{ℕ, sym, ap, ◌∙◌, ◌+◌}
use Rattle.k_text.specs.Report.{is_fault_of}
use Rattle.k_report.proofs.Counting.{count_yes, count_no}
use Rattle.k_report.proofs.faults.count_faults.Goals.{then-is_fault_of, else-is_fault_of}
use Rattle.k_report.proofs.faults.count_faults.Goals as goal

pub loop-i-preserved : goal.loop-i-preserved
loop-i-preserved g c =
    elim c.if-is_fault_of.branch [
      | then-is_fault_of w ↦ w.count-is ∙ ap (λ (n : ℕ). n + 1) c.loop-i.invariant
          ∙ sym (count_yes (is_fault_of c.args.pid.0) (g.V.View.events c.args.view.now) c.loop-i.i c.event.result.now c.event.ensures.there (sym c.is_fault_of.ensures ∙ w.if-is_fault_of.true))
      | else-is_fault_of w ↦ w.count-is ∙ c.loop-i.invariant
          ∙ sym (count_no (is_fault_of c.args.pid.0) (g.V.View.events c.args.view.now) c.loop-i.i c.event.result.now c.event.ensures.there (sym c.is_fault_of.ensures ∙ w.if-is_fault_of.false))
    ]
