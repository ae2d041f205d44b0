use Rattle.std.proofs.Common.{◌∙◌, ℕ, sym, ap₂, subst, List, map}
use Rattle.k_types.specs.declared.names.Pid.{Pid}
use Rattle.k_types.specs.declared.op.Op.{Op}
use Rattle.std.specs.Global.{Vec}
use Rattle.k_trace.specs.Meaning.{meaning_of}
use Rattle.k_trace.specs.Rules.{IsTrace}
use Rattle.k_big.specs.Workload.{declared_for}
use Rattle.k_big.proofs.Declared.{refilled_is}
use Rattle.k_big.proofs.Rules.{big_is_trace}
use Rattle.k_big.proofs.making.big_trace.Goals as goal

pub returns-clause-rules : goal.returns-clause-rules
returns-clause-rules c =
    let refilled = refilled_is c.args.objects (meaning_of c.in_ok-trace.trace) c.in_ok-trace-2.field-0.items (map (λ (ops : Vec Op). ops.items) c.in_ok-ops.ops.items) (map (λ (pid : Pid). pid.0) c.in_ok-ops.order.items) c.in_ok-trace.ensures c.in_ok-trace-2.ensures in
    let filled = ap₂ (λ (operations : List (List Op)) (order : List ℕ). declared_for c.args.objects operations order) c.in_ok-ops.ensures.operations c.in_ok-ops.ensures.order in
    subst IsTrace (sym (refilled ∙ filled)) (big_is_trace c.args.objects c.requires)
