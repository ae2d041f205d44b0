use Rattle.std.proofs.Common.{◌≡◌, ◌≤◌, ◌∙◌, ◌<◌, ◌+◌, length, drop, sym, ap, arith, slice_index_or}
use Rattle.std.specs.List.{flat_map}
use Rattle.k_types.specs.declared.names.Pid.{Pid}
use Rattle.k_types.specs.declared.op.Op.TheVariants.{Kill, Resize}
use Rattle.k_types.specs.Trace.{process_count}
use Rattle.k_trace.specs.OperationLists.{with_operation}
use Rattle.k_spawn.specs.Translated.{with_operations}
use Rattle.k_spawn.specs.Translation.{ending, limit_id}
use Rattle.k_spawn.proofs.Gathered.{endings_step, endings_end, next_holds}
use Rattle.k_spawn.proofs.translation.add_endings.Goals as goal

pub loop-child-preserved : goal.loop-child-preserved
loop-child-preserved c =
    let s = c.args.script.now in
    let p = c.args.pid.0 in
    let o = c.loop-child.operations in
    let i = c.loop-child.child-index in
    let nobody : Pid = record { 0 = 0 } in
    let child = slice_index_or c.args.reaped.now i nobody in
    let inside : i < length c.args.reaped.now = omega arith in
    let grown : c.push-in-loop-child.new.self ≡ with_operation (with_operation o p (Kill child)) p (Resize (limit_id s child.0) 0) =
    c.in_ok-push-2.ensures.ok ∙ ap (λ x. with_operation x p (Resize c.limit_of-limit.result 0)) c.in_ok-push.ensures.ok
    ∙ ap (λ m. with_operation (with_operation o p (Kill child)) p (Resize (record { 0 = m }) 0)) c.limit_of-limit.ensures in
    record {
      same =
          ap (λ x. with_operations x p (flat_map (λ (it : Pid). ending s it.0) (drop (i + 1) c.args.reaped.now))) grown
          ∙ endings_step s o p c.args.reaped.now i nobody inside ∙ c.loop-child.invariant.same;
      count = omega (arith, c.in_ok-push-2.ensures.listed, c.in_ok-push.ensures.listed, c.loop-child.invariant.count);
      known = (next_holds (λ (it : Pid). it.0 < process_count s.header.trace + length s.parents) c.args.reaped.now i nobody inside c.loop-child.invariant.known).1;
    }

pub returns-clause-added : goal.returns-clause-added
returns-clause-added c =
    let done : length c.args.reaped.now ≤ c.loop-child.child-index = omega arith in
    sym (endings_end c.args.script.now c.loop-child.operations c.args.pid.0 c.args.reaped.now c.loop-child.child-index done) ∙ c.loop-child.invariant.same
