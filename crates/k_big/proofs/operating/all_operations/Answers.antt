use Rattle.std.proofs.Common.{◌≡◌, ◌∙◌, refl, ap, length, arith}
use Rattle.std.proofs.lemmas.Grind.{common_steps}
use Rattle.k_big.proofs.Rounds.{lists_more, order_more}
use Rattle.k_big.proofs.operating.all_operations.Goals as goal

pub loop-process-preserved : goal.loop-process-preserved
loop-process-preserved c =
    let often : c.len.result ≡ length c.in_ok-ops.ops.items = grind (arith, common_steps) in
    record {
      operations = lists_more c.args.objects c.loop-process.process _ _ c.in_ok-ops.ops c.in_ok-push.ensures.items c.in_ok-ops.ensures c.loop-process.invariant.operations;
      order = order_more c.args.objects c.loop-process.process _ _ _ _ refl c.in_ok-push_turns.ensures (often ∙ ap length c.in_ok-ops.ensures) c.loop-process.invariant.order;
    }
