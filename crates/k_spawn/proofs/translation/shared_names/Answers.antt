use Rattle.std.proofs.Common.{◌≡◌, ◌∙◌, ◌<◌, length, arith}
use Rattle.k_spawn.proofs.Copied.{copied_end, copied_step}
use Rattle.k_spawn.proofs.translation.shared_names.Goals as goal

pub loop-number-preserved : goal.loop-number-preserved
loop-number-preserved c =
    let given = c.args.names.now.shared in
    let inside : c.loop-number.number < length given = omega (arith, c.loop-number-test.true, c.shared_count-number-end.ensures.count) in
    copied_step given given _ _ c.in_ok-name.name c.loop-number.number inside c.in_ok-push.ensures.stored (c.in_ok-name.ensures.items ∙ c.shared_name.ensures.name) c.loop-number.invariant

pub returns : goal.returns
returns c =
    let given = c.args.names.now.shared in
    let all : length given ≡ c.loop-number.number = omega (arith, c.loop-number-test.false, c.loop-number.auto.number-end, c.shared_count-number-end.ensures.count) in
    copied_end given given c.loop-number.list.items c.loop-number.number all c.loop-number.invariant
