use Rattle.std.proofs.Common.{sym, subst, arith, ◌<◌}
use Rattle.k_space.specs.Areas.{AreaValue}
use Rattle.k_space.specs.Segments.{made, segment_bytes}
use Rattle.k_mark.specs.Sweeping.{dead_objects, dead_bytes}
use Rattle.k_measure.specs.Inside.{IsOne}
use Rattle.k_measure.proofs.Inside.{one_swept}
use Rattle.k_measure.proofs.Bounds.{objects_few, bytes_few}
use Rattle.k_measure.proofs.heap.sweep_one.Goals as goal

pub sweep-requires-clause-objects : goal.sweep-requires-clause-objects
sweep-requires-clause-objects c =
    let few : made c.in-Some.segment.now < 20000000 = omega (arith, c.made.ensures, c.if-made-lt-MANY.true) in
    let dead : dead_objects c.args.area.now < 4294967296 = objects_few c.args.area.now c.requires.one 1 c.in-Some.segment.now (sym c.in-Some.ensures) few in
    omega (arith, dead)

pub sweep-requires-clause-bytes : goal.sweep-requires-clause-bytes
sweep-requires-clause-bytes c =
    let few : segment_bytes c.in-Some.segment.now < 18446744073709551616 = omega (arith, c.bytes-bytes.ensures, c.bytes-bytes.type_inv) in
    let dead : dead_bytes c.args.area.now < 18446744073709551616 = bytes_few c.args.area.now c.requires.one 1 c.in-Some.segment.now (sym c.in-Some.ensures) few in
    omega (arith, dead)

pub returns-then-made-lt-MANY : goal.returns-then-made-lt-MANY
returns-then-made-lt-MANY c = record { one = subst (λ (a : AreaValue). IsOne a) (sym c.sweep.ensures.area) (one_swept c.args.area.now c.requires.one) }
