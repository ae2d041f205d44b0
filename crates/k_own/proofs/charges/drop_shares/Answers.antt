use Rattle.std.proofs.Common.{◌<◌, ◌^◌, length, arith}
use Rattle.k_own.proofs.Dropped.{dropping_goes_on, sum_fits}
use Rattle.k_own.proofs.charges.drop_shares.Goals as goal

pub overflow_add-bytes : goal.overflow_add-bytes
overflow_add-bytes c =
    let inside : c.loop-s.s < length c.args.book.now.value.phases = omega (arith, c.loop-s-test.true, c.shared_heaps-s-end.ensures) in
    let fits = sum_fits c.args.pid.0 c.args.book.now c.loop-s.book c.loop-s.s c.loop-s.bytes c.loop-s.invariant (length c.args.book.now.value.phases) (2 ^ 64) inside c.requires.small in
    omega (arith, fits, c.drop_share-bytes.ensures.bytes)

pub loop-s-preserved : goal.loop-s-preserved
loop-s-preserved c =
    dropping_goes_on c.args.pid.0 c.args.book.now c.loop-s.book c.loop-s.s c.loop-s.bytes c.loop-s.invariant c.drop_share-bytes.new.book c.drop_share-bytes.result c.drop_share-bytes.ensures.bytes
    c.drop_share-bytes.ensures.shares c.drop_share-bytes.ensures.rest
