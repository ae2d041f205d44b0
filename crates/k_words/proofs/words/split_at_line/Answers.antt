use Rattle.std.proofs.Common.{◌<◌, length, arith}
use Rattle.k_words.proofs.Cuts.{cut_more, cut_found}
use Rattle.k_words.proofs.words.split_at_line.Goals as goal

pub returns-then-is : goal.returns-then-is
returns-then-is c =
    let some : 0 < length c.loop-rest.rest.now = omega (arith, c.next_line.ensures.shorter) in
    cut_found c.args.wanted.now c.args.bytes.now c.loop-rest.rest.now _ c.next_line.result.1.now c.loop-rest.invariant some c.next_line.ensures.lines c.if-is.ensures

pub loop-rest-preserved : goal.loop-rest-preserved
loop-rest-preserved c =
    let some : 0 < length c.loop-rest.rest.now = omega (arith, c.next_line.ensures.shorter) in
    cut_more c.args.wanted.now c.args.bytes.now c.loop-rest.rest.now _ _ c.loop-rest.invariant some c.next_line.ensures.lines c.if-is.ensures c.next_line.ensures.bytes
