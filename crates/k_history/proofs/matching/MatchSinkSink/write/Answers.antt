use Rattle.std.proofs.Common.{◌≡◌, length, arith}
use Rattle.k_history.proofs.Compared.{written_more}
use Rattle.k_history.proofs.matching.MatchSinkSink.write.Goals as goal

pub loop-byte-preserved : goal.loop-byte-preserved
loop-byte-preserved c given xs h = written_more c.loop-byte.self c.compare.new.self given xs c.args.piece.now c.loop-byte.byte-index c.loop-byte-test.true (c.loop-byte.invariant given xs h) c.compare.ensures

pub returns-clause-bytes : goal.returns-clause-bytes
returns-clause-bytes c given xs h = let all : c.loop-byte.byte-index ≡ length c.args.piece.now = omega arith in rw (← all) (c.loop-byte.invariant given xs h)
