use Rattle.std.proofs.Common.{arith}
use Rattle.std.proofs.lemmas.List.{take_rest}
use Rattle.k_io.proofs.Takings.{takes_more}
use Rattle.k_gather.proofs.passing.pass.Goals as goal

pub loop-done-preserved : goal.loop-done-preserved
loop-done-preserved g c = record {
  within = grind arith;
  taken = takes_more (g.K.Sink.Holds c.args.out.now) (g.K.Sink.Holds c.loop-done.out) (g.K.Sink.Holds c.write.new.self) c.args.bytes.now c.loop-done.done c.in-Ok.taken c.loop-done.invariant.taken (rw (take_rest c.args.bytes.now c.loop-done.done) at c.in-Ok.ensures.bytes);
  steady = grind arith;
}
