use Rattle.k_spawn.proofs.Headers.{begun_here}
use Rattle.k_spawn.proofs.reader.ScriptReader.later_line.Goals as goal

pub operation_line-requires-clause-begun : goal.operation_line-requires-clause-begun
operation_line-requires-clause-begun c = begun_here c.args.self.now c.requires.place
