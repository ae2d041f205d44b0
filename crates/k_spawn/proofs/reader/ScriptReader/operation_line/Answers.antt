use Rattle.std.proofs.Common.{sym, subst}
use Rattle.k_trace.specs.Words.{words_of}
use Rattle.k_spawn.specs.declared.errors.ScriptLineError.{ScriptLineError}
use Rattle.k_spawn.specs.Judgement.{operation_line}
use Rattle.k_spawn.specs.Outcome.{RefusesLine, so_far}
use Rattle.k_spawn.proofs.Lines.{no_deed}
use Rattle.k_spawn.proofs.reader.ScriptReader.operation_line.Goals as goal

pub returns-in-None-clause-judged : goal.returns-in-None-clause-judged
returns-in-None-clause-judged c =
    let s = (so_far c.args.self.now).said in
    subst (λ (e : ScriptLineError). RefusesLine e (operation_line s (words_of c.args.line.now))) (sym c.bad.ensures) (no_deed s _ _ c.in-None.ensures.none)
