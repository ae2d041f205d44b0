use Rattle.std.proofs.Common.{◌<◌, length, subst, sym, List}
use Rattle.k_types.specs.declared.names.LimitId.{LimitId}
use Rattle.k_own.proofs.reaching.reach_end.Goals as goal

pub is_above-requires : goal.is_above-requires
is_above-requires g c = (c.requires.book_stands.of_trace, (c.requires.book_stands.keeps.limits, (c.requires.process, c.requires.target)))

pub lives-requires : goal.lives-requires
lives-requires g c = subst (λ (procs : List LimitId). c.args.target.0 < length procs) (sym c.requires.book_stands.of_trace.procs) c.requires.target
