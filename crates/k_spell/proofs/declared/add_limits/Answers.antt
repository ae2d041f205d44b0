use Rattle.k_spell.proofs.Added.{parent_named}
use Rattle.k_spell.proofs.declared.add_limits.Goals as goal

pub push_limit-requires-clause-known : goal.push_limit-requires-clause-known
push_limit-requires-clause-known c = parent_named c.args.rows.now c.loop-number.number _ _ c.requires.tree c.loop-number-test.true c.requires.named
