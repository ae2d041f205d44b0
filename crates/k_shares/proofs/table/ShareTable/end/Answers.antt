use Rattle.k_shares.proofs.Living.{kept_fewer, sizes_when_ended}
use Rattle.k_shares.proofs.table.ShareTable.end.Goals as goal

pub overflow_sub-self : goal.overflow_sub-self
overflow_sub-self c =
    (kept_fewer c.self.inside.alive.items c.self.inside.bits.items c.self.inside.phases.items c.self.inside.bytes.items c.self.inside.living c.args.pid.0 _ c.self.view_is c.requires.there c.requires.lives c.self.invariant.1).0

pub invariant_of-self : goal.invariant_of-self
invariant_of-self c = (
  sizes_when_ended c.self.inside.alive.items c.self.inside.bits.items c.self.inside.phases.items c.self.inside.bytes.items c.args.pid.0 c.self.invariant.0,
  (kept_fewer c.self.inside.alive.items c.self.inside.bits.items c.self.inside.phases.items c.self.inside.bytes.items c.self.inside.living c.args.pid.0 _ c.self.view_is c.requires.there c.requires.lives c.self.invariant.1).1,
)
