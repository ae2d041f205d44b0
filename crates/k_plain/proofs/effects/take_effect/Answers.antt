use Rattle.k_laws.proofs.Held.{held_known}
use Rattle.k_plain.proofs.effects.take_effect.Goals as goal

pub freeze-requires-clause-known : goal.freeze-requires-clause-known
freeze-requires-clause-known c = held_known c.args.lists.now.setup c.args.lists.now.state c.args.pid.0 c.in-Freeze.root.0 c.requires.sound
