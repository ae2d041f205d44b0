use Rattle.std.proofs.Common.{ap, option_map}
use Rattle.k_types.specs.Names.{name_of}
use Rattle.k_commit.proofs.registers.take_hold.Goals as goal

pub pin-requires-clause-home : goal.pin-requires-clause-home
pin-requires-clause-home g c = c.requires.0 (name_of c.in-Some.link) (ap (option_map name_of) c.in-Some.is)
