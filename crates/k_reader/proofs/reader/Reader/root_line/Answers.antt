use Rattle.k_reader.proofs.Reservations.{root_reserved, is_small}
use Rattle.k_reader.proofs.reader.Reader.root_line.Goals as goal

pub add_limit-requires-clause-reserved : goal.add_limit-requires-clause-reserved
add_limit-requires-clause-reserved c =
    rw (← c.self.view_is) (root_reserved c.self.inside.limits.items c.in-Some.max c.self.invariant.reserved (is_small _ _ c.word.result.now c.in-Some.ensures))
