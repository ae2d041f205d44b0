use Rattle.std.specs.Arc.{arc_value}
use Rattle.k_parts.proofs.Meeting.{book_held, rests_seen}
use Rattle.k_parts.proofs.parts.BookPart.rests.Goals as goal

pub returns : goal.returns
returns g c = rests_seen (book_held (arc_value c.self.inside.head) c.self.inside.book c.self.inside.freed c.self.view_is c.self.invariant)
