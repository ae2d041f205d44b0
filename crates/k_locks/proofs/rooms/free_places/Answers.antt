use Rattle.k_locks.proofs.Places.{one_more_free}
use Rattle.k_locks.proofs.rooms.free_places.Goals as goal

pub loop-preserved : goal.loop-preserved
loop-preserved g c = one_more_free c.loop.counter c.loop.places.items c.push.new.self.items c.loop.invariant c.in_ok-push.ensures.items
