use Rattle.std.specs.Prelude.{vec_capacity}
use Rattle.k_heap.proofs.Shown.{set_seen}
use Rattle.k_heap.proofs.heap.HeapCell.set_reg.Goals as goal

pub returns : goal.returns
returns c =
    rw (← c.self.view_is)
    (set_seen c.self.inside.holdings c.self.inside.pid c.self.inside.registers c.self.inside.done c.self.inside.has_ended c.self.inside.tail.items (vec_capacity c.self.inside.tail) c.self.inside.bodies.items c.args.r.0 c.args.value)
