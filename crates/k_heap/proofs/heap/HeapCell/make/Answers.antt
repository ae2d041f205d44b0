use Rattle.std.proofs.Common.{◌≡◌, ◌+◌, length, ap, ◌∙◌, arith}
use Rattle.std.specs.Prelude.{vec_capacity}
use Rattle.k_cell.specs.Holdings.{fresh_holdings}
use Rattle.k_heap.specs.Heaps.{own_segment}
use Rattle.k_heap.proofs.Shown.{opened_seen}
use Rattle.k_heap.proofs.heap.HeapCell.make.Goals as goal

pub returns : goal.returns
returns c =
    let count : c.len.result ≡ length c.args.setup.now.procs.items = omega (arith, c.len.ensures, c.args.setup.now.procs.ok.0) in
    let held : c.in_ok-holdings.holdings ≡ fresh_holdings (own_segment c.args.pid) (record { bound = 1 + c.len.result + c.args.setup.now.shared; segments = 1; objects = c.args.rooms.objects; exits = c.args.rooms.exits }) c.args.note = c.in_ok-holdings.ensures in
    opened_seen c.args.setup.now c.args.pid c.args.bodies.items c.args.rooms c.args.note c.in_ok-holdings.holdings c.in_ok-tail.tail.items (vec_capacity c.in_ok-tail.tail)
    (held ∙ ap (λ n. fresh_holdings (own_segment c.args.pid) (record { bound = 1 + n + c.args.setup.now.shared; segments = 1; objects = c.args.rooms.objects; exits = c.args.rooms.exits }) c.args.note) count)
    c.in_ok-tail.ensures.items c.in_ok-tail.ensures.exact
