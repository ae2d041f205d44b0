use Rattle.std.proofs.Common.{◌≡◌, length, subst, arith, vec_capacity}
use Rattle.k_locks.specs.Rooms.{AreEndRooms, HasRoom}
use Rattle.k_opening.proofs.Opened.{few_processes, some_processes}
use Rattle.k_opening.proofs.opening.open_with.Goals as goal

pub make_all_ready-requires-clause-some : goal.make_all_ready-requires-clause-some
make_all_ready-requires-clause-some g c = omega (arith, c.len-process_count.ensures, some_processes g.W.WorldName.world c.args.still.cells.setup c.args.still.cells.heaps.processes.items c.requires.stands.processes c.requires.setup)

pub make_all_ready-requires-clause-few : goal.make_all_ready-requires-clause-few
make_all_ready-requires-clause-few g c = omega (arith, c.len-process_count.ensures, few_processes g.W.WorldName.world c.args.still.cells.setup c.args.still.cells.heaps.processes.items c.requires.stands.processes c.requires.setup)

pub lock_cells-requires-clause-rooms : goal.lock_cells-requires-clause-rooms
lock_cells-requires-clause-rooms g c =
    let processes : c.len-process_count.result ≡ length c.args.still.cells.heaps.processes.items = omega (arith, c.len-process_count.ensures) in
    let shared : c.len-shared_count.result ≡ length c.args.still.cells.heaps.shared.items = omega (arith, c.len-shared_count.ensures) in
    subst (λ k. AreEndRooms k (length c.args.still.cells.heaps.shared.items) c.in_ok-locks.ready.rooms) processes (subst (λ k. AreEndRooms c.len-process_count.result k c.in_ok-locks.ready.rooms) shared c.in_ok-locks.ensures.rooms)

pub lock_cells-requires-clause-process_room : goal.lock_cells-requires-clause-process_room
lock_cells-requires-clause-process_room g c =
    let processes : c.len-process_count.result ≡ length c.args.still.cells.heaps.processes.items = omega (arith, c.len-process_count.ensures) in
    subst (λ k. HasRoom k c.in_ok-locks.locks.processes.items (vec_capacity c.in_ok-locks.locks.processes)) processes c.in_ok-locks.ensures.processes

pub lock_cells-requires-clause-shared_room : goal.lock_cells-requires-clause-shared_room
lock_cells-requires-clause-shared_room g c =
    let shared : c.len-shared_count.result ≡ length c.args.still.cells.heaps.shared.items = omega (arith, c.len-shared_count.ensures) in
    subst (λ k. HasRoom k c.in_ok-locks.locks.shared.items (vec_capacity c.in_ok-locks.locks.shared)) shared c.in_ok-locks.ensures.shared
