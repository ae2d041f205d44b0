use Rattle.k_process.proofs.RoomLeft.{shared_room}
use Rattle.k_process.proofs.rooms.shared_heaps_have_room.Goals as goal

pub returns : goal.returns
returns c = shared_room
