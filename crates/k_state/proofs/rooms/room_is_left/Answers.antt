use Rattle.k_state.proofs.RoomLaws.{room_after_step}
use Rattle.k_state.proofs.rooms.room_is_left.Goals as goal

pub returns : goal.returns
returns c = room_after_step
