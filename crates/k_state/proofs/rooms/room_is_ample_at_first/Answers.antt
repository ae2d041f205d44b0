use Rattle.k_state.proofs.RoomLaws.{room_at_opening}
use Rattle.k_state.proofs.rooms.room_is_ample_at_first.Goals as goal

pub returns : goal.returns
returns c = room_at_opening
