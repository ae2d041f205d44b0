use Rattle.k_process.proofs.RoomLeft.{room_left}
use Rattle.k_process.proofs.rooms.operations_leave_room.Goals as goal

pub returns : goal.returns
returns c = λ trace history p op keeps legal first known next. room_left trace history p op first known next keeps legal
