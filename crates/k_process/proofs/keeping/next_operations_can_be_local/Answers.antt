use Rattle.k_process.proofs.CanDo.{next_in_range}
use Rattle.k_process.proofs.Steps.{done_small, local_keeps, local_left, registers_there, tail_room_left}
use Rattle.k_process.proofs.keeping.next_operations_can_be_local.Goals as goal

pub returns-clause-registers : goal.returns-clause-registers
returns-clause-registers c = λ trace tie h op rest hk left. registers_there trace op (next_in_range trace tie h hk op rest left)

pub returns-clause-room : goal.returns-clause-room
returns-clause-room c = λ trace tie h op rest hk left. tail_room_left trace tie h hk op rest left

pub returns-clause-count : goal.returns-clause-count
returns-clause-count c = λ trace tie h op rest hk left. done_small trace tie h hk op rest left

pub returns-clause-keeps : goal.returns-clause-keeps
returns-clause-keeps c =
    λ trace tie h op rest said hk left lives answer. (local_keeps trace tie h hk op rest left lives said answer, local_left trace tie h hk op rest left lives said answer)
