use Rattle.k_laws.proofs.Laws.{resizes_move_the_reservation}
use Rattle.k_laws.proofs.charges.resizes_move_the_reservation.Goals as goal

pub returns : goal.returns
returns c = resizes_move_the_reservation
