use Rattle.k_rows.proofs.ReservationsFillALimit.{worked}
use Rattle.k_rows.proofs.limits.reservations_fill_a_limit_row.Goals as goal

pub returns : goal.returns
returns c = worked
