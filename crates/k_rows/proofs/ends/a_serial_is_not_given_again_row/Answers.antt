use Rattle.k_rows.proofs.ASerialIsNotGivenAgain.{worked}
use Rattle.k_rows.proofs.ends.a_serial_is_not_given_again_row.Goals as goal

pub returns : goal.returns
returns c = worked
