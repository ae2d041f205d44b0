use Rattle.k_rows.proofs.AProcessEndsAnother.{worked}
use Rattle.k_rows.proofs.governing.a_process_ends_another_row.Goals as goal

pub returns : goal.returns
returns c = worked
