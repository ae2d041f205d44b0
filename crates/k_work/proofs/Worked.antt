-- The worked lines, computed.
use Rattle.std.proofs.Common.{◌≡◌, refl}
use Rattle.k_text.proofs.Machine.{machine}
use Rattle.k_work.specs.Lines.{process_line, work_lines}
use Rattle.k_work.specs.Worked.{ended_and_closed, ended_and_closed_lines, file_order_work, kernel_collections, kernel_collections_lines, own_collection, own_collection_lines}

pub own_collection_is : file_order_work own_collection ≡ own_collection_lines
unfolding machine process_line work_lines
own_collection_is = refl

pub kernel_collections_is : file_order_work kernel_collections ≡ kernel_collections_lines
unfolding machine process_line work_lines
kernel_collections_is = refl

pub ended_and_closed_is : file_order_work ended_and_closed ≡ ended_and_closed_lines
unfolding machine process_line work_lines
ended_and_closed_is = refl
