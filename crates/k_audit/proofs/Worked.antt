-- The worked snapshots, computed.
use Rattle.std.proofs.Common.{◌≡◌, refl}
use Rattle.k_text.specs.Worked.{every_sharer_pays}
use Rattle.k_text.proofs.Machine.{machine}
use Rattle.k_audit.specs.Snapshots.{gone_line, gone_lines, made_line, made_lines, snapshot_lines}
use Rattle.k_audit.specs.Worked.{every_sharer_pays_snapshot, file_order_snapshot, two_are_gone, two_are_gone_snapshot}

pub every_sharer_pays_is : file_order_snapshot every_sharer_pays ≡ every_sharer_pays_snapshot
unfolding machine gone_line gone_lines made_line made_lines snapshot_lines
every_sharer_pays_is = refl

pub two_are_gone_is : file_order_snapshot two_are_gone ≡ two_are_gone_snapshot
unfolding machine gone_line gone_lines made_line made_lines snapshot_lines
two_are_gone_is = refl
