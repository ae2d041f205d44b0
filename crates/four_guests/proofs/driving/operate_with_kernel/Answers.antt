use Rattle.k_parts.proofs.Meeting.{named_meet}
use Rattle.four_guests.proofs.driving.operate_with_kernel.Goals as goal

pub operate_with_kernel-requires-clause-kernel : goal.operate_with_kernel-requires-clause-kernel
operate_with_kernel-requires-clause-kernel g c = named_meet _ _ _ c.requires

pub operate_with_kernel-requires-clause-book : goal.operate_with_kernel-requires-clause-book
operate_with_kernel-requires-clause-book g c = named_meet _ _ _ c.requires
