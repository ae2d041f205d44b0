use Rattle.k_parts.proofs.Meeting.{named_meet}
use Rattle.four_guests.proofs.driving.collect.Goals as goal

pub collect-requires : goal.collect-requires
collect-requires g c = named_meet _ _ _ c.requires
