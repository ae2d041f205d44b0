use Rattle.k_parts.proofs.Meeting.{named_meet}
use Rattle.four_guests.proofs.driving.operate_with_book.Goals as goal

pub operate-requires : goal.operate-requires
operate-requires g c = named_meet _ _ _ c.requires
