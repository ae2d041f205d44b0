use Rattle.k_rows.proofs.ImpossibleEvents.{a_resize_beyond_what_is_left_is_not}
use Rattle.k_rows.proofs.impossible.a_resize_beyond_what_is_left_is_impossible.Goals as goal

pub returns : goal.returns
returns c = a_resize_beyond_what_is_left_is_not
