use Rattle.k_laws.proofs.LocalityLaws.{replies_go_by_the_parts}
use Rattle.k_laws.proofs.replies.replies_go_by_the_parts.Goals as goal

pub returns : goal.returns
returns c = replies_go_by_the_parts
