use Rattle.std.proofs.Common.{arith}
use Rattle.k_calls.proofs.Due.{can_publish, published_all}
use Rattle.k_calls.proofs.doing.publish_all.Goals as goal

pub publish-requires : goal.publish-requires
publish-requires g c = let room = c.requires.1.1 in can_publish g.basis c.args.guest.now c.args.book.now c.requires.0 c.requires.1.0 (omega (arith, room))

pub returns : goal.returns
returns g c = published_all g.basis c.args.guest.now c.args.book.now c.requires.0 c.requires.1.0 c.publish.new.cell c.publish.new.book c.publish.ensures
