use Rattle.k_operate.proofs.Published.{can_publish, published_all}
use Rattle.k_operate.proofs.stepping.publish_all.Goals as goal

pub publish-requires : goal.publish-requires
publish-requires g c = can_publish g.world' c.args.process.now c.args.book.now c.requires

pub returns : goal.returns
returns g c = published_all g.world' c.args.process.now c.args.book.now c.requires c.publish.new.cell c.publish.new.book c.publish.ensures
