use Rattle.std.proofs.Common.{[], refl}
use Rattle.k_calls.proofs.Due.{can_alone, can_publish_first, done_alone}
use Rattle.k_calls.proofs.doing.do_alone.Goals as goal

pub publish-requires : goal.publish-requires
publish-requires g c = can_publish_first g.basis c.args.guest.now c.args.book.now c.args.op.now [] c.requires.0

pub step_own-requires : goal.step_own-requires
step_own-requires g c =
    can_alone g.basis c.args.guest.now c.args.book.now c.args.op.now [] c.requires.0 c.publish.new.cell c.publish.new.book c.publish.ensures refl c.requires.1

pub returns : goal.returns
returns g c =
    done_alone g.basis c.args.guest.now c.args.book.now c.args.op.now [] c.requires.0 c.publish.new.cell c.publish.new.book c.publish.ensures c.step_own.new.cell c.step_own.new.book c.step_own.result c.step_own.ensures refl c.requires.1
