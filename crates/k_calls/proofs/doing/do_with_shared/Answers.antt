use Rattle.std.proofs.Common.{[], ◌∷◌, refl}
use Rattle.k_types.specs.declared.names.Heap.TheVariants.{Shared}
use Rattle.k_calls.proofs.Due.{can_publish_first, can_with_shared, done_with_shared}
use Rattle.k_calls.proofs.doing.do_with_shared.Goals as goal

pub publish-requires : goal.publish-requires
publish-requires g c = can_publish_first g.basis c.args.guest.now c.args.book.now c.args.op.now (Shared c.args.shared.now.id ∷ []) c.requires.due

pub step_shared-requires : goal.step_shared-requires
step_shared-requires g c =
    can_with_shared g.basis c.args.guest.now c.args.book.now c.args.op.now (Shared c.args.shared.now.id ∷ []) c.requires.due c.publish.new.cell c.publish.new.book c.publish.ensures c.args.shared.now
    c.requires.shared c.requires.room refl

pub returns : goal.returns
returns g c =
    done_with_shared g.basis c.args.guest.now c.args.book.now c.args.op.now (Shared c.args.shared.now.id ∷ []) c.requires.due c.publish.new.cell c.publish.new.book c.publish.ensures
    c.step_shared.new.cell c.step_shared.new.book c.step_shared.result c.args.shared.now c.step_shared.new.shared c.requires.shared c.requires.room refl c.step_shared.ensures
