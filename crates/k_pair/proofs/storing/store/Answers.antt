use Rattle.std.proofs.Common.{ap, ◌∙◌, option_map}
use Rattle.k_types.specs.Names.{name_of}
use Rattle.k_types.specs.Replies.{is_ref}
use Rattle.k_pair.proofs.Stored.{same_field, still_idle, store_judges, store_refused, store_remembers, stored}
use Rattle.k_pair.proofs.Touching.{store_below, store_holds}
use Rattle.k_pair.proofs.storing.store.Goals as goal

pub object_in-at-requires-clause-register : goal.object_in-at-requires-clause-register
object_in-at-requires-clause-register g c = (store_below g.S.StepName.before.own.trace c.args.base c.args.value c.args.field c.requires.in_range).0

pub object_in-at-requires-clause-there : goal.object_in-at-requires-clause-there
object_in-at-requires-clause-there g c = (store_holds g.S.StepName.before.own.trace c.args.cell.now c.args.book.now (g.O.OtherCell.seen c.args.other.now).cell c.args.base c.args.field c.args.value c.requires.touches).there

pub reg-reference-requires : goal.reg-reference-requires
reg-reference-requires g c = (store_below g.S.StepName.before.own.trace c.args.base c.args.value c.args.field c.requires.in_range).1

pub may_store-requires : goal.may_store-requires
may_store-requires g c =
    store_judges g.S.StepName.before c.args.cell.now (g.O.OtherCell.seen c.args.other.now) c.args.book.now c.args.base c.args.field c.args.value c.requires (option_map name_of c.reg-reference.result) c.reg-reference.ensures

pub remember-requires : goal.remember-requires
remember-requires g c =
    store_remembers g.S.StepName.before c.args.cell.now (g.O.OtherCell.seen c.args.other.now) c.args.book.now c.args.base c.args.field c.args.value c.requires (option_map name_of c.reg-reference.result) c.reg-reference.ensures

pub write_ref-requires-clause-idle : goal.write_ref-requires-clause-idle
write_ref-requires-clause-idle g c =
    still_idle g.S.StepName.before c.args.cell.now (g.O.OtherCell.seen c.args.other.now) c.args.book.now c.args.base c.args.field c.args.value c.requires (name_of c.object_in-at.result) c.object_in-at.ensures
    (option_map name_of c.reg-reference.result) c.reg-reference.ensures c.in-Ok.ensures.fine (g.O.OtherCell.seen c.remember.new.other) c.remember.new.book c.remember.ensures

pub write_ref-requires-clause-kind : goal.write_ref-requires-clause-kind
write_ref-requires-clause-kind g c =
    ap is_ref (same_field g.S.StepName.before c.args.cell.now (g.O.OtherCell.seen c.args.other.now) c.args.book.now c.args.base c.args.field c.args.value c.requires (name_of c.object_in-at.result) c.object_in-at.ensures
    (option_map name_of c.reg-reference.result) c.reg-reference.ensures c.in-Ok.ensures.fine (g.O.OtherCell.seen c.remember.new.other) c.remember.new.book c.remember.ensures)
    ∙ c.in-Ok.ensures.kind

pub commit-requires : goal.commit-requires
commit-requires g c =
    rw (c.write_ref.ensures)
    (stored g.S.StepName.before c.args.cell.now (g.O.OtherCell.seen c.args.other.now) c.args.book.now c.args.base c.args.field c.args.value c.requires (name_of c.object_in-at.result) c.object_in-at.ensures
    (option_map name_of c.reg-reference.result) c.reg-reference.ensures c.in-Ok.ensures.fine (g.O.OtherCell.seen c.remember.new.other) c.remember.new.book c.remember.ensures)

pub commit-requires-in-Err : goal.commit-requires-in-Err
commit-requires-in-Err g c =
    store_refused g.S.StepName.before c.args.cell.now (g.O.OtherCell.seen c.args.other.now) c.args.book.now c.args.base c.args.field c.args.value c.requires (name_of c.object_in-at.result) c.object_in-at.ensures
    (option_map name_of c.reg-reference.result) c.reg-reference.ensures c.in-Err.fault c.in-Err.ensures.fault
