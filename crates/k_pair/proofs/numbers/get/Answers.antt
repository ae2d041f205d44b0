use Rattle.std.proofs.Common.{sym, ◌∙◌, Some, None}
use Rattle.k_types.specs.Names.{name_of}
use Rattle.k_types.specs.Replies.{is_ref}
use Rattle.k_commit.specs.k_cell.Looks.{field_among, field_count_among}
use Rattle.k_space.specs.Objects.{content_of}
use Rattle.k_pair.proofs.Faulted.{told_by}
use Rattle.k_pair.proofs.Put.{get_refused, got}
use Rattle.k_pair.proofs.Touching.{get_below, get_holds}
use Rattle.k_pair.proofs.numbers.get.Goals as goal

pub object_in-at-requires-clause-register : goal.object_in-at-requires-clause-register
object_in-at-requires-clause-register g c = get_below g.S.StepName.before.own.trace c.args.base c.args.field c.requires.in_range

pub object_in-at-requires-clause-there : goal.object_in-at-requires-clause-there
object_in-at-requires-clause-there g c = (get_holds g.S.StepName.before.own.trace c.args.cell.now c.args.book.now (g.O.OtherCell.seen c.args.other.now).cell c.args.base c.args.field c.requires.touches).there

pub commit-requires : goal.commit-requires
commit-requires g c =
    got g.S.StepName.before c.args.cell.now (g.O.OtherCell.seen c.args.other.now) c.args.book.now c.args.base c.args.field (name_of c.object_in-at.result) c.object_in-at.ensures c.requires c.in-Ok.number (sym c.field.ensures ∙ c.in-Ok.ensures.value)
    (told_by c.field_count.result (field_count_among (g.O.OtherCell.seen c.args.other.now).held.value.objects (name_of c.object_in-at.result)) (content_of c.field.result) (field_among (g.O.OtherCell.seen c.args.other.now).held.value.objects (name_of c.object_in-at.result) c.args.field)
    c.args.field is_ref None c.field_count.ensures c.field.ensures c.in-Ok.ensures.fine)

pub commit-requires-in-Err : goal.commit-requires-in-Err
commit-requires-in-Err g c =
    get_refused g.S.StepName.before c.args.cell.now (g.O.OtherCell.seen c.args.other.now) c.args.book.now c.args.base c.args.field (name_of c.object_in-at.result) c.object_in-at.ensures c.requires c.in-Err.fault
    (told_by c.field_count.result (field_count_among (g.O.OtherCell.seen c.args.other.now).held.value.objects (name_of c.object_in-at.result)) (content_of c.field.result) (field_among (g.O.OtherCell.seen c.args.other.now).held.value.objects (name_of c.object_in-at.result) c.args.field)
    c.args.field is_ref (Some c.in-Err.fault) c.field_count.ensures c.field.ensures c.in-Err.ensures.fault)
