use Rattle.std.proofs.Common.{◌<◌, ap, sym, subst, ◌∙◌, Some, None}
use Rattle.k_types.specs.Names.{name_of}
use Rattle.k_types.specs.Replies.{is_ref}
use Rattle.k_commit.specs.k_cell.Looks.{field_among, field_count_among}
use Rattle.k_space.specs.Objects.{content_of}
use Rattle.k_pair.proofs.Faulted.{told_by}
use Rattle.k_pair.proofs.Put.{put_done, put_refused}
use Rattle.k_pair.proofs.Touching.{put_below, put_holds}
use Rattle.k_pair.proofs.numbers.put.Goals as goal

pub object_in-at-requires-clause-register : goal.object_in-at-requires-clause-register
object_in-at-requires-clause-register g c = put_below g.S.StepName.before.own.trace c.args.base c.args.field c.args.number c.requires.in_range

pub object_in-at-requires-clause-there : goal.object_in-at-requires-clause-there
object_in-at-requires-clause-there g c = (put_holds g.S.StepName.before.own.trace c.args.cell.now c.args.book.now (g.O.OtherCell.seen c.args.other.now).cell c.args.base c.args.field c.args.number c.requires.touches).there

pub write_int-requires-clause-idle : goal.write_int-requires-clause-idle
write_int-requires-clause-idle g c = c.requires.have_met.other.idle

pub write_int-requires-clause-there : goal.write_int-requires-clause-there
write_int-requires-clause-there g c = subst (λ n. c.args.field < n) c.field_count.ensures c.in-Ok.ensures.there

pub write_int-requires-clause-kind : goal.write_int-requires-clause-kind
write_int-requires-clause-kind g c = ap is_ref (sym c.field.ensures ∙ c.in-Ok.ensures.value)

pub commit-requires : goal.commit-requires
commit-requires g c =
    rw (c.write_int.ensures)
    (put_done g.S.StepName.before c.args.cell.now (g.O.OtherCell.seen c.args.other.now) c.args.book.now c.args.base c.args.field (name_of c.object_in-at.result) c.object_in-at.ensures c.args.number c.requires
    (told_by c.field_count.result (field_count_among (g.O.OtherCell.seen c.args.other.now).held.value.objects (name_of c.object_in-at.result)) (content_of c.field.result) (field_among (g.O.OtherCell.seen c.args.other.now).held.value.objects (name_of c.object_in-at.result) c.args.field)
    c.args.field is_ref None c.field_count.ensures c.field.ensures c.in-Ok.ensures.fine))

pub commit-requires-in-Err : goal.commit-requires-in-Err
commit-requires-in-Err g c =
    put_refused g.S.StepName.before c.args.cell.now (g.O.OtherCell.seen c.args.other.now) c.args.book.now c.args.base c.args.field (name_of c.object_in-at.result) c.object_in-at.ensures c.args.number c.requires c.in-Err.fault
    (told_by c.field_count.result (field_count_among (g.O.OtherCell.seen c.args.other.now).held.value.objects (name_of c.object_in-at.result)) (content_of c.field.result) (field_among (g.O.OtherCell.seen c.args.other.now).held.value.objects (name_of c.object_in-at.result) c.args.field)
    c.args.field is_ref (Some c.in-Err.fault) c.field_count.ensures c.field.ensures c.in-Err.ensures.fault)
