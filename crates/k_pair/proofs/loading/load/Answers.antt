use Rattle.std.proofs.Common.{sym, ap, subst, ◌∙◌, not, Option, Some, None, option_map}
use Rattle.k_types.specs.declared.names.Name.{Name}
use Rattle.k_types.specs.Names.{name_of}
use Rattle.k_types.specs.Replies.{is_ref}
use Rattle.k_types.specs.State.{Refers}
use Rattle.k_commit.specs.k_cell.Looks.{field_among, field_count_among}
use Rattle.k_space.specs.Objects.{content_of}
use Rattle.k_commit.specs.Changed.{HasSetRegister}
use Rattle.k_pair.proofs.Faulted.{told_by}
use Rattle.k_pair.proofs.Loaded.{load_refused, load_sets, loaded}
use Rattle.k_pair.proofs.Touching.{load_below, load_holds}
use Rattle.k_pair.proofs.loading.load.Goals as goal

pub object_in-at-requires-clause-register : goal.object_in-at-requires-clause-register
object_in-at-requires-clause-register g c = (load_below g.S.StepName.before.own.trace c.args.reg c.args.base c.args.field c.requires.in_range).1

pub object_in-at-requires-clause-there : goal.object_in-at-requires-clause-there
object_in-at-requires-clause-there g c = (load_holds g.S.StepName.before.own.trace c.args.cell.now c.args.book.now (g.O.OtherCell.seen c.args.other.now).cell c.args.base c.args.reg c.args.field c.requires.touches).there

pub set_register-requires : goal.set_register-requires
set_register-requires g c =
    load_sets g.S.StepName.before c.args.cell.now (g.O.OtherCell.seen c.args.other.now) c.args.book.now c.args.reg c.args.base c.args.field c.requires (name_of c.object_in-at.result) c.object_in-at.ensures (option_map name_of c.in-Ok.value) (sym c.field.ensures ∙ c.in-Ok.ensures.value)

pub commit-requires : goal.commit-requires
commit-requires g c =
    loaded g.S.StepName.before c.args.cell.now (g.O.OtherCell.seen c.args.other.now) c.args.book.now c.args.reg c.args.base c.args.field c.requires (name_of c.object_in-at.result) c.object_in-at.ensures c.named.result (sym c.field.ensures ∙ c.in-Ok.ensures.value ∙ ap Refers (sym c.named.ensures))
    (told_by c.field_count.result (field_count_among (g.O.OtherCell.seen c.args.other.now).held.value.objects (name_of c.object_in-at.result)) (content_of c.field.result) (field_among (g.O.OtherCell.seen c.args.other.now).held.value.objects (name_of c.object_in-at.result) c.args.field)
    c.args.field (λ t. not (is_ref t)) None c.field_count.ensures c.field.ensures c.in-Ok.ensures.fine)
    c.set_register.new.cell c.set_register.new.book
    (subst (λ (v : Option Name). HasSetRegister g.S.StepName.before.own c.args.cell.now c.set_register.new.cell c.args.book.now c.set_register.new.book c.args.reg.0 v) (sym c.named.ensures) c.set_register.ensures)

pub commit-requires-in-Err : goal.commit-requires-in-Err
commit-requires-in-Err g c =
    load_refused g.S.StepName.before c.args.cell.now (g.O.OtherCell.seen c.args.other.now) c.args.book.now c.args.reg c.args.base c.args.field c.requires (name_of c.object_in-at.result) c.object_in-at.ensures c.in-Err.fault
    (told_by c.field_count.result (field_count_among (g.O.OtherCell.seen c.args.other.now).held.value.objects (name_of c.object_in-at.result)) (content_of c.field.result) (field_among (g.O.OtherCell.seen c.args.other.now).held.value.objects (name_of c.object_in-at.result) c.args.field)
    c.args.field (λ t. not (is_ref t)) (Some c.in-Err.fault) c.field_count.ensures c.field.ensures c.in-Err.ensures.fault)
