use Rattle.std.proofs.Common.{◌+◌, ◌==◌, sym, ap, subst, ◌∙◌, Option, option_map}
use Rattle.k_types.specs.declared.names.Name.{Name}
use Rattle.k_types.specs.declared.names.Pid.{Pid}
use Rattle.k_types.specs.Names.{name_of}
use Rattle.k_types.specs.Replies.{reference}
use Rattle.k_commit.specs.k_cell.Looks.{field_among}
use Rattle.k_commit.specs.Changed.{HasSetRegister}
use Rattle.k_own.proofs.Crossing.{load_away, load_base_held, load_can_set, load_changes}
use Rattle.k_own.proofs.Due.{load_below}
use Rattle.k_own.proofs.accesses.load.Goals as goal

pub link_in-at-requires-clause-register : goal.link_in-at-requires-clause-register
link_in-at-requires-clause-register g c = (load_below g.before c.args.reg c.args.base c.args.field c.requires.may).1

pub link_in-at-requires-clause-there : goal.link_in-at-requires-clause-there
link_in-at-requires-clause-there g c = load_base_held g.before c.args.cell.now c.args.book.now c.args.reg c.args.base c.args.field c.requires

pub refuse-requires : goal.refuse-requires
refuse-requires g c =
    load_away g.before c.args.cell.now c.args.book.now c.args.reg c.args.base c.args.field c.requires (name_of c.link_in-at.result) c.link_in-at.ensures
    (ap (λ (p : Pid). c.link_in-at.result.seg.0 == p.0 + 1) (sym c.pid.ensures) ∙ sym c.is_own.ensures ∙ c.if-not-is_own.true)

pub set_register-requires : goal.set_register-requires
set_register-requires g c =
    load_can_set g.before c.args.cell.now c.args.book.now c.args.reg c.args.base c.args.field c.requires (name_of c.link_in-at.result) c.link_in-at.ensures (option_map name_of c.reference_in-value.result)
    (c.reference_in-value.ensures ∙ ap reference c.field.ensures)

pub commit_heap-requires : goal.commit_heap-requires
commit_heap-requires g c =
    load_changes g.before c.args.cell.now c.args.book.now c.args.reg c.args.base c.args.field c.requires (name_of c.link_in-at.result) c.link_in-at.ensures
    (ap (λ (p : Pid). c.link_in-at.result.seg.0 == p.0 + 1) (sym c.pid.ensures) ∙ sym c.is_own.ensures ∙ c.if-not-is_own.false)
    c.named.result
    (c.named.ensures ∙ c.reference_in-value.ensures ∙ ap reference c.field.ensures)
    c.set_register.new.cell c.set_register.new.book
    (subst (λ (v : Option Name). HasSetRegister g.before c.args.cell.now c.set_register.new.cell c.args.book.now c.set_register.new.book c.args.reg.0 v) (sym c.named.ensures) c.set_register.ensures)
