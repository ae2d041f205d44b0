use Rattle.std.proofs.Common.{refl, sym, subst, ◌∙◌, Option, option_map}
use Rattle.k_types.specs.declared.event.Reply.TheVariants.{Done}
use Rattle.k_types.specs.declared.names.Name.{Name}
use Rattle.k_types.specs.declared.op.Op.TheVariants.{Move}
use Rattle.k_types.specs.Agree.{book_shown_by}
use Rattle.k_types.specs.Names.{name_of}
use Rattle.k_commit.specs.Changed.{HasSetRegister}
use Rattle.k_commit.specs.k_agree.Shown.{idle_part}
use Rattle.k_commit.proofs.Given.{move_alone}
use Rattle.k_own.proofs.Due.{can_set, held_before, held_there, move_below, set_alone}
use Rattle.k_own.proofs.registers.move_reference.Goals as goal

pub reg-value-requires : goal.reg-value-requires
reg-value-requires g c = (move_below g.before c.args.reg c.args.from c.requires.may).1

pub set_register-requires : goal.set_register-requires
set_register-requires g c =
    let op = Move c.args.reg c.args.from in
    can_set g.before c.args.cell.now c.args.book.now op c.requires c.args.reg.0 (option_map name_of c.reg-value.result) (move_below g.before c.args.reg c.args.from c.requires.may).0
    (λ n is. held_there g.before c.args.cell.now c.args.book.now op c.requires c.args.from.0 n (sym c.reg-value.ensures ∙ is))

pub commit_heap-requires : goal.commit_heap-requires
commit_heap-requires g c =
    let op = Move c.args.reg c.args.from in
    let b = g.before in
    let value = c.reg-value.ensures ∙ held_before b c.args.cell.now c.args.book.now op c.requires c.args.from.0 in
    set_alone b c.args.cell.now c.args.book.now op c.requires refl c.set_register.new.cell c.set_register.new.book c.args.reg.0 _ Done
    (subst (λ (x : Option Name). HasSetRegister b c.args.cell.now c.set_register.new.cell c.args.book.now c.set_register.new.book c.args.reg.0 x) value c.set_register.ensures)
    (move_alone b.trace (book_shown_by b.book.value) (idle_part b.cell.value) b.cell.pid c.args.reg c.args.from)
