use Rattle.std.proofs.Common.{◌≡◌, refl, None, Some}
use Rattle.k_types.specs.declared.event.Reply.TheVariants.{Done}
use Rattle.k_types.specs.declared.op.Op.TheVariants.{Clear}
use Rattle.k_types.specs.Agree.{book_shown_by}
use Rattle.k_commit.specs.k_agree.Shown.{idle_part}
use Rattle.k_commit.proofs.Given.{clear_alone}
use Rattle.k_own.proofs.Due.{can_set, clear_below, set_alone}
use Rattle.k_own.proofs.registers.clear.Goals as goal

pub set_register-requires : goal.set_register-requires
set_register-requires g c =
    can_set g.before c.args.cell.now c.args.book.now (Clear c.args.reg) c.requires c.args.reg.0 None (clear_below g.before c.args.reg c.requires.may)
    (λ n is. let both : None ≡ Some n = is in absurd (cc))

pub commit_heap-requires : goal.commit_heap-requires
commit_heap-requires g c =
    let b = g.before in
    set_alone b c.args.cell.now c.args.book.now (Clear c.args.reg) c.requires refl c.set_register.new.cell c.set_register.new.book c.args.reg.0 None Done c.set_register.ensures
    (clear_alone b.trace (book_shown_by b.book.value) (idle_part b.cell.value) b.cell.pid c.args.reg)
