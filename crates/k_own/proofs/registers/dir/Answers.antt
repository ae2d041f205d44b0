use Rattle.std.proofs.Common.{◌≡◌, ℕ, refl, ap, subst, Option, None, Some, arith}
use Rattle.k_types.specs.declared.event.Reply.TheVariants.{Loaded}
use Rattle.k_types.specs.declared.names.Name.{Name}
use Rattle.k_types.specs.declared.op.Op.TheVariants.{Dir}
use Rattle.k_types.specs.Agree.{book_shown_by}
use Rattle.k_types.specs.Names.{directory}
use Rattle.k_commit.specs.k_agree.Shown.{idle_part}
use Rattle.k_commit.proofs.Given.{dir_alone}
use Rattle.k_commit.specs.Changed.{HasSetRegister}
use Rattle.k_own.proofs.Due.{can_set, dir_below, set_alone}
use Rattle.k_own.proofs.registers.dir.Goals as goal

abbrev seg_of : Option Name → ℕ
seg_of None = 0
seg_of (Some n) = n.seg.0

pub set_register-requires : goal.set_register-requires
set_register-requires g c =
    rw (c.link.ensures)
    (can_set g.before c.args.cell.now c.args.book.now (Dir c.args.reg) c.requires c.args.reg.0 (Some directory) (dir_below g.before c.args.reg c.requires.may)
    (λ n is. let zero_is : 0 ≡ n.seg.0 = ap seg_of is in omega (arith, zero_is)))

pub commit_heap-requires : goal.commit_heap-requires
commit_heap-requires g c =
    let b = g.before in
    set_alone b c.args.cell.now c.args.book.now (Dir c.args.reg) c.requires refl c.set_register.new.cell c.set_register.new.book c.args.reg.0 (Some directory) (Loaded (Some directory))
    (subst (λ (n : Name). HasSetRegister b c.args.cell.now c.set_register.new.cell c.args.book.now c.set_register.new.book c.args.reg.0 (Some n)) c.link.ensures c.set_register.ensures)
    (dir_alone b.trace (book_shown_by b.book.value) (idle_part b.cell.value) b.cell.pid c.args.reg)
