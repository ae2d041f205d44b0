use Rattle.std.proofs.Common.{sym, ap, subst, ◌∙◌}
use Rattle.std.proofs.lemmas.Bool.{false≢true}
use Rattle.k_types.specs.declared.op.Op.{Op}
use Rattle.k_own.specs.Own.{IsDue}
use Rattle.k_own.proofs.Crossing.{get_away, is_done_here, never, put_away}
use Rattle.k_own.proofs.stepping.operate.Goals as goal

pub refuse-requires : goal.refuse-requires
refuse-requires g c =
    put_away g.before c.args.cell.now c.args.book.now c.in-Put.base c.in-Put.field c.in-Put.number
    (subst (λ (op : Op). IsDue g.before c.args.cell.now c.args.book.now op) c.in-Put.is c.requires)

pub refuse-requires-in-Get : goal.refuse-requires-in-Get
refuse-requires-in-Get g c =
    get_away g.before c.args.cell.now c.args.book.now c.in-Get.base c.in-Get.field
    (subst (λ (op : Op). IsDue g.before c.args.cell.now c.args.book.now op) c.in-Get.is c.requires)

pub unreachable-requires : goal.unreachable-requires
unreachable-requires g c = false≢true (sym (ap is_done_here c.in-KNew.is) ∙ never g.before c.args.cell.now c.args.book.now c.args.op c.requires)

pub unreachable-requires-in-SNew : goal.unreachable-requires-in-SNew
unreachable-requires-in-SNew g c = false≢true (sym (ap is_done_here c.in-SNew.is) ∙ never g.before c.args.cell.now c.args.book.now c.args.op c.requires)

pub unreachable-requires-in-Share : goal.unreachable-requires-in-Share
unreachable-requires-in-Share g c = false≢true (sym (ap is_done_here c.in-Share.is) ∙ never g.before c.args.cell.now c.args.book.now c.args.op c.requires)

pub unreachable-requires-in-Freeze : goal.unreachable-requires-in-Freeze
unreachable-requires-in-Freeze g c = false≢true (sym (ap is_done_here c.in-Freeze.is) ∙ never g.before c.args.cell.now c.args.book.now c.args.op c.requires)

pub unreachable-requires-in-Attach : goal.unreachable-requires-in-Attach
unreachable-requires-in-Attach g c = false≢true (sym (ap is_done_here c.in-Attach.is) ∙ never g.before c.args.cell.now c.args.book.now c.args.op c.requires)

pub unreachable-requires-in-Exit : goal.unreachable-requires-in-Exit
unreachable-requires-in-Exit g c = false≢true (sym (ap is_done_here c.in-Exit.is) ∙ never g.before c.args.cell.now c.args.book.now c.args.op c.requires)
