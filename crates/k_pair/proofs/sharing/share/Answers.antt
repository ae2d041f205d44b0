use Rattle.std.proofs.Common.{ap, sym, ◌∙◌}
use Rattle.std.proofs.Math.ListN.{length-set}
use Rattle.k_types.specs.Replies.{is_unmade}
use Rattle.k_pair.proofs.Facts.{phase_there}
use Rattle.k_pair.proofs.Populated.{share_done, share_is_new, share_taken}
use Rattle.k_pair.proofs.Touching.{share_below}
use Rattle.k_pair.proofs.sharing.share.Goals as goal

pub phase_of-requires : goal.phase_of-requires
phase_of-requires g c = phase_there g.S.StepName.before.own.trace c.args.book.now c.requires.have_met.own.book c.args.id.0 (share_below g.S.StepName.before.own.trace c.args.id c.requires.in_range)

pub commit-requires : goal.commit-requires
commit-requires g c =
    share_taken g.S.StepName.before c.args.cell.now c.args.shared.now c.args.book.now c.args.id c.requires (sym (ap is_unmade c.phase_of.ensures) ∙ sym c.is_unmade.ensures ∙ c.if-not-is_unmade.true)

pub set_phase-requires-2 : goal.set_phase-requires-2
set_phase-requires-2 g c = phase_there g.S.StepName.before.own.trace c.args.book.now c.requires.have_met.own.book c.args.id.0 (share_below g.S.StepName.before.own.trace c.args.id c.requires.in_range)

pub add_share-requires-clause-heap : goal.add_share-requires-clause-heap
add_share-requires-clause-heap g c = rw (c.set_phase-2.ensures, length-set) (phase_there g.S.StepName.before.own.trace c.args.book.now c.requires.have_met.own.book c.args.id.0 (share_below g.S.StepName.before.own.trace c.args.id c.requires.in_range))

pub add_share-requires-clause-fresh : goal.add_share-requires-clause-fresh
add_share-requires-clause-fresh g c =
    rw (c.set_phase-2.ensures, c.pid-pid.ensures)
    (share_is_new g.S.StepName.before c.args.cell.now c.args.shared.now c.args.book.now c.args.id c.requires (sym (ap is_unmade c.phase_of.ensures) ∙ sym c.is_unmade.ensures ∙ c.if-not-is_unmade.false))

pub commit-requires-2 : goal.commit-requires-2
commit-requires-2 g c =
    rw (c.set_phase.ensures)
    (share_done g.S.StepName.before c.args.cell.now c.args.shared.now c.args.book.now c.args.id c.requires (sym (ap is_unmade c.phase_of.ensures) ∙ sym c.is_unmade.ensures ∙ c.if-not-is_unmade.false)
    c.pid-pid.result c.pid-pid.ensures c.set_phase-2.new.self c.add_share.new.self c.set_phase-2.ensures c.add_share.ensures.shares c.add_share.ensures.rest)
