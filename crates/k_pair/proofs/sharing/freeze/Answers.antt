use Rattle.std.proofs.Common.{ap, ap₂, option_map, sym, ◌∙◌}
use Rattle.k_types.specs.declared.names.Phase.{Phase}
use Rattle.k_types.specs.declared.names.Pid.{Pid}
use Rattle.k_types.specs.Names.{name_of}
use Rattle.k_types.specs.Replies.{is_populating}
use Rattle.k_pair.proofs.Facts.{phase_there}
use Rattle.k_pair.proofs.Frozen.{freeze_by_other, freeze_done, freeze_of_null, freeze_of_other, root_at_home}
use Rattle.k_pair.proofs.Touching.{freeze_below}
use Rattle.k_pair.proofs.sharing.freeze.Goals as goal

pub reg-requires : goal.reg-requires
reg-requires g c = (freeze_below g.S.StepName.before.own.trace c.args.id c.args.root c.requires.in_range).1

pub commit-requires : goal.commit-requires
commit-requires g c =
    freeze_of_null g.S.StepName.before c.args.cell.now c.args.shared.now c.args.book.now c.args.id c.args.root c.requires (sym c.reg.ensures ∙ ap (option_map name_of) c.in_default.is)

pub is_owned_by-requires : goal.is_owned_by-requires
is_owned_by-requires g c = root_at_home g.S.StepName.before c.args.cell.now c.args.shared.now c.args.book.now c.args.id c.args.root c.requires (name_of c.in-Some.link) (sym c.in-Some.ensures)

pub commit-requires-then-not-is_owned_by : goal.commit-requires-then-not-is_owned_by
commit-requires-then-not-is_owned_by g c =
    freeze_of_other g.S.StepName.before c.args.cell.now c.args.shared.now c.args.book.now c.args.id c.args.root c.requires (name_of c.in-Some.link) (sym c.in-Some.ensures) (sym c.is_owned_by.ensures ∙ c.if-not-is_owned_by.true)

pub phase_of-requires : goal.phase_of-requires
phase_of-requires g c = phase_there g.S.StepName.before.own.trace c.args.book.now c.requires.have_met.own.book c.args.id.0 (freeze_below g.S.StepName.before.own.trace c.args.id c.args.root c.requires.in_range).0

pub commit-requires-then-not-is_populating : goal.commit-requires-then-not-is_populating
commit-requires-then-not-is_populating g c =
    freeze_by_other g.S.StepName.before c.args.cell.now c.args.shared.now c.args.book.now c.args.id c.args.root c.requires (name_of c.in-Some.link) (sym c.in-Some.ensures) (sym c.is_owned_by.ensures ∙ c.if-not-is_owned_by.false)
    (sym (ap₂ (λ (f : Phase) (p : Pid). is_populating f p.0) c.phase_of.ensures c.pid.ensures) ∙ sym c.is_populating.ensures ∙ c.if-not-is_populating.true)

pub commit-requires-2 : goal.commit-requires-2
commit-requires-2 g c =
    rw (c.set_phase.ensures, c.set_phase-2.ensures, c.name.ensures)
    (freeze_done g.S.StepName.before c.args.cell.now c.args.shared.now c.args.book.now c.args.id c.args.root c.requires (name_of c.in-Some.link) (sym c.in-Some.ensures) (sym c.is_owned_by.ensures ∙ c.if-not-is_owned_by.false)
    (sym (ap₂ (λ (f : Phase) (p : Pid). is_populating f p.0) c.phase_of.ensures c.pid.ensures) ∙ sym c.is_populating.ensures ∙ c.if-not-is_populating.false))
