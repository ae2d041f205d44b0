use Rattle.std.proofs.Common.{◌≡◌, ap, subst, sym, ◌∙◌, Option, Some, IsFalse, MatchOption}
use Rattle.k_types.specs.declared.names.Name.{Name}
use Rattle.k_types.specs.declared.names.Phase.TheVariants.{Frozen}
use Rattle.k_types.specs.declared.names.Pid.{Pid}
use Rattle.k_types.specs.Replies.{is_frozen}
use Rattle.k_commit.specs.Changed.{CanSetRegister, HasSetRegister}
use Rattle.k_pair.specs.Attached.{CannotAttach, HasAttached}
use Rattle.k_pair.proofs.Facts.{phase_there}
use Rattle.k_pair.proofs.Joined.{attach_done, attach_of_unfrozen, attach_sets, attach_too_large}
use Rattle.k_pair.proofs.Touching.{attach_below}
use Rattle.k_pair.proofs.attaching.attach.Goals as goal

pub phase_of-requires : goal.phase_of-requires
phase_of-requires g c =
    phase_there g.S.StepName.before.own.trace c.args.book.now c.requires.have_met.own.book c.args.id.0 (attach_below g.S.StepName.before.own.trace c.args.reg c.args.id c.requires.in_range).1

pub commit-requires : goal.commit-requires
commit-requires g c =
    attach_of_unfrozen g.S.StepName.before c.args.cell.now c.args.shared.now c.args.book.now c.args.reg c.args.id c.requires
    (sym (ap is_frozen c.phase_of.ensures)
    ∙ subst (λ (root : Option Name). MatchOption root (IsFalse (is_frozen c.phase_of.result)) (λ x. c.phase_of.result ≡ Frozen x)) c.in_default.is c.frozen_root.ensures)

pub join-requires : goal.join-requires
join-requires g c =
    rw (c.pid.ensures) (record {
      charge = record { stands = c.requires.have_met.own.book; known = c.requires.have_met.own.heap.agrees.there };
      known = (attach_below g.S.StepName.before.own.trace c.args.reg c.args.id c.requires.in_range).1;
    })

pub set_register-requires : goal.set_register-requires
set_register-requires g c =
    subst (λ (n : Name). CanSetRegister g.S.StepName.before.own c.args.cell.now c.join.new.book c.args.reg.0 (Some n)) (sym c.link.ensures)
    (attach_sets g.S.StepName.before c.args.cell.now c.args.shared.now c.args.book.now c.args.reg c.args.id c.requires c.in-Some.root (sym c.phase_of.ensures ∙ c.in-Some.ensures) c.join.new.book
    (subst (λ (p : Pid). HasAttached g.S.StepName.before.own.trace c.args.book.now c.join.new.book p.0 c.args.id.0) c.pid.ensures c.in-Ok.ensures.attached))

pub commit-requires-in-Ok : goal.commit-requires-in-Ok
commit-requires-in-Ok g c =
    attach_done g.S.StepName.before c.args.cell.now c.args.shared.now c.args.book.now c.args.reg c.args.id c.requires c.in-Some.root (sym c.phase_of.ensures ∙ c.in-Some.ensures) c.join.new.book
    (subst (λ (p : Pid). HasAttached g.S.StepName.before.own.trace c.args.book.now c.join.new.book p.0 c.args.id.0) c.pid.ensures c.in-Ok.ensures.attached)
    c.set_register.new.cell c.set_register.new.book
    (subst (λ (n : Name). HasSetRegister g.S.StepName.before.own c.args.cell.now c.set_register.new.cell c.join.new.book c.set_register.new.book c.args.reg.0 (Some n)) c.link.ensures c.set_register.ensures)

pub commit-requires-in-Err : goal.commit-requires-in-Err
commit-requires-in-Err g c =
    attach_too_large g.S.StepName.before c.args.cell.now c.args.shared.now c.args.book.now c.args.reg c.args.id c.requires c.in-Some.root (sym c.phase_of.ensures ∙ c.in-Some.ensures) c.join.new.book c.in-Err.limit
    (subst (λ (p : Pid). CannotAttach g.S.StepName.before.own.trace c.args.book.now c.join.new.book p.0 c.args.id.0 c.in-Err.limit) c.pid.ensures c.in-Err.ensures.full)
