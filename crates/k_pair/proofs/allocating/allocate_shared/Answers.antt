use Rattle.std.proofs.Common.{◌≡◌, ap, ap₂, arith, slice_index, subst, sym, ◌∙◌}
use Rattle.k_types.specs.declared.names.Phase.{Phase}
use Rattle.k_types.specs.declared.names.Pid.{Pid}
use Rattle.k_types.specs.Names.{name_of}
use Rattle.k_types.specs.Replies.{is_populating}
use Rattle.k_commit.specs.k_book.Books.{BookRecord}
use Rattle.k_commit.specs.k_heap.Heaps.{HeapRecord}
use Rattle.k_commit.specs.Charging.{HasCharged, IsFullFor}
use Rattle.k_commit.proofs.Fitting.{charged_small, other_bytes_small}
use Rattle.k_commit.specs.Others.{of_shared}
use Rattle.k_pair.specs.Operating.{as_they_are}
use Rattle.k_pair.proofs.Facts.{phase_there}
use Rattle.k_pair.proofs.Placed.{serial_left, snew_by_other, snew_done, snew_sets, snew_too_large}
use Rattle.k_pair.proofs.Touching.{snew_below}
use Rattle.k_pair.proofs.allocating.allocate_shared.Goals as goal

pub phase_of-requires : goal.phase_of-requires
phase_of-requires g c = phase_there g.S.StepName.before.own.trace c.args.book.now c.requires.have_met.own.book c.args.id.0 (snew_below g.S.StepName.before.own.trace c.args.reg c.args.id c.args.ty c.requires.in_range).1

pub commit-requires : goal.commit-requires
commit-requires g c =
    rw (c.take_body-body.ensures.rest)
    (snew_by_other g.S.StepName.before c.args.cell.now c.args.shared.now c.args.book.now c.args.reg c.args.id c.args.ty c.requires c.take_body-body.result c.take_body-body.new.self.bodies c.take_body-body.ensures.first
    (sym (ap₂ (λ (f : Phase) (p : Pid). is_populating f p.0) c.phase_of.ensures (c.pid.ensures ∙ ap (λ (d : HeapRecord). d.pid) c.take_body-body.ensures.rest)) ∙ sym c.is_populating.ensures ∙ c.if-not-is_populating.true))

pub grow_shared-requires-clause-sum : goal.grow_shared-requires-clause-sum
grow_shared-requires-clause-sum g c =
    let small = charged_small (as_they_are g.S.StepName.before.own.trace c.args.cell.now (of_shared c.args.shared.now) c.args.book.now).own c.requires.have_met.own c.requires.room.events c.args.id.0 in
    let same : slice_index c.charge_process.new.book.value.shared_bytes c.args.id.0 ≡ slice_index c.args.book.now.value.shared_bytes c.args.id.0 =
    ap (λ (e : BookRecord). slice_index e.value.shared_bytes c.args.id.0) c.in-Ok.ensures.charged.book_is in
    let most = c.bytes-bytes.ensures.most in
    omega (arith, small, same, most)

pub place-link-requires-clause-left : goal.place-link-requires-clause-left
place-link-requires-clause-left g c =
    serial_left g.S.StepName.before c.args.cell.now c.args.shared.now c.args.book.now c.args.reg c.args.id c.args.ty c.requires c.take_body-body.result c.take_body-body.new.self.bodies c.take_body-body.ensures.first
    (sym (ap₂ (λ (f : Phase) (p : Pid). is_populating f p.0) c.phase_of.ensures (c.pid.ensures ∙ ap (λ (d : HeapRecord). d.pid) c.take_body-body.ensures.rest)) ∙ sym c.is_populating.ensures ∙ c.if-not-is_populating.false)
    c.bytes-bytes.result c.bytes-bytes.ensures.size

pub place-link-requires-clause-bytes : goal.place-link-requires-clause-bytes
place-link-requires-clause-bytes g c = other_bytes_small (as_they_are g.S.StepName.before.own.trace c.args.cell.now (of_shared c.args.shared.now) c.args.book.now) c.requires.have_met c.requires.room.events

pub set_register-requires : goal.set_register-requires
set_register-requires g c =
    snew_sets g.S.StepName.before c.args.cell.now c.args.shared.now c.args.book.now c.args.reg c.args.id c.args.ty c.requires c.take_body-body.result c.take_body-body.new.self.bodies c.take_body-body.ensures.first
    (sym (ap₂ (λ (f : Phase) (p : Pid). is_populating f p.0) c.phase_of.ensures (c.pid.ensures ∙ ap (λ (d : HeapRecord). d.pid) c.take_body-body.ensures.rest)) ∙ sym c.is_populating.ensures ∙ c.if-not-is_populating.false)
    c.bytes-bytes.result c.bytes-bytes.ensures.size c.charge_process.new.book
    (subst (λ (p : Pid). HasCharged g.S.StepName.before.own.trace c.args.book.now c.charge_process.new.book p.0 c.bytes-bytes.result) (c.pid-2.ensures ∙ ap (λ (d : HeapRecord). d.pid) c.take_body-body.ensures.rest) c.in-Ok.ensures.charged)
    c.take_body-body.new.self c.take_body-body.ensures.rest c.grow_shared.new.self c.grow_shared.ensures (name_of c.place-link.result) c.place-link.ensures.name

pub commit-requires-in-Ok : goal.commit-requires-in-Ok
commit-requires-in-Ok g c =
    rw (c.place-link.ensures.placed, c.name.ensures)
    (snew_done g.S.StepName.before c.args.cell.now c.args.shared.now c.args.book.now c.args.reg c.args.id c.args.ty c.requires c.take_body-body.result c.take_body-body.new.self.bodies c.take_body-body.ensures.first
    (sym (ap₂ (λ (f : Phase) (p : Pid). is_populating f p.0) c.phase_of.ensures (c.pid.ensures ∙ ap (λ (d : HeapRecord). d.pid) c.take_body-body.ensures.rest)) ∙ sym c.is_populating.ensures ∙ c.if-not-is_populating.false)
    c.bytes-bytes.result c.bytes-bytes.ensures.size c.charge_process.new.book
    (subst (λ (p : Pid). HasCharged g.S.StepName.before.own.trace c.args.book.now c.charge_process.new.book p.0 c.bytes-bytes.result) (c.pid-2.ensures ∙ ap (λ (d : HeapRecord). d.pid) c.take_body-body.ensures.rest) c.in-Ok.ensures.charged)
    c.take_body-body.new.self c.take_body-body.ensures.rest c.grow_shared.new.self c.grow_shared.ensures (name_of c.place-link.result) c.place-link.ensures.name
    c.set_register.new.cell c.set_register.new.book c.set_register.ensures)

pub commit-requires-in-Err : goal.commit-requires-in-Err
commit-requires-in-Err g c =
    rw (c.take_body-body.ensures.rest)
    (snew_too_large g.S.StepName.before c.args.cell.now c.args.shared.now c.args.book.now c.args.reg c.args.id c.args.ty c.requires c.take_body-body.result c.take_body-body.new.self.bodies c.take_body-body.ensures.first
    (sym (ap₂ (λ (f : Phase) (p : Pid). is_populating f p.0) c.phase_of.ensures (c.pid.ensures ∙ ap (λ (d : HeapRecord). d.pid) c.take_body-body.ensures.rest)) ∙ sym c.is_populating.ensures ∙ c.if-not-is_populating.false)
    c.bytes-bytes.result c.bytes-bytes.ensures.size c.charge_process.new.book c.in-Err.limit
    (subst (λ (p : Pid). IsFullFor g.S.StepName.before.own.trace c.args.book.now c.charge_process.new.book p.0 c.bytes-bytes.result c.in-Err.limit) (c.pid-2.ensures ∙ ap (λ (d : HeapRecord). d.pid) c.take_body-body.ensures.rest) c.in-Err.ensures.full))
