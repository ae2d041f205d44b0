use Rattle.std.proofs.Common.{◌≡◌, subst, sym, ◌∙◌, Some}
use Rattle.k_types.specs.declared.event.Fault.TheVariants.{KernelFull}
use Rattle.k_types.specs.declared.event.Reply.TheVariants.{Made, Refused}
use Rattle.k_types.specs.declared.names.Name.{Name}
use Rattle.k_types.specs.declared.op.Op.TheVariants.{KNew}
use Rattle.k_types.specs.Names.{name_of}
use Rattle.k_commit.specs.k_cell.Changes.{next_in}
use Rattle.k_commit.specs.k_cell.Holdings.{HoldingsValue}
use Rattle.k_commit.specs.k_heap.Heaps.{HeapRecord}
use Rattle.k_commit.specs.Changed.{CanSetRegister, HasChangedWith, HasSetRegister}
use Rattle.k_commit.proofs.Fitting.{other_bytes_small}
use Rattle.k_commit.specs.Others.{of_kernel}
use Rattle.k_pair.specs.Operating.{as_they_are}
use Rattle.k_pair.proofs.Made.{body_there, full_told, knew_refused, knew_sets, made, serial_left}
use Rattle.k_pair.proofs.allocating.allocate_kernel.Goals as goal

pub take_body-body-requires : goal.take_body-body-requires
take_body-body-requires g c = body_there g.S.StepName.before c.args.cell.now c.args.kernel.now c.args.book.now c.args.reg c.args.ty c.requires

pub is_full-requires : goal.is_full-requires
is_full-requires g c = other_bytes_small (as_they_are g.S.StepName.before.own.trace c.args.cell.now (of_kernel c.args.kernel.now) c.args.book.now) c.requires.have_met c.requires.room.events

pub commit-requires : goal.commit-requires
commit-requires g c =
    let left = c.take_body-body.new.self.bodies in
    subst (λ (d : HeapRecord). HasChangedWith g.S.StepName.before d (of_kernel c.args.kernel.now) c.args.book.now (KNew c.args.reg c.args.ty) (Refused KernelFull)) (sym c.take_body-body.ensures.rest)
    (knew_refused g.S.StepName.before c.args.cell.now c.args.kernel.now c.args.book.now c.args.reg c.args.ty c.requires c.take_body-body.result left c.take_body-body.ensures.first
    (full_told g.S.StepName.before c.args.cell.now c.args.kernel.now c.args.book.now c.args.reg c.args.ty c.requires c.take_body-body.result left c.take_body-body.ensures.first c.is_full.result c.is_full.ensures
    ∙ c.if-is_full.true))

pub place-link-requires-clause-left : goal.place-link-requires-clause-left
place-link-requires-clause-left g c = serial_left g.S.StepName.before c.args.cell.now c.args.kernel.now c.args.book.now c.args.reg c.args.ty c.requires

pub set_register-requires : goal.set_register-requires
set_register-requires g c =
    subst (λ (n : Name). CanSetRegister g.S.StepName.before.own c.take_body-body.new.self c.args.book.now c.args.reg.0 (Some n)) (sym c.place-link.ensures.name)
    (subst (λ (d : HeapRecord). CanSetRegister g.S.StepName.before.own d c.args.book.now c.args.reg.0 (Some (next_in 0 c.args.kernel.now.value))) (sym c.take_body-body.ensures.rest)
    (knew_sets g.S.StepName.before c.args.cell.now c.args.kernel.now c.args.book.now c.args.reg c.args.ty c.requires c.take_body-body.result c.take_body-body.new.self.bodies c.take_body-body.ensures.first))

pub commit-requires-2 : goal.commit-requires-2
commit-requires-2 g c =
    let left = c.take_body-body.new.self.bodies in
    let name : c.name.result ≡ next_in 0 c.args.kernel.now.value = c.name.ensures ∙ c.place-link.ensures.name in
    subst (λ (n : Name). HasChangedWith g.S.StepName.before c.set_register.new.cell (of_kernel c.place-link.new.self) c.set_register.new.book (KNew c.args.reg c.args.ty) (Made n)) (sym name)
    (subst (λ (h : HoldingsValue). HasChangedWith g.S.StepName.before c.set_register.new.cell (of_kernel h) c.set_register.new.book (KNew c.args.reg c.args.ty) (Made (next_in 0 c.args.kernel.now.value))) (sym c.place-link.ensures.placed)
    (made g.S.StepName.before c.args.cell.now c.args.kernel.now c.args.book.now c.args.reg c.args.ty c.requires c.take_body-body.result left c.take_body-body.ensures.first
    (full_told g.S.StepName.before c.args.cell.now c.args.kernel.now c.args.book.now c.args.reg c.args.ty c.requires c.take_body-body.result left c.take_body-body.ensures.first c.is_full.result c.is_full.ensures
    ∙ c.if-is_full.false)
    c.set_register.new.cell c.set_register.new.book
    (subst (λ (n : Name). HasSetRegister g.S.StepName.before.own (record c.args.cell.now { bodies = left }) c.set_register.new.cell c.args.book.now c.set_register.new.book c.args.reg.0 (Some n)) c.place-link.ensures.name
    (subst (λ (d : HeapRecord). HasSetRegister g.S.StepName.before.own d c.set_register.new.cell c.args.book.now c.set_register.new.book c.args.reg.0 (Some (name_of c.place-link.result))) c.take_body-body.ensures.rest
    c.set_register.ensures))))
