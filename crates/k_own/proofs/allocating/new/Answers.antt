use Rattle.std.proofs.Common.{◌+◌, ◌<◌, ◌^◌, sym, ap, subst, ◌∙◌, Some}
use Rattle.k_types.specs.declared.event.Reply.TheVariants.{Made, Refused}
use Rattle.k_types.specs.declared.names.Name.{Name}
use Rattle.k_types.specs.declared.names.Pid.{Pid}
use Rattle.k_types.specs.declared.op.Op.TheVariants.{New}
use Rattle.k_types.specs.declared.event.Fault.TheVariants.{LimitFull}
use Rattle.k_types.specs.Names.{name_of}
use Rattle.k_types.specs.Owners.{object_bytes}
use Rattle.k_types.specs.Totals.{total}
use Rattle.k_commit.specs.k_cell.Changes.{next_in, with_body}
use Rattle.k_commit.specs.k_cell.Holdings.{HasObjectRoom}
use Rattle.k_commit.specs.k_heap.Heaps.{HeapRecord, holdings_of, own_segment}
use Rattle.k_commit.specs.Changed.{CanSetRegister, HasChanged, HasSetRegister}
use Rattle.k_commit.specs.Charging.{HasCharged, IsFullFor}
use Rattle.k_own.proofs.Allocated.{bytes_fit, can_set_new, new_changed, refused_changed, serial_left_now, size_is}
use Rattle.k_own.proofs.allocating.new.Goals as goal

pub place-link-requires-clause-left : goal.place-link-requires-clause-left
place-link-requires-clause-left g c =
    subst (λ (w : HeapRecord). HasObjectRoom (holdings_of w) (own_segment w.pid)) (sym c.take_body-body.ensures.rest)
    (serial_left_now g.before c.args.cell.now c.args.book.now c.args.reg c.args.ty c.requires c.take_body-body.result c.take_body-body.new.self.bodies c.take_body-body.ensures.first)

pub place-link-requires-clause-bytes : goal.place-link-requires-clause-bytes
place-link-requires-clause-bytes g c =
    subst (λ (w : HeapRecord). total object_bytes w.value.objects + 144 < 2 ^ 64) (sym c.take_body-body.ensures.rest)
    (bytes_fit g.before c.args.cell.now c.args.book.now c.args.reg c.args.ty c.requires)

pub set_register-requires : goal.set_register-requires
set_register-requires g c =
    let cell = c.args.cell.now in
    let book = c.args.book.now in
    let body = c.take_body-body.result in
    let left = c.take_body-body.new.self.bodies in
    let taken = c.take_body-body.ensures.first in
    let rest = c.take_body-body.ensures.rest in
    let pid = c.pid.ensures ∙ ap (λ (w : HeapRecord). w.pid) rest ∙ ap (λ (w : HeapRecord). w.pid) c.requires.cell_is in
    let size = c.bytes.ensures.size ∙ size_is g.before cell book c.args.reg c.args.ty c.requires body left taken in
    let charged = subst (λ (p : Pid). HasCharged g.before.trace book c.charge_process.new.book p.0 c.bytes.result) pid c.in-Ok.ensures.charged in
    let placed = c.place-link.ensures.placed ∙ ap (λ (w : HeapRecord). record w { value = with_body (own_segment w.pid) body w.value }) rest in
    let name = c.place-link.ensures.name ∙ ap (λ (w : HeapRecord). next_in (own_segment w.pid) w.value) rest in
    subst (λ (w : HeapRecord). CanSetRegister g.before w c.charge_process.new.book c.args.reg.0 (Some (name_of c.place-link.result))) (sym placed)
    (subst (λ (n : Name). CanSetRegister g.before (record cell { value = with_body (own_segment cell.pid) body cell.value; bodies = left }) c.charge_process.new.book c.args.reg.0 (Some n)) (sym name)
    (can_set_new g.before cell book c.args.reg c.args.ty c.requires body left taken c.bytes.result size c.charge_process.new.book charged))

pub commit_heap-requires : goal.commit_heap-requires
commit_heap-requires g c =
    let cell = c.args.cell.now in
    let book = c.args.book.now in
    let body = c.take_body-body.result in
    let left = c.take_body-body.new.self.bodies in
    let taken = c.take_body-body.ensures.first in
    let rest = c.take_body-body.ensures.rest in
    let pid = c.pid.ensures ∙ ap (λ (w : HeapRecord). w.pid) rest ∙ ap (λ (w : HeapRecord). w.pid) c.requires.cell_is in
    let size = c.bytes.ensures.size ∙ size_is g.before cell book c.args.reg c.args.ty c.requires body left taken in
    let charged = subst (λ (p : Pid). HasCharged g.before.trace book c.charge_process.new.book p.0 c.bytes.result) pid c.in-Ok.ensures.charged in
    let placed = c.place-link.ensures.placed ∙ ap (λ (w : HeapRecord). record w { value = with_body (own_segment w.pid) body w.value }) rest in
    let name = c.place-link.ensures.name ∙ ap (λ (w : HeapRecord). next_in (own_segment w.pid) w.value) rest in
    subst (λ (n : Name). HasChanged g.before c.set_register.new.cell c.set_register.new.book (New c.args.reg c.args.ty) (Made n)) (sym (c.name.ensures ∙ name))
    (new_changed g.before cell book c.args.reg c.args.ty c.requires body left taken c.bytes.result size c.charge_process.new.book charged c.set_register.new.cell c.set_register.new.book
    (subst (λ (n : Name). HasSetRegister g.before (record cell { value = with_body (own_segment cell.pid) body cell.value; bodies = left }) c.set_register.new.cell c.charge_process.new.book c.set_register.new.book c.args.reg.0 (Some n)) name
    (subst (λ (w : HeapRecord). HasSetRegister g.before w c.set_register.new.cell c.charge_process.new.book c.set_register.new.book c.args.reg.0 (Some (name_of c.place-link.result))) placed c.set_register.ensures)))

pub commit_heap-requires-in-Err : goal.commit_heap-requires-in-Err
commit_heap-requires-in-Err g c =
    let cell = c.args.cell.now in
    let book = c.args.book.now in
    let body = c.take_body-body.result in
    let left = c.take_body-body.new.self.bodies in
    let taken = c.take_body-body.ensures.first in
    let rest = c.take_body-body.ensures.rest in
    let pid = c.pid.ensures ∙ ap (λ (w : HeapRecord). w.pid) rest ∙ ap (λ (w : HeapRecord). w.pid) c.requires.cell_is in
    let size = c.bytes.ensures.size ∙ size_is g.before cell book c.args.reg c.args.ty c.requires body left taken in
    let full = subst (λ (p : Pid). IsFullFor g.before.trace book c.charge_process.new.book p.0 c.bytes.result c.in-Err.limit) pid c.in-Err.ensures.full in
    subst (λ (w : HeapRecord). HasChanged g.before w c.charge_process.new.book (New c.args.reg c.args.ty) (Refused (LimitFull c.in-Err.limit))) (sym rest)
    (refused_changed g.before cell book c.args.reg c.args.ty c.requires body left taken c.bytes.result size c.charge_process.new.book c.in-Err.limit full)
