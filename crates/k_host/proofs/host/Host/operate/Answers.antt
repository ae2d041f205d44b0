use Rattle.std.proofs.Common.{◌≡◌, ◌∙◌, ◌++◌, sym, ap, subst, drop, take, length, List, OnErr, Some, slice_get, slice_set}
use Rattle.std.specs.Prelude.{IfErr, IfOk}
use Rattle.k_ends.specs.k_guests.declared.guest.Guest.{Guest}
use Rattle.k_ends.specs.k_guests.Serving.{basis_of}
use Rattle.k_host.specs.Calls.{HasKilledIn, HasOperatedAs, HasOperatedIn}
use Rattle.k_host.specs.Hosts.{HostValue}
use Rattle.k_host.specs.Killing.{killed_among}
use Rattle.k_host.specs.Refusals.{CanNotOperateIn, MayRefuse}
use Rattle.k_host.proofs.Called.{found_here, found_there, host_of}
use Rattle.k_host.proofs.Hosts.{found_guest, operated_as, operated_kept}
use Rattle.k_host.proofs.Killed.{either, spared_in}
use Rattle.k_host.proofs.KilledIn.{host_done, host_kept, host_refused, host_same}
use Rattle.k_host.proofs.Refused.{refused}
use Rattle.k_host.proofs.host.Host.operate.Goals as goal

pub invariant_of-self : goal.invariant_of-self
invariant_of-self c =
    host_kept (basis_of c.self.inside.terms) c.self.inside.guests.items c.self.inside.kernel c.self.inside.shared.items c.self.inside.book c.self.invariant c.args.op.now c.args.pid c.in_ok-at.at c.in-Some.target c.in_ok-at.ensures.place.0 c.deref.result.now c.in_ok-at.ensures.place.1 c.deref.ensures.value
    (ap (λ (gs : List Guest). killed_among (length gs) c.args.pid.0 c.args.op.now) (sym c.deref-2.ensures.value) ∙ sym c.killed.ensures ∙ c.in-Some.is)
    c.deref_mut.result.now c.kill_among.new.guests c.deref_mut.ensures.value c.kill_among.new.kernel c.kill_among.new.book c.kill_among.result c.kill_among.ensures c.self.inside.guests.len c.self.inside.guests.ok.0

pub returns-in-Some-clause-done : goal.returns-in-Some-clause-done
returns-in-Some-clause-done c =
    subst (λ old. IfOk c.kill_among.result (λ event. HasOperatedIn old (host_of (basis_of c.self.inside.terms) (take c.self.inside.guests.len (c.kill_among.new.guests ++ drop (length c.kill_among.new.guests) c.self.inside.guests.items)) c.kill_among.new.kernel c.self.inside.shared.items c.kill_among.new.book) c.args.pid c.args.op.now event)) c.self.view_is
    (host_done (basis_of c.self.inside.terms) c.self.inside.guests.items c.self.inside.kernel c.self.inside.shared.items c.self.inside.book c.self.invariant c.args.op.now c.args.pid c.in_ok-at.at c.in-Some.target c.in_ok-at.ensures.place.0 c.deref.result.now c.in_ok-at.ensures.place.1 c.deref.ensures.value
    (ap (λ (gs : List Guest). killed_among (length gs) c.args.pid.0 c.args.op.now) (sym c.deref-2.ensures.value) ∙ sym c.killed.ensures ∙ c.in-Some.is)
    c.deref_mut.result.now c.kill_among.new.guests c.deref_mut.ensures.value c.kill_among.new.kernel c.kill_among.new.book c.kill_among.result c.kill_among.ensures c.self.inside.guests.len c.self.inside.guests.ok.0)

pub returns-in-Some-clause-same : goal.returns-in-Some-clause-same
returns-in-Some-clause-same c =
    subst (λ (old : HostValue). OnErr c.kill_among.result (host_of (basis_of c.self.inside.terms) (take c.self.inside.guests.len (c.kill_among.new.guests ++ drop (length c.kill_among.new.guests) c.self.inside.guests.items)) c.kill_among.new.kernel c.self.inside.shared.items c.kill_among.new.book ≡ old)) c.self.view_is
    (host_same (basis_of c.self.inside.terms) c.self.inside.guests.items c.self.inside.kernel c.self.inside.shared.items c.self.inside.book c.self.invariant c.args.op.now c.args.pid c.in_ok-at.at c.in-Some.target c.in_ok-at.ensures.place.0 c.deref.result.now c.in_ok-at.ensures.place.1 c.deref.ensures.value
    (ap (λ (gs : List Guest). killed_among (length gs) c.args.pid.0 c.args.op.now) (sym c.deref-2.ensures.value) ∙ sym c.killed.ensures ∙ c.in-Some.is)
    c.deref_mut.result.now c.kill_among.new.guests c.deref_mut.ensures.value c.kill_among.new.kernel c.kill_among.new.book c.kill_among.result c.kill_among.ensures c.self.inside.guests.len c.self.inside.guests.ok.0)

pub returns-in-Some-clause-why : goal.returns-in-Some-clause-why
returns-in-Some-clause-why c =
    subst (λ old. IfErr c.kill_among.result (λ why. MayRefuse old c.args.pid (CanNotOperateIn old c.args.op.now) why)) c.self.view_is
    (host_refused (basis_of c.self.inside.terms) c.self.inside.guests.items c.self.inside.kernel c.self.inside.shared.items c.self.inside.book c.self.invariant c.args.op.now c.args.pid c.in_ok-at.at c.in-Some.target c.in_ok-at.ensures.place.0 c.deref.result.now c.in_ok-at.ensures.place.1 c.deref.ensures.value
    (ap (λ (gs : List Guest). killed_among (length gs) c.args.pid.0 c.args.op.now) (sym c.deref-2.ensures.value) ∙ sym c.killed.ensures ∙ c.in-Some.is)
    c.deref_mut.result.now c.kill_among.new.guests c.deref_mut.ensures.value c.kill_among.new.kernel c.kill_among.new.book c.kill_among.result c.kill_among.ensures c.self.inside.guests.len c.self.inside.guests.ok.0)

pub operate_with-requires-clause-can : goal.operate_with-requires-clause-can
operate_with-requires-clause-can c =
    let at : slice_get c.self.inside.guests.items c.in_ok-at.at ≡ Some c.index_mut-guest.result.now = found_there c.self.inside.guests.items c.deref.result.now c.args.pid.0 c.in_ok-at.at c.index_mut-guest.result.now c.deref.ensures.value c.in_ok-at.ensures.place c.index_mut-guest.ensures.value in
    record { guest = found_guest (basis_of c.self.inside.terms) c.self.inside.guests.items c.self.inside.kernel c.self.inside.shared.items c.self.inside.book c.self.invariant c.in_ok-at.at c.index_mut-guest.result.now at; rest = c.self.invariant.rest }

pub operate_with-requires-clause-few : goal.operate_with-requires-clause-few
operate_with-requires-clause-few c =
    let at : slice_get c.self.inside.guests.items c.in_ok-at.at ≡ Some c.index_mut-guest.result.now = found_there c.self.inside.guests.items c.deref.result.now c.args.pid.0 c.in_ok-at.at c.index_mut-guest.result.now c.deref.ensures.value c.in_ok-at.ensures.place c.index_mut-guest.ensures.value in
    c.self.invariant.few c.in_ok-at.at c.index_mut-guest.result.now at

pub invariant_of-self-2 : goal.invariant_of-self-2
invariant_of-self-2 c =
    let at : slice_get c.self.inside.guests.items c.in_ok-at.at ≡ Some c.index_mut-guest.result.now = found_there c.self.inside.guests.items c.deref.result.now c.args.pid.0 c.in_ok-at.at c.index_mut-guest.result.now c.deref.ensures.value c.in_ok-at.ensures.place c.index_mut-guest.ensures.value in
    operated_kept (basis_of c.self.inside.terms) c.self.inside.guests.items c.self.inside.kernel c.self.inside.shared.items c.self.inside.book c.self.invariant c.in_ok-at.at c.index_mut-guest.result.now c.operate_with.new.guest c.operate_with.new.kernel c.operate_with.new.shared.items c.operate_with.new.book c.args.op.now at c.operate_with.result c.operate_with.ensures.done c.operate_with.ensures.same

pub returns-clause-done : goal.returns-clause-done
returns-clause-done c =
    let at : slice_get c.self.inside.guests.items c.in_ok-at.at ≡ Some c.index_mut-guest.result.now = found_there c.self.inside.guests.items c.deref.result.now c.args.pid.0 c.in_ok-at.at c.index_mut-guest.result.now c.deref.ensures.value c.in_ok-at.ensures.place c.index_mut-guest.ensures.value in
    let new = host_of (basis_of c.self.inside.terms) (slice_set c.self.inside.guests.items c.in_ok-at.at c.operate_with.new.guest) c.operate_with.new.kernel c.operate_with.new.shared.items c.operate_with.new.book in
    subst (λ old. IfOk c.operate_with.result (λ event. HasOperatedIn old new c.args.pid c.args.op.now event)) c.self.view_is
    (either (λ event. HasOperatedAs (host_of (basis_of c.self.inside.terms) c.self.inside.guests.items c.self.inside.kernel c.self.inside.shared.items c.self.inside.book) new c.args.pid c.args.op.now event) (λ event. HasKilledIn (host_of (basis_of c.self.inside.terms) c.self.inside.guests.items c.self.inside.kernel c.self.inside.shared.items c.self.inside.book) new c.args.pid c.args.op.now event) c.operate_with.result
    (operated_as (basis_of c.self.inside.terms) c.self.inside.guests.items c.self.inside.kernel c.self.inside.shared.items c.self.inside.book c.self.invariant c.args.pid c.in_ok-at.at c.in_ok-at.ensures.place.0 c.index_mut-guest.result.now c.operate_with.new.guest c.operate_with.new.kernel c.operate_with.new.shared.items c.operate_with.new.book c.args.op.now at c.operate_with.result c.operate_with.ensures.done))

pub returns-clause-why : goal.returns-clause-why
returns-clause-why c =
    let at : slice_get c.self.inside.guests.items c.in_ok-at.at ≡ Some c.index_mut-guest.result.now = found_there c.self.inside.guests.items c.deref.result.now c.args.pid.0 c.in_ok-at.at c.index_mut-guest.result.now c.deref.ensures.value c.in_ok-at.ensures.place c.index_mut-guest.ensures.value in
    let guest = found_guest (basis_of c.self.inside.terms) c.self.inside.guests.items c.self.inside.kernel c.self.inside.shared.items c.self.inside.book c.self.invariant c.in_ok-at.at c.index_mut-guest.result.now at in
    subst (λ old. IfErr c.operate_with.result (λ why. MayRefuse old c.args.pid (CanNotOperateIn old c.args.op.now) why)) c.self.view_is
    (refused (host_of (basis_of c.self.inside.terms) c.self.inside.guests.items c.self.inside.kernel c.self.inside.shared.items c.self.inside.book) c.args.pid c.index_mut-guest.result.now (CanNotOperateIn (host_of (basis_of c.self.inside.terms) c.self.inside.guests.items c.self.inside.kernel c.self.inside.shared.items c.self.inside.book) c.args.op.now) c.operate_with.result
    (found_here c.self.inside.guests.items c.in_ok-at.at c.args.pid.0 c.index_mut-guest.result.now c.in_ok-at.ensures.place.0 at)
    (spared_in (basis_of c.self.inside.terms) c.self.inside.shared.items c.self.inside.kernel c.self.inside.book c.args.op.now c.index_mut-guest.result.now guest (length c.self.inside.guests.items) c.self.invariant.all.count c.args.pid
    (c.self.invariant.all.placed c.in_ok-at.at c.index_mut-guest.result.now at ∙ c.in_ok-at.ensures.place.0)
    (ap (λ (gs : List Guest). killed_among (length gs) c.args.pid.0 c.args.op.now) (sym c.deref-2.ensures.value) ∙ sym c.in_default.ensures)
    c.self.inside.guests.items c.operate_with.result c.operate_with.ensures.why))
