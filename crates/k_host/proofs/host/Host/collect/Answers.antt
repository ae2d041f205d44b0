use Rattle.std.proofs.Common.{◌≡◌, ◌≤◌, ◌∙◌, sym, ap, subst, Some, slice_get, slice_set, OnOk}
use Rattle.std.specs.Prelude.{IfErr, IfOk}
use Rattle.k_ends.specs.k_guests.Objects.{objects_after}
use Rattle.k_limits.proofs.Making.{handed_on}
use Rattle.k_host.specs.Calls.{HasCollectedIn}
use Rattle.k_ends.specs.Whole.{AreFreedLast, CanNotCollect, HasCollected}
use Rattle.k_host.specs.Hosts.{HostValue}
use Rattle.k_host.specs.Refusals.{MayRefuse}
use Rattle.k_ends.specs.k_guests.Serving.{basis_of}
use Rattle.k_host.proofs.Called.{changed_event, found_here, found_there, host_of}
use Rattle.k_host.proofs.Hosts.{found_guest, host_pair, pair_kept}
use Rattle.k_host.proofs.Refused.{refused, unknown}
use Rattle.k_host.proofs.host.Host.collect.Goals as goal

pub try_collect-requires-clause-guest : goal.try_collect-requires-clause-guest
try_collect-requires-clause-guest c =
    let at : slice_get c.self.inside.guests.items c.in_ok-at.at ≡ Some c.index_mut-guest.result.now = found_there c.self.inside.guests.items c.deref.result.now c.args.pid.0 c.in_ok-at.at c.index_mut-guest.result.now c.deref.ensures.value c.in_ok-at.ensures.place c.index_mut-guest.ensures.value in
    found_guest (basis_of c.self.inside.terms) c.self.inside.guests.items c.self.inside.kernel c.self.inside.shared.items c.self.inside.book c.self.invariant c.in_ok-at.at c.index_mut-guest.result.now at

pub invariant_of-self : goal.invariant_of-self
invariant_of-self c =
    let at : slice_get c.self.inside.guests.items c.in_ok-at.at ≡ Some c.index_mut-guest.result.now = found_there c.self.inside.guests.items c.deref.result.now c.args.pid.0 c.in_ok-at.at c.index_mut-guest.result.now c.deref.ensures.value c.in_ok-at.ensures.place c.index_mut-guest.ensures.value in
    let guest = found_guest (basis_of c.self.inside.terms) c.self.inside.guests.items c.self.inside.kernel c.self.inside.shared.items c.self.inside.book c.self.invariant c.in_ok-at.at c.index_mut-guest.result.now at in
    host_pair (basis_of c.self.inside.terms) c.self.inside.guests.items c.self.inside.kernel c.self.inside.shared.items c.self.inside.book c.self.invariant c.in_ok-at.at c.index_mut-guest.result.now c.try_collect.new.guest c.try_collect.new.book at
    (pair_kept (basis_of c.self.inside.terms) c.index_mut-guest.result.now c.try_collect.new.guest c.self.inside.book c.try_collect.new.book guest c.self.invariant.rest.book (λ event. HasCollected (basis_of c.self.inside.terms) c.index_mut-guest.result.now c.try_collect.new.guest c.self.inside.book c.try_collect.new.book event) (λ event h. h.keeps) (λ event h. h.settled) c.try_collect.result c.try_collect.ensures.done c.try_collect.ensures.same)

pub returns-in_err-at-clause-why : goal.returns-in_err-at-clause-why
returns-in_err-at-clause-why c =
    handed_on (MayRefuse c.args.self.now c.args.pid (CanNotCollect c.args.self.now.basis c.args.self.now.book)) c.from_residual.result c.in_err-at.field-0.0 c.from_residual.ensures.1
    (subst (λ old. MayRefuse old c.args.pid (CanNotCollect old.basis old.book) c.in_err-at.field-0.0) c.self.view_is
    (unknown (host_of (basis_of c.self.inside.terms) c.self.inside.guests.items c.self.inside.kernel c.self.inside.shared.items c.self.inside.book) c.args.pid (CanNotCollect (host_of (basis_of c.self.inside.terms) c.self.inside.guests.items c.self.inside.kernel c.self.inside.shared.items c.self.inside.book).basis (host_of (basis_of c.self.inside.terms) c.self.inside.guests.items c.self.inside.kernel c.self.inside.shared.items c.self.inside.book).book) c.in_err-at.field-0.0 (c.in_err-at.ensures.none.0, ap (λ gs. slice_get gs c.args.pid.0) (sym c.deref.ensures.value) ∙ c.in_err-at.ensures.none.1)))

pub returns-clause-done : goal.returns-clause-done
returns-clause-done c =
    let at : slice_get c.self.inside.guests.items c.in_ok-at.at ≡ Some c.index_mut-guest.result.now = found_there c.self.inside.guests.items c.deref.result.now c.args.pid.0 c.in_ok-at.at c.index_mut-guest.result.now c.deref.ensures.value c.in_ok-at.ensures.place c.index_mut-guest.ensures.value in
    subst (λ old. IfOk c.try_collect.result (λ event. HasCollectedIn old (host_of (basis_of c.self.inside.terms) (slice_set c.self.inside.guests.items c.in_ok-at.at c.try_collect.new.guest) c.self.inside.kernel c.self.inside.shared.items c.try_collect.new.book) c.args.pid event)) c.self.view_is
    (changed_event (basis_of c.self.inside.terms) c.self.inside.guests.items c.self.inside.kernel c.self.inside.shared.items c.self.inside.book c.self.invariant c.args.pid c.in_ok-at.at c.in_ok-at.ensures.place.0 c.index_mut-guest.result.now c.try_collect.new.guest at c.self.inside.kernel c.try_collect.new.book (λ event g h. HasCollected (basis_of c.self.inside.terms) g h c.self.inside.book c.try_collect.new.book event) c.try_collect.result c.try_collect.ensures.done)

pub returns-clause-why : goal.returns-clause-why
returns-clause-why c =
    let at : slice_get c.self.inside.guests.items c.in_ok-at.at ≡ Some c.index_mut-guest.result.now = found_there c.self.inside.guests.items c.deref.result.now c.args.pid.0 c.in_ok-at.at c.index_mut-guest.result.now c.deref.ensures.value c.in_ok-at.ensures.place c.index_mut-guest.ensures.value in
    subst (λ old. IfErr c.try_collect.result (λ why. MayRefuse old c.args.pid (CanNotCollect old.basis old.book) why)) c.self.view_is
    (refused (host_of (basis_of c.self.inside.terms) c.self.inside.guests.items c.self.inside.kernel c.self.inside.shared.items c.self.inside.book) c.args.pid c.index_mut-guest.result.now (CanNotCollect (host_of (basis_of c.self.inside.terms) c.self.inside.guests.items c.self.inside.kernel c.self.inside.shared.items c.self.inside.book).basis (host_of (basis_of c.self.inside.terms) c.self.inside.guests.items c.self.inside.kernel c.self.inside.shared.items c.self.inside.book).book) c.try_collect.result (found_here c.self.inside.guests.items c.in_ok-at.at c.args.pid.0 c.index_mut-guest.result.now c.in_ok-at.ensures.place.0 at) c.try_collect.ensures.why)

pub returns-clause-freed : goal.returns-clause-freed
returns-clause-freed c =
    subst (λ (old : HostValue). objects_after old.basis.trace old.book.journal.list ≤ c.args.freed.now.room → OnOk c.try_collect.result (AreFreedLast (basis_of c.self.inside.terms).trace c.try_collect.new.book.journal.list c.try_collect.new.freed.names)) c.self.view_is
    c.try_collect.ensures.freed
