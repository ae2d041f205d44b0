use Rattle.std.proofs.Common.{◌≡◌, ◌∙◌, sym, ap, subst, Some, slice_get, slice_set}
use Rattle.std.specs.Prelude.{IfErr, OnOk}
use Rattle.k_limits.proofs.Making.{handed_on}
use Rattle.k_host.specs.Calls.{HasMarkedIn}
use Rattle.k_ends.specs.Collecting.{HasMarkedGuest}
use Rattle.k_ends.specs.Refusals.{CanNotMark}
use Rattle.k_host.specs.Refusals.{MayRefuse}
use Rattle.k_ends.specs.k_guests.Serving.{basis_of}
use Rattle.k_host.proofs.Called.{changed_on, found_here, found_there, host_of}
use Rattle.k_host.proofs.Hosts.{found_guest, host_pair, marked_kept, own_table}
use Rattle.k_host.proofs.Refused.{refused, unknown}
use Rattle.k_host.proofs.host.Host.mark_heap.Goals as goal

pub try_mark-requires : goal.try_mark-requires
try_mark-requires c =
    let at : slice_get c.self.inside.guests.items c.in_ok-at.at ≡ Some c.index_mut-guest.result.now = found_there c.self.inside.guests.items c.deref.result.now c.args.pid.0 c.in_ok-at.at c.index_mut-guest.result.now c.deref.ensures.value c.in_ok-at.ensures.place c.index_mut-guest.ensures.value in
    own_table (basis_of c.self.inside.terms) c.index_mut-guest.result.now c.index_mut-guest.result.now c.self.inside.book (found_guest (basis_of c.self.inside.terms) c.self.inside.guests.items c.self.inside.kernel c.self.inside.shared.items c.self.inside.book c.self.invariant c.in_ok-at.at c.index_mut-guest.result.now at) c.self.invariant.rest.book

pub invariant_of-self : goal.invariant_of-self
invariant_of-self c =
    let at : slice_get c.self.inside.guests.items c.in_ok-at.at ≡ Some c.index_mut-guest.result.now = found_there c.self.inside.guests.items c.deref.result.now c.args.pid.0 c.in_ok-at.at c.index_mut-guest.result.now c.deref.ensures.value c.in_ok-at.ensures.place c.index_mut-guest.ensures.value in
    let guest = found_guest (basis_of c.self.inside.terms) c.self.inside.guests.items c.self.inside.kernel c.self.inside.shared.items c.self.inside.book c.self.invariant c.in_ok-at.at c.index_mut-guest.result.now at in
    host_pair (basis_of c.self.inside.terms) c.self.inside.guests.items c.self.inside.kernel c.self.inside.shared.items c.self.inside.book c.self.invariant c.in_ok-at.at c.index_mut-guest.result.now c.try_mark.new.guest c.self.inside.book at (marked_kept (basis_of c.self.inside.terms) c.index_mut-guest.result.now c.try_mark.new.guest c.self.inside.book guest c.self.invariant.rest.book c.try_mark.result c.try_mark.ensures.done c.try_mark.ensures.same)

pub returns-in_err-at-clause-why : goal.returns-in_err-at-clause-why
returns-in_err-at-clause-why c =
    handed_on (MayRefuse c.args.self.now c.args.pid (CanNotMark)) c.from_residual.result c.in_err-at.field-0.0 c.from_residual.ensures.1
    (subst (λ old. MayRefuse old c.args.pid (CanNotMark) c.in_err-at.field-0.0) c.self.view_is
    (unknown (host_of (basis_of c.self.inside.terms) c.self.inside.guests.items c.self.inside.kernel c.self.inside.shared.items c.self.inside.book) c.args.pid (CanNotMark) c.in_err-at.field-0.0 (c.in_err-at.ensures.none.0, ap (λ gs. slice_get gs c.args.pid.0) (sym c.deref.ensures.value) ∙ c.in_err-at.ensures.none.1)))

pub returns-clause-done : goal.returns-clause-done
returns-clause-done c =
    let at : slice_get c.self.inside.guests.items c.in_ok-at.at ≡ Some c.index_mut-guest.result.now = found_there c.self.inside.guests.items c.deref.result.now c.args.pid.0 c.in_ok-at.at c.index_mut-guest.result.now c.deref.ensures.value c.in_ok-at.ensures.place c.index_mut-guest.ensures.value in
    subst (λ old. OnOk c.try_mark.result (HasMarkedIn old (host_of (basis_of c.self.inside.terms) (slice_set c.self.inside.guests.items c.in_ok-at.at c.try_mark.new.guest) c.self.inside.kernel c.self.inside.shared.items c.self.inside.book) c.args.pid)) c.self.view_is
    (changed_on (basis_of c.self.inside.terms) c.self.inside.guests.items c.self.inside.kernel c.self.inside.shared.items c.self.inside.book c.self.invariant c.args.pid c.in_ok-at.at c.in_ok-at.ensures.place.0 c.index_mut-guest.result.now c.try_mark.new.guest at c.self.inside.kernel c.self.inside.book (λ g h. HasMarkedGuest (basis_of c.self.inside.terms) g h) c.try_mark.result c.try_mark.ensures.done)

pub returns-clause-why : goal.returns-clause-why
returns-clause-why c =
    let at : slice_get c.self.inside.guests.items c.in_ok-at.at ≡ Some c.index_mut-guest.result.now = found_there c.self.inside.guests.items c.deref.result.now c.args.pid.0 c.in_ok-at.at c.index_mut-guest.result.now c.deref.ensures.value c.in_ok-at.ensures.place c.index_mut-guest.ensures.value in
    subst (λ old. IfErr c.try_mark.result (λ why. MayRefuse old c.args.pid (CanNotMark) why)) c.self.view_is
    (refused (host_of (basis_of c.self.inside.terms) c.self.inside.guests.items c.self.inside.kernel c.self.inside.shared.items c.self.inside.book) c.args.pid c.index_mut-guest.result.now (CanNotMark) c.try_mark.result (found_here c.self.inside.guests.items c.in_ok-at.at c.args.pid.0 c.index_mut-guest.result.now c.in_ok-at.ensures.place.0 at) c.try_mark.ensures.why)
