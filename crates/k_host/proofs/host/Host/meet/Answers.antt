use Rattle.std.proofs.Common.{◌≡◌, sym, subst, Some, slice_get, slice_set}
use Rattle.k_book.specs.Books.{BookRecord}
use Rattle.k_ends.specs.k_guests.Serving.{basis_of}
use Rattle.k_host.specs.Calls.{HasMetIn, HasMetTheJournal}
use Rattle.k_host.specs.Hosts.{HostServes, HostValue}
use Rattle.k_host.proofs.Called.{changed, found_there, host_of}
use Rattle.k_host.proofs.Charged.{met_serves}
use Rattle.k_host.proofs.Hosts.{found_guest, host_pair}
use Rattle.k_host.proofs.host.Host.meet.Goals as goal

pub meet_guest-requires : goal.meet_guest-requires
meet_guest-requires c =
    let at : slice_get c.self.inside.guests.items c.in_ok-at.at ≡ Some c.index_mut.result.now = found_there c.self.inside.guests.items c.deref.result.now c.args.pid.0 c.in_ok-at.at c.index_mut.result.now c.deref.ensures.value c.in_ok-at.ensures.place c.index_mut.ensures.value in
    (found_guest (basis_of c.self.inside.terms) c.self.inside.guests.items c.self.inside.kernel c.self.inside.shared.items c.self.inside.book c.self.invariant c.in_ok-at.at c.index_mut.result.now at).table

pub invariant_of-self : goal.invariant_of-self
invariant_of-self c =
    let at : slice_get c.self.inside.guests.items c.in_ok-at.at ≡ Some c.index_mut.result.now = found_there c.self.inside.guests.items c.deref.result.now c.args.pid.0 c.in_ok-at.at c.index_mut.result.now c.deref.ensures.value c.in_ok-at.ensures.place c.index_mut.ensures.value in
    let guest = found_guest (basis_of c.self.inside.terms) c.self.inside.guests.items c.self.inside.kernel c.self.inside.shared.items c.self.inside.book c.self.invariant c.in_ok-at.at c.index_mut.result.now at in
    subst (λ (b : BookRecord). HostServes (host_of (basis_of c.self.inside.terms) (slice_set c.self.inside.guests.items c.in_ok-at.at c.meet_guest.new.guest) c.self.inside.kernel c.self.inside.shared.items b)) (sym c.meet_guest.ensures.same)
    (host_pair (basis_of c.self.inside.terms) c.self.inside.guests.items c.self.inside.kernel c.self.inside.shared.items c.self.inside.book c.self.invariant c.in_ok-at.at c.index_mut.result.now c.meet_guest.new.guest c.self.inside.book at
    (met_serves (basis_of c.self.inside.terms) c.index_mut.result.now c.meet_guest.new.guest c.self.inside.book guest c.self.invariant.rest.book c.meet_guest.ensures.met))

pub returns-clause-met : goal.returns-clause-met
returns-clause-met c =
    let at : slice_get c.self.inside.guests.items c.in_ok-at.at ≡ Some c.index_mut.result.now = found_there c.self.inside.guests.items c.deref.result.now c.args.pid.0 c.in_ok-at.at c.index_mut.result.now c.deref.ensures.value c.in_ok-at.ensures.place c.index_mut.ensures.value in
    subst (λ (b : BookRecord). HasMetIn c.args.self.now (host_of (basis_of c.self.inside.terms) (slice_set c.self.inside.guests.items c.in_ok-at.at c.meet_guest.new.guest) c.self.inside.kernel c.self.inside.shared.items b) c.args.pid) (sym c.meet_guest.ensures.same)
    (subst (λ (old : HostValue). HasMetIn old (host_of (basis_of c.self.inside.terms) (slice_set c.self.inside.guests.items c.in_ok-at.at c.meet_guest.new.guest) c.self.inside.kernel c.self.inside.shared.items c.self.inside.book) c.args.pid) c.self.view_is
    (changed (basis_of c.self.inside.terms) c.self.inside.guests.items c.self.inside.kernel c.self.inside.shared.items c.self.inside.book c.self.invariant c.args.pid c.in_ok-at.at c.in_ok-at.ensures.place.0 c.index_mut.result.now c.meet_guest.new.guest at c.self.inside.kernel c.self.inside.book (HasMetTheJournal c.self.inside.book) c.meet_guest.ensures.met))
