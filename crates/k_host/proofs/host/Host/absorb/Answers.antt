use Rattle.std.proofs.Common.{◌≡◌, refl, subst, length, arith, Some, slice_get, slice_set}
use Rattle.std.specs.Prelude.{IfErr, IfOk}
use Rattle.std.proofs.lemmas.Option.{slice_get_past}
use Rattle.k_ends.proofs.Looped.{found_at}
use Rattle.k_ends.specs.HostError.TheVariants.{Unknown}
use Rattle.k_host.specs.Calls.{HasAbsorbedIn}
use Rattle.k_host.specs.Refusals.{MayRefuseAbsorption}
use Rattle.k_ends.specs.k_guests.Serving.{basis_of}
use Rattle.k_host.proofs.Called.{absorbed_in, absorption_reason, host_of}
use Rattle.k_host.proofs.Hosts.{absorbed_kept, found_heap}
use Rattle.k_host.proofs.Refused.{absorption_refused, absorption_unknown}
use Rattle.k_host.proofs.host.Host.absorb.Goals as goal

pub returns-then-at-len-clause-why : goal.returns-then-at-len-clause-why
returns-then-at-len-clause-why c =
    subst (λ old. MayRefuseAbsorption old c.args.id Unknown) c.self.view_is
    (absorption_unknown (host_of (basis_of c.self.inside.terms) c.self.inside.guests.items c.self.inside.kernel c.self.inside.shared.items c.self.inside.book) c.args.id Unknown refl (slice_get_past c.self.inside.shared.items c.args.id.0 (omega (arith, c.if-at-len.true, c.len.ensures))))

pub try_absorb-requires-clause-shared : goal.try_absorb-requires-clause-shared
try_absorb-requires-clause-shared c =
    let at : slice_get c.self.inside.shared.items c.args.id.0 ≡ Some c.index_mut-heap.result.now = found_at c.self.inside.shared.items (length c.self.inside.shared.items) c.args.id.0 c.args.id.0 c.index_mut-heap.result.now c.index_mut-heap.result.now refl (omega (arith, c.if-at-len.false, c.len.ensures)) refl c.index_mut-heap.ensures.value refl in
    found_heap (basis_of c.self.inside.terms) c.self.inside.guests.items c.self.inside.kernel c.self.inside.shared.items c.self.inside.book c.self.invariant c.args.id.0 c.index_mut-heap.result.now at

pub invariant_of-self : goal.invariant_of-self
invariant_of-self c =
    let at : slice_get c.self.inside.shared.items c.args.id.0 ≡ Some c.index_mut-heap.result.now = found_at c.self.inside.shared.items (length c.self.inside.shared.items) c.args.id.0 c.args.id.0 c.index_mut-heap.result.now c.index_mut-heap.result.now refl (omega (arith, c.if-at-len.false, c.len.ensures)) refl c.index_mut-heap.ensures.value refl in
    absorbed_kept (basis_of c.self.inside.terms) c.self.inside.guests.items c.self.inside.kernel c.self.inside.shared.items c.self.inside.book c.self.invariant c.args.id.0 c.index_mut-heap.result.now c.try_absorb.new.shared c.try_absorb.new.kernel c.try_absorb.new.book at c.try_absorb.result c.try_absorb.ensures.done c.try_absorb.ensures.same

pub returns-clause-done : goal.returns-clause-done
returns-clause-done c =
    let at : slice_get c.self.inside.shared.items c.args.id.0 ≡ Some c.index_mut-heap.result.now = found_at c.self.inside.shared.items (length c.self.inside.shared.items) c.args.id.0 c.args.id.0 c.index_mut-heap.result.now c.index_mut-heap.result.now refl (omega (arith, c.if-at-len.false, c.len.ensures)) refl c.index_mut-heap.ensures.value refl in
    subst (λ old. IfOk c.try_absorb.result (λ event. HasAbsorbedIn old (host_of (basis_of c.self.inside.terms) c.self.inside.guests.items c.try_absorb.new.kernel (slice_set c.self.inside.shared.items c.args.id.0 c.try_absorb.new.shared) c.try_absorb.new.book) c.args.id event)) c.self.view_is
    (absorbed_in (basis_of c.self.inside.terms) c.self.inside.guests.items c.self.inside.kernel c.try_absorb.new.kernel c.self.inside.shared.items c.self.inside.book c.try_absorb.new.book c.args.id c.index_mut-heap.result.now c.try_absorb.new.shared c.self.invariant at c.try_absorb.result c.try_absorb.ensures.done)

pub returns-clause-why : goal.returns-clause-why
returns-clause-why c =
    let at : slice_get c.self.inside.shared.items c.args.id.0 ≡ Some c.index_mut-heap.result.now = found_at c.self.inside.shared.items (length c.self.inside.shared.items) c.args.id.0 c.args.id.0 c.index_mut-heap.result.now c.index_mut-heap.result.now refl (omega (arith, c.if-at-len.false, c.len.ensures)) refl c.index_mut-heap.ensures.value refl in
    subst (λ old. IfErr c.try_absorb.result (λ why. MayRefuseAbsorption old c.args.id why)) c.self.view_is
    (absorption_refused (host_of (basis_of c.self.inside.terms) c.self.inside.guests.items c.self.inside.kernel c.self.inside.shared.items c.self.inside.book) c.args.id c.index_mut-heap.result.now c.try_absorb.result at
    (absorption_reason (basis_of c.self.inside.terms) c.self.inside.guests.items c.self.inside.kernel c.self.inside.shared.items c.self.inside.book c.self.invariant c.args.id c.index_mut-heap.result.now at c.try_absorb.result c.try_absorb.ensures.why))
