-- Why a call on a host is refused: there is no such process or shared heap, or what is there gives the reason.
use Rattle.std.proofs.Common.{◌≡◌, sym, subst, Some, None, slice_get, Result, Ok, Err, IfErr}
use Rattle.std.specs.Prelude.{MatchOption}
use Rattle.k_types.specs.declared.names.Pid.{Pid}
use Rattle.k_types.specs.declared.names.SharedId.{SharedId}
use Rattle.k_shared.specs.SharedHeaps.{SharedRecord}
use Rattle.k_ends.specs.k_guests.declared.guest.Guest.{Guest}
use Rattle.k_ends.specs.HostError.{HostError}
use Rattle.k_ends.specs.HostError.TheVariants.{Unknown}
use Rattle.k_ends.specs.Refusals.{CanNotAbsorb}
use Rattle.k_host.specs.Hosts.{HostValue}
use Rattle.k_host.specs.Refusals.{MayRefuse, MayRefuseAbsorption}

-- a call on a process that is there is refused for its reason
pub refused : {T : Type 0} (h : HostValue) (pid : Pid) (g : Guest) (reason : Guest → HostError → Type 0) (r : Result T HostError) → slice_get h.guests pid.0 ≡ Some g → IfErr r (reason g) →
    IfErr r (λ why. MayRefuse h pid reason why)
refused h pid g reason (Ok x) there so = tt
refused h pid g reason (Err why) there so = subst (λ found. MatchOption found (why ≡ Unknown) (λ x. reason x why)) (sym there) so

-- a call on a process that is not there is refused with Unknown
pub unknown : (h : HostValue) (pid : Pid) (reason : Guest → HostError → Type 0) (why : HostError) → (why ≡ Unknown) × (slice_get h.guests pid.0 ≡ None) → MayRefuse h pid reason why
unknown h pid reason why none = subst (λ found. MatchOption found (why ≡ Unknown) (λ x. reason x why)) (sym none.1) none.0

-- the same of absorptions
pub absorption_refused : {T : Type 0} (h : HostValue) (id : SharedId) (s : SharedRecord) (r : Result T HostError) → slice_get h.shared id.0 ≡ Some s → IfErr r (CanNotAbsorb h.basis h.kernel h.book id) →
    IfErr r (λ why. MayRefuseAbsorption h id why)
absorption_refused h id s (Ok x) there so = tt
absorption_refused h id s (Err why) there so = subst (λ found. MatchOption found (why ≡ Unknown) (λ x. CanNotAbsorb h.basis h.kernel h.book id why)) (sym there) so

pub absorption_unknown : (h : HostValue) (id : SharedId) (why : HostError) → why ≡ Unknown → slice_get h.shared id.0 ≡ None → MayRefuseAbsorption h id why
absorption_unknown h id why is none = subst (λ found. MatchOption found (why ≡ Unknown) (λ x. CanNotAbsorb h.basis h.kernel h.book id why)) (sym none) is
