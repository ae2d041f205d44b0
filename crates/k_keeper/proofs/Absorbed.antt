-- Absorptions of all orphans end, since no history absorbs a shared heap twice.
use Rattle.std.proofs.Common.{◌≡◌, ◌≤◌, ◌<◌, ◌+◌, ℕ, refl, sym, ap, ◌∙◌, subst, List, [], ◌∷◌, ◌++◌, append-nil, append_assoc, length, length-set, map, Some, slice_get, inl, inr, arith, Result, Ok, Err, IfErr, OnErr}
use Rattle.std.proofs.lemmas.List.{length-append, map-append}
use Rattle.std.specs.Prelude.{IfOk, MatchOption}
use Rattle.k_types.specs.declared.event.Event.{Event}
use Rattle.k_types.specs.declared.event.Event.TheVariants.{Absorbed}
use Rattle.k_types.specs.declared.names.SharedId.{SharedId}
use Rattle.k_types.proofs.Sums.{total_append}
use Rattle.k_laws.specs.Counts.{absorbed_count, is_absorption, one_if}
use Rattle.k_laws.proofs.BoundsLaws.{heaps_are_absorbed_once-absorbed}
use Rattle.k_host.proofs.AbsorbKept.{heap_known}
use Rattle.k_shared.specs.SharedHeaps.{SharedRecord}
use Rattle.k_shares.specs.Sharers.{lowest_orphan}
use Rattle.k_host.specs.HostError.{HostError}
use Rattle.k_host.specs.HostError.TheVariants.{Unknown}
use Rattle.k_host.specs.EndsRefusals.{CanNotAbsorb}
use Rattle.k_host.specs.Calls.{HasAbsorbedIn}
use Rattle.k_host.specs.Hosts.{HostServes, HostValue}
use Rattle.k_host.specs.Refusals.{MayRefuseAbsorption}
use Rattle.k_keeper.specs.Keeping.{IsKept, left_after, needed_by_the_kernel}
use Rattle.k_keeper.specs.Kept.{HaveAbsorbed}
use Rattle.k_keeper.proofs.Kept.{kept_absorbed}
use Rattle.k_keeper.proofs.Refused.{same_kept}
use Rattle.k_types.proofs.Lists.{get_there}

-- nothing is absorbed yet
pub absorbed_none : (h : HostValue) (left : ℕ) → HaveAbsorbed h h left left
absorbed_none h left = record { ids = []; journal = sym (append-nil h.book.journal.list); guests = refl; basis = refl; heaps = refl; spends = omega arith }

-- some were absorbed, and then others
pub absorbed_then : (a b c : HostValue) (l m r : ℕ) → HaveAbsorbed a b l m → HaveAbsorbed b c m r → HaveAbsorbed a c l r
absorbed_then a b c l m r first second = record {
  ids = first.ids ++ second.ids;
  journal =
      second.journal ∙ ap (λ events. events ++ map Absorbed second.ids) first.journal ∙ append_assoc a.book.journal.list (map Absorbed first.ids) (map Absorbed second.ids)
      ∙ ap (λ events. a.book.journal.list ++ events) (sym (map-append Absorbed first.ids second.ids));
  guests = second.guests ∙ first.guests;
  basis = second.basis ∙ first.basis;
  heaps = second.heaps ∙ first.heaps;
  spends = let more = length-append first.ids second.ids in let one = first.spends in let two = second.spends in omega (arith, more, one, two);
}

all_absorptions : (ids : List SharedId) → absorbed_count (map Absorbed ids) ≡ length ids
all_absorptions [] = refl
all_absorptions (id ∷ ids) = let rest = all_absorptions ids in omega (arith, rest)

-- so there are two events left whenever an orphan is to be absorbed, and at the end
pub two_left : (h n : HostValue) (left rest : ℕ) → HaveAbsorbed h n left rest → HostServes n → needed_by_the_kernel h ≤ left → 2 ≤ rest
two_left h n left rest a serves enough =
    let counted : absorbed_count n.book.journal.list ≡ absorbed_count h.book.journal.list + absorbed_count (map Absorbed a.ids) =
    ap absorbed_count a.journal ∙ total_append (λ event. one_if (is_absorption event)) h.book.journal.list (map Absorbed a.ids) in
    let each = all_absorptions a.ids in
    let once = heaps_are_absorbed_once-absorbed n.basis.trace n.book.journal.list serves.rest.book.stands.agrees.legal in
    let heaps = serves.rest.heaps.count in
    let same = a.heaps in
    let spends = a.spends in
    omega (arith, counted, each, once, heaps, same, spends, enough)

module _ (h : HostValue) (left : ℕ) (kept : IsKept h left) (id : SharedId) (some : 1 ≤ left) (first : lowest_orphan h.book.value.phases h.book.value.shares ≡ Some id.0) where
  heap : (s : SharedRecord) × (slice_get h.shared id.0 ≡ Some s)
  heap = get_there h.shared id.0 (subst (λ n. id.0 < n) (sym kept.serves.rest.heaps.count) (heap_known h.basis.trace h.book kept.serves.rest.book.stands id first))

  absorb_never : (why : HostError) → CanNotAbsorb h.basis h.kernel h.book id why → ⊥
  absorb_never why (inl orphan) = orphan.fails first
  absorb_never why (inr (inl busy)) = busy.fails kept.kernel_idle
  absorb_never why (inr (inr full)) = full.fails (let room = kept.room in omega (arith, room, some))

  not_refused : (why : HostError) → MayRefuseAbsorption h id why → ⊥
  not_refused why refused = absorb_never why (subst (λ o. MatchOption o (why ≡ Unknown) (λ s. CanNotAbsorb h.basis h.kernel h.book id why)) heap.1 refused)

  told_absorbed : (n : HostValue) (event : Event) (rest : ℕ) → HasAbsorbedIn h n id event → left ≡ rest + 1 → HaveAbsorbed h n left rest
  told_absorbed n event rest d one = record {
    ids = d.before.id ∷ [];
    journal = d.has_absorbed.own.journal ∙ ap (λ e. h.book.journal.list ++ e ∷ []) d.has_absorbed.event_is;
    guests = ap (λ (x : HostValue). x.guests) d.host_is;
    basis = ap (λ (x : HostValue). x.basis) d.host_is;
    heaps = ap (λ (x : HostValue). length x.shared) d.host_is ∙ length-set h.shared id.0 d.after;
    spends = one;
  }

  -- what the absorption of the first orphan leaves
  pub first_kept : (n : HostValue) (rest : ℕ) (r : Result Event HostError) → HostServes n → IfOk r (λ event. HasAbsorbedIn h n id event) → IfErr r (λ why. MayRefuseAbsorption h id why) → rest ≡ left_after left 1 r → IsKept n rest
  first_kept n rest (Ok event) serves done why is = kept_absorbed h left kept n id event rest serves done (omega (arith, some, is))
  first_kept n rest (Err error) serves done why is = absurd (not_refused error why)

  pub first_absorbed : (n : HostValue) (rest : ℕ) (r : Result Event HostError) → IfOk r (λ event. HasAbsorbedIn h n id event) → IfErr r (λ why. MayRefuseAbsorption h id why) → rest ≡ left_after left 1 r → HaveAbsorbed h n left rest
  first_absorbed n rest (Ok event) done why is = told_absorbed n event rest done (omega (arith, some, is))
  first_absorbed n rest (Err error) done why is = absurd (not_refused error why)

  pub first_one : (rest : ℕ) (r : Result Event HostError) → IfErr r (λ why. MayRefuseAbsorption h id why) → rest ≡ left_after left 1 r → left ≡ rest + 1
  first_one rest (Ok event) why is = omega (arith, some, is)
  first_one rest (Err error) why is = absurd (not_refused error why)

-- an absorption that is asked for
pub absorb_kept : (h : HostValue) (left : ℕ) (kept : IsKept h left) (n : HostValue) (id : SharedId) (rest : ℕ) (r : Result Event HostError) → HostServes n → IfOk r (λ event. HasAbsorbedIn h n id event) → OnErr r (n ≡ h) → 1 ≤ left →
    rest ≡ left_after left 1 r → IsKept n rest
absorb_kept h left kept n id rest (Ok event) serves done same one is = kept_absorbed h left kept n id event rest serves done (omega (arith, one, is))
absorb_kept h left kept n id rest (Err why) serves done same one is = same_kept h left kept n rest same is
