-- Why a call of a keeper is refused, and that nothing else refuses it.
use Rattle.std.proofs.Common.{◌≡◌, ◌≤◌, ◌<◌, ◌+◌, ℕ, refl, sym, ap, ◌∙◌, subst, Bool, false, true, List, Option, Some, None, option_map, slice_get, IsFalse, IsTrue, inl, inr, arith, Result, Ok, Err, IfErr, OnErr, OnOk, ◌⊎◌}
use Rattle.std.proofs.lemmas.Bool.{false≢true}
use Rattle.std.specs.Prelude.{IfOk, MatchOption}
use Rattle.k_types.specs.declared.event.Event.{Event}
use Rattle.k_types.specs.declared.names.Name.{Name}
use Rattle.k_types.specs.declared.names.Pid.{Pid}
use Rattle.k_types.specs.declared.names.SharedId.{SharedId}
use Rattle.k_types.specs.declared.op.Op.{Op}
use Rattle.k_types.specs.TraceRules.{is_spelled}
use Rattle.k_laws.specs.Counts.{is_allocation}
use Rattle.k_host.specs.k_guests.declared.guest.Guest.{Guest}
use Rattle.k_host.specs.HostError.{HostError}
use Rattle.k_host.specs.HostError.TheVariants.{Ended, Objects, Reserved, Unknown}
use Rattle.k_host.specs.CallsRefusals.{Lacks}
use Rattle.k_host.specs.EndsRefusals.{CanNotExit}
use Rattle.k_host.specs.Whole.{CanNotCollect, CanNotCollectKernel}
use Rattle.k_host.specs.Listening.{FreedNames}
use Rattle.k_host.specs.Asked.{has_ended_of}
use Rattle.k_host.specs.Calls.{HasAbsorbedIn, HasCollectedIn, HasCollectedKernelIn, HasExitedIn, HasOperatedIn}
use Rattle.k_host.specs.Hosts.{HostServes, HostValue}
use Rattle.k_host.specs.Refusals.{CanNotOperateIn, MayRefuse, MayRefuseAbsorption}
use Rattle.k_keeper.specs.Keeping.{IsKept, KeeperValue, left_after, most_objects, objects_then, needed_by_the_kernel, needed_to_absorb, needed_to_collect, needed_to_operate}
use Rattle.k_keeper.specs.Kept.{HasCollectedAll, HasNoOrphan, HaveAbsorbed, IsAlive, IsGone, MayRefuseCollection, MayRefuseKernel, MayRefuseOperation, MayRefuseToAbsorb}
use Rattle.k_keeper.proofs.Kept.{kept_collected, kept_exited, kept_kernel, kept_operated, room_of}

-- what the question whether a process has ended is answered
none_of : (o : Option Guest) → None ≡ option_map has_ended_of o → MatchOption o (Unknown ≡ Unknown) (λ g. Lacks Ended (IsFalse (has_ended_of g)) Unknown)
none_of None e = refl
none_of (Some g) e = absurd (cc e)

ended_of : (ended : Bool) → ended ≡ true → (o : Option Guest) → Some ended ≡ option_map has_ended_of o → MatchOption o (Ended ≡ Unknown) (λ g. Lacks Ended (IsFalse (has_ended_of g)) Ended)
ended_of ended is None e = absurd (cc e)
ended_of ended is (Some g) e = let same : ended ≡ has_ended_of g = cc e in record { error_is = refl; fails = λ lives. false≢true (sym lives ∙ sym same ∙ is) }

alive_of : (h : HostValue) (pid : Pid) (ended : Bool) → ended ≡ false → (o : Option Guest) → o ≡ slice_get h.guests pid.0 → Some ended ≡ option_map has_ended_of o → IsAlive h pid
alive_of h pid ended is None at e = absurd (cc e)
alive_of h pid ended is (Some g) at e = let same : ended ≡ has_ended_of g = cc e in record { guest = g; there = sym at; lives = sym same ∙ is }

pub gone_unknown : (h : HostValue) (pid : Pid) → None ≡ option_map has_ended_of (slice_get h.guests pid.0) → IsGone h pid Unknown
gone_unknown h pid told = none_of (slice_get h.guests pid.0) told

pub gone_ended : (h : HostValue) (pid : Pid) (ended : Bool) → ended ≡ true → Some ended ≡ option_map has_ended_of (slice_get h.guests pid.0) → IsGone h pid Ended
gone_ended h pid ended is told = ended_of ended is (slice_get h.guests pid.0) told

pub told_alive : (h : HostValue) (pid : Pid) (ended : Bool) → ended ≡ false → Some ended ≡ option_map has_ended_of (slice_get h.guests pid.0) → IsAlive h pid
told_alive h pid ended is told = alive_of h pid ended is (slice_get h.guests pid.0) refl told

-- a process that is gone does no operation
gone_by : (h : HostValue) (op : Op) (o : Option Guest) (why : HostError) → MatchOption o (why ≡ Unknown) (λ g. Lacks Ended (IsFalse (has_ended_of g)) why) → MatchOption o (why ≡ Unknown) (λ g. CanNotOperateIn h op g why)
gone_by h op None why gone = gone
gone_by h op (Some g) why gone = inl (inl (inr (inr (inl (inl gone)))))

pub gone_operates : (h : HostValue) (pid : Pid) (op : Op) (why : HostError) → IsGone h pid why → MayRefuse h pid (CanNotOperateIn h op) why
gone_operates h pid op why gone = gone_by h op (slice_get h.guests pid.0) why gone

-- a keeper of these
abbrev pub keeper_of : HostValue → ℕ → List Name → ℕ → ℕ → KeeperValue
keeper_of h left freed objects taken = record { host = h; left = left; freed = freed; objects = objects; taken = taken }

-- what a call takes
pub takes : (left cost rest : ℕ) (r : Result Event HostError) → cost ≤ left → rest ≡ left_after left cost r → OnOk r (left ≡ rest + cost)
takes left cost rest (Ok event) enough is = omega (arith, enough, is)
takes left cost rest (Err why) enough is = tt

pub leaves_behind : (left cost rest needed : ℕ) (r : Result Event HostError) → cost ≤ left → rest ≡ left_after left cost r → needed ≤ left → OnOk r (needed ≤ rest + cost)
leaves_behind left cost rest needed (Ok event) enough is more = omega (arith, enough, is, more)
leaves_behind left cost rest needed (Err why) enough is more = tt

pub leaves : (left cost rest needed : ℕ) (r : Result Event HostError) → cost ≤ left → rest ≡ left_after left cost r → needed + cost ≤ left → OnOk r (needed ≤ rest)
leaves left cost rest needed (Ok event) enough is more = omega (arith, enough, is, more)
leaves left cost rest needed (Err why) enough is more = tt

pub still : (freed : List Name) (r : Result Event HostError) → OnErr r (freed ≡ freed)
still freed (Ok event) = tt
still freed (Err why) = refl

pub unchanged : (h n : HostValue) (left cost rest : ℕ) (freed names : List Name) (objects count taken : ℕ) (r : Result Event HostError) → rest ≡ left_after left cost r → count ≡ objects_then objects r → OnErr r (n ≡ h) → OnErr r (names ≡ freed) →
    OnErr r (keeper_of n rest names count taken ≡ keeper_of h left freed objects taken)
unchanged h n left cost rest freed names objects count taken (Ok event) is count_is same kept = tt
unchanged h n left cost rest freed names objects count taken (Err why) is count_is same kept =
    ap (λ x. keeper_of x rest names count taken) same ∙ ap (λ k. keeper_of h k names count taken) is ∙ ap (λ f. keeper_of h left f count taken) kept ∙ ap (λ c. keeper_of h left freed c taken) count_is

pub unchanged_rest : (h n : HostValue) (left cost rest : ℕ) (freed : List Name) (objects taken : ℕ) (r : Result Event HostError) → rest ≡ left_after left cost r → OnErr r (n ≡ h) →
    OnErr r (keeper_of n rest freed objects taken ≡ keeper_of h left freed objects taken)
unchanged_rest h n left cost rest freed objects taken (Ok event) is same = tt
unchanged_rest h n left cost rest freed objects taken (Err why) is same = ap (λ x. keeper_of x rest freed objects taken) same ∙ ap (λ k. keeper_of h k freed objects taken) is

pub unchanged_left : (h n : HostValue) (left : ℕ) (freed : List Name) (objects taken : ℕ) (r : Result Event HostError) → OnErr r (n ≡ h) → OnErr r (keeper_of n left freed objects taken ≡ keeper_of h left freed objects taken)
unchanged_left h n left freed objects taken (Ok event) same = tt
unchanged_left h n left freed objects taken (Err why) same = ap (λ x. keeper_of x left freed objects taken) same

pub names_kept : (old new : FreedNames) (r : Result Event HostError) → OnErr r (new ≡ old) → OnErr r (new.names ≡ old.names)
names_kept old new (Ok event) same = tt
names_kept old new (Err why) same = ap (λ (f : FreedNames). f.names) same

-- what the parts of a host have in common stays
basis_by : (h n : HostValue) (Way : Event → Type 0) (r : Result Event HostError) → ((event : Event) → Way event → n.basis ≡ h.basis) → IfOk r Way → OnErr r (n ≡ h) → n.basis ≡ h.basis
basis_by h n Way (Ok event) by done same = by event done
basis_by h n Way (Err why) by done same = ap (λ (x : HostValue). x.basis) same

pub operated_basis : (h n : HostValue) (pid : Pid) (op : Op) (event : Event) → HasOperatedIn h n pid op event → n.basis ≡ h.basis
operated_basis h n pid op event (inl c) = ap (λ (x : HostValue). x.basis) c.host_is
operated_basis h n pid op event (inr c) = ap (λ (x : HostValue). x.basis) c.host_is

module _ (h n : HostValue) (r : Result Event HostError) (same : OnErr r (n ≡ h)) where
  pub operate_basis : (pid : Pid) (op : Op) → IfOk r (λ event. HasOperatedIn h n pid op event) → n.basis ≡ h.basis
  operate_basis pid op done = basis_by h n (λ event. HasOperatedIn h n pid op event) r (operated_basis h n pid op) done same

  pub collect_basis : (pid : Pid) → IfOk r (λ event. HasCollectedIn h n pid event) → n.basis ≡ h.basis
  collect_basis pid done = basis_by h n (λ event. HasCollectedIn h n pid event) r (λ event c. ap (λ (x : HostValue). x.basis) c.host_is) done same

  pub kernel_basis : (pid : Pid) → IfOk r (λ event. HasCollectedKernelIn h n pid event) → n.basis ≡ h.basis
  kernel_basis pid done = basis_by h n (λ event. HasCollectedKernelIn h n pid event) r (λ event c. ap (λ (x : HostValue). x.basis) c.host_is) done same

  pub exit_basis : (pid : Pid) → IfOk r (λ event. HasExitedIn h n pid event) → n.basis ≡ h.basis
  exit_basis pid done = basis_by h n (λ event. HasExitedIn h n pid event) r (λ event c. ap (λ (x : HostValue). x.basis) c.host_is) done same

  pub absorb_basis : (id : SharedId) → IfOk r (λ event. HasAbsorbedIn h n id event) → n.basis ≡ h.basis
  absorb_basis id done = basis_by h n (λ event. HasAbsorbedIn h n id event) r (λ event c. ap (λ (x : HostValue). x.basis) c.host_is) done same

module _ (h : HostValue) (left : ℕ) (kept : IsKept h left) where
  pub same_kept : (n : HostValue) (rest : ℕ) → n ≡ h → rest ≡ left → IsKept n rest
  same_kept n rest same is = subst (λ x. IsKept x rest) (sym same) (subst (IsKept h) (sym is) kept)

  module _ (pid : Pid) (alive : IsAlive h pid) where
    never : (reason : Guest → HostError → Type 0) (why : HostError) → (reason alive.guest why → ⊥) → MayRefuse h pid reason why → ⊥
    never reason why not_so refused = not_so (subst (λ o. MatchOption o (why ≡ Unknown) (λ g. reason g why)) alive.there refused)

    -- a process that lives can always be ended
    exit_never : (why : HostError) → CanNotExit h.basis h.kernel h.book alive.guest why → ⊥
    exit_never why (inl (inl ended)) = ended.fails alive.lives
    exit_never why (inl (inr busy)) = busy.fails (kept.idle pid.0 alive.guest alive.there alive.lives)
    exit_never why (inr (inl busy)) = busy.fails kept.kernel_idle
    exit_never why (inr (inr full)) = full.fails (let room = room_of h left kept pid.0 alive.guest alive.there alive.lives in omega (arith, room))

    pub exit_why : (r : Result Event HostError) → IfErr r (λ why. MayRefuse h pid (CanNotExit h.basis h.kernel h.book) why) → IfErr r (λ why. IsGone h pid why)
    exit_why (Ok event) why = tt
    exit_why (Err error) why = absurd (never (CanNotExit h.basis h.kernel h.book) error (exit_never error) why)

    pub exit_kept : (n : HostValue) (r : Result Event HostError) → HostServes n → IfOk r (λ event. HasExitedIn h n pid event) → OnErr r (n ≡ h) → IsKept n left
    exit_kept n (Ok event) serves done same = kept_exited h left kept n pid event alive serves done
    exit_kept n (Err why) serves done same = same_kept n left same refl

    -- with two events left its heap can be collected
    collect_never : (why : HostError) → 2 ≤ left → CanNotCollect h.basis h.book alive.guest why → ⊥
    collect_never why two (inl (inl ended)) = ended.fails alive.lives
    collect_never why two (inl (inr busy)) = busy.fails (kept.idle pid.0 alive.guest alive.there alive.lives)
    collect_never why two (inr full) = full.fails (let room = room_of h left kept pid.0 alive.guest alive.there alive.lives in omega (arith, room, two))

    pub collect_why : (P : HostError → Type 0) (r : Result Event HostError) → 2 ≤ left → IfErr r (λ why. MayRefuse h pid (CanNotCollect h.basis h.book) why) → IfErr r P
    collect_why P (Ok event) two why = tt
    collect_why P (Err error) two why = absurd (never (CanNotCollect h.basis h.book) error (collect_never error two) why)

    pub collect_kept : (n : HostValue) (rest : ℕ) (r : Result Event HostError) → HostServes n → IfOk r (λ event. HasCollectedIn h n pid event) → OnErr r (n ≡ h) → 2 ≤ left → rest ≡ left_after left 2 r → IsKept n rest
    collect_kept n rest (Ok event) serves done same two is = kept_collected h left kept n pid event rest alive serves done (omega (arith, two, is))
    collect_kept n rest (Err why) serves done same two is = same_kept n rest same is

    -- and the kernel's, where no shared heap is an orphan
    kernel_never : (why : HostError) → 2 ≤ left → HasNoOrphan h → CanNotCollectKernel h.basis h.kernel h.book alive.guest why → ⊥
    kernel_never why two none (inl (inl ended)) = ended.fails alive.lives
    kernel_never why two none (inl (inr busy)) = busy.fails (kept.idle pid.0 alive.guest alive.there alive.lives)
    kernel_never why two none (inr (inl busy)) = busy.fails kept.kernel_idle
    kernel_never why two none (inr (inr (inl orphan))) = orphan.fails none
    kernel_never why two none (inr (inr (inr full))) = full.fails (let room = room_of h left kept pid.0 alive.guest alive.there alive.lives in omega (arith, room, two))

    pub kernel_why : (P : HostError → Type 0) (r : Result Event HostError) → 2 ≤ left → HasNoOrphan h → IfErr r (λ why. MayRefuse h pid (CanNotCollectKernel h.basis h.kernel h.book) why) → IfErr r P
    kernel_why P (Ok event) two none why = tt
    kernel_why P (Err error) two none why = absurd (never (CanNotCollectKernel h.basis h.kernel h.book) error (kernel_never error two none) why)

    pub kernel_same : (P : Type 0) (r : Result Event HostError) → 2 ≤ left → HasNoOrphan h → IfErr r (λ why. MayRefuse h pid (CanNotCollectKernel h.basis h.kernel h.book) why) → OnErr r P
    kernel_same P (Ok event) two none why = tt
    kernel_same P (Err error) two none why = absurd (never (CanNotCollectKernel h.basis h.kernel h.book) error (kernel_never error two none) why)

    pub kernel_kept : (n : HostValue) (rest : ℕ) (r : Result Event HostError) → HostServes n → IfOk r (λ event. HasCollectedKernelIn h n pid event) → OnErr r (n ≡ h) → 2 ≤ left → rest ≡ left_after left 2 r → IsKept n rest
    kernel_kept n rest (Ok event) serves done same two is = kept_kernel h left kept n pid event rest alive serves done (omega (arith, two, is))
    kernel_kept n rest (Err why) serves done same two is = same_kept n rest same is

    pub operate_kept : (n : HostValue) (op : Op) (rest : ℕ) (r : Result Event HostError) → IsTrue (is_spelled op) → HostServes n → IfOk r (λ event. HasOperatedIn h n pid op event) → OnErr r (n ≡ h) → 1 ≤ left → rest ≡ left_after left 1 r → IsKept n rest
    operate_kept n op rest (Ok event) spelled serves done same one is = kept_operated h left kept n pid op event rest alive spelled serves done (omega (arith, one, is))
    operate_kept n op rest (Err why) spelled serves done same one is = same_kept n rest same is

-- a process lives still where no process has changed
pub alive_still : (h n : HostValue) (pid : Pid) → n.guests ≡ h.guests → IsAlive h pid → IsAlive n pid
alive_still h n pid same alive = record { guest = alive.guest; there = ap (λ gs. slice_get gs pid.0) same ∙ alive.there; lives = alive.lives }

-- fewer are left than a call asks for
fewer : (left asked needed : ℕ) (why : HostError) → asked ≡ needed → Lacks Reserved (asked ≤ left) why → Lacks Reserved (needed ≤ left) why
fewer left asked needed why is lacks = record { error_is = lacks.error_is; fails = λ enough. lacks.fails (omega (arith, is, enough)) }

module _ (h : HostValue) (left : ℕ) (freed : List Name) (objects taken : ℕ) where
  pub operation_unready : (pid : Pid) (op : Op) (asked : ℕ) → asked ≡ needed_to_operate h → (why : HostError) → IsGone h pid why ⊎ Lacks Reserved (asked ≤ left) why → MayRefuseOperation (keeper_of h left freed objects taken) pid op why
  operation_unready pid op asked is why (inl gone) = inl (gone_operates h pid op why gone)
  operation_unready pid op asked is why (inr lacks) = inr (inl (fewer left asked (needed_to_operate h) why is lacks))

  pub operation_full : (pid : Pid) (op : Op) (most : ℕ) → most ≡ most_objects h → (why : HostError) → Lacks Objects (IsTrue (is_allocation op) → objects < most) why → MayRefuseOperation (keeper_of h left freed objects taken) pid op why
  operation_full pid op most is why lacks =
      inr (inr (inl (record { error_is = lacks.error_is; fails = λ room. lacks.fails (λ asks. let left = room asks in omega (arith, left, is)) })))

  pub operation_unspelled : (pid : Pid) (op : Op) (why : HostError) → Lacks Unknown (IsTrue (is_spelled op)) why → MayRefuseOperation (keeper_of h left freed objects taken) pid op why
  operation_unspelled pid op why lacks = inr (inr (inr lacks))

  pub operation_refused : (pid : Pid) (op : Op) (r : Result Event HostError) → IfErr r (λ why. MayRefuse h pid (CanNotOperateIn h op) why) → IfErr r (λ why. MayRefuseOperation (keeper_of h left freed objects taken) pid op why)
  operation_refused pid op (Ok event) why = tt
  operation_refused pid op (Err error) why = inl why

  pub collection_unready : (pid : Pid) (asked : ℕ) → asked ≡ needed_to_collect h → (why : HostError) → IsGone h pid why ⊎ Lacks Reserved (asked ≤ left) why → MayRefuseCollection (keeper_of h left freed objects taken) pid why
  collection_unready pid asked is why (inl gone) = inl gone
  collection_unready pid asked is why (inr lacks) = inr (fewer left asked (needed_to_collect h) why is lacks)

  pub kernel_unready : (pid : Pid) (asked : ℕ) → asked ≡ needed_by_the_kernel h → (why : HostError) → IsGone h pid why ⊎ Lacks Reserved (asked ≤ left) why → MayRefuseKernel (keeper_of h left freed objects taken) pid why
  kernel_unready pid asked is why (inl gone) = inl gone
  kernel_unready pid asked is why (inr lacks) = inr (fewer left asked (needed_by_the_kernel h) why is lacks)

  pub absorption_unready : (id : SharedId) (asked : ℕ) → asked ≡ needed_to_absorb h → (why : HostError) → Lacks Reserved (asked ≤ left) why → MayRefuseToAbsorb (keeper_of h left freed objects taken) id why
  absorption_unready id asked is why lacks = inr (fewer left asked (needed_to_absorb h) why is lacks)

  pub absorption_refused : (id : SharedId) (r : Result Event HostError) → IfErr r (λ why. MayRefuseAbsorption h id why) → IfErr r (λ why. MayRefuseToAbsorb (keeper_of h left freed objects taken) id why)
  absorption_refused id (Ok event) why = tt
  absorption_refused id (Err error) why = inl why

-- a whole collection of the kernel's heap, behind the absorptions
pub collected_all : (h m n : HostValue) (left between rest : ℕ) (freed names : List Name) (objects count taken : ℕ) (pid : Pid) (r : Result Event HostError) → HaveAbsorbed h m left between → HasNoOrphan m → 2 ≤ between → rest ≡ left_after between 2 r →
    IfOk r (λ event. HasCollectedKernelIn m n pid event) → IfOk r (λ event. HasCollectedAll (keeper_of h left freed objects taken) (keeper_of n rest names count taken) pid event)
collected_all h m n left between rest freed names objects count taken pid (Ok event) absorbed none two is done =
    record { between = keeper_of m between freed objects taken; absorbed = absorbed; none_left = none; collected = done; spends = omega (arith, two, is) }
collected_all h m n left between rest freed names objects count taken pid (Err why) absorbed none two is done = tt

-- two things that are told by two calls
pub both_on : {T E : Type 0} (P Q : Type 0) (r : Result T E) → P → OnOk r Q → OnOk r (P × Q)
both_on P Q (Ok x) one other = (one, other)
both_on P Q (Err why) one other = tt

pub second_of : {T E : Type 0} (P Q : E → Type 0) (r : Result T E) → IfErr r Q → IfErr r (λ why. P why ⊎ Q why)
second_of P Q (Ok x) why = tt
second_of P Q (Err error) why = inr why
