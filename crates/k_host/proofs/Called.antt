-- What a call leaves of a host of which a process, a shared heap, the kernel or the book has changed.
use Rattle.std.proofs.Common.{◌≡◌, ℕ, ◌<◌, refl, sym, ap, ◌∙◌, subst, List, length, get_or, set, Option, Some, None, slice_get, slice_set, IfNone, IfSome, IsTrue, is_some, Result, Ok, Err, OnOk}
use Rattle.std.specs.Prelude.{IfErr, IfOk, MatchOption}
use Rattle.std.proofs.lemmas.List.{set-get_or}
use Rattle.std.proofs.lemmas.Option.{slice_get-get_or, slice_get_read, slice_get_within}
use Rattle.k_types.specs.declared.event.Event.{Event}
use Rattle.k_types.specs.declared.event.Reply.{Reply}
use Rattle.k_types.specs.declared.names.Pid.{Pid}
use Rattle.k_types.specs.declared.names.SharedId.{SharedId}
use Rattle.k_types.specs.declared.op.Op.{Op}
use Rattle.k_book.specs.Books.{BookRecord}
use Rattle.k_cell.specs.Holdings.{HoldingsValue}
use Rattle.k_agree.specs.Shown.{idle_part}
use Rattle.k_shared.specs.SharedHeaps.{SharedRecord}
use Rattle.k_laws.specs.Locals.{is_local_in}
use Rattle.k_ends.specs.HostError.{HostError}
use Rattle.k_ends.specs.k_guests.declared.guest.Guest.{Guest}
use Rattle.k_host.specs.Calls.{HasAbsorbedIn, HasChanged, HasDoneInsideIn, HasLeftOutside}
use Rattle.k_ends.specs.Collecting.{HasAbsorbedNow}
use Rattle.k_ends.specs.Doing.{HasDoneInside}
use Rattle.k_host.specs.Hosts.{HostServes, HostValue}
use Rattle.k_ends.specs.Refusals.{CanNotAbsorb}
use Rattle.k_ends.specs.k_guests.Serving.{Basis}

-- the process of that number
abbrev pub pid_of : ℕ → Pid
pid_of n = record { 0 = n }

-- the shared heap of that number
abbrev pub shared_of : ℕ → SharedId
shared_of n = record { 0 = n }

-- the host of these parts
abbrev pub host_of : Basis → List Guest → HoldingsValue → List SharedRecord → BookRecord → HostValue
host_of basis gs k ss b = record { basis = basis; guests = gs; kernel = k; shared = ss; book = b }

-- the item at a place that was looked up
pub found_there : {A : Type 0} (xs ys : List A) (n i : ℕ) (x : A) → ys ≡ xs → (i ≡ n) × (i < length ys) → x ≡ get_or xs i x → slice_get xs i ≡ Some x
found_there xs ys n i x same known read = slice_get_read xs (length ys) i x (ap length same) known.1 read

-- the same by the number for which the place was looked up
pub found_here : {A : Type 0} (xs : List A) (i n : ℕ) (x : A) → i ≡ n → slice_get xs i ≡ Some x → slice_get xs n ≡ Some x
found_here xs i n x same at = ap (slice_get xs) (sym same) ∙ at

-- an item that is put where it was changes nothing
pub set_there : {A : Type 0} (xs : List A) (n : ℕ) (x : A) → slice_get xs n ≡ Some x → set xs n x ≡ xs
set_there xs n x at =
    let read : Some (get_or xs n x) ≡ Some x = sym (slice_get-get_or xs n x (slice_get_within xs n x at)) ∙ at in
    let same : get_or xs n x ≡ x = cc in
    ap (set xs n) (sym same) ∙ set-get_or xs n x

module _ (basis : Basis) (gs : List Guest) (k : HoldingsValue) (ss : List SharedRecord) (b : BookRecord) (serves : HostServes (host_of basis gs k ss b)) (pid : Pid) (i : ℕ) (same : i ≡ pid.0) (g h : Guest) (at : slice_get gs i ≡ Some g) where
  there : slice_get gs pid.0 ≡ Some g
  there = found_here gs i pid.0 g same at

  numbered : g.cell.pid.0 ≡ pid.0
  numbered = serves.all.placed i g at ∙ same

  pub changed : (x : HoldingsValue) (l : BookRecord) (Way : Guest → Guest → Type 0) → Way g h → HasChanged (host_of basis gs k ss b) (host_of basis (slice_set gs i h) x ss l) pid x l Way
  changed x l Way way = record { before = g; after = h; there = there; named = ap pid_of numbered; host_is = ap (λ n. host_of basis (slice_set gs n h) x ss l) same; way = way }

  -- a call that answers an event
  pub changed_event : {E : Type 0} (x : HoldingsValue) (l : BookRecord) (Way : Event → Guest → Guest → Type 0) (r : Result Event E) → IfOk r (λ event. Way event g h) →
      IfOk r (λ event. HasChanged (host_of basis gs k ss b) (host_of basis (slice_set gs i h) x ss l) pid x l (Way event))
  changed_event x l Way (Ok event) done = changed x l (Way event) done
  changed_event x l Way (Err why) done = tt

  -- a call that answers nothing
  pub changed_on : {A E : Type 0} (x : HoldingsValue) (l : BookRecord) (Way : Guest → Guest → Type 0) (r : Result A E) → OnOk r (Way g h) →
      OnOk r (HasChanged (host_of basis gs k ss b) (host_of basis (slice_set gs i h) x ss l) pid x l Way)
  changed_on x l Way (Ok y) done = changed x l Way done
  changed_on x l Way (Err why) done = tt

  -- a call that may do the operation inside the process's heap
  pub local_answered : {E : Type 0} (op : Op) (r : Result (Option Reply) E) → IfOk r (λ answer. IfSome answer (λ said. HasDoneInside basis op g h said)) → IfOk r (λ answer. IfNone answer (h ≡ g)) →
      IfOk r (λ answer. is_some answer ≡ is_local_in (idle_part g.cell.value) g.cell.pid.0 op) →
      IfOk r (λ answer. MatchOption answer (HasLeftOutside (host_of basis gs k ss b) (host_of basis (slice_set gs i h) k ss b) pid op)
      (λ said. HasDoneInsideIn (host_of basis gs k ss b) (host_of basis (slice_set gs i h) k ss b) pid op said))
  local_answered op (Err why) done none told = tt
  local_answered op (Ok None) done none told = record {
    guest = g;
    there = there;
    outside = ap (λ n. is_local_in (idle_part g.cell.value) n op) (sym numbered) ∙ sym told;
    same = ap (λ xs. host_of basis xs k ss b) (ap (set gs i) none ∙ set_there gs i g at);
  }
  local_answered op (Ok (Some said)) done none told =
      changed k b (λ x y. IsTrue (is_local_in (idle_part x.cell.value) pid.0 op) × HasDoneInside basis op x y said)
      (ap (λ n. is_local_in (idle_part g.cell.value) n op) (sym numbered) ∙ sym told, done)

-- an absorption
pub absorbed_in : {E : Type 0} (basis : Basis) (gs : List Guest) (k x : HoldingsValue) (ss : List SharedRecord) (b l : BookRecord) (id : SharedId) (s t : SharedRecord) → HostServes (host_of basis gs k ss b) →
    slice_get ss id.0 ≡ Some s → (r : Result Event E) → IfOk r (λ event. HasAbsorbedNow basis s t x b l event) →
    IfOk r (λ event. HasAbsorbedIn (host_of basis gs k ss b) (host_of basis gs x (slice_set ss id.0 t) l) id event)
absorbed_in basis gs k x ss b l id s t serves at (Err why) done = tt
absorbed_in basis gs k x ss b l id s t serves at (Ok event) done = record {
  before = s;
  after = t;
  there = at;
  named = ap shared_of (serves.rest.heaps.placed id.0 s at);
  host_is = refl;
  has_absorbed = done;
}

-- why an absorption is refused, by the number for which the shared heap was looked up
pub absorption_reason : {T : Type 0} (basis : Basis) (gs : List Guest) (k : HoldingsValue) (ss : List SharedRecord) (b : BookRecord) → HostServes (host_of basis gs k ss b) → (id : SharedId) (s : SharedRecord) → slice_get ss id.0 ≡ Some s →
    (r : Result T HostError) → IfErr r (CanNotAbsorb basis k b s.id) → IfErr r (CanNotAbsorb basis k b id)
absorption_reason basis gs k ss b serves id s at r why = subst (λ (i : SharedId). IfErr r (CanNotAbsorb basis k b i)) (ap shared_of (serves.rest.heaps.placed id.0 s at)) why
