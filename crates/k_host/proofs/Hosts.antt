-- A host of which one process, one shared heap or the kernel has changed serves still.
use Rattle.std.proofs.Common.{◌≡◌, ◌<◌, ◌≤◌, ℕ, [], inl, inr, refl, sym, ap, ◌∙◌, subst, List, length, replicate, arith, Option, Some, None, slice_get, slice_set, IfNone, IfSome, Result, Ok, Err, IfErr, OnErr, OnOk}
use Rattle.std.specs.Prelude.{IfOk}
use Rattle.k_types.specs.declared.event.Event.{Event}
use Rattle.k_types.specs.declared.event.Reply.{Reply}
use Rattle.k_types.specs.declared.op.Op.{Op}
use Rattle.k_types.specs.declared.names.Pid.{Pid}
use Rattle.k_types.proofs.Maxima.{length_in}
use Rattle.k_book.specs.Books.{BookRecord}
use Rattle.k_cell.specs.Holdings.{HoldingsValue}
use Rattle.k_shared.specs.SharedHeaps.{SharedRecord}
use Rattle.k_ends.specs.k_guests.declared.guest.Guest.{Guest}
use Rattle.k_ends.specs.k_guests.Serving.{Basis, BookServes, GuestServes, HasTailRoom, KeepsPair, KernelServes, SharedServes}
use Rattle.k_ends.specs.Doing.{CanOperate, HasDoneInside, HasOperated}
use Rattle.k_ends.proofs.Staying.{guests_set, guests_stay, heaps_set, heaps_stay, kernel_stays}
use Rattle.k_ends.specs.Collecting.{HasAbsorbedNow, HasMarkedGuest}
use Rattle.k_host.proofs.Called.{host_of, pid_of}
use Rattle.k_host.specs.Calls.{HasOperatedAs}
use Rattle.k_host.specs.Hosts.{HaveTailRoom, HostServes}
use Rattle.k_ends.proofs.Written.{get_set_cases}

-- process and book serve still, and one event more of the process can be unpublished if it could before
pub record KeepsRoom (basis : Basis) (g h : Guest) (b l : BookRecord) : Type 0 where
  pub pair : KeepsPair basis g h b l
  pub few : HasTailRoom basis g → HasTailRoom basis h

-- one event more can be unpublished where none is
pub none_unpublished : (basis : Basis) (g h : Guest) → h.cell.value.tail ≡ [] → HasTailRoom basis g → HasTailRoom basis h
none_unpublished basis g h settled few = let none = ap length settled in omega (arith, none, few)

-- where one process has changed
pub few_set : (basis : Basis) (gs : List Guest) (n : ℕ) (h : Guest) → HaveTailRoom basis gs → HasTailRoom basis h → HaveTailRoom basis (slice_set gs n h)
few_set basis gs n h few own = λ j x found. elim (get_set_cases gs n j h x found) [
  | inl here ↦ subst (HasTailRoom basis) here.1 own
  | inr there ↦ few j x there
]

-- whatever a call on a process answers, process and book serve still
module _ (basis : Basis) (g h : Guest) (b l : BookRecord) (guest : GuestServes basis b.journal.table g) (book : BookServes basis b) where
  pub pair_same : h ≡ g → l ≡ b → KeepsRoom basis g h b l
  pair_same is book_is = record {
    pair = record {
      guest = subst (λ (x : BookRecord). GuestServes basis x.journal.table h) (sym book_is) (subst (GuestServes basis b.journal.table) (sym is) guest);
      book = subst (BookServes basis) (sym book_is) book;
      same_table = ap (λ (x : BookRecord). x.journal.table) book_is;
      pid = ap (λ (x : Guest). x.cell.pid) is;
      bodies = ap (λ (x : Guest). x.bodies) is;
    };
    few = subst (HasTailRoom basis) (sym is);
  }

  pub pair_kept : {E : Type 0} (P : Event → Type 0) → ((event : Event) → P event → KeepsPair basis g h b l) → ((event : Event) → P event → h.cell.value.tail ≡ []) → (r : Result Event E) → IfOk r P →
      IfErr r (λ why. (h ≡ g) × (l ≡ b)) → KeepsRoom basis g h b l
  pair_kept P f settled (Ok event) done same = record { pair = f event done; few = none_unpublished basis g h (settled event done) }
  pair_kept P f settled (Err why) done same = pair_same same.0 same.1

  pub pair_kept_on : {A E : Type 0} (P : Type 0) → (P → KeepsPair basis g h b l) → (P → h.cell.value.tail ≡ []) → (r : Result A E) → OnOk r P → OnErr r ((h ≡ g) × (l ≡ b)) → KeepsRoom basis g h b l
  pair_kept_on P f settled (Ok x) done same = record { pair = f done; few = none_unpublished basis g h (settled done) }
  pair_kept_on P f settled (Err why) done same = pair_same same.0 same.1

-- the same of a call that leaves the book alone
module _ (basis : Basis) (g h : Guest) (b : BookRecord) (guest : GuestServes basis b.journal.table g) (book : BookServes basis b) where
  pub own_table : GuestServes basis g.cell.note.table g
  own_table = subst (λ t. GuestServes basis t g) (sym guest.table) guest

  pub alone_kept : GuestServes basis g.cell.note.table h → h.cell.pid ≡ g.cell.pid → h.bodies ≡ g.bodies → (HasTailRoom basis g → HasTailRoom basis h) → KeepsRoom basis g h b b
  alone_kept serves pid bodies few = record {
    pair = record { guest = subst (λ t. GuestServes basis t h) guest.table serves; book = book; same_table = refl; pid = pid; bodies = bodies };
    few = few;
  }

-- a host whose process of that number is changed with the book, and perhaps with the kernel
module _ (basis : Basis) (gs : List Guest) (k : HoldingsValue) (ss : List SharedRecord) (b : BookRecord) (serves : HostServes (record { basis = basis; guests = gs; kernel = k; shared = ss; book = b })) where
  pub found_guest : (n : ℕ) (g : Guest) → slice_get gs n ≡ Some g → GuestServes basis b.journal.table g
  found_guest n g at = serves.all.each n g at

  pub host_pair : (n : ℕ) (g h : Guest) (l : BookRecord) → slice_get gs n ≡ Some g → KeepsRoom basis g h b l →
      HostServes (record { basis = basis; guests = slice_set gs n h; kernel = k; shared = ss; book = l })
  host_pair n g h l at keeps = record {
    all = guests_set basis b.journal.table l.journal.table keeps.pair.same_table gs n g h serves.all at keeps.pair.guest keeps.pair.pid;
    rest = record {
      kernel = kernel_stays basis b.journal.table l.journal.table keeps.pair.same_table k serves.rest.kernel;
      heaps = heaps_stay basis b.journal.table l.journal.table keeps.pair.same_table ss serves.rest.heaps;
      book = keeps.pair.book;
    };
    few = few_set basis gs n h serves.few (keeps.few (serves.few n g at));
  }

  pub host_pair_kernel : (n : ℕ) (g h : Guest) (x : HoldingsValue) (l : BookRecord) → slice_get gs n ≡ Some g → KeepsRoom basis g h b l → KernelServes basis l.journal.table x →
      HostServes (record { basis = basis; guests = slice_set gs n h; kernel = x; shared = ss; book = l })
  host_pair_kernel n g h x l at keeps kernel = record {
    all = guests_set basis b.journal.table l.journal.table keeps.pair.same_table gs n g h serves.all at keeps.pair.guest keeps.pair.pid;
    rest = record {
      kernel = kernel;
      heaps = heaps_stay basis b.journal.table l.journal.table keeps.pair.same_table ss serves.rest.heaps;
      book = keeps.pair.book;
    };
    few = few_set basis gs n h serves.few (keeps.few (serves.few n g at));
  }

  -- whatever an operation did, one event more of its process can be unpublished
  few_operated : (n : ℕ) (g h : Guest) (x : HoldingsValue) (ts : List SharedRecord) (l : BookRecord) (op : Op) (event : Event) → slice_get gs n ≡ Some g → HasOperated basis op g h k x ss ts b l event → HasTailRoom basis h
  few_operated n g h x ts l op event at d = elim d.done [
    | inl kept ↦ kept.few
    | inr more ↦ elim more [
      | inl published ↦ none_unpublished basis g h (ap (λ (y : Guest). y.cell.value.tail) published.published.guest_is) (serves.few n g at)
      | inr recorded ↦ none_unpublished basis g h recorded.settled (serves.few n g at)
    ]
  ]

  pub host_operated : (n : ℕ) (g h : Guest) (x : HoldingsValue) (ts : List SharedRecord) (l : BookRecord) → slice_get gs n ≡ Some g → CanOperate basis h x ts l → l.journal.table ≡ b.journal.table → h.cell.pid ≡ g.cell.pid → HasTailRoom basis h →
      HostServes (record { basis = basis; guests = slice_set gs n h; kernel = x; shared = ts; book = l })
  host_operated n g h x ts l at can same pid few = record {
    all = guests_set basis b.journal.table l.journal.table same gs n g h serves.all at can.guest pid;
    rest = can.rest;
    few = few_set basis gs n h serves.few few;
  }

  pub operated_kept : {E : Type 0} (n : ℕ) (g h : Guest) (x : HoldingsValue) (ts : List SharedRecord) (l : BookRecord) (op : Op) → slice_get gs n ≡ Some g → (r : Result Event E) →
      IfOk r (λ event. HasOperated basis op g h k x ss ts b l event) → IfErr r (λ why. (h ≡ g) × (x ≡ k) × (ts ≡ ss) × (l ≡ b)) →
      HostServes (record { basis = basis; guests = slice_set gs n h; kernel = x; shared = ts; book = l })
  operated_kept n g h x ts l op at (Ok event) done same = host_operated n g h x ts l at done.can done.same_table done.pid (few_operated n g h x ts l op event at done)
  operated_kept n g h x ts l op at (Err why) done same =
      subst (λ (y : HoldingsValue). HostServes (record { basis = basis; guests = slice_set gs n h; kernel = y; shared = ts; book = l })) (sym same.1)
      (subst (λ (us : List SharedRecord). HostServes (record { basis = basis; guests = slice_set gs n h; kernel = k; shared = us; book = l })) (sym same.2)
      (host_pair n g h l at (pair_same basis g h b l (found_guest n g at) serves.rest.book same.0 same.3)))

  -- what an operation of the process of that number leaves of the host
  pub operated_as : {E : Type 0} (pid : Pid) (i : ℕ) (same : i ≡ pid.0) (g h : Guest) (x : HoldingsValue) (ts : List SharedRecord) (l : BookRecord) (op : Op) → slice_get gs i ≡ Some g → (r : Result Event E) →
      IfOk r (λ event. HasOperated basis op g h k x ss ts b l event) →
      IfOk r (λ event. HasOperatedAs (record { basis = basis; guests = gs; kernel = k; shared = ss; book = b }) (record { basis = basis; guests = slice_set gs i h; kernel = x; shared = ts; book = l }) pid op event)
  operated_as pid i same g h x ts l op at (Err why) done = tt
  operated_as pid i same g h x ts l op at (Ok event) done = record {
    before = g;
    after = h;
    there = ap (slice_get gs) (sym same) ∙ at;
    named = ap pid_of (serves.all.placed i g at ∙ same);
    host_is = ap (λ n. host_of basis (slice_set gs n h) x ts l) same;
    way = done;
  }

-- a limit of the setup is one of the book's
pub limit_there : (basis : Basis) (b : BookRecord) → BookServes basis b → (m : ℕ) → m < length basis.trace.limits → m < length b.rows
limit_there basis b serves m inside =
    subst (λ n. m < n) (sym (ap length serves.stands.of_trace.rows ∙ length_in basis.trace.limits (replicate (length basis.trace.limits) 0))) inside

-- what is no limit of the setup is none of the book's
pub limit_not_there : (basis : Basis) (b : BookRecord) → BookServes basis b → (m : ℕ) → length basis.trace.limits ≤ m → length b.rows ≤ m
limit_not_there basis b serves m outside =
    subst (λ n. n ≤ m) (sym (ap length serves.stands.of_trace.rows ∙ length_in basis.trace.limits (replicate (length basis.trace.limits) 0))) outside

-- whatever a call on a process alone answers
module _ (basis : Basis) (g h : Guest) (b : BookRecord) (guest : GuestServes basis b.journal.table g) (book : BookServes basis b) where
  pub marked_kept : {A E : Type 0} (r : Result A E) → OnOk r (HasMarkedGuest basis g h) → OnErr r (h ≡ g) → KeepsRoom basis g h b b
  marked_kept (Ok x) done same =
      alone_kept basis g h b guest book done.serves (ap (λ (x : Guest). x.cell.pid) done.guest_is) (ap (λ (x : Guest). x.bodies) done.guest_is)
      (λ few. let same = ap length done.tail in omega (arith, same, few))
  marked_kept (Err why) done same = pair_same basis g h b b guest book same refl

  pub local_kept : {E : Type 0} (op : Op) (r : Result (Option Reply) E) → IfOk r (λ answer. IfSome answer (λ said. HasDoneInside basis op g h said)) → IfOk r (λ answer. IfSome answer (λ said. HasTailRoom basis h)) →
      IfOk r (λ answer. IfNone answer (h ≡ g)) → IfErr r (λ why. h ≡ g) → KeepsRoom basis g h b b
  local_kept op (Ok (Some said)) done few none same =
      alone_kept basis g h b guest book done.serves (ap (λ (x : Guest). x.cell.pid) done.guest_is) (ap (λ (x : Guest). x.bodies) done.guest_is) (λ before. few)
  local_kept op (Ok None) done few none same = pair_same basis g h b b guest book none refl
  local_kept op (Err why) done few none same = pair_same basis g h b b guest book same refl

-- whatever a call on a process and the kernel answers
module _ (basis : Basis) (g h : Guest) (k x : HoldingsValue) (b l : BookRecord) (guest : GuestServes basis b.journal.table g) (kernel : KernelServes basis b.journal.table k) (book : BookServes basis b) where
  pub both_kept : {E : Type 0} (P : Event → Type 0) → ((event : Event) → P event → KeepsPair basis g h b l) → ((event : Event) → P event → h.cell.value.tail ≡ []) → ((event : Event) → P event → KernelServes basis l.journal.table x) →
      (r : Result Event E) → IfOk r P → IfErr r (λ why. (h ≡ g) × (x ≡ k) × (l ≡ b)) → KeepsRoom basis g h b l × KernelServes basis l.journal.table x
  both_kept P f settled q (Ok event) done same = (record { pair = f event done; few = none_unpublished basis g h (settled event done) }, q event done)
  both_kept P f settled q (Err why) done same = (
    pair_same basis g h b l guest book same.0 same.2,
    subst (λ (y : BookRecord). KernelServes basis y.journal.table x) (sym same.2) (subst (KernelServes basis b.journal.table) (sym same.1) kernel),
  )

-- a host of which a shared heap may have been absorbed
module _ (basis : Basis) (gs : List Guest) (k : HoldingsValue) (ss : List SharedRecord) (b : BookRecord) (serves : HostServes (record { basis = basis; guests = gs; kernel = k; shared = ss; book = b })) where
  pub found_heap : (n : ℕ) (s : SharedRecord) → slice_get ss n ≡ Some s → SharedServes basis b.journal.table s
  found_heap n s at = serves.rest.heaps.each n s at

  absorbed_host : (n : ℕ) (s t : SharedRecord) (x : HoldingsValue) (l : BookRecord) → slice_get ss n ≡ Some s → SharedServes basis l.journal.table t → t.id ≡ s.id → KernelServes basis l.journal.table x → BookServes basis l →
      l.journal.table ≡ b.journal.table → HostServes (record { basis = basis; guests = gs; kernel = x; shared = slice_set ss n t; book = l })
  absorbed_host n s t x l at shared id kernel book same = record {
    all = guests_stay basis b.journal.table l.journal.table same gs serves.all;
    rest = record { kernel = kernel; heaps = heaps_set basis b.journal.table l.journal.table same ss n s t serves.rest.heaps at shared id; book = book };
    few = serves.few;
  }

  pub absorbed_kept : {E : Type 0} (n : ℕ) (s t : SharedRecord) (x : HoldingsValue) (l : BookRecord) → slice_get ss n ≡ Some s → (r : Result Event E) → IfOk r (λ event. HasAbsorbedNow basis s t x b l event) →
      IfErr r (λ why. (t ≡ s) × (x ≡ k) × (l ≡ b)) → HostServes (record { basis = basis; guests = gs; kernel = x; shared = slice_set ss n t; book = l })
  absorbed_kept n s t x l at (Ok event) done same = absorbed_host n s t x l at done.shared done.same done.own.kernel done.own.book done.own.same_table
  absorbed_kept n s t x l at (Err why) done same =
      absorbed_host n s t x l at
      (subst (λ (y : BookRecord). SharedServes basis y.journal.table t) (sym same.2) (subst (SharedServes basis b.journal.table) (sym same.0) (found_heap n s at)))
      (ap (λ (y : SharedRecord). y.id) same.0)
      (subst (λ (y : BookRecord). KernelServes basis y.journal.table x) (sym same.2) (subst (KernelServes basis b.journal.table) (sym same.1) serves.rest.kernel))
      (subst (BookServes basis) (sym same.2) serves.rest.book) (ap (λ (y : BookRecord). y.journal.table) same.2)

-- there are few processes and shared heaps
module _ (basis : Basis) (gs : List Guest) (k : HoldingsValue) (ss : List SharedRecord) (b : BookRecord) (serves : HostServes (record { basis = basis; guests = gs; kernel = k; shared = ss; book = b })) where
  pub few_guests : length gs ≤ 64
  few_guests = let count = serves.all.count in let few = serves.rest.book.stands.keeps.processes in omega (arith, count, few)

  pub few_heaps : length ss ≤ 64
  few_heaps = let count = serves.rest.heaps.count in let few = serves.rest.book.stands.keeps.shared in omega (arith, count, few)
