-- A kill among the processes of a host: who is killed, and what it leaves of the host.
use Rattle.std.proofs.Common.{◌≡◌, ◌≢◌, ◌⊎◌, ◌==◌, ◌&&◌, ◌-◌, ◌<◌, ℕ, refl, sym, ap, ◌∙◌, subst, Bool, true, false, cond, not, nat_lt, List, length, Some, None, slice_get, slice_set, IfErr, OnErr, Result, Ok, Err, arith, inl, inr, eqb-true}
use Rattle.std.specs.Prelude.{IfOk}
use Rattle.std.proofs.lemmas.Bool.{and_parts, eq-eqb, false≢true}
use Rattle.std.proofs.lemmas.Bool.Decides.{nat_tests}
use Rattle.k_types.specs.declared.event.Event.{Event}
use Rattle.k_types.specs.declared.names.Pid.{Pid}
use Rattle.k_types.specs.declared.op.Op.{Op}
use Rattle.k_types.specs.declared.op.Op.TheVariants.{Kill}
use Rattle.k_types.specs.Agree.{book_shown_by}
use Rattle.k_types.specs.Limits.{is_above}
use Rattle.k_types.specs.Steps.{in_range}
use Rattle.k_types.specs.Trace.{process_count}
use Rattle.k_types.proofs.Ancestors.{above_another}
use Rattle.k_book.specs.Books.{BookRecord}
use Rattle.k_cell.specs.Holdings.{HoldingsValue}
use Rattle.k_agree.proofs.Killing.{ends_by}
use Rattle.k_agree.specs.Shown.{idle_part}
use Rattle.k_shared.specs.SharedHeaps.{SharedRecord}
use Rattle.k_laws.specs.Locals.{is_local_in}
use Rattle.k_ends.specs.k_guests.declared.guest.Guest.{Guest}
use Rattle.k_ends.specs.k_guests.Serving.{Basis, BookServes, GuestServes, HasTailRoom, KernelServes}
use Rattle.k_host.proofs.Hosts.{few_set, none_unpublished}
use Rattle.k_ends.specs.HostError.{HostError}
use Rattle.k_ends.specs.Doing.{HasOperated, left_after}
use Rattle.k_ends.specs.CallsRefusals.{CanNotOperateAlone, EndsAnother}
use Rattle.k_ends.proofs.Staying.{guests_set, heaps_stay}
use Rattle.k_ends.specs.Killing.{CanNotKill, HasEndedNobody, HasKilledNow, HasTriedToKill}
use Rattle.k_host.proofs.Called.{host_of, pid_of, set_there}
use Rattle.k_host.proofs.Refused.{refused}
use Rattle.k_host.specs.Calls.{HasOperatedIn}
use Rattle.k_host.specs.Hosts.{HostServes}
use Rattle.k_host.specs.Killing.{AreTwoAt, HasKilledAmong, killed_among}
use Rattle.k_host.specs.Refusals.{CanNotOperateIn, MayRefuse}
use Rattle.k_types.proofs.Lists.{slice_get-set_other, get_there}

below : (a b : ℕ) → nat_lt a b ≡ true → a < b
below a b t = grind (arith, nat_tests)

-- another one is not the same
apart : (a b : ℕ) → not (a == b) ≡ true → a ≢ b
apart a b other same = false≢true (sym (ap not (eq-eqb a b same)) ∙ other)

chosen : (t : Bool) (q : Pid) (n : ℕ) → cond t (Some q.0) None ≡ Some n → (t ≡ true) × (q.0 ≡ n)
chosen true q n e = (refl, cc)
chosen false q n e = absurd (cc e)

-- who is killed is another process that is there
pub killed_some : (count pid : ℕ) (op : Op) (n : ℕ) → killed_among count pid op ≡ Some n → (op ≡ Kill (pid_of n)) × (n < count) × (n ≢ pid)
killed_some count pid (Kill q) n e =
    let by = chosen (nat_lt q.0 count && not (q.0 == pid)) q n e in
    let parts = and_parts (nat_lt q.0 count) (not (q.0 == pid)) by.0 in
    (ap (λ m. Kill (pid_of m)) by.1, subst (λ m. m < count) by.1 (below q.0 count parts.0), subst (λ m. m ≢ pid) by.1 (apart q.0 pid parts.1))
killed_some count pid _ n e = absurd (cc e)

spared_one : (a b : Bool) (n : ℕ) → cond (a && b) (Some n) None ≡ None → a ≡ true → b ≡ false
spared_one true true n e there = absurd (cc e)
spared_one true false n e there = refl
spared_one false b n e there = absurd (false≢true there)

same_number : (a b : ℕ) → not (a == b) ≡ false → a ≡ b
same_number a b same = eqb-true a b (back (a == b) same)
  where
    back : (t : Bool) → not t ≡ false → t ≡ true
    back true e = refl
    back false e = absurd (false≢true (sym e))

-- where nobody is killed the operation is the kill of no other process that is there
pub killed_none : (count pid : ℕ) (op : Op) → killed_among count pid op ≡ None → (q : Pid) → op ≡ Kill q → q.0 < count → q.0 ≡ pid
killed_none count pid op none q is there =
    let here : killed_among count pid (Kill q) ≡ None = ap (killed_among count pid) (sym is) ∙ none in
    same_number q.0 pid (spared_one (nat_lt q.0 count) (not (q.0 == pid)) q.0 here (grind (arith, nat_tests)))

-- an operation that kills no other process that is there ends none
module _ (basis : Basis) (ss : List SharedRecord) (k : HoldingsValue) (b : BookRecord) (op : Op) (g : Guest) (guest : GuestServes basis b.journal.table g) (count : ℕ) (all : count ≡ process_count basis.trace) (pid : Pid) (named : g.cell.pid.0 ≡ pid.0)
    (none : killed_among count pid.0 op ≡ None) where
  target_known : (q : Pid) → op ≡ Kill q → in_range basis.trace op ≡ true → q.0 < process_count basis.trace
  unfolding in_range
  target_known q is ranged = below q.0 (process_count basis.trace) (sym (ap (in_range basis.trace) is) ∙ ranged)

  ends_none : (why : HostError) → EndsAnother basis g b op why → ⊥
  ends_none why e =
      let by = ends_by basis.trace (book_shown_by b.value) g.cell.pid.0 e.target (idle_part g.cell.value) op e.touches in
      let known = target_known e.target by.0 e.in_range in
      let same : e.target.0 ≡ pid.0 = killed_none count pid.0 op none e.target by.0 (subst (λ n. e.target.0 < n) (sym all) known) in
      let above = (and_parts (is_above basis.trace g.cell.pid.0 e.target.0) (not ((book_shown_by b.value).ended e.target.0)) by.1).0 in
      above_another basis.trace guest.rules.limits g.cell.pid.0 e.target.0 known above (named ∙ sym same)

  pub spared_in : (gs : List Guest) {T : Type 0} (r : Result T HostError) → IfErr r (λ why. CanNotOperateAlone basis k ss b op g why) → IfErr r (CanNotOperateIn (host_of basis gs k ss b) op g)
  spared_in gs (Ok x) why = tt
  spared_in gs (Err error) (inl why) = inl why
  spared_in gs (Err error) (inr ends) = absurd (ends_none error ends)

-- what is done in one way is done in one of two
pub either : {A E : Type 0} (P Q : A → Type 0) (r : Result A E) → IfOk r P → IfOk r (λ x. P x ⊎ Q x)
either P Q (Ok x) done = inl done
either P Q (Err why) done = tt

pub two_there : (gs : List Guest) (at target : ℕ) → at < length gs → target < length gs → target ≢ at → (g : Guest) × (t : Guest) × AreTwoAt gs at target g t
two_there gs at target own other two =
    let g = get_there gs at own in
    let t = get_there gs target other in
    (g.0, t.0, record { own = g.1; other = t.1; two = two })

-- what a kill of two processes leaves, by the places where they were found
pub among : (basis : Basis) (op : Op) (at target : ℕ) (gs new : List Guest) (k x : HoldingsValue) (b l : BookRecord) (r : Result Event HostError) (first second own other : Guest) →
    slice_get gs at ≡ Some first → slice_get gs target ≡ Some second → new ≡ slice_set (slice_set gs at own) target other → IfOk r (λ event. HasTriedToKill basis op first own second other k x b l event) →
    IfErr r (λ why. (own ≡ first) × (other ≡ second) × (x ≡ k) × (l ≡ b)) → IfErr r (λ why. CanNotKill basis k b op second first why) →
    (g t : Guest) → AreTwoAt gs at target g t → HasKilledAmong basis op at target g t gs new k x b l r
among basis op at target gs new k x b l r first second own other here there is done same why g t places =
    let g_is : first ≡ g = some_same (sym here ∙ places.own) in
    let t_is : second ≡ t = some_same (sym there ∙ places.other) in
    record {
      own = own;
      other = other;
      guests_is = is;
      done = subst (λ (y : Guest). IfOk r (λ event. HasTriedToKill basis op y own t other k x b l event)) g_is (subst (λ (y : Guest). IfOk r (λ event. HasTriedToKill basis op first own y other k x b l event)) t_is done);
      same = subst (λ (y : Guest). IfErr r (λ e. (own ≡ y) × (other ≡ t) × (x ≡ k) × (l ≡ b))) g_is (subst (λ (y : Guest). IfErr r (λ e. (own ≡ first) × (other ≡ y) × (x ≡ k) × (l ≡ b))) t_is same);
      why = subst (λ (y : Guest). IfErr r (λ e. CanNotKill basis k b op t y e)) g_is (subst (λ (y : Guest). IfErr r (λ e. CanNotKill basis k b op y first e)) t_is why);
    }
  where
    some_same : {y z : Guest} → Some y ≡ Some z → y ≡ z
    some_same e = cc e

-- two processes with the kernel and the book, which serve still
record StillServe (basis : Basis) (g own t other : Guest) (x : HoldingsValue) (b l : BookRecord) : Type 0 where
  guest : GuestServes basis l.journal.table own
  pid : own.cell.pid ≡ g.cell.pid
  target : GuestServes basis l.journal.table other
  target_pid : other.cell.pid ≡ t.cell.pid
  kernel : KernelServes basis l.journal.table x
  book : BookServes basis l
  same_table : l.journal.table ≡ b.journal.table
  few : HasTailRoom basis g → HasTailRoom basis own
  target_few : HasTailRoom basis t → HasTailRoom basis other

module _ (basis : Basis) (gs : List Guest) (k : HoldingsValue) (ss : List SharedRecord) (b : BookRecord) (serves : HostServes (host_of basis gs k ss b)) (op : Op) (at target : ℕ) (g t : Guest) (places : AreTwoAt gs at target g t) where
  guest_there : GuestServes basis b.journal.table g
  guest_there = serves.all.each at g places.own

  target_there : GuestServes basis b.journal.table t
  target_there = serves.all.each target t places.other

  nothing_changed : (own other : Guest) (x : HoldingsValue) (l : BookRecord) → own ≡ g → other ≡ t → x ≡ k → l ≡ b → StillServe basis g own t other x b l
  nothing_changed own other x l own_is other_is kernel_is book_is = record {
    guest = subst (λ (m : BookRecord). GuestServes basis m.journal.table own) (sym book_is) (subst (GuestServes basis b.journal.table) (sym own_is) guest_there);
    pid = ap (λ (y : Guest). y.cell.pid) own_is;
    target = subst (λ (m : BookRecord). GuestServes basis m.journal.table other) (sym book_is) (subst (GuestServes basis b.journal.table) (sym other_is) target_there);
    target_pid = ap (λ (y : Guest). y.cell.pid) other_is;
    kernel = subst (λ (m : BookRecord). KernelServes basis m.journal.table x) (sym book_is) (subst (KernelServes basis b.journal.table) (sym kernel_is) serves.rest.kernel);
    book = subst (BookServes basis) (sym book_is) serves.rest.book;
    same_table = ap (λ (m : BookRecord). m.journal.table) book_is;
    few = subst (HasTailRoom basis) (sym own_is);
    target_few = subst (HasTailRoom basis) (sym other_is);
  }

  nobody_ended : (own other : Guest) (x : HoldingsValue) (l : BookRecord) (event : Event) → HasEndedNobody basis op g own t other k x b l event → StillServe basis g own t other x b l
  nobody_ended own other x l event d = record {
    guest = d.alone.guest;
    pid = d.alone.pid;
    target = subst (λ tie. GuestServes basis tie other) (sym d.alone.same_table) (subst (GuestServes basis b.journal.table) (sym d.target_is) target_there);
    target_pid = ap (λ (y : Guest). y.cell.pid) d.target_is;
    kernel = subst (λ tie. KernelServes basis tie x) (sym d.alone.same_table) (subst (KernelServes basis b.journal.table) (sym d.kernel_is) serves.rest.kernel);
    book = d.alone.book;
    same_table = d.alone.same_table;
    few = none_unpublished basis g own d.alone.settled;
    target_few = subst (HasTailRoom basis) (sym d.target_is);
  }

  target_ended : (own other : Guest) (x : HoldingsValue) (l : BookRecord) (event : Event) → HasKilledNow basis op g own t other x b l event → StillServe basis g own t other x b l
  target_ended own other x l event d = record {
    guest = d.keeps.guest;
    pid = d.keeps.pid;
    target = d.target.guest;
    target_pid = d.target.pid;
    kernel = d.kernel;
    book = d.keeps.book;
    same_table = d.keeps.same_table;
    few = none_unpublished basis g own d.settled;
    target_few = none_unpublished basis t other d.target_settled;
  }

  still : (own other : Guest) (x : HoldingsValue) (l : BookRecord) (r : Result Event HostError) → IfOk r (λ event. HasTriedToKill basis op g own t other k x b l event) →
      IfErr r (λ why. (own ≡ g) × (other ≡ t) × (x ≡ k) × (l ≡ b)) → StillServe basis g own t other x b l
  still own other x l (Ok event) (inl d) same = nobody_ended own other x l event d
  still own other x l (Ok event) (inr d) same = target_ended own other x l event d
  still own other x l (Err why) done same = nothing_changed own other x l same.0 same.1 same.2 same.3

  target_after : (own : Guest) → slice_get (slice_set gs at own) target ≡ Some t
  target_after own = slice_get-set_other gs at target own places.two ∙ places.other

  two_set : (own other : Guest) (x : HoldingsValue) (l : BookRecord) → StillServe basis g own t other x b l → HostServes (host_of basis (slice_set (slice_set gs at own) target other) x ss l)
  two_set own other x l s = record {
    all = guests_set basis l.journal.table l.journal.table refl (slice_set gs at own) target t other (guests_set basis b.journal.table l.journal.table s.same_table gs at g own serves.all places.own s.guest s.pid)
        (target_after own) s.target s.target_pid;
    rest = record { kernel = s.kernel; heaps = heaps_stay basis b.journal.table l.journal.table s.same_table ss serves.rest.heaps; book = s.book };
    few = few_set basis (slice_set gs at own) target other (few_set basis gs at own serves.few (s.few (serves.few at g places.own))) (s.target_few (serves.few target t places.other));
  }

  -- whatever it answers, the host serves still
  pub kill_kept : (new : List Guest) (x : HoldingsValue) (l : BookRecord) (r : Result Event HostError) → HasKilledAmong basis op at target g t gs new k x b l r → HostServes (host_of basis new x ss l)
  kill_kept new x l r h =
      subst (λ (xs : List Guest). HostServes (host_of basis xs x ss l)) (sym h.guests_is) (two_set h.own h.other x l (still h.own h.other x l r h.done h.same))

  module _ (pid : Pid) (same : at ≡ pid.0) (asks : op ≡ Kill (pid_of target)) where
    here : slice_get gs pid.0 ≡ Some g
    here = ap (slice_get gs) (sym same) ∙ places.own

    named : g.cell.pid ≡ pid
    named = ap pid_of (serves.all.placed at g places.own ∙ same)

    target_named : t.cell.pid ≡ pid_of target
    target_named = ap pid_of (serves.all.placed target t places.other)

    outside : is_local_in (idle_part g.cell.value) g.cell.pid.0 op ≡ false
    unfolding is_local_in
    outside = ap (is_local_in (idle_part g.cell.value) g.cell.pid.0) asks

    all_left : g.bodies ≡ g.bodies - 0
    all_left = omega arith

    -- a kill takes no body of the supply
    none_taken : g.bodies ≡ left_after basis op g.bodies
    none_taken = all_left ∙ ap (λ (o : Op). left_after basis o g.bodies) (sym asks)

    spared_operated : (own other : Guest) (x : HoldingsValue) (l : BookRecord) (event : Event) → HasEndedNobody basis op g own t other k x b l event → HasOperated basis op g own k x ss ss b l event
    spared_operated own other x l event d = record {
      can = record {
        guest = d.alone.guest;
        rest = record {
          kernel = subst (λ tie. KernelServes basis tie x) (sym d.alone.same_table) (subst (KernelServes basis b.journal.table) (sym d.kernel_is) serves.rest.kernel);
          heaps = heaps_stay basis b.journal.table l.journal.table d.alone.same_table ss serves.rest.heaps;
          book = d.alone.book;
        };
      };
      same_table = d.alone.same_table;
      pid = d.alone.pid;
      said = d.alone.said;
      event_is = d.alone.event_is;
      done = inr (inr (record {
        outside = outside;
        appended = d.alone.appended;
        settled = d.alone.settled;
        idle = d.alone.idle;
        bodies = d.alone.bodies ∙ none_taken;
        others = inl (record { touches = d.touches; kernel_is = d.kernel_is; shared_is = refl });
      }));
    }

    operated : (own other : Guest) (x : HoldingsValue) (l : BookRecord) (event : Event) → HasTriedToKill basis op g own t other k x b l event →
        HasOperatedIn (host_of basis gs k ss b) (host_of basis (slice_set (slice_set gs at own) target other) x ss l) pid op event
    operated own other x l event (inl d) = inl (record {
      before = g;
      after = own;
      there = here;
      named = named;
      host_is =
          ap (λ (xs : List Guest). host_of basis xs x ss l)
          (ap (slice_set (slice_set gs at own) target) d.target_is ∙ set_there (slice_set gs at own) target t (target_after own) ∙ ap (λ n. slice_set gs n own) same);
      way = spared_operated own other x l event d;
    })
    operated own other x l event (inr d) = inr (record {
      target = pid_of target;
      before = g;
      after = own;
      target_before = t;
      target_after = other;
      there = here;
      named = named;
      target_there = places.other;
      target_named = target_named;
      two = λ e. places.two (e ∙ sym same);
      asks = asks;
      host_is = ap (λ n. host_of basis (slice_set (slice_set gs n own) target other) x ss l) same;
      way = d;
    })

    if_done : (own other : Guest) (x : HoldingsValue) (l : BookRecord) (r : Result Event HostError) → IfOk r (λ event. HasTriedToKill basis op g own t other k x b l event) →
        IfOk r (λ event. HasOperatedIn (host_of basis gs k ss b) (host_of basis (slice_set (slice_set gs at own) target other) x ss l) pid op event)
    if_done own other x l (Ok event) done = operated own other x l event done
    if_done own other x l (Err why) done = tt

    pub kill_done : (new : List Guest) (x : HoldingsValue) (l : BookRecord) (r : Result Event HostError) → HasKilledAmong basis op at target g t gs new k x b l r →
        IfOk r (λ event. HasOperatedIn (host_of basis gs k ss b) (host_of basis new x ss l) pid op event)
    kill_done new x l r h =
        subst (λ (xs : List Guest). IfOk r (λ event. HasOperatedIn (host_of basis gs k ss b) (host_of basis xs x ss l) pid op event)) (sym h.guests_is) (if_done h.own h.other x l r h.done)

    left_same : (own other : Guest) (x : HoldingsValue) (l : BookRecord) (r : Result Event HostError) → IfErr r (λ why. (own ≡ g) × (other ≡ t) × (x ≡ k) × (l ≡ b)) →
        OnErr r (host_of basis (slice_set (slice_set gs at own) target other) x ss l ≡ host_of basis gs k ss b)
    left_same own other x l (Ok event) left = tt
    left_same own other x l (Err why) left =
        ap (λ (y : Guest). host_of basis (slice_set (slice_set gs at y) target other) x ss l) left.0
        ∙ ap (λ (y : Guest). host_of basis (slice_set (slice_set gs at g) target y) x ss l) left.1
        ∙ ap (λ (xs : List Guest). host_of basis xs x ss l) (set_there (slice_set gs at g) target t (target_after g) ∙ set_there gs at g places.own)
        ∙ ap (λ (y : HoldingsValue). host_of basis gs y ss l) left.2
        ∙ ap (host_of basis gs k ss) left.3

    pub kill_same : (new : List Guest) (x : HoldingsValue) (l : BookRecord) (r : Result Event HostError) → HasKilledAmong basis op at target g t gs new k x b l r →
        OnErr r (host_of basis new x ss l ≡ host_of basis gs k ss b)
    kill_same new x l r h = subst (λ (xs : List Guest). OnErr r (host_of basis xs x ss l ≡ host_of basis gs k ss b)) (sym h.guests_is) (left_same h.own h.other x l r h.same)

    if_refused : (r : Result Event HostError) → IfErr r (λ why. CanNotKill basis k b op t g why) → IfErr r (CanNotOperateIn (host_of basis gs k ss b) op g)
    if_refused (Ok event) why = tt
    if_refused (Err error) (inl unready) = inl (inl unready)
    if_refused (Err error) (inr (inl full)) = inl (inr (inl full))
    if_refused (Err error) (inr (inr barred)) = inr (record { target = pid_of target; victim = t; there = places.other; named = target_named; barred = barred })

    pub kill_refused : (new : List Guest) (x : HoldingsValue) (l : BookRecord) (r : Result Event HostError) → HasKilledAmong basis op at target g t gs new k x b l r →
        IfErr r (λ why. MayRefuse (host_of basis gs k ss b) pid (CanNotOperateIn (host_of basis gs k ss b) op) why)
    kill_refused new x l r h = refused (host_of basis gs k ss b) pid g (CanNotOperateIn (host_of basis gs k ss b) op) r here (if_refused r h.why)
