-- What the locks keep they keep over each step.
use Rattle.std.proofs.Common.{◌≡◌, ℕ, zero, suc, ◌+◌, ◌≤◌, true, false, cond, refl, sym, ap, ap₂, ◌∙◌, subst, List, [], ◌∷◌, ◌++◌, append-nil, append_assoc, length, drop, arith, eq-eqb, IsFalse, Some, inl, inr}
use Rattle.std.proofs.lemmas.Bool.{cases_Bool, false≢true}
use Rattle.std.proofs.lemmas.List.{length-append}
use Rattle.atomic_table.specs.Seated.{TableId}
use Rattle.k_types.specs.declared.event.Event.{Event}
use Rattle.k_types.specs.declared.event.Event.TheVariants.{Done}
use Rattle.k_types.specs.declared.names.Heap.TheVariants.{Kernel, Shared, User}
use Rattle.k_types.specs.declared.op.Op.{Op}
use Rattle.k_types.specs.declared.op.Op.TheVariants.{New}
use Rattle.k_types.specs.Cells.{ShownPart, part}
use Rattle.k_types.specs.Following.{FollowsOwn, FollowsTrace}
use Rattle.k_types.specs.Owners.{is_absorbed, owner_of, phase_of, shared}
use Rattle.k_types.specs.Steps.{done_by, state_after}
use Rattle.k_types.specs.Trace.{Trace, operations_of, process_count, segment_count, segment_of}
use Rattle.k_laws.proofs.ByProcess.{follows_own}
use Rattle.k_laws.proofs.Dones.{done_count}
use Rattle.k_laws.specs.PartUpdates.{done_in}
use Rattle.k_laws.proofs.Histories.{done_append}
use Rattle.k_laws.proofs.OwnerOf.{owner_shared, segment_of_shared}
use Rattle.k_laws.proofs.Owning.{stays_kernel}
use Rattle.k_commit.specs.k_agree.Rooms.{IsNext, event_room, exit_room}
use Rattle.k_commit.proofs.AtTheEnd.{maxima_counted}
use Rattle.k_commit.proofs.WithinRooms.{follows_after}
use Rattle.k_process.specs.Bodies.{bodies_of}
use Rattle.k_commit.specs.Books.{BookRecord, pin_room_of}
use Rattle.k_commit.specs.Holdings.{HoldingsValue}
use Rattle.k_commit.specs.Heaps.{HeapRecord, has_ended_in}
use Rattle.k_commit.specs.SharedHeaps.{SharedRecord}
use Rattle.k_commit.specs.Changed.{bodies_after}
use Rattle.k_commit.specs.Beside.{HasSteppedWithKernel, HasSteppedWithShared, StandsMet}
use Rattle.k_commit.specs.Others.{held_by, noted_of, of_kernel, of_shared, shared_by}
use Rattle.k_commit.specs.Stepped.{HasStepped}
use Rattle.k_process.specs.Rooms.{shared_exit_room}
use Rattle.k_process.specs.Keeping.{BookKeeps, CanGive, HasHeapRooms, HeapKeeps, KernelKeeps, SharedKeeps, is_absorbed_in, operations_left}
use Rattle.k_process.proofs.CanDo.{done_of}

-- each operation takes the body of its own allocation
bodies_taken : (types : List (List Rattle.k_types.specs.declared.names.Field.Field)) (op : Op) (rest : List Op) → bodies_after op (bodies_of types (op ∷ rest)) ≡ bodies_of types rest
bodies_taken types (New r ty) rest = refl
bodies_taken types _ rest = refl

-- nothing is dropped
pub drop_none : {A : Type 0} (xs : List A) → drop 0 xs ≡ xs
drop_none [] = refl
drop_none (x ∷ xs) = refl

-- the operations after the first of those that are left
pub drop_more : {A : Type 0} (n : ℕ) (xs : List A) (x : A) (rest : List A) → drop n xs ≡ x ∷ rest → drop (n + 1) xs ≡ rest
drop_more zero [] x rest is = absurd cc
drop_more zero (y ∷ xs) x rest is = let e : xs ≡ rest = cc in drop_none xs ∙ e
drop_more (suc n) [] x rest is = absurd cc
drop_more (suc n) (y ∷ xs) x rest is = let e : suc n + 1 ≡ suc (n + 1) = omega arith in ap (λ k. drop k (y ∷ xs)) e ∙ drop_more n xs x rest is

-- what is left once the first part is dropped
dropped : {A : Type 0} (xs ys : List A) → drop (length xs) (xs ++ ys) ≡ ys
dropped [] ys = drop_none ys
dropped (x ∷ xs) ys = dropped xs ys

module _ (trace : Trace) (table : TableId) (c w : HeapRecord) (b l : BookRecord) (op : Op) (rest : List Op) (event : Event) (h : HeapKeeps trace table c) (k : BookKeeps trace table b)
    (left : operations_left trace c ≡ op ∷ rest) (lives : IsFalse (has_ended_in c.value.process)) (s : HasStepped trace op c w b l event) where
  -- the step counts one operation more than the journal had of the process, so that it was the next one by the journal too
  done_before : length (done_by c.pid.0 b.journal.list) ≡ done_in c.value.process
  done_before =
      let after = done_of trace (User w.pid) w.note w.value s.agrees c.pid (ap (λ (x : HeapRecord). User x.pid) s.cell_is) in
      let count = done_count trace c.pid.0 (w.note.list ++ w.value.tail) s.agrees.legal in
      let list : w.note.list ++ w.value.tail ≡ b.journal.list ++ Done c.pid op s.said ∷ [] =
      ap₂ (λ xs ys. xs ++ ys) s.met.list s.settled ∙ append-nil l.journal.list ∙ s.journal ∙ ap (λ e. b.journal.list ++ e ∷ []) s.event_is in
      let more : done_by c.pid.0 (w.note.list ++ w.value.tail) ≡ done_by c.pid.0 b.journal.list ++ op ∷ [] =
      ap (done_by c.pid.0) list ∙ done_append c.pid.0 b.journal.list (Done c.pid op s.said ∷ []) ∙ ap (λ t. done_by c.pid.0 b.journal.list ++ cond t (op ∷ []) []) (eq-eqb c.pid.0 c.pid.0 refl) in
      let same = ap length more in
      let one = length-append (done_by c.pid.0 b.journal.list) (op ∷ []) in
      omega (arith, after, count, same, one, s.done)

  next : IsNext trace c.pid.0 b.journal.list op
  next =
      let front = k.follows.operations c.pid.0 h.agrees.there in
      let behind : front.0 ≡ op ∷ rest =
      sym (dropped (done_by c.pid.0 b.journal.list) front.0) ∙ ap (drop (length (done_by c.pid.0 b.journal.list))) front.1
      ∙ ap (λ n. drop n (operations_of trace c.pid.0)) done_before ∙ left in
      (rest, sym front.1 ∙ ap (λ r. done_by c.pid.0 b.journal.list ++ r) behind)

  follows_now : FollowsTrace trace l.journal.list
  follows_now =
      subst (FollowsTrace trace) (sym s.journal)
      (subst (λ e. FollowsTrace trace (b.journal.list ++ e ∷ [])) (sym s.event_is) (follows_after trace b.journal.list (Done c.pid op s.said) k.follows next refl))

  pub own_pid : w.pid ≡ c.pid
  own_pid = ap (λ (x : HeapRecord). x.pid) s.cell_is

  pub book_keeps : BookKeeps trace table l
  book_keeps = record {
    stands = record {
      keeps = k.stands.keeps;
      of_trace = record {
        rows = ap (λ (x : BookRecord). x.rows) s.book_is ∙ k.stands.of_trace.rows;
        procs = ap (λ (x : BookRecord). x.procs) s.book_is ∙ k.stands.of_trace.procs;
        ceiling = ap (λ (x : BookRecord). x.ceiling) s.book_is ∙ k.stands.of_trace.ceiling;
        maxima = maxima_counted trace l.journal l.value s.book_agrees;
      };
      agrees = s.book_agrees;
      pins = subst (λ n. pin_room_of (process_count trace) ≤ n) (sym (ap (λ (x : BookRecord). x.pin_room) s.book_is)) k.stands.pins;
    };
    table = s.same_table ∙ k.table;
    follows = follows_now;
    events = subst (λ n. event_room trace ≤ n) (sym (ap (λ (x : BookRecord). x.event_room) s.book_is)) k.events;
    kept = subst (λ n. event_room trace ≤ n) (sym (ap (λ (x : BookRecord). x.kept) s.book_is)) k.kept;
    entries = subst (λ n. exit_room trace ≤ n) (sym (ap (λ (x : BookRecord). x.entry_room) s.book_is)) k.entries;
  }

  own_follows : FollowsOwn trace w.pid.0 (w.note.list ++ w.value.tail)
  own_follows =
      subst (FollowsOwn trace w.pid.0) (sym (ap₂ (λ xs ys. xs ++ ys) s.met.list s.settled ∙ append-nil l.journal.list))
      (follows_own trace w.pid.0 l.journal.list s.book_agrees.legal (follows_now.operations w.pid.0 s.agrees.there))

  pub left_now : operations_left trace w ≡ rest
  left_now = ap₂ (λ n (p : Rattle.k_types.specs.declared.names.Pid.Pid). drop n (operations_of trace p.0)) s.done own_pid ∙ drop_more (done_in c.value.process) (operations_of trace c.pid.0) op rest left

  rooms_now : HasHeapRooms trace w
  rooms_now = subst (HasHeapRooms trace) (sym s.cell_is) (record { exits = h.rooms.exits; serials = λ _. h.rooms.serials lives; tail = h.rooms.tail })

  pub heap_keeps : HeapKeeps trace table w
  heap_keeps = record {
    rules = h.rules;
    agrees = s.agrees;
    table = s.table ∙ s.same_table ∙ k.table;
    idle = s.idle;
    follows = own_follows;
    bodies =
        ap (λ (x : HeapRecord). x.bodies) s.cell_is
        ∙ ap (bodies_after op) (h.bodies ∙ ap (bodies_of trace.types) left)
        ∙ bodies_taken trace.types op rest
        ∙ ap (bodies_of trace.types) (sym left_now);
    rooms = rooms_now;
  }

module _ (trace : Trace) (table : TableId) (c w : HeapRecord) (k x : HoldingsValue) (b l : BookRecord) (op : Op) (event : Event) (kk : KernelKeeps trace table k) (bk : BookKeeps trace table b)
    (s : HasSteppedWithKernel trace op c w k x b l event) where
  kernel_is : x ≡ record k { note = x.note; value = x.value }
  kernel_is = ap held_by s.other_is

  kernel_stands : StandsMet trace l (noted_of (of_kernel x))
  kernel_stands = s.beside.others.0

  pub kernel_keeps : KernelKeeps trace table x
  kernel_keeps = record {
    rules = kk.rules;
    agrees = kernel_stands.stands.agrees;
    table = kernel_stands.stands.table ∙ s.beside.own.same_table ∙ bk.table;
    idle = kernel_stands.stands.idle;
    exits = subst (λ (y : HoldingsValue). exit_room trace ≤ y.exit_room) (sym kernel_is) kk.exits;
    serials = subst (λ (y : HoldingsValue). CanGive trace y.serial_rooms 0) (sym kernel_is) kk.serials;
    numbers = subst (λ (y : HoldingsValue). segment_count trace ≤ y.bound) (sym kernel_is) kk.numbers;
  }

-- an absorbed heap is absorbed after whatever follows
pub absorbed_stays : (trace : Trace) (known rest : List Event) (t : ℕ) → is_absorbed (phase_of (state_after trace known).phases t) ≡ true → is_absorbed (phase_of (state_after trace (known ++ rest)).phases t) ≡ true
absorbed_stays trace known rest t gone =
    let before : owner_of trace (state_after trace known) (1 + process_count trace + t) ≡ Kernel
    = segment_of_shared (process_count trace) (state_after trace known).ended (state_after trace known).phases t ∙ ap (λ b. cond b Kernel (shared t)) gone in
    let after = stays_kernel trace known rest (1 + process_count trace + t) before in
    elim (cases_Bool (is_absorbed (phase_of (state_after trace (known ++ rest)).phases t))) [
      | inl still ↦ still
      | inr stands ↦ absurd (cc (sym (owner_shared trace (state_after trace (known ++ rest)) t stands), after))
    ]

module _ (trace : Trace) (table : TableId) (c w : HeapRecord) (s x : SharedRecord) (b l : BookRecord) (op : Op) (event : Event) (sk : SharedKeeps trace table s) (bk : BookKeeps trace table b)
    (st : HasSteppedWithShared trace op c w s x b l event) where
  shared_is : x ≡ record s { note = x.note; value = x.value }
  shared_is = ap shared_by st.other_is

  shared_stands : StandsMet trace l (noted_of (of_shared x))
  shared_stands = st.beside.others.0

  same_id : x.id ≡ s.id
  same_id = ap (λ (y : SharedRecord). y.id) shared_is

  phase_now : x.value.phase ≡ Some (phase_of (state_after trace l.journal.list).phases x.id.0)
  unfolding part
  phase_now =
      ap (λ (y : ShownPart). y.phase) shared_stands.stands.agrees.shows.part
      ∙ ap (λ list. Some (phase_of (state_after trace list).phases x.id.0)) (ap₂ (λ xs ys. xs ++ ys) shared_stands.met.list shared_stands.stands.agrees.tail ∙ append-nil l.journal.list)

  phase_before : s.value.phase ≡ Some (phase_of (state_after trace s.note.list).phases s.id.0)
  unfolding part
  phase_before =
      ap (λ (y : ShownPart). y.phase) sk.agrees.shows.part
      ∙ ap (λ list. Some (phase_of (state_after trace list).phases s.id.0)) (ap (λ ys. s.note.list ++ ys) sk.agrees.tail ∙ append-nil s.note.list)

  longer : s.note.list ++ (st.fits.prefix.0 ++ event ∷ []) ≡ l.journal.list
  longer = sym (append_assoc s.note.list st.fits.prefix.0 (event ∷ [])) ∙ ap (λ ys. ys ++ event ∷ []) st.fits.prefix.1 ∙ sym st.beside.own.journal

  stood : is_absorbed_in x.value.phase ≡ false → is_absorbed_in s.value.phase ≡ false
  stood now =
      let after : is_absorbed (phase_of (state_after trace l.journal.list).phases s.id.0) ≡ false =
      ap (λ (i : Rattle.k_types.specs.declared.names.SharedId.SharedId). is_absorbed (phase_of (state_after trace l.journal.list).phases i.0)) (sym same_id) ∙ sym (ap is_absorbed_in phase_now) ∙ now in
      elim (cases_Bool (is_absorbed (phase_of (state_after trace s.note.list).phases s.id.0))) [
        | inl gone ↦ absurd (false≢true (sym after ∙ ap (λ list. is_absorbed (phase_of (state_after trace list).phases s.id.0)) (sym longer) ∙ absorbed_stays trace s.note.list (st.fits.prefix.0 ++ event ∷ []) s.id.0 gone))
        | inr stands ↦ ap is_absorbed_in phase_before ∙ stands
      ]

  pub shared_keeps : SharedKeeps trace table x
  shared_keeps = record {
    rules = sk.rules;
    agrees = shared_stands.stands.agrees;
    table = shared_stands.stands.table ∙ st.beside.own.same_table ∙ bk.table;
    segment = ap (λ (y : SharedRecord). y.seg.0) shared_is ∙ sk.segment ∙ ap (λ (i : Rattle.k_types.specs.declared.names.SharedId.SharedId). segment_of trace (Shared i)) (sym same_id);
    idle = shared_stands.stands.idle;
    exits = subst (λ (y : SharedRecord). shared_exit_room trace y.id.0 ≤ y.exit_room) (sym shared_is) sk.exits;
    serials = λ now. subst (λ (y : SharedRecord). CanGive trace y.serial_rooms y.seg.0) (sym shared_is) (sk.serials (stood now));
  }
