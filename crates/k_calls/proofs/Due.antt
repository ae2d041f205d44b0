-- An operation that is due can be done with the cells that it touches, once the process has published, and all serves afterwards.
use Rattle.std.proofs.Common.{◌≡◌, ℕ, ◌+◌, ◌*◌, ◌<◌, ◌≤◌, refl, sym, ap, ap₂, ◌∙◌, subst, List, [], ◌∷◌, ◌++◌, append_assoc, append-nil, inl, inr, length, arith, IsFalse, IsTrue}
use Rattle.std.proofs.lemmas.Bool.{cases_Bool, false≢true}
use Rattle.std.proofs.lemmas.List.{length-append}
use Rattle.k_types.specs.declared.event.Event.{Event}
use Rattle.k_types.specs.declared.event.Event.TheVariants.{Done}
use Rattle.k_types.specs.declared.names.Heap.TheVariants.{Kernel, Shared, User}
use Rattle.k_types.specs.declared.names.Pid.{Pid}
use Rattle.k_types.specs.declared.op.Op.{Op}
use Rattle.std.specs.List.{list_any}
use Rattle.k_types.specs.declared.event.Reply.{Reply}
use Rattle.k_types.specs.declared.names.SharedId.{SharedId}
use Rattle.k_types.specs.Agree.{BookValue, book_shown_by}
use Rattle.k_types.specs.Cells.{BookPart, Cell, CellPart, cells_touched, part}
use Rattle.k_types.specs.Effects.{step}
use Rattle.k_types.specs.Names.{heap_eq}
use Rattle.k_types.specs.Steps.{IsLegalHistory, IsPossible, state_after}
use Rattle.k_types.specs.Trace.{process_count}
use Rattle.k_types.specs.Distinct.{AreDistinctNames}
use Rattle.k_laws.specs.Counts.{is_allocation, is_store}
use Rattle.k_laws.specs.Locals.{is_local_in}
use Rattle.k_laws.specs.Touches.{other_cells_in}
use Rattle.k_laws.proofs.SquaresLaws.{touched_cells_are_told}
use Rattle.k_laws.proofs.Histories.{state_next}
use Rattle.k_agree.proofs.Idle.{part_shown}
use Rattle.k_shares.specs.Sharers.{living_of}
use Rattle.k_agree.specs.Shown.{idle_part}
use Rattle.k_agree.specs.Agreement.{Shows}
use Rattle.k_agree.specs.Meeting.{Fits}
use Rattle.k_agree.proofs.Meetings.{meeting}
use Rattle.k_book.specs.Books.{BookRecord}
use Rattle.k_cell.specs.Holdings.{HoldingsValue}
use Rattle.k_heap.specs.Heaps.{HeapRecord, holdings_of as heap_holdings, own_segment}
use Rattle.k_shared.specs.SharedHeaps.{SharedRecord}
use Rattle.k_space.specs.Objects.{BodyValue}
use Rattle.k_operate.specs.k_commit.Beside.{HasSteppedWithKernel, HasSteppedWithShared}
use Rattle.k_operate.specs.k_commit.Changed.{bodies_after}
use Rattle.k_operate.specs.k_commit.Others.{held_by, of_shared, shared_by}
use Rattle.k_operate.specs.k_commit.Published.{CanPublish, HasPublished}
use Rattle.k_operate.specs.k_commit.Rooms.{HasRoomFor}
use Rattle.k_operate.specs.k_commit.Standing.{HeapStands}
use Rattle.k_operate.specs.k_commit.Stepped.{HasStepped}
use Rattle.k_operate.specs.Own.{CanStepOwn}
use Rattle.k_operate.specs.Operating.{CanStepWithKernel, CanStepWithShared}
use Rattle.k_guests.specs.declared.guest.Guest.{Guest}
use Rattle.k_calls.specs.Adding.{HasCountLeft, HasOwnRoom, HasSharedRoom}
use Rattle.k_calls.specs.Doing.{HasDoneAlone, HasDoneWithKernel, HasDoneWithShared, HasPublishedAll, IsDueWith, IsKernelReady, bodies_for}
use Rattle.k_guests.specs.Serving.{Basis, BookServes, GuestServes, GuestServesWith, HasFewObjectsIn, HasReserveAt, KernelServes, SharedServes}
use Rattle.k_guests.specs.Reserve.{kept_for}
use Rattle.k_guests.proofs.Reserve.{published_kept}
use Rattle.k_guests.proofs.ReserveShown.{kernel_shown}
use Rattle.k_calls.proofs.Going.{book_goes_on, guest_goes_on, kernel_goes_on, shared_goes_on, stands_where_made}
use Rattle.k_calls.proofs.Reserved.{operation_kept}
use Rattle.k_book.specs.Objects.{made_by, objects_after}
use Rattle.k_book.proofs.Counted.{made_low}
use Rattle.k_guests.proofs.Objects.{appended_counts, makes_none, objects_are_told, published_counts}
use Rattle.k_calls.proofs.TestedRooms.{bodies_left, event_left, kernel_counted, kernel_item, kernel_tables, own_counted, own_tables, shared_counted, shared_tables}

-- publishing
module _ (basis : Basis) {bodies : List BodyValue} (g : Guest) (b : BookRecord) (guest : GuestServesWith basis b.journal.table bodies g) (book : BookServes basis b) where
  pub can_publish : length b.journal.list + length g.cell.value.tail ≤ basis.rooms.events → CanPublish basis.trace g.cell b
  can_publish room = record {
    agrees = guest.agrees;
    book_agrees = book.stands.agrees;
    table = guest.table;
    room = λ fits. let all = book.events in omega (arith, room, all);
  }

  module _ (w : HeapRecord) (l : BookRecord) (s : HasPublished basis.trace g.cell.value.tail g.cell w b l) where
    pub guest_published : GuestServesWith basis l.journal.table bodies (record g { cell = w })
    guest_published =
        guest_goes_on basis b.journal.table l.journal.table g w g.bodies guest
        (s.cell_is ∙ ap (λ (x : HeapRecord). record g.cell { note = w.note; value = x.value; bodies = x.bodies }) (sym s.cell_is))
        s.agrees s.table (ap (λ (x : HeapRecord). x.bodies) s.cell_is ∙ guest.stock)
        (λ lives. subst (λ (x : HeapRecord). IsFalse (Rattle.k_heap.specs.Heaps.has_ended_in x.value.process)) s.cell_is lives)

    -- what is published makes and frees nothing
    pub published_same : objects_after basis.trace l.journal.list ≡ objects_after basis.trace b.journal.list
    published_same =
        ap (objects_after basis.trace) s.journal
        ∙ published_counts basis.trace b.journal.list g.cell.pid g.cell.note g.cell.value guest.agrees (subst (IsLegalHistory basis.trace) s.journal s.book_agrees.legal)

    few_published : HasFewObjectsIn basis l
    few_published = let same = published_same in let few = book.few in omega (arith, same, few)

    pub book_published : BookServes basis l
    book_published =
        book_goes_on basis b l book (s.book_is ∙ ap (λ (x : BookRecord). record b { journal = l.journal; value = x.value }) (sym s.book_is)) s.book_agrees
        (subst (λ events. HasReserveAt basis (state_after basis.trace events)) (sym s.journal)
        (published_kept basis.trace basis.rooms.exits basis.rooms.kernel_exits b.journal b.value g.cell.pid g.cell.note g.cell.value guest.agrees book.stands.agrees s.fits book.reserve))
        few_published

    pub longer_published : length l.journal.list ≡ length b.journal.list + length g.cell.value.tail
    longer_published = ap length s.journal ∙ length-append b.journal.list g.cell.value.tail

pub published_all : (basis : Basis) (g : Guest) (b : BookRecord) (guest : GuestServes basis b.journal.table g) (book : BookServes basis b) (w : HeapRecord) (l : BookRecord) →
    HasPublished basis.trace g.cell.value.tail g.cell w b l → HasPublishedAll basis g (record g { cell = w }) b l
published_all basis g b guest book w l s = record {
  keeps = record {
    guest = guest_published basis g b guest book w l s;
    book = book_published basis g b guest book w l s;
    same_table = s.same_table;
    pid = ap (λ (x : HeapRecord). x.pid) s.cell_is;
    bodies = refl;
  };
  guest_is = ap (λ (x : HeapRecord). record g { cell = x }) s.cell_is;
  book_is = s.book_is;
  journal = s.journal;
}

module _ (basis : Basis) (g : Guest) (b : BookRecord) (op : Op) (cells : List Cell) (due : IsDueWith basis g b op cells) where
  pub can_publish_first : CanPublish basis.trace g.cell b
  can_publish_first = let room = due.room in can_publish basis g b due.guest due.book (omega (arith, room))

  module _ (w : HeapRecord) (l : BookRecord) (s : HasPublished basis.trace g.cell.value.tail g.cell w b l) where
    abbrev seen : BookRecord → HeapRecord → List Cell
    seen k c = other_cells_in basis.trace (book_shown_by k.value) (idle_part c.value) c.pid.0 op

    touches_now : seen l w ≡ cells
    touches_now = ap (λ (k : BookRecord). seen k w) s.book_is ∙ ap (λ (c : HeapRecord). seen b c) s.cell_is ∙ due.touches

    outside_now : IsFalse (is_local_in (idle_part w.value) w.pid.0 op)
    outside_now = ap (λ (c : HeapRecord). is_local_in (idle_part c.value) c.pid.0 op) s.cell_is ∙ due.outside

    settled_now : w.value.tail ≡ []
    settled_now = ap (λ (c : HeapRecord). c.value.tail) s.cell_is

    lives_now : IsFalse (Rattle.k_heap.specs.Heaps.has_ended_in w.value.process)
    lives_now = ap (λ (c : HeapRecord). Rattle.k_heap.specs.Heaps.has_ended_in c.value.process) s.cell_is ∙ due.ready.awake.lives

    guest_now : GuestServesWith basis l.journal.table (bodies_for basis op g.bodies) (record g { cell = w })
    guest_now = guest_published basis g b due.guest due.book w l s

    book_now : BookServes basis l
    book_now = book_published basis g b due.guest due.book w l s

    left_now : length l.journal.list < basis.rooms.events
    left_now = let room = due.room in let longer = longer_published basis g b due.guest due.book w l s in omega (arith, room, longer)

    heap_stands : HeapStands basis.trace w l
    heap_stands = record {
      agrees = guest_now.agrees;
      table = guest_now.table;
      settled = settled_now;
      idle = ap (λ (c : HeapRecord). c.value.collection) s.cell_is ∙ due.ready.awake.idle;
      lives = lives_now;
    }

    shows_now : Shows basis.trace (state_after basis.trace l.journal.list) (User w.pid) w.value
    shows_now = subst (λ events. Shows basis.trace (state_after basis.trace events) (User w.pid) w.value) (ap₂ (λ (xs ys : List Event). xs ++ ys) s.met.list settled_now ∙ append-nil l.journal.list) s.agrees.shows

    -- the exit items of the kernel's heap, with those that are kept back
    abbrev kept_now : ℕ
    kept_now = kept_for basis.trace basis.rooms.exits (state_after basis.trace l.journal.list)

    touched_now : (said : Reply) → cells_touched basis.trace (state_after basis.trace l.journal.list) (Done w.pid op said) ≡ User w.pid ∷ cells
    touched_now said =
        touched_cells_are_told basis.trace (state_after basis.trace l.journal.list) (Done w.pid op said)
        ∙ ap (λ (x : BookPart). User w.pid ∷ other_cells_in basis.trace x (part basis.trace (state_after basis.trace l.journal.list) (User w.pid)) w.pid.0 op) (sym book_now.stands.agrees.shows.part)
        ∙ ap (λ (x : CellPart). User w.pid ∷ other_cells_in basis.trace (book_shown_by l.value) x w.pid.0 op)
        (sym (part_shown basis.trace (state_after basis.trace l.journal.list) (User w.pid) w.value (record { shows = shows_now; idle = heap_stands.idle })))
        ∙ ap (λ (cs : List Cell). User w.pid ∷ cs) touches_now

    -- what the book has now it had before, but for the journal
    same_value : l.value ≡ b.value
    same_value = ap (λ (x : BookRecord). x.value) s.book_is

    own_room : cells ≡ [] → HasOwnRoom basis g b op → HasRoomFor basis.trace w.bodies (heap_holdings w) (own_segment w.pid) l op
    own_room none room = record {
      events = event_left basis b l book_now same_value left_now;
      tables = own_tables basis b l book_now same_value w.bodies g.bodies (idle_part w.value) w.pid.0 g w op guest_now.stock (touches_now ∙ none)
          (ap heap_holdings s.cell_is) (ap (λ (c : HeapRecord). c.pid) s.cell_is) guest_now.exits room;
    }

    pub can_alone : cells ≡ [] → HasOwnRoom basis g b op → CanStepOwn basis.trace w l op
    can_alone none room = record {
      can = record { book_stands = book_now.stands; heap_stands = heap_stands; in_range = due.ready.in_range; room = λ fits. own_room none room };
      own = λ fits. record { alone = touches_now ∙ none; not_local = outside_now; no_collection = due.ready.no_collection };
    }

    module _ (k : HoldingsValue) (kernel : KernelServes basis b.journal.table k) (ready : IsKernelReady basis k b op) where
      kernel_room : cells ≡ Kernel ∷ [] → HasRoomFor basis.trace w.bodies k 0 l op
      kernel_room both = record {
        events = event_left basis b l book_now same_value left_now;
        tables = kernel_tables basis b l book_now same_value w.bodies g.bodies (idle_part w.value) w.pid.0 k op guest_now.stock (touches_now ∙ both) kernel.exits ready.room;
      }

      pub can_with_kernel : cells ≡ Kernel ∷ [] → CanStepWithKernel basis.trace w k l op
      can_with_kernel both = record {
        step = record {
          can = record {
            book_stands = book_now.stands;
            heap_stands = heap_stands;
            other_stands = record { agrees = kernel.agrees; table = kernel.table ∙ sym s.same_table; segment = refl; idle = ready.idle };
            in_range = due.ready.in_range;
            room = λ fits kernel_fits. kernel_room both;
          };
          touches = λ fits kernel_fits. touches_now ∙ both;
        };
        goes_on = due.ready.goes_on;
      }

      -- a store finds an exit item beside those that are kept back
      pub kernel_left : Fits l.journal k.note → AreDistinctNames k.value.exits → IsTrue (is_store op) → kept_now < basis.rooms.kernel_exits
      kernel_left fits distinct store =
          let living : living_of l.value.ended (process_count basis.trace) ≡ living_of b.value.ended (length b.procs) =
          ap₂ living_of (ap (λ (v : BookValue). v.ended) same_value) (sym (ap length due.book.stands.of_trace.procs)) in
          kernel_shown basis.trace l.journal l.value due.guest.rules.limits book_now.stands.agrees basis.rooms.exits basis.rooms.kernel_exits k.note k.value kernel.agrees fits distinct
          (subst (λ n. length k.value.exits + basis.rooms.exits * n < basis.rooms.kernel_exits) (sym living) (kernel_item basis k b op store ready.room).exits)

    module _ (t : SharedRecord) (shared : SharedServes basis b.journal.table t) (room : HasSharedRoom basis t b op) where
      shared_shows : Fits l.journal t.note → Shows basis.trace (state_after basis.trace l.journal.list) (Shared t.id) t.value
      shared_shows fits = (meeting basis.trace l.journal l.value (Shared t.id) t.note t.value shared.agrees book_now.stands.agrees fits).shows shared.agrees.tail

      shared_room : cells ≡ Shared t.id ∷ [] → Fits l.journal t.note → HasRoomFor basis.trace w.bodies (of_shared t).held t.seg.0 l op
      shared_room both fits = record {
        events = event_left basis b l book_now same_value left_now;
        tables = shared_tables basis b l book_now same_value w.bodies g.bodies (idle_part w.value) w.pid.0 t t.id op guest_now.stock (touches_now ∙ both) shared.exits room
            (λ given there. stands_where_made basis.trace (state_after basis.trace l.journal.list) t given (shared_shows fits) there);
      }

      pub can_with_shared : cells ≡ Shared t.id ∷ [] → CanStepWithShared basis.trace w t l op
      can_with_shared both = record {
        can = record {
          book_stands = book_now.stands;
          heap_stands = heap_stands;
          other_stands = record { agrees = shared.agrees; table = shared.table ∙ sym s.same_table; segment = shared.segment; idle = shared.idle };
          in_range = due.ready.in_range;
          room = λ fits shared_fits. shared_room both shared_fits;
        };
        touches = λ fits shared_fits. touches_now ∙ both;
      }

    -- what the step leaves
    module _ (v : HeapRecord) (m : BookRecord) (event : Event) (d : HasStepped basis.trace op w v l m event) where
      reserve : length cells ≤ 1 → (IsTrue (list_any (λ c. heap_eq c Kernel) cells) → IsTrue (is_store op) → kept_now < basis.rooms.kernel_exits) → HasReserveAt basis (state_after basis.trace m.journal.list)
      reserve few left =
          subst (λ events. HasReserveAt basis (state_after basis.trace events)) (sym d.journal)
          (subst (HasReserveAt basis) (sym (state_next basis.trace l.journal.list event))
          (subst (λ e. HasReserveAt basis (step basis.trace (state_after basis.trace l.journal.list) e)) (sym d.event_is)
          (operation_kept basis.trace basis.rooms.exits basis.rooms.kernel_exits (state_after basis.trace l.journal.list) book_now.reserve w.pid d.said cells few op due.ready.goes_on (touched_now d.said)
          (subst (IsPossible basis.trace (state_after basis.trace l.journal.list)) d.event_is d.possible) left)))

      possible_so : IsPossible basis.trace (state_after basis.trace l.journal.list) (Done w.pid op d.said)
      possible_so = subst (IsPossible basis.trace (state_after basis.trace l.journal.list)) d.event_is d.possible

      then_is : objects_after basis.trace m.journal.list ≡ objects_after basis.trace (l.journal.list ++ event ∷ [])
      then_is = ap (objects_after basis.trace) d.journal

      -- an allocation makes one object at most, and no other operation any
      few_then : (IsTrue (is_allocation op) → HasCountLeft b) → HasFewObjectsIn basis m
      few_then counted =
          let one = appended_counts basis.trace l.journal.list event d.possible in
          elim (cases_Bool (is_allocation op)) [
            | inl asks ↦
                let left = counted asks in
                let told = objects_are_told basis.trace b.journal.list due.book.stands.agrees.legal in
                let same = published_same basis g b due.guest due.book w l s in
                let low = made_low event in
                omega (arith, one, then_is, left, told, same, low)
            | inr none ↦
                let makes = ap made_by d.event_is ∙ makes_none basis.trace (state_after basis.trace l.journal.list) w.pid.0 op d.said none possible_so.replied in
                let few = book_now.few in
                omega (arith, one, then_is, makes, few)
          ]

      done_beside : HasReserveAt basis (state_after basis.trace m.journal.list) → HasFewObjectsIn basis m → HasDoneAlone basis op g (record g { cell = v }) b m event
      done_beside reserve few = record {
        guest =
            guest_goes_on basis l.journal.table m.journal.table (record g { cell = w }) v g.bodies guest_now
            (d.cell_is ∙ ap (λ (x : HeapRecord). record w { note = v.note; value = v.value; bodies = x.bodies }) (sym d.cell_is))
            d.agrees d.table
            (ap (λ (x : HeapRecord). x.bodies) d.cell_is ∙ ap (bodies_after op) guest_now.stock ∙ bodies_left basis g.bodies op)
            (λ lives. lives_now);
        book = book_goes_on basis l m book_now d.book_is d.book_agrees reserve few;
        same_table = d.same_table ∙ s.same_table;
        pid = ap (λ (x : HeapRecord). x.pid) d.cell_is ∙ ap (λ (x : HeapRecord). x.pid) s.cell_is;
        said = d.said;
        event_is = d.event_is ∙ ap (λ (p : Pid). Done p op d.said) (ap (λ (x : HeapRecord). x.pid) s.cell_is);
        appended = record {
          journal = d.journal ∙ ap (λ events. events ++ event ∷ []) s.journal;
          possible = subst (λ events. IsPossible basis.trace (state_after basis.trace events) event) s.journal d.possible;
        };
        settled = d.settled;
        idle = d.idle;
        bodies = refl;
      }

      pub done_alone : cells ≡ [] → HasOwnRoom basis g b op → HasDoneAlone basis op g (record g { cell = v }) b m event
      done_alone none room =
          let many = ap length none in
          done_beside (reserve (omega (arith, many)) (λ touched store. absurd (false≢true (sym (ap (list_any (λ c. heap_eq c Kernel)) none) ∙ touched))))
          (few_then (own_counted basis b l book_now same_value w.bodies g.bodies (idle_part w.value) w.pid.0 g op (touches_now ∙ none) room))

      done_apart : (id : SharedId) → cells ≡ Shared id ∷ [] → (IsTrue (is_allocation op) → HasCountLeft b) → HasDoneAlone basis op g (record g { cell = v }) b m event
      done_apart id one counted =
          let many = ap length one in
          done_beside (reserve (omega (arith, many)) (λ touched store. absurd (false≢true (sym (ap (list_any (λ c. heap_eq c Kernel)) one) ∙ touched))))
          (few_then counted)

      done_kernel : cells ≡ Kernel ∷ [] → (IsTrue (is_store op) → kept_now < basis.rooms.kernel_exits) → (IsTrue (is_allocation op) → HasCountLeft b) → HasDoneAlone basis op g (record g { cell = v }) b m event
      done_kernel one left counted = let many = ap length one in done_beside (reserve (omega (arith, many)) (λ touched. left)) (few_then counted)

    pub done_with_kernel : (v : HeapRecord) (m : BookRecord) (event : Event) (k x : HoldingsValue) → KernelServes basis b.journal.table k → IsKernelReady basis k b op → AreDistinctNames k.value.exits → cells ≡ Kernel ∷ [] →
        HasSteppedWithKernel basis.trace op w v k x l m event →
        HasDoneWithKernel basis op g (record g { cell = v }) x b m event
    done_with_kernel v m event k x kernel ready distinct one d = record {
      own = done_kernel v m event d.beside.own one (kernel_left k kernel ready d.fits distinct)
          (kernel_counted basis b l book_now same_value w.bodies g.bodies (idle_part w.value) w.pid.0 k op (touches_now ∙ one) ready.room);
      kernel = kernel_goes_on basis b.journal.table m.journal.table k x kernel (ap held_by d.other_is) d.beside.others.0.stands.agrees d.beside.others.0.stands.table;
      idle = d.beside.others.0.stands.idle;
    }

    pub done_with_shared : (v : HeapRecord) (m : BookRecord) (event : Event) (t x : SharedRecord) → SharedServes basis b.journal.table t → HasSharedRoom basis t b op → cells ≡ Shared t.id ∷ [] → HasSteppedWithShared basis.trace op w v t x l m event →
        HasDoneWithShared basis op g (record g { cell = v }) t x b m event
    done_with_shared v m event t x shared room one d = record {
      own = done_apart v m event d.beside.own t.id one (shared_counted basis b l book_now same_value w.bodies g.bodies (idle_part w.value) w.pid.0 t t.id op (touches_now ∙ one) room);
      shared =
          shared_goes_on basis b.journal.table m.journal.table t x (d.fits.prefix.0 ++ event ∷ []) shared d.beside.others.0.stands.agrees (ap shared_by d.other_is)
          (sym (append_assoc t.note.list d.fits.prefix.0 (event ∷ [])) ∙ ap (λ events. events ++ event ∷ []) d.fits.prefix.1 ∙ sym d.beside.own.journal ∙ sym d.beside.others.0.met.list)
          d.beside.others.0.stands.table d.beside.others.0.stands.idle;
      same = ap (λ (y : SharedRecord). y.id) (ap shared_by d.other_is);
    }
