-- Collections, absorptions and ends of processes can be done by what serves, which serves afterwards.
use Rattle.std.proofs.Common.{◌≡◌, ◌↔◌, ◌==◌, ◌^◌, ℕ, ◌<◌, ◌≤◌, refl, sym, ap, ◌∙◌, subst, Bool, true, false, List, [], ◌∷◌, ◌++◌, length, get_or, arith, Option, Some, None, is_some, option_map, IsTrue, eqb-true}
use Rattle.std.proofs.lemmas.Bool.{eq-eqb, false≢true}
use Rattle.std.proofs.lemmas.List.{get_or-set_other}
use Rattle.k_types.specs.declared.event.Event.{Event}
use Rattle.k_types.specs.declared.event.Event.TheVariants.{Done}
use Rattle.k_types.specs.declared.event.Reply.TheVariants.{Done as DoneReply}
use Rattle.k_types.specs.declared.names.CellPhase.{CellPhase}
use Rattle.k_types.specs.declared.names.CellPhase.TheVariants.{Begun, Idle, Marked}
use Rattle.k_types.specs.declared.names.Heap.TheVariants.{Kernel, Shared, User}
use Rattle.k_types.specs.declared.op.Op.TheVariants.{Collect, Exit, KCollect}
use Rattle.k_types.specs.declared.names.Phase.{Phase}
use Rattle.k_types.specs.declared.names.SharedId.{SharedId}
use Rattle.k_types.specs.Agree.{CellValue}
use Rattle.k_types.specs.Numbers.{numbers_below}
use Rattle.k_types.specs.State.{Sharing, opening}
use Rattle.k_types.specs.Steps.{IsLegalHistory, IsPossible, state_after}
use Rattle.k_types.specs.Trace.{segment_count, segment_of}
use Rattle.k_laws.proofs.Histories.{legal_front}
use Rattle.k_book.specs.Books.{BookRecord}
use Rattle.k_book.specs.Objects.{made_by, objects_after}
use Rattle.k_cell.specs.Holdings.{HoldingsValue}
use Rattle.k_heap.specs.Heaps.{HeapRecord, has_ended_in, own_segment}
use Rattle.k_shared.specs.SharedHeaps.{SharedRecord}
use Rattle.k_shares.specs.Sharers.{heap_number, is_orphan_by, lowest_orphan}
use Rattle.k_calls.specs.k_commit.Published.{CanPublish, HasPublished}
use Rattle.k_calls.specs.k_commit.Standing.{HeapStands}
use Rattle.k_calls.specs.k_collect.Begun.{HasAppended, HasBegunHeap, HasBegunKernel as HasBegunKernelStep}
use Rattle.k_calls.specs.k_collect.Collecting.{CanBeginHeap, CanBeginKernel as CanBeginKernelStep, CanEndHeap, CanEndKernel}
use Rattle.k_calls.specs.k_collect.Ended.{HasEndedHeap, HasEndedKernel}
use Rattle.k_calls.specs.k_collect.Marking.{CanMark, HasMarkedOn}
use Rattle.k_calls.specs.k_collect.Settling.{CanSettleHeap, CanSettleKernel, HasSettledHeap, HasSettledKernel as HasSettledKernelStep, ends_to_come}
use Rattle.k_calls.specs.DepartAbsorbing.{CanAbsorb, HasAbsorbedHeap}
use Rattle.k_calls.specs.Exiting.{CanExit, HasExited}
use Rattle.k_calls.specs.k_guests.declared.guest.Guest.{Guest}
use Rattle.k_calls.specs.declared.errors.HostError.TheVariants.{Orphan}
use Rattle.k_calls.specs.Refusals.{Lacks}
use Rattle.k_calls.proofs.Lists.{found_passes}
use Rattle.k_types.specs.Distinct.{AreDistinctNames}
use Rattle.k_ends.proofs.Handed.{book_appended, ends_make_none, ends_take_none, exits_fit, few_published, kept_published, lives_now, own_few}
use Rattle.k_ends.specs.Collecting.{CanAbsorbNow, CanBeginKernel, CanExitNow, CanGoOn, CanMarkGuest, CanMarkKernel, HasAbsorbedNow, HasBegun, HasBegunKernel, HasEnded, HasExitedNow, HasGoneOn, HasMarkedGuest, HasMarkedKernel, HasSettled, HasSettledKernel, KernelHasEnded}
use Rattle.k_calls.specs.k_guests.Serving.{Basis, BookServes, GuestServes, HasReserveAt, HasSegment, KernelServes}
use Rattle.k_calls.specs.k_guests.Reserve.{Spares}
use Rattle.k_calls.proofs.Due.{book_published, can_publish, guest_published, longer_published}
use Rattle.k_calls.proofs.Going.{book_goes_on, guest_goes_on, kernel_goes_on}
use Rattle.k_calls.proofs.TestedRooms.{event_left, few_of, few_of_kernel}

-- the end of what is open is one event at most
one_end : (phase : CellPhase) → ends_to_come phase ≤ 1
one_end Idle = omega arith
one_end Begun = omega arith
one_end Marked = omega arith

-- a process that goes on, once it has published
module _ (basis : Basis) (g : Guest) (b : BookRecord) (can : CanGoOn basis g b) where
  pub publishes : CanPublish basis.trace g.cell b
  publishes = let room = can.room in can_publish basis g b can.guest can.book (omega (arith, room))

  pub can_settle : CanSettleHeap basis.trace g.cell b
  can_settle = record {
    book_stands = can.book.stands;
    agrees = can.guest.agrees;
    table = can.guest.table;
    room = λ fits. let room = can.room in let all = can.book.events in let one = one_end g.cell.value.collection in omega (arith, room, all, one);
    few = few_of basis b can.book g.cell.pid g.cell.note g.cell.value can.guest.agrees;
  }

  pub settled : (w : HeapRecord) (l : BookRecord) → HasSettledHeap basis.trace g.cell w b l → HasSettled basis g (record g { cell = w }) b l
  settled w l s = record {
    keeps = record {
      guest =
          guest_goes_on basis b.journal.table l.journal.table g w g.bodies can.guest
          (s.heap_goes_on.cell_is ∙ ap (λ (x : HeapRecord). record g.cell { note = w.note; value = w.value; bodies = x.bodies }) (sym s.heap_goes_on.cell_is))
          s.heap_goes_on.agrees s.heap_goes_on.table (ap (λ (x : HeapRecord). x.bodies) s.heap_goes_on.cell_is ∙ can.guest.stock) (λ lives. can.lives);
      book =
          book_goes_on basis b l can.book s.book_is s.agrees
          (subst (λ history. HasReserveAt basis (state_after basis.trace history)) (sym s.journal)
          (ends_take_none basis (User g.cell.pid) (b.journal.list ++ g.cell.value.tail) s.last (subst (IsLegalHistory basis.trace) s.journal s.agrees.legal)
          (kept_published basis b can.book g.cell can.guest.agrees s.fits) g.cell.value.collection s.ends))
          (subst (λ history. objects_after basis.trace history < 2 ^ 32) (sym s.journal)
          (ends_make_none basis (User g.cell.pid) (b.journal.list ++ g.cell.value.tail) s.last (subst (IsLegalHistory basis.trace) s.journal s.agrees.legal)
          (few_published basis b can.book g.cell can.guest.agrees (legal_front basis.trace (opening basis.trace) (b.journal.list ++ g.cell.value.tail) s.last (subst (IsLegalHistory basis.trace) s.journal s.agrees.legal)))
          g.cell.value.collection s.ends));
      same_table = s.same_table;
      pid = ap (λ (x : HeapRecord). x.pid) s.heap_goes_on.cell_is;
      bodies = refl;
    };
    phase = s.heap_goes_on.in_phase;
    settled = s.heap_goes_on.settled;
    last = s.last;
    ends = s.ends;
    journal = s.journal;
  }

  module _ (w : HeapRecord) (l : BookRecord) (s : HasPublished basis.trace g.cell.value.tail g.cell w b l) where
    guest_now : GuestServes basis l.journal.table (record g { cell = w })
    guest_now = guest_published basis g b can.guest can.book w l s

    book_now : BookServes basis l
    book_now = book_published basis g b can.guest can.book w l s

    left_now : length l.journal.list < basis.rooms.events
    left_now = let room = can.room in let longer = longer_published basis g b can.guest can.book w l s in omega (arith, room, longer)

    heap_stands : g.cell.value.collection ≡ Idle → HeapStands basis.trace w l
    heap_stands idle = record {
      agrees = guest_now.agrees;
      table = guest_now.table;
      settled = ap (λ (c : HeapRecord). c.value.tail) s.cell_is;
      idle = ap (λ (c : HeapRecord). c.value.collection) s.cell_is ∙ idle;
      lives = ap (λ (c : HeapRecord). has_ended_in c.value.process) s.cell_is ∙ can.lives;
    }

    pub can_begin : g.cell.value.collection ≡ Idle → CanBeginHeap basis.trace w l
    can_begin idle = record { book_stands = book_now.stands; heap_stands = heap_stands idle; room = λ fits. event_left basis l l book_now refl left_now }

    pub can_end : g.cell.value.collection ≡ Marked → CanEndHeap basis.trace w l
    can_end is_marked = record {
      book_stands = book_now.stands;
      collects = record {
        agrees = guest_now.agrees;
        table = guest_now.table;
        settled = ap (λ (c : HeapRecord). c.value.tail) s.cell_is;
        in_phase = ap (λ (c : HeapRecord). c.value.collection) s.cell_is ∙ is_marked;
      };
      room = λ fits. event_left basis l l book_now refl left_now;
      few = few_of basis l book_now w.pid w.note w.value guest_now.agrees;
    }

    pub can_begin_kernel : (k : HoldingsValue) → CanBeginKernel basis g k b → CanBeginKernelStep basis.trace w k l
    can_begin_kernel k both = record {
      book_stands = book_now.stands;
      heap_stands = heap_stands both.own.idle;
      kernel_stands = record { agrees = both.kernel.agrees; table = both.kernel.table ∙ sym s.same_table; segment = refl; idle = both.idle };
      orphans = subst (λ (x : BookRecord). Rattle.k_shares.specs.Sharers.lowest_orphan x.value.phases x.value.shares ≡ None) (sym s.book_is) both.orphans;
      room = λ fits kernel_fits. event_left basis l l book_now refl left_now;
    }

    pub can_exit : (k : HoldingsValue) → CanExitNow basis g k b → length w.value.exits ≤ w.exit_room → AreDistinctNames k.value.exits → CanExit basis.trace w k l
    can_exit k both few kernel_distinct = record {
      book_stands = book_now.stands;
      heap_stands = heap_stands both.own.idle;
      kernel_stands = record { agrees = both.kernel.agrees; table = both.kernel.table ∙ sym s.same_table; segment = refl; idle = both.idle };
      numbers = both.kernel.numbers;
      room = λ fits kernel_fits. record {
        events = event_left basis l l book_now refl left_now;
        exits =
            exits_fit basis l book_now w k guest_now.agrees.there
            (lives_now basis l book_now w guest_now.agrees (ap (λ (c : HeapRecord). c.value.tail) s.cell_is) fits (ap (λ (c : HeapRecord). has_ended_in c.value.process) s.cell_is ∙ can.lives))
            few guest_now.exits both.kernel.agrees both.kernel.exits kernel_distinct kernel_fits;
      };
    }

    -- what a step leaves that goes on from there
    went_on : (v : HeapRecord) (m : BookRecord) (event : Event) → GuestServes basis m.journal.table (record g { cell = v }) → BookServes basis m → m.journal.table ≡ l.journal.table → v.pid ≡ w.pid →
        m.journal.list ≡ l.journal.list ++ event ∷ [] → IsPossible basis.trace (state_after basis.trace l.journal.list) event → v.value.tail ≡ [] →
        HasGoneOn basis g (record g { cell = v }) b m event
    went_on v m event guest book same pid list possible settled = record {
      keeps = record {
        guest = guest;
        book = book;
        same_table = same ∙ s.same_table;
        pid = pid ∙ ap (λ (x : HeapRecord). x.pid) s.cell_is;
        bodies = refl;
      };
      appended = record {
        journal = list ∙ ap (λ events. events ++ event ∷ []) s.journal;
        possible = subst (λ events. IsPossible basis.trace (state_after basis.trace events) event) s.journal possible;
      };
      settled = settled;
    }

    book_after : (m : BookRecord) (event : Event) → HasAppended basis.trace l m event → Spares basis.trace basis.rooms.exits basis.rooms.kernel_exits (state_after basis.trace l.journal.list) event → made_by event ≡ 0 → BookServes basis m
    book_after m event a spares none = book_appended basis l book_now m event a.book_is a.agrees a.journal a.possible spares none

    guest_after : (v : HeapRecord) (m : BookRecord) (phase : CellPhase) → Rattle.k_calls.specs.k_collect.Begun.HeapGoesOn basis.trace w v m phase → GuestServes basis m.journal.table (record g { cell = v })
    guest_after v m phase h =
        guest_goes_on basis l.journal.table m.journal.table (record g { cell = w }) v g.bodies guest_now
        (h.cell_is ∙ ap (λ (x : HeapRecord). record w { note = v.note; value = v.value; bodies = x.bodies }) (sym h.cell_is))
        h.agrees h.table (ap (λ (x : HeapRecord). x.bodies) h.cell_is ∙ guest_now.stock)
        (λ lives. ap (λ (c : HeapRecord). has_ended_in c.value.process) s.cell_is ∙ can.lives)

    pub begun : (v : HeapRecord) (m : BookRecord) (event : Event) → HasBegunHeap basis.trace w v l m event → HasBegun basis g (record g { cell = v }) b m event
    begun v m event d = record {
      goes_on =
          went_on v m event (guest_after v m Begun d.heap_goes_on) (book_after m event d.appended (subst (λ (e : Event). Spares basis.trace basis.rooms.exits basis.rooms.kernel_exits (state_after basis.trace l.journal.list) e) (sym d.event_is) tt) (ap made_by d.event_is)) d.appended.same_table
          (ap (λ (x : HeapRecord). x.pid) d.heap_goes_on.cell_is) d.appended.journal d.appended.possible d.heap_goes_on.settled;
      event_is = d.event_is ∙ ap (λ (x : HeapRecord). Done x.pid Collect DoneReply) s.cell_is;
      phase = d.heap_goes_on.in_phase;
    }

    pub ended : (v : HeapRecord) (m : BookRecord) (event : Event) → HasEndedHeap basis.trace w v l m event → HasEnded basis g (record g { cell = v }) b m event
    ended v m event d = record {
      goes_on =
          went_on v m event (guest_after v m Idle d.heap_goes_on) (book_after m event d.appended (subst (λ (e : Event). Spares basis.trace basis.rooms.exits basis.rooms.kernel_exits (state_after basis.trace l.journal.list) e) (sym d.event_is) tt) (ap made_by d.event_is)) d.appended.same_table
          (ap (λ (x : HeapRecord). x.pid) d.heap_goes_on.cell_is) d.appended.journal d.appended.possible d.heap_goes_on.settled;
      is_end = record {
        objects = d.objects;
        bytes = d.bytes;
        exits = d.exits;
        shares = d.shares;
        is = ap (λ (e : Event). e ∷ []) (d.event_is ∙ ap (λ (x : HeapRecord). Rattle.k_types.specs.declared.event.Event.TheVariants.Ended (User x.pid) d.objects d.bytes d.exits d.shares) s.cell_is);
      };
      phase = d.heap_goes_on.in_phase;
    }

    pub begun_kernel : (v : HeapRecord) (k x : HoldingsValue) (m : BookRecord) (event : Event) → KernelServes basis b.journal.table k → HasBegunKernelStep basis.trace w v k x l m event →
        HasBegunKernel basis g (record g { cell = v }) x b m event
    begun_kernel v k x m event kernel d = record {
      goes_on =
          went_on v m event (guest_after v m Idle d.heap_goes_on) (book_after m event d.appended (subst (λ (e : Event). Spares basis.trace basis.rooms.exits basis.rooms.kernel_exits (state_after basis.trace l.journal.list) e) (sym d.event_is) tt) (ap made_by d.event_is)) d.appended.same_table
          (ap (λ (y : HeapRecord). y.pid) d.heap_goes_on.cell_is) d.appended.journal d.appended.possible d.heap_goes_on.settled;
      event_is = d.event_is ∙ ap (λ (y : HeapRecord). Done y.pid KCollect DoneReply) s.cell_is;
      kernel = kernel_goes_on basis b.journal.table m.journal.table k x kernel d.kernel_goes_on.kernel_is d.kernel_goes_on.agrees d.kernel_goes_on.table;
      phase = d.kernel_goes_on.in_phase;
      idle = d.heap_goes_on.in_phase;
    }

    -- the kernel gives serials of its own segment still, whatever it has taken in
    pub exited : (v : HeapRecord) (k x : HoldingsValue) (m : BookRecord) (event : Event) → KernelServes basis b.journal.table k → AreDistinctNames w.value.exits → length w.value.exits ≤ w.exit_room → HasExited basis.trace w v k x l m event →
        HasExitedNow basis g (record g { cell = v }) x b m event
    exited v k x m event kernel distinct few d = record {
      goes_on =
          went_on v m event
          (record {
            rules = guest_now.rules;
            agrees = d.ends.agrees;
            table = d.ends.table;
            stock = ap (λ (y : HeapRecord). y.bodies) d.ends.cell_is ∙ guest_now.stock;
            exits = ap (λ (y : HeapRecord). y.exit_room) d.ends.cell_is ∙ guest_now.exits;
            serials = λ lives. absurd (false≢true (sym lives ∙ d.ends.ended));
            tail = subst (λ (y : HeapRecord). basis.rooms.tail ≤ y.tail_room) (sym d.ends.cell_is) guest_now.tail;
          })
          (book_appended basis l book_now m event d.book_is d.book_agrees d.journal d.possible
          (subst (λ (e : Event). Spares basis.trace basis.rooms.exits basis.rooms.kernel_exits (state_after basis.trace l.journal.list) e) (sym d.event_is)
          (own_few basis l book_now w guest_now.agrees (ap (λ (c : HeapRecord). c.value.tail) s.cell_is) d.ends.fits distinct few guest_now.exits))
          (ap made_by d.event_is))
          d.same_table
          (ap (λ (y : HeapRecord). y.pid) d.ends.cell_is) d.journal d.possible d.ends.settled;
      event_is = d.event_is ∙ ap (λ (y : HeapRecord). Done y.pid Exit DoneReply) s.cell_is;
      kernel = record {
        rules = kernel.rules;
        agrees = d.ends.kernel_agrees;
        table = d.ends.kernel_table;
        exits = ap (λ (y : HoldingsValue). y.exit_room) d.ends.kernel_is ∙ kernel.exits;
        serials = subst (λ (y : HoldingsValue). HasSegment basis.rooms.objects y.serial_rooms 0) (sym d.ends.kernel_is)
            (get_or-set_other k.serial_rooms (own_segment w.pid) 0 (get_or w.serial_rooms (own_segment w.pid) None) None (λ e. omega (arith, e)) ∙ kernel.serials);
        numbers = subst (λ (y : HoldingsValue). segment_count basis.trace ≤ y.bound) (sym d.ends.kernel_is) kernel.numbers;
      };
      idle = d.ends.kernel_idle;
      ended = d.ends.ended;
    }

-- marking
module _ (basis : Basis) (g : Guest) (can : CanMarkGuest basis g) where
  pub can_mark : CanMark basis.trace (User g.cell.pid) g.cell.note g.cell.value
  can_mark = record { keeps = can.serves.rules; agrees = can.serves.agrees; begun = can.begun }

  pub marked_guest : (w : HeapRecord) → w ≡ record g.cell { value = w.value } → HasMarkedOn basis.trace (User g.cell.pid) g.cell.note g.cell.value w.value → HasMarkedGuest basis g (record g { cell = w })
  marked_guest w is m = record {
    serves =
        guest_goes_on basis g.cell.note.table g.cell.note.table g w g.bodies can.serves
        (is ∙ ap (λ (x : HeapRecord). record g.cell { note = x.note; value = w.value; bodies = x.bodies }) (sym is))
        (subst (λ (x : HeapRecord). Rattle.k_agree.specs.Agreement.Agrees basis.trace (User x.pid) x.note w.value) (sym is) m.agrees)
        (ap (λ (x : HeapRecord). x.note.table) is) (ap (λ (x : HeapRecord). x.bodies) is ∙ can.serves.stock)
        (λ lives. sym (ap (λ (v : CellValue). has_ended_in v.process) m.rest) ∙ lives);
    guest_is = ap (λ (x : HeapRecord). record g { cell = x }) is;
    tail = ap (λ (v : CellValue). v.tail) m.rest;
    phase = m.phase;
  }

module _ (basis : Basis) (k : HoldingsValue) (can : CanMarkKernel basis k) where
  pub can_mark_kernel : CanMark basis.trace Kernel k.note k.value
  can_mark_kernel = record { keeps = can.serves.rules; agrees = can.serves.agrees; begun = can.begun }

  pub marked_kernel : (x : HoldingsValue) → x ≡ record k { value = x.value } → HasMarkedOn basis.trace Kernel k.note k.value x.value → HasMarkedKernel basis k x
  marked_kernel x is m = record {
    serves =
        kernel_goes_on basis k.note.table k.note.table k x can.serves (is ∙ ap (λ (y : HoldingsValue). record k { note = y.note; value = x.value }) (sym is))
        (subst (λ (y : HoldingsValue). Rattle.k_agree.specs.Agreement.Agrees basis.trace Kernel y.note x.value) (sym is) m.agrees)
        (ap (λ (y : HoldingsValue). y.note.table) is);
    kernel_is = is;
    phase = m.phase;
  }

-- the kernel's collection
module _ (basis : Basis) (k : HoldingsValue) (b : BookRecord) (kernel : KernelServes basis b.journal.table k) (book : BookServes basis b) (room : length b.journal.list < basis.rooms.events) where
  pub can_settle_kernel : CanSettleKernel basis.trace k b
  can_settle_kernel = record {
    book_stands = book.stands;
    agrees = kernel.agrees;
    table = kernel.table;
    room = λ fits. let all = book.events in let one = one_end k.value.collection in omega (arith, room, all, one);
    few = few_of_kernel basis b book k.note k.value kernel.agrees;
  }

  pub settled_kernel : (x : HoldingsValue) (m : BookRecord) → HasSettledKernelStep basis.trace k x b m → HasSettledKernel basis k x b m
  settled_kernel x m s = record {
    kernel = kernel_goes_on basis b.journal.table m.journal.table k x kernel s.kernel_goes_on.kernel_is s.kernel_goes_on.agrees s.kernel_goes_on.table;
    book =
        book_goes_on basis b m book s.book_is s.agrees
        (subst (λ history. HasReserveAt basis (state_after basis.trace history)) (sym s.journal)
        (ends_take_none basis Kernel b.journal.list s.last (subst (IsLegalHistory basis.trace) s.journal s.agrees.legal) book.reserve k.value.collection s.ends))
        (subst (λ history. objects_after basis.trace history < 2 ^ 32) (sym s.journal)
        (ends_make_none basis Kernel b.journal.list s.last (subst (IsLegalHistory basis.trace) s.journal s.agrees.legal) book.few k.value.collection s.ends));
    same_table = s.same_table;
    phase = s.kernel_goes_on.in_phase;
    last = s.last;
    ends = s.ends;
    journal = s.journal;
  }

  pub can_end_kernel : k.value.collection ≡ Marked → CanEndKernel basis.trace k b
  can_end_kernel is = record {
    book_stands = book.stands;
    collects = record { agrees = kernel.agrees; table = kernel.table; in_phase = is };
    room = λ fits. event_left basis b b book refl room;
    few = few_of_kernel basis b book k.note k.value kernel.agrees;
  }

  pub ended_kernel : (x : HoldingsValue) (m : BookRecord) (event : Event) → HasEndedKernel basis.trace k x b m event → KernelHasEnded basis x b m event
  ended_kernel x m event d = record {
    goes_on = record {
      kernel = kernel_goes_on basis b.journal.table m.journal.table k x kernel d.kernel_goes_on.kernel_is d.kernel_goes_on.agrees d.kernel_goes_on.table;
      book =
          book_appended basis b book m event d.appended.book_is d.appended.agrees d.appended.journal d.appended.possible
          (subst (λ (e : Event). Spares basis.trace basis.rooms.exits basis.rooms.kernel_exits (state_after basis.trace b.journal.list) e) (sym d.event_is) tt)
          (ap made_by d.event_is);
      same_table = d.appended.same_table;
      in_phase = d.kernel_goes_on.in_phase;
      journal = d.appended.journal;
      possible = d.appended.possible;
    };
    is_end = record { objects = d.objects; bytes = d.bytes; exits = d.exits; shares = 0; is = ap (λ (e : Event). e ∷ []) d.event_is };
  }

-- an absorption
module _ (basis : Basis) (s : SharedRecord) (k : HoldingsValue) (b : BookRecord) (can : CanAbsorbNow basis s k b) where
  pub can_absorb : CanAbsorb basis.trace s k b
  can_absorb = record {
    book_stands = can.own.book.stands;
    shared_stands = record { agrees = can.shared.agrees; table = can.shared.table; segment = can.shared.segment; idle = can.shared.idle };
    kernel_stands = record { agrees = can.own.kernel.agrees; table = can.own.kernel.table; segment = refl; idle = can.own.in_phase };
    orphan = can.orphan;
    numbers = can.own.kernel.numbers;
    room = λ fits kernel_fits. event_left basis b b can.own.book refl can.own.room;
  }

  pub absorbed : (t : SharedRecord) (x : HoldingsValue) (m : BookRecord) (event : Event) → HasAbsorbedHeap basis.trace s t k x b m event → HasAbsorbedNow basis s t x b m event
  absorbed t x m event d = record {
    own = record {
      kernel = record {
        rules = can.own.kernel.rules;
        agrees = d.kernel_agrees;
        table = d.kernel_table;
        exits = ap (λ (y : HoldingsValue). y.exit_room) d.kernel_is ∙ can.own.kernel.exits;
        serials = subst (λ (y : HoldingsValue). HasSegment basis.rooms.objects y.serial_rooms 0) (sym d.kernel_is)
            (get_or-set_other k.serial_rooms s.seg.0 0 (get_or s.serial_rooms s.seg.0 None) None (λ e. let at = can.shared.segment in omega (arith, at, e)) ∙ can.own.kernel.serials);
        numbers = subst (λ (y : HoldingsValue). segment_count basis.trace ≤ y.bound) (sym d.kernel_is) can.own.kernel.numbers;
      };
      book = book_appended basis b can.own.book m event d.book_is d.book_agrees d.journal d.possible
          (subst (λ (e : Event). Spares basis.trace basis.rooms.exits basis.rooms.kernel_exits (state_after basis.trace b.journal.list) e) (sym d.event_is) tt)
          (ap made_by d.event_is);
      same_table = d.same_table;
      in_phase = d.kernel_idle;
      journal = d.journal;
      possible = d.possible;
    };
    shared = record {
      agrees = d.agrees;
      table = d.table;
      segment = ap (λ (y : SharedRecord). y.seg.0) d.shared_is ∙ can.shared.segment ∙ ap (λ (y : SharedRecord). segment_of basis.trace (Shared y.id)) (sym d.shared_is);
      idle = d.idle;
      exits = ap (λ (y : SharedRecord). y.exit_room) d.shared_is ∙ can.shared.exits;
      serials = λ stands. absurd (false≢true (sym stands ∙ ap Rattle.k_calls.specs.k_process.Keeping.is_absorbed_in d.phase));
    };
    same = ap (λ (y : SharedRecord). y.id) d.shared_is;
    event_is = d.event_is;
  }

-- an orphan that was found is there
pub orphan_there : (found : Option SharedId) (lowest : Option ℕ) (some : Bool) → option_map heap_number found ≡ lowest → some ≡ is_some found → some ≡ true → Lacks Orphan (lowest ≡ None) Orphan
orphan_there None lowest some same told there = absurd (false≢true (sym told ∙ there))
orphan_there (Some id) lowest some same told there = record { error_is = refl; fails = λ none. absurd (let gone : Some (heap_number id) ≡ None = same ∙ none in cc) }

-- the first orphan is one
pub orphan_first : (phases : List Phase) (shares : List Sharing) (n : ℕ) → lowest_orphan phases shares ≡ Some n → IsTrue (is_orphan_by phases shares n)
orphan_first phases shares n first = found_passes (is_orphan_by phases shares) (numbers_below (length phases)) n first

-- what was found is compared by its number
pub found_same : (found : Option ℕ) (n m : ℕ) → found ≡ Some n → IsTrue (n == m) ↔ (found ≡ Some m)
found_same found n m is = (λ same. is ∙ ap (λ k. Some k) (eqb-true n m same), λ there. let same : n ≡ m = cc in eq-eqb n m same)

pub found_none : (found : Option ℕ) (m : ℕ) → found ≡ None → IsTrue false ↔ (found ≡ Some m)
found_none found m is = (λ same. absurd (false≢true same), λ there. absurd (cc))
