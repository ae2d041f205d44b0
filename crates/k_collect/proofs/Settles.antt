-- A cell that settles.
use Rattle.std.proofs.Common.{◌≡◌, ◌≤◌, refl, sym, ap, subst, ◌∙◌, List, [], ◌∷◌, ◌++◌, length, arith, append-nil}
use Rattle.std.proofs.lemmas.List.{length-append}
use Rattle.k_types.specs.declared.event.Event.{Event}
use Rattle.k_types.specs.declared.names.CellPhase.{CellPhase}
use Rattle.k_types.specs.declared.names.CellPhase.TheVariants.{Begun, Idle, Marked}
use Rattle.k_types.specs.declared.names.Heap.{Heap}
use Rattle.k_types.specs.declared.names.Heap.TheVariants.{Kernel, User}
use Rattle.k_types.specs.declared.names.Pid.{Pid}
use Rattle.k_types.specs.Agree.{CellValue}
use Rattle.k_types.specs.Trace.{Trace, process_count}
use Rattle.k_agree.specs.Meeting.{HasMet}
use Rattle.k_commit.specs.k_book.Books.{BookRecord, pin_room_of}
use Rattle.k_commit.specs.k_book.Machine.{IsBookOf}
use Rattle.k_commit.specs.k_cell.Holdings.{HoldingsValue}
use Rattle.k_commit.specs.k_heap.Heaps.{HeapRecord}
use Rattle.k_commit.specs.Met.{KernelHasMet}
use Rattle.k_commit.specs.Others.{held_by}
use Rattle.k_commit.specs.Published.{CanPublish, HasPublished}
use Rattle.k_commit.specs.Rooms.{HasEventRoom}
use Rattle.k_commit.specs.Standing.{BookStands}
use Rattle.k_collect.specs.Collecting.{CanEndHeap, CanEndKernel, HasFewObjects}
use Rattle.k_collect.specs.Ended.{HasEndedHeap, HasEndedKernel}
use Rattle.k_collect.specs.Marking.{CanMark, HasMarkedOn}
use Rattle.k_collect.specs.Settling.{AreEnds, CanSettleHeap, CanSettleKernel, HasSettledHeap, HasSettledKernel, IsTheEnd, KeepsBook, KeepsCell, ends_to_come}
use Rattle.k_types.specs.declared.event.Event.TheVariants.{Ended}
use Rattle.k_laws.proofs.Laws.{states_are_sound}
use Rattle.k_agree.specs.Agreement.{Agrees}

-- a collection is open in this phase
IsOpen : CellPhase → Type 0
IsOpen phase = (ends_to_come phase ≡ 1)
    × ((heap : Heap) (events : List Event) → IsTheEnd heap events → AreEnds heap phase events)
    × ((b k : BookRecord) → KeepsBook phase b k)
    × ((v w : CellValue) → KeepsCell phase v w)

begun_is_open : IsOpen Begun
unfolding IsOpen
begun_is_open = (refl, λ heap events is. is, λ b k. tt, λ v w. tt)

marked_is_open : IsOpen Marked
unfolding IsOpen
marked_is_open = (refl, λ heap events is. is, λ b k. tt, λ v w. tt)

module _ (trace : Trace) (c : HeapRecord) (b : BookRecord) (can : CanSettleHeap trace c b) where
  pub can_publish : CanPublish trace c b
  can_publish = record {
    agrees = can.agrees;
    book_agrees = can.book_stands.agrees;
    table = can.table;
    room = λ fits. let room = can.room fits in omega (arith, room);
  }

  module _ (d : HeapRecord) (k : BookRecord) (p : HasPublished trace c.value.tail c d b k) where
    same_phase : d.value.collection ≡ c.value.collection
    same_phase = ap (λ (x : HeapRecord). x.value.collection) p.cell_is

    pub still_stands : BookStands trace k
    still_stands = record {
      keeps = can.book_stands.keeps;
      of_trace = subst (IsBookOf trace) (sym p.book_is) (record { rows = can.book_stands.of_trace.rows; procs = can.book_stands.of_trace.procs; ceiling = can.book_stands.of_trace.ceiling; maxima = can.book_stands.of_trace.maxima });
      agrees = p.book_agrees;
      pins = subst (λ (x : BookRecord). pin_room_of (process_count trace) ≤ x.pin_room) (sym p.book_is) can.book_stands.pins;
    }

    pub settled_idle : d.value.collection ≡ Idle → HasSettledHeap trace c d b k
    settled_idle is =
        let idle : c.value.collection ≡ Idle = sym same_phase ∙ is in
        record {
          fits = p.fits;
          last = [];
          ends = subst (λ phase. AreEnds (User c.pid) phase []) (sym idle) refl;
          journal = p.journal ∙ sym (append-nil (b.journal.list ++ c.value.tail));
          same_table = p.same_table;
          book_is = p.book_is ∙ sym (ap (λ (x : BookRecord). record b { journal = k.journal; value = x.value }) p.book_is);
          book_kept = subst (λ phase. KeepsBook phase b k) (sym idle) p.book_is;
          cell_kept = subst (λ phase. KeepsCell phase c.value d.value) (sym idle) (ap (λ (x : HeapRecord). x.value) p.cell_is);
          heap_goes_on = record {
            cell_is = p.cell_is ∙ sym (ap (λ (x : HeapRecord). record c { note = d.note; value = x.value }) p.cell_is);
            table = p.table;
            settled = ap (λ (x : HeapRecord). x.value.tail) p.cell_is;
            in_phase = is;
            met = p.met;
            agrees = p.agrees;
          };
          agrees = p.book_agrees;
          sound = p.sound can.book_stands.keeps.limits;
        }

    room_for_end : IsOpen d.value.collection → HasEventRoom k
    unfolding IsOpen
    room_for_end is_open =
        let room = can.room p.fits in
        let one = sym (ap ends_to_come same_phase) ∙ is_open.0 in
        let list = ap length p.journal ∙ length-append b.journal.list c.value.tail in
        let events = ap (λ (x : BookRecord). x.event_room) p.book_is in
        omega (arith, room, one, list, events)

    few_then : HasFewObjects d.value
    few_then = subst (λ (x : HeapRecord). HasFewObjects x.value) (sym p.cell_is) (can.few p.fits)

    pub can_end_marked : d.value.collection ≡ Marked → CanEndHeap trace d k
    can_end_marked marked = record {
      book_stands = still_stands;
      collects = record { agrees = p.agrees; table = p.table; settled = ap (λ (x : HeapRecord). x.value.tail) p.cell_is; in_phase = marked };
      room = λ fits. room_for_end (subst IsOpen (sym marked) marked_is_open);
      few = λ fits. few_then;
    }

    pub can_mark_begun : d.value.collection ≡ Begun → CanMark trace (User d.pid) d.note d.value
    can_mark_begun begun = record { keeps = can.book_stands.keeps; agrees = p.agrees; begun = begun }

    module _ (w : HeapRecord) (rest : w ≡ record d { value = w.value }) (marked : HasMarkedOn trace (User d.pid) d.note d.value w.value) where
      pub can_end_begun : d.value.collection ≡ Begun → CanEndHeap trace w k
      can_end_begun begun =
          subst (λ (x : HeapRecord). CanEndHeap trace x k) (sym rest) (record {
            book_stands = still_stands;
            collects = record {
              agrees = marked.agrees;
              table = p.table;
              settled = ap (λ (x : CellValue). x.tail) marked.rest ∙ ap (λ (x : HeapRecord). x.value.tail) p.cell_is;
              in_phase = marked.phase;
            };
            room = λ fits. room_for_end (subst IsOpen (sym begun) begun_is_open);
            few = λ fits. subst HasFewObjects (sym marked.rest) few_then;
          })

    module _ (w x : HeapRecord) (l : BookRecord) (e : Event) (rest : w ≡ record d { value = w.value }) (h : HasEndedHeap trace w x k l e) (is_open : IsOpen d.value.collection) where
      same_pid : w.pid ≡ c.pid
      same_pid = ap (λ (y : HeapRecord). y.pid) rest ∙ ap (λ (y : HeapRecord). y.pid) p.cell_is

      open_then : IsOpen c.value.collection
      open_then = subst IsOpen same_phase is_open

      settled_ended : HasSettledHeap trace c x b l
      unfolding IsOpen
      settled_ended = record {
        fits = p.fits;
        last = e ∷ [];
        ends = open_then.1 (User c.pid) (e ∷ []) (record {
          objects = h.objects;
          bytes = h.bytes;
          exits = h.exits;
          shares = h.shares;
          is =
              ap (λ (f : Event). f ∷ []) h.event_is
              ∙ ap (λ (pid : Pid). Ended (User pid) h.objects h.bytes h.exits h.shares ∷ []) same_pid;
        });
        journal = h.appended.journal ∙ ap (λ (list : List Event). list ++ e ∷ []) p.journal;
        same_table = h.appended.same_table ∙ p.same_table;
        book_is = h.appended.book_is ∙ ap (λ (y : BookRecord). record y { journal = l.journal; value = l.value }) p.book_is;
        book_kept = open_then.2 b l;
        cell_kept = open_then.3 c.value x.value;
        heap_goes_on = record {
          cell_is =
              h.heap_goes_on.cell_is
              ∙ ap (λ (y : HeapRecord). record y { note = x.note; value = x.value }) rest
              ∙ ap (λ (y : HeapRecord). record y { note = x.note; value = x.value }) p.cell_is;
          table = h.heap_goes_on.table;
          settled = h.heap_goes_on.settled;
          in_phase = h.heap_goes_on.in_phase;
          met = h.heap_goes_on.met;
          agrees = h.heap_goes_on.agrees;
        };
        agrees = h.appended.agrees;
        sound = states_are_sound trace l.journal.list can.book_stands.keeps.limits h.appended.agrees.legal;
      }

    pub settled_marked : (x : HeapRecord) (l : BookRecord) (e : Event) → HasEndedHeap trace d x k l e → d.value.collection ≡ Marked → HasSettledHeap trace c x b l
    settled_marked x l e h is = settled_ended d x l e refl h (subst IsOpen (sym is) marked_is_open)

    pub settled_begun : (w x : HeapRecord) (l : BookRecord) (e : Event) → w ≡ record d { value = w.value } → HasEndedHeap trace w x k l e → d.value.collection ≡ Begun → HasSettledHeap trace c x b l
    settled_begun w x l e rest h is = settled_ended w x l e rest h (subst IsOpen (sym is) begun_is_open)

module _ (trace : Trace) (c : HoldingsValue) (b : BookRecord) (can : CanSettleKernel trace c b) (d : HoldingsValue) (k : BookRecord) (p : KernelHasMet trace c d b k) where
  kernel_phase : d.value.collection ≡ c.value.collection
  kernel_phase = ap (λ (x : HoldingsValue). x.value.collection) (ap held_by p.other_is)

  kernel_agrees : Agrees trace Kernel d.note d.value
  kernel_agrees = subst (λ (x : HoldingsValue). Agrees trace Kernel x.note x.value) (sym (ap held_by p.other_is)) p.told.shows.agrees

  kernel_table_of : d.note.table ≡ k.journal.table
  kernel_table_of = ap (λ (x : HoldingsValue). x.note.table) (ap held_by p.other_is) ∙ can.table ∙ sym (ap (λ (x : BookRecord). x.journal.table) p.book_is)

  kernel_stands_still : BookStands trace k
  kernel_stands_still = subst (BookStands trace) (sym p.book_is) can.book_stands

  pub kernel_settled_idle : d.value.collection ≡ Idle → HasSettledKernel trace c d b k
  kernel_settled_idle is =
      let idle : c.value.collection ≡ Idle = sym kernel_phase ∙ is in
      record {
        fits = p.told.fits;
        last = [];
        ends = subst (λ phase. AreEnds Kernel phase []) (sym idle) refl;
        journal = ap (λ (x : BookRecord). x.journal.list) p.book_is ∙ sym (append-nil b.journal.list);
        same_table = ap (λ (x : BookRecord). x.journal.table) p.book_is;
        book_is = p.book_is ∙ sym (ap (λ (x : BookRecord). record b { journal = x.journal; value = x.value }) p.book_is);
        book_kept = subst (λ phase. KeepsBook phase b k) (sym idle) (p.book_is ∙ sym (ap (λ (x : BookRecord). record b { journal = x.journal }) p.book_is));
        cell_kept = subst (λ phase. KeepsCell phase c.value d.value) (sym idle)
            (ap (λ (x : HoldingsValue). x.value) (ap held_by p.other_is) ∙ ap (λ (tail : List Event). record c.value { tail = tail }) can.agrees.tail);
        kernel_goes_on = record {
          kernel_is = (ap held_by p.other_is) ∙ sym (ap (λ (x : HoldingsValue). record c { note = x.note; value = x.value }) (ap held_by p.other_is));
          table = kernel_table_of;
          in_phase = is;
          met = subst (λ (x : BookRecord). HasMet trace x.journal Kernel d.note) (sym p.book_is)
              (subst (λ (x : HoldingsValue). HasMet trace b.journal Kernel x.note) (sym (ap held_by p.other_is)) p.told.shows.met);
          agrees = kernel_agrees;
        };
        agrees = kernel_stands_still.agrees;
        sound = states_are_sound trace k.journal.list can.book_stands.keeps.limits kernel_stands_still.agrees.legal;
      }

  kernel_room_for_end : IsOpen d.value.collection → HasEventRoom k
  unfolding IsOpen
  kernel_room_for_end is_open =
      let room = can.room p.told.fits in
      let one = sym (ap ends_to_come kernel_phase) ∙ is_open.0 in
      let list = ap (λ (x : BookRecord). length x.journal.list) p.book_is in
      let events = ap (λ (x : BookRecord). x.event_room) p.book_is in
      omega (arith, room, one, list, events)

  kernel_few_then : HasFewObjects d.value
  kernel_few_then = subst (λ (x : HoldingsValue). HasFewObjects x.value) (sym (ap held_by p.other_is)) (can.few p.told.fits)

  pub kernel_can_end_marked : d.value.collection ≡ Marked → CanEndKernel trace d k
  kernel_can_end_marked marked = record {
    book_stands = kernel_stands_still;
    collects = record { agrees = kernel_agrees; table = kernel_table_of; in_phase = marked };
    room = λ fits. kernel_room_for_end (subst IsOpen (sym marked) marked_is_open);
    few = λ fits. kernel_few_then;
  }

  pub kernel_can_mark : d.value.collection ≡ Begun → CanMark trace Kernel d.note d.value
  kernel_can_mark begun = record { keeps = can.book_stands.keeps; agrees = kernel_agrees; begun = begun }

  pub kernel_can_end_begun : (w : HoldingsValue) → w ≡ record d { value = w.value } → HasMarkedOn trace Kernel d.note d.value w.value → d.value.collection ≡ Begun → CanEndKernel trace w k
  kernel_can_end_begun w rest marked begun =
      subst (λ (x : HoldingsValue). CanEndKernel trace x k) (sym rest) (record {
        book_stands = kernel_stands_still;
        collects = record { agrees = marked.agrees; table = kernel_table_of; in_phase = marked.phase };
        room = λ fits. kernel_room_for_end (subst IsOpen (sym begun) begun_is_open);
        few = λ fits. subst HasFewObjects (sym marked.rest) kernel_few_then;
      })

  module _ (w x : HoldingsValue) (l : BookRecord) (e : Event) (rest : w ≡ record d { value = w.value }) (h : HasEndedKernel trace w x k l e) (is_open : IsOpen d.value.collection) where
    kernel_open_then : IsOpen c.value.collection
    kernel_open_then = subst IsOpen kernel_phase is_open

    kernel_settled_ended : HasSettledKernel trace c x b l
    unfolding IsOpen
    kernel_settled_ended = record {
      fits = p.told.fits;
      last = e ∷ [];
      ends = kernel_open_then.1 Kernel (e ∷ []) (record { objects = h.objects; bytes = h.bytes; exits = h.exits; shares = 0; is = ap (λ (f : Event). f ∷ []) h.event_is });
      journal = h.appended.journal ∙ ap (λ (y : BookRecord). y.journal.list ++ e ∷ []) p.book_is;
      same_table = h.appended.same_table ∙ ap (λ (y : BookRecord). y.journal.table) p.book_is;
      book_is = h.appended.book_is ∙ ap (λ (y : BookRecord). record y { journal = l.journal; value = l.value }) p.book_is;
      book_kept = kernel_open_then.2 b l;
      cell_kept = kernel_open_then.3 c.value x.value;
      kernel_goes_on = record {
        kernel_is =
            h.kernel_goes_on.kernel_is
            ∙ ap (λ (y : HoldingsValue). record y { note = x.note; value = x.value }) rest
            ∙ ap (λ (y : HoldingsValue). record y { note = x.note; value = x.value }) (ap held_by p.other_is);
        table = h.kernel_goes_on.table;
        in_phase = h.kernel_goes_on.in_phase;
        met = h.kernel_goes_on.met;
        agrees = h.kernel_goes_on.agrees;
      };
      agrees = h.appended.agrees;
      sound = states_are_sound trace l.journal.list can.book_stands.keeps.limits h.appended.agrees.legal;
    }

  pub kernel_settled_marked : (x : HoldingsValue) (l : BookRecord) (e : Event) → HasEndedKernel trace d x k l e → d.value.collection ≡ Marked → HasSettledKernel trace c x b l
  kernel_settled_marked x l e h is = kernel_settled_ended d x l e refl h (subst IsOpen (sym is) marked_is_open)

  pub kernel_settled_begun : (w x : HoldingsValue) (l : BookRecord) (e : Event) → w ≡ record d { value = w.value } → HasEndedKernel trace w x k l e → d.value.collection ≡ Begun → HasSettledKernel trace c x b l
  kernel_settled_begun w x l e rest h is = kernel_settled_ended w x l e rest h (subst IsOpen (sym is) begun_is_open)
