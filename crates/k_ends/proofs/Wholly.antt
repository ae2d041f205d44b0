-- A whole collection can be done by what serves, which serves afterwards.
use Rattle.std.proofs.Common.{◌≡◌, ℕ, ◌+◌, ◌<◌, ◌≤◌, refl, sym, ap, ap₂, ◌∙◌, subst, List, [], ◌∷◌, ◌++◌, length, arith}
use Rattle.std.proofs.lemmas.List.{length-append}
use Rattle.k_types.specs.declared.event.Event.{Event}
use Rattle.k_types.specs.declared.event.Event.TheVariants.{Done, Ended}
use Rattle.k_types.specs.declared.event.Reply.TheVariants.{Done as DoneReply}
use Rattle.k_types.specs.declared.names.Heap.TheVariants.{Kernel, User}
use Rattle.k_types.specs.declared.names.Name.{Name}
use Rattle.k_types.specs.declared.op.Op.TheVariants.{Collect, KCollect}
use Rattle.k_types.specs.Steps.{IsLegalHistory, state_after}
use Rattle.k_types.specs.Trace.{Trace}
use Rattle.k_types.specs.Agree.{CellValue}
use Rattle.k_agree.specs.Agreement.{Agrees}
use Rattle.k_book.specs.Books.{BookRecord}
use Rattle.k_cell.specs.Holdings.{HoldingsValue}
use Rattle.k_heap.specs.Heaps.{HeapRecord}
use Rattle.k_calls.specs.k_commit.Published.{HasPublished}
use Rattle.k_calls.specs.k_collect.Begun.{HasAppended, HasBegunHeap, HasBegunKernel}
use Rattle.k_calls.specs.k_collect.Collecting.{CanEndHeap, CanEndKernel}
use Rattle.k_calls.specs.k_collect.Ended.{HasEndedHeap, HasEndedKernel}
use Rattle.k_calls.specs.k_collect.Freed.{AreFreed, gone_between}
use Rattle.k_calls.specs.k_collect.Marking.{CanMark, HasMarkedOn}
use Rattle.k_calls.specs.k_guests.declared.guest.Guest.{Guest}
use Rattle.k_calls.specs.k_guests.Serving.{Basis, BookServes, GuestServes, KernelServes}
use Rattle.k_calls.proofs.Due.{book_published, longer_published}
use Rattle.k_calls.proofs.Going.{guest_goes_on, kernel_goes_on}
use Rattle.k_calls.specs.k_guests.Objects.{gone_by, made_by, objects_after}
use Rattle.k_calls.specs.k_guests.Reserve.{Spares}
use Rattle.k_calls.proofs.Objects.{appended_counts, published_counts, settled_few}
use Rattle.k_ends.proofs.Handed.{book_appended}
use Rattle.k_calls.proofs.TestedRooms.{event_left, few_of, few_of_kernel}
use Rattle.k_ends.specs.Collecting.{CanBeginKernel, CanGoOn}
use Rattle.k_ends.specs.Whole.{AreFreedLast, CanCollect, CanCollectKernel, HasCollected, HasCollectedKernel}

-- with room for two events there is room for one
pub goes_on : (basis : Basis) (g : Guest) (b : BookRecord) → CanCollect basis g b → CanGoOn basis g b
goes_on basis g b can = record { guest = can.guest; book = can.book; lives = can.lives; room = let room = can.room in omega (arith, room) }

pub begins_kernel : (basis : Basis) (g : Guest) (k : HoldingsValue) (b : BookRecord) → CanCollectKernel basis g k b → CanBeginKernel basis g k b
begins_kernel basis g k b can = record { own = record { can = goes_on basis g b can.own; idle = can.own.idle }; kernel = can.kernel; idle = can.idle; orphans = can.orphans }

plus_none : (n : ℕ) → 0 + n ≡ n
plus_none n = omega arith

-- what the end of a collection freed, which is the last event
pub last_freed : (trace : Trace) (before history : List Event) (event : Event) (names : List Name) → history ≡ before ++ event ∷ [] → AreFreed trace before event [] names → AreFreedLast trace history names
last_freed trace before history event names is freed = record {
  before = before;
  last = event;
  history_is = is;
  once = λ n.
      freed.once n
      ∙ plus_none (gone_between (state_after trace before) (state_after trace (before ++ event ∷ [])) n)
      ∙ ap (λ (events : List Event). gone_between (state_after trace before) (state_after trace events) n) (sym is);
}

-- a process that has published
module _ (basis : Basis) (g : Guest) (b : BookRecord) (can : CanCollect basis g b) (w : HeapRecord) (l : BookRecord) (s : HasPublished basis.trace g.cell.value.tail g.cell w b l) where
  -- behind one event more the journal has room for another
  left_behind : (m : BookRecord) (first : Event) → m.journal.list ≡ l.journal.list ++ first ∷ [] → length m.journal.list < basis.rooms.events
  left_behind m first is =
      let room = can.room in
      let longer = longer_published basis g b can.guest can.book w l s in
      let more : length m.journal.list ≡ length l.journal.list + 1 = ap length is ∙ length-append l.journal.list (first ∷ []) in
      omega (arith, room, longer, more)

  book_then : (m : BookRecord) (event : Event) → HasAppended basis.trace l m event → Spares basis.trace basis.rooms.exits basis.rooms.kernel_exits (state_after basis.trace l.journal.list) event → made_by event ≡ 0 → BookServes basis m
  book_then m event a spares none = book_appended basis l (book_published basis g b can.guest can.book w l s) m event a.book_is a.agrees a.journal a.possible spares none

  -- where the machine has no more objects than so many, no cell has more once the collection has begun
  few_then : (m : BookRecord) (first : Event) → HasAppended basis.trace l m first → made_by first ≡ 0 → gone_by first ≡ 0 → objects_after basis.trace m.journal.list ≡ objects_after basis.trace b.journal.list
  few_then m first a none_made none_gone =
      let published = published_counts basis.trace b.journal.list g.cell.pid g.cell.note g.cell.value can.guest.agrees (subst (IsLegalHistory basis.trace) s.journal s.book_agrees.legal) in
      let one = appended_counts basis.trace l.journal.list first a.possible in
      let then : objects_after basis.trace m.journal.list ≡ objects_after basis.trace (l.journal.list ++ first ∷ []) = ap (objects_after basis.trace) a.journal in
      let before : objects_after basis.trace l.journal.list ≡ objects_after basis.trace (b.journal.list ++ g.cell.value.tail) = ap (objects_after basis.trace) s.journal in
      omega (arith, published, one, then, before, none_made, none_gone)

  -- the process serves with a cell that has changed note and value alone
  guest_then : (z : HeapRecord) (n : BookRecord) → z ≡ record g.cell { note = z.note; value = z.value } → Agrees basis.trace (User z.pid) z.note z.value → z.note.table ≡ n.journal.table →
      GuestServes basis n.journal.table (record g { cell = z })
  guest_then z n is agrees table =
      guest_goes_on basis b.journal.table n.journal.table g z g.bodies can.guest
      (is ∙ ap (λ (y : HeapRecord). record g.cell { note = z.note; value = z.value; bodies = y.bodies }) (sym is))
      agrees table (ap (λ (y : HeapRecord). y.bodies) is ∙ can.guest.stock) (λ lives. can.lives)

  -- whose collection has begun
  module _ (v : HeapRecord) (m : BookRecord) (first : Event) (d : HasBegunHeap basis.trace w v l m first) where
    pub can_mark_then : CanMark basis.trace (User v.pid) v.note v.value
    can_mark_then = record { keeps = can.guest.rules; agrees = d.heap_goes_on.agrees; begun = d.heap_goes_on.in_phase }

    book_begun : BookServes basis m
    book_begun = book_then m first d.appended (subst (λ (e : Event). Spares basis.trace basis.rooms.exits basis.rooms.kernel_exits (state_after basis.trace l.journal.list) e) (sym d.event_is) tt) (ap made_by d.event_is)

    begun_is : v ≡ record g.cell { note = v.note; value = v.value }
    begun_is = d.heap_goes_on.cell_is ∙ ap (λ (y : HeapRecord). record y { note = v.note; value = v.value }) s.cell_is

    -- and which is marked
    module _ (x : HeapRecord) (is : x ≡ record v { value = x.value }) (q : HasMarkedOn basis.trace (User v.pid) v.note v.value x.value) where
      pub can_end_then : CanEndHeap basis.trace x m
      can_end_then = record {
        book_stands = book_begun.stands;
        collects = record {
          agrees = subst (λ (y : HeapRecord). Agrees basis.trace (User y.pid) y.note x.value) (sym is) q.agrees;
          table = ap (λ (y : HeapRecord). y.note.table) is ∙ d.heap_goes_on.table;
          settled = ap (λ (y : CellValue). y.tail) q.rest ∙ d.heap_goes_on.settled;
          in_phase = q.phase;
        };
        room = λ fits. event_left basis m m book_begun refl (left_behind m first d.appended.journal);
        few = few_of basis m book_begun x.pid x.note x.value (subst (λ (y : HeapRecord). Agrees basis.trace (User y.pid) y.note x.value) (sym is) q.agrees);
      }

      -- the cell has no more objects than the machine had at first
      pub objects_few : length x.value.objects ≤ objects_after basis.trace b.journal.list
      objects_few =
          let same : length x.value.objects ≡ length v.value.objects = ap (λ (y : CellValue). length y.objects) q.rest in
          let few = settled_few basis.trace m.journal (User v.pid) v.note v.value d.heap_goes_on.agrees d.heap_goes_on.settled d.heap_goes_on.met.list in
          let all = few_then m first d.appended (ap made_by d.event_is) (ap gone_by d.event_is) in
          omega (arith, same, few, all)

      marked_is : x ≡ record g.cell { note = v.note; value = x.value }
      marked_is = is ∙ ap (λ (y : HeapRecord). record y { value = x.value }) begun_is

      module _ (z : HeapRecord) (n : BookRecord) (event : Event) (e : HasEndedHeap basis.trace x z m n event) where
        ended_is : z ≡ record g.cell { note = z.note; value = z.value }
        ended_is = e.heap_goes_on.cell_is ∙ ap (λ (y : HeapRecord). record y { note = z.note; value = z.value }) marked_is

        pub collected : HasCollected basis g (record g { cell = z }) b n event
        collected = record {
          keeps = record {
            guest = guest_then z n ended_is e.heap_goes_on.agrees e.heap_goes_on.table;
            book =
                book_appended basis m book_begun n event e.appended.book_is e.appended.agrees e.appended.journal e.appended.possible
                (subst (λ (f : Event). Spares basis.trace basis.rooms.exits basis.rooms.kernel_exits (state_after basis.trace m.journal.list) f) (sym e.event_is) tt)
                (ap made_by e.event_is);
            same_table = e.appended.same_table ∙ d.appended.same_table ∙ s.same_table;
            pid = ap (λ (y : HeapRecord). y.pid) ended_is;
            bodies = refl;
          };
          journal =
              e.appended.journal
              ∙ ap (λ events. events ++ event ∷ [])
              (d.appended.journal ∙ ap₂ (λ events f. events ++ f ∷ []) s.journal (d.event_is ∙ ap (λ (y : HeapRecord). Done y.pid Collect DoneReply) s.cell_is));
          is_end = record {
            objects = e.objects;
            bytes = e.bytes;
            exits = e.exits;
            shares = e.shares;
            is = ap (λ (f : Event). f ∷ []) (e.event_is ∙ ap (λ (y : HeapRecord). Ended (User y.pid) e.objects e.bytes e.exits e.shares) marked_is);
          };
          phase = e.heap_goes_on.in_phase;
          settled = e.heap_goes_on.settled;
        }

  -- with which the collection of the kernel's heap has begun
  module _ (k : HoldingsValue) (kernel : KernelServes basis b.journal.table k) (v : HeapRecord) (x : HoldingsValue) (m : BookRecord) (first : Event) (d : HasBegunKernel basis.trace w v k x l m first) where
    pub kernel_can_mark_then : CanMark basis.trace Kernel x.note x.value
    kernel_can_mark_then = record { keeps = kernel.rules; agrees = d.kernel_goes_on.agrees; begun = d.kernel_goes_on.in_phase }

    kernel_book_begun : BookServes basis m
    kernel_book_begun = book_then m first d.appended (subst (λ (e : Event). Spares basis.trace basis.rooms.exits basis.rooms.kernel_exits (state_after basis.trace l.journal.list) e) (sym d.event_is) tt) (ap made_by d.event_is)

    kernel_begun_is : v ≡ record g.cell { note = v.note; value = v.value }
    kernel_begun_is = d.heap_goes_on.cell_is ∙ ap (λ (y : HeapRecord). record y { note = v.note; value = v.value }) s.cell_is

    module _ (y : HoldingsValue) (is : y ≡ record x { value = y.value }) (q : HasMarkedOn basis.trace Kernel x.note x.value y.value) where
      pub kernel_can_end_then : CanEndKernel basis.trace y m
      kernel_can_end_then = record {
        book_stands = kernel_book_begun.stands;
        collects = record {
          agrees = subst (λ (u : HoldingsValue). Agrees basis.trace Kernel u.note y.value) (sym is) q.agrees;
          table = ap (λ (u : HoldingsValue). u.note.table) is ∙ d.kernel_goes_on.table;
          in_phase = q.phase;
        };
        room = λ fits. event_left basis m m kernel_book_begun refl (left_behind m first d.appended.journal);
        few = few_of_kernel basis m kernel_book_begun y.note y.value (subst (λ (u : HoldingsValue). Agrees basis.trace Kernel u.note y.value) (sym is) q.agrees);
      }

      -- the cell has no more objects than the machine had at first
      pub kernel_objects_few : length y.value.objects ≤ objects_after basis.trace b.journal.list
      kernel_objects_few =
          let same : length y.value.objects ≡ length x.value.objects = ap (λ (u : CellValue). length u.objects) q.rest in
          let few = settled_few basis.trace m.journal Kernel x.note x.value d.kernel_goes_on.agrees d.kernel_goes_on.agrees.tail d.kernel_goes_on.met.list in
          let all = few_then m first d.appended (ap made_by d.event_is) (ap gone_by d.event_is) in
          omega (arith, same, few, all)

      module _ (z : HoldingsValue) (n : BookRecord) (event : Event) (e : HasEndedKernel basis.trace y z m n event) where
        kernel_is : z ≡ record k { note = z.note; value = z.value }
        kernel_is =
            e.kernel_goes_on.kernel_is
            ∙ ap (λ (u : HoldingsValue). record u { note = z.note; value = z.value }) (is ∙ ap (λ (u : HoldingsValue). record u { value = y.value }) d.kernel_goes_on.kernel_is)

        pub kernel_collected : HasCollectedKernel basis g (record g { cell = v }) z b n event
        kernel_collected = record {
          keeps = record {
            guest = guest_then v n kernel_begun_is d.heap_goes_on.agrees (d.heap_goes_on.table ∙ sym e.appended.same_table);
            book =
                book_appended basis m kernel_book_begun n event e.appended.book_is e.appended.agrees e.appended.journal e.appended.possible
                (subst (λ (f : Event). Spares basis.trace basis.rooms.exits basis.rooms.kernel_exits (state_after basis.trace m.journal.list) f) (sym e.event_is) tt)
                (ap made_by e.event_is);
            same_table = e.appended.same_table ∙ d.appended.same_table ∙ s.same_table;
            pid = ap (λ (u : HeapRecord). u.pid) kernel_begun_is;
            bodies = refl;
          };
          kernel = kernel_goes_on basis b.journal.table n.journal.table k z kernel kernel_is e.kernel_goes_on.agrees e.kernel_goes_on.table;
          journal =
              e.appended.journal
              ∙ ap (λ events. events ++ event ∷ [])
              (d.appended.journal ∙ ap₂ (λ events f. events ++ f ∷ []) s.journal (d.event_is ∙ ap (λ (u : HeapRecord). Done u.pid KCollect DoneReply) s.cell_is));
          is_end = record { objects = e.objects; bytes = e.bytes; exits = e.exits; shares = 0; is = ap (λ (f : Event). f ∷ []) e.event_is };
          phase = e.kernel_goes_on.in_phase;
          idle = d.heap_goes_on.in_phase;
          settled = d.heap_goes_on.settled;
        }
