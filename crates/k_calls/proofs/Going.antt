-- What serves goes on serving after a step.
use Rattle.std.proofs.Common.{◌≡◌, ℕ, ◌≤◌, sym, ap, ◌∙◌, subst, List, ◌++◌, append-nil, IsFalse, false, get_or, Some, None, inl, inr}
use Rattle.std.proofs.lemmas.Bool.{cases_Bool, false≢true}
use Rattle.atomic_table.specs.Seated.{TableId}
use Rattle.k_types.specs.declared.event.Event.{Event}
use Rattle.k_types.specs.declared.names.CellPhase.TheVariants.{Idle}
use Rattle.k_types.specs.declared.names.Heap.TheVariants.{Kernel, Shared, User}
use Rattle.k_types.specs.declared.names.SharedId.{SharedId}
use Rattle.k_types.specs.Cells.{ShownPart, part}
use Rattle.k_types.specs.Owners.{is_absorbed, phase_of}
use Rattle.k_types.specs.State.{State}
use Rattle.k_types.specs.Steps.{state_after}
use Rattle.k_types.specs.Trace.{Trace, process_count, segment_count, segment_of}
use Rattle.k_agree.proofs.AtTheEnd.{maxima_counted}
use Rattle.k_laws.proofs.OwnerOf.{owner_stands}
use Rattle.k_agree.specs.Agreement.{Agrees, BookAgrees, Shows}
use Rattle.k_book.specs.Books.{BookRecord, pin_room_of}
use Rattle.k_cell.specs.Holdings.{HoldingsValue}
use Rattle.k_heap.specs.Heaps.{HeapRecord, has_ended_in, own_segment}
use Rattle.k_shared.specs.SharedHeaps.{SharedRecord}
use Rattle.k_space.specs.Objects.{BodyValue}
use Rattle.k_guests.proofs.CanDo.{owner_shown}
use Rattle.k_guests.proofs.Kept.{absorbed_stays}
use Rattle.k_guests.specs.Keeping.{is_absorbed_in}
use Rattle.k_guests.specs.declared.guest.Guest.{Guest}
use Rattle.k_guests.specs.Serving.{Basis, BookServes, GuestServesWith, HasFewObjectsIn, HasReserveAt, HasSegment, KernelServes, SharedServes}

module _ (basis : Basis) where
  -- a process whose cell has changed note, value and bodies
  pub guest_goes_on : {had has : List BodyValue} (old tie : TableId) (g : Guest) (w : HeapRecord) (n : ℕ) → GuestServesWith basis old had g → w ≡ record g.cell { note = w.note; value = w.value; bodies = w.bodies } →
      Agrees basis.trace (User w.pid) w.note w.value → w.note.table ≡ tie → w.bodies ≡ has →
      (IsFalse (has_ended_in w.value.process) → IsFalse (has_ended_in g.cell.value.process)) → GuestServesWith basis tie has (record { cell = w; bodies = n })
  guest_goes_on old tie g w n serves is agrees table stock lives = record {
    rules = serves.rules;
    agrees = agrees;
    table = table;
    stock = stock;
    exits = ap (λ (x : HeapRecord). x.exit_room) is ∙ serves.exits;
    serials = λ now. subst (λ (x : HeapRecord). HasSegment basis.rooms.objects x.serial_rooms (own_segment x.pid)) (sym is) (serves.serials (lives now));
    tail = subst (λ (x : HeapRecord). basis.rooms.tail ≤ x.tail_room) (sym is) serves.tail;
  }

  -- the kernel's cell that has changed note and value
  pub kernel_goes_on : (old tie : TableId) (k x : HoldingsValue) → KernelServes basis old k → x ≡ record k { note = x.note; value = x.value } → Agrees basis.trace Kernel x.note x.value → x.note.table ≡ tie →
      KernelServes basis tie x
  kernel_goes_on old tie k x serves is agrees table = record {
    rules = serves.rules;
    agrees = agrees;
    table = table;
    exits = ap (λ (y : HoldingsValue). y.exit_room) is ∙ serves.exits;
    serials = subst (λ (y : HoldingsValue). HasSegment basis.rooms.objects y.serial_rooms 0) (sym is) serves.serials;
    numbers = subst (λ (y : HoldingsValue). segment_count basis.trace ≤ y.bound) (sym is) serves.numbers;
  }

  -- the book that has changed journal and value
  pub book_goes_on : (b l : BookRecord) → BookServes basis b → l ≡ record b { journal = l.journal; value = l.value } → BookAgrees basis.trace l.journal l.value → HasReserveAt basis (state_after basis.trace l.journal.list) →
      HasFewObjectsIn basis l → BookServes basis l
  book_goes_on b l serves is agrees reserve few = record {
    stands = record {
      keeps = serves.stands.keeps;
      of_trace = record {
        rows = ap (λ (x : BookRecord). x.rows) is ∙ serves.stands.of_trace.rows;
        procs = ap (λ (x : BookRecord). x.procs) is ∙ serves.stands.of_trace.procs;
        ceiling = ap (λ (x : BookRecord). x.ceiling) is ∙ serves.stands.of_trace.ceiling;
        maxima = maxima_counted basis.trace l.journal l.value agrees;
      };
      agrees = agrees;
      pins = subst (λ (x : BookRecord). pin_room_of (process_count basis.trace) ≤ x.pin_room) (sym is) serves.stands.pins;
    };
    events = ap (λ (x : BookRecord). x.event_room) is ∙ serves.events;
    few = few;
    kept = ap (λ (x : BookRecord). x.kept) is ∙ serves.kept;
    entries = ap (λ (x : BookRecord). x.entry_room) is ∙ serves.entries;
    reserve = reserve;
  }

-- a shared heap that shows serials of its own segment is not absorbed
pub stands_where_made : (trace : Trace) (st : State) (s : SharedRecord) (given : ℕ) → Shows trace st (Shared s.id) s.value → get_or s.value.made s.seg.0 None ≡ Some given → is_absorbed_in s.value.phase ≡ false
unfolding part
stands_where_made trace st s given shows there =
    ap (λ (v : ShownPart). is_absorbed_in v.phase) shows.part
    ∙ owner_stands (process_count trace) st.ended st.phases s.seg.0 s.id.0 (owner_shown trace st (Shared s.id) s.value s.seg.0 given shows there)

-- what a shared heap's cell shows of its phase
phase_shown : (trace : Trace) (s : SharedRecord) → Agrees trace (Shared s.id) s.note s.value → s.value.phase ≡ Some (phase_of (state_after trace s.note.list).phases s.id.0)
unfolding part
phase_shown trace s agrees =
    ap (λ (y : ShownPart). y.phase) agrees.shows.part
    ∙ ap (λ list. Some (phase_of (state_after trace list).phases s.id.0)) (ap (λ ys. s.note.list ++ ys) agrees.tail ∙ append-nil s.note.list)

module _ (basis : Basis) (old tie : TableId) (s x : SharedRecord) (rest : List Event) (serves : SharedServes basis old s) (agrees : Agrees basis.trace (Shared x.id) x.note x.value)
    (is : x ≡ record s { note = x.note; value = x.value }) (longer : s.note.list ++ rest ≡ x.note.list) where
  -- a heap that is not absorbed now was not absorbed before
  stood : is_absorbed_in x.value.phase ≡ false → is_absorbed_in s.value.phase ≡ false
  stood now =
      let after : is_absorbed (phase_of (state_after basis.trace x.note.list).phases s.id.0) ≡ false =
      ap (λ (i : SharedId). is_absorbed (phase_of (state_after basis.trace x.note.list).phases i.0)) (sym (ap (λ (y : SharedRecord). y.id) is)) ∙ sym (ap is_absorbed_in (phase_shown basis.trace x agrees)) ∙ now in
      elim (cases_Bool (is_absorbed (phase_of (state_after basis.trace s.note.list).phases s.id.0))) [
        | inl gone ↦ absurd (false≢true (sym after ∙ ap (λ list. is_absorbed (phase_of (state_after basis.trace list).phases s.id.0)) (sym longer) ∙ absorbed_stays basis.trace s.note.list rest s.id.0 gone))
        | inr stands ↦ ap is_absorbed_in (phase_shown basis.trace s serves.agrees) ∙ stands
      ]

  -- the cell of a shared heap that has changed note and value
  pub shared_goes_on : x.note.table ≡ tie → x.value.collection ≡ Idle → SharedServes basis tie x
  shared_goes_on table idle = record {
    agrees = agrees;
    table = table;
    segment = ap (λ (y : SharedRecord). y.seg.0) is ∙ serves.segment ∙ ap (λ (y : SharedRecord). segment_of basis.trace (Shared y.id)) (sym is);
    idle = idle;
    exits = ap (λ (y : SharedRecord). y.exit_room) is ∙ serves.exits;
    serials = λ now. subst (λ (y : SharedRecord). HasSegment basis.rooms.objects y.serial_rooms y.seg.0) (sym is) (serves.serials (stood now));
  }
