-- Where a call has tested it, the tables have room for what the operation adds.
use Rattle.std.proofs.Common.{◌≡◌, ℕ, ◌+◌, ◌<◌, ◌≤◌, ◌++◌, ◌^◌, sym, ap, subst, List, [], ◌∷◌, length, get_or, arith, Some, None, IsFalse, IsTrue, refl}
use Rattle.std.proofs.lemmas.Bool.{false≢true}
use Rattle.k_types.specs.declared.names.Heap.TheVariants.{Kernel, Shared, User}
use Rattle.k_types.specs.declared.names.Pid.{Pid}
use Rattle.k_types.specs.declared.names.SharedId.{SharedId}
use Rattle.k_types.specs.declared.op.Op.{Op}
use Rattle.k_types.specs.declared.op.Op.TheVariants.{New, KNew, SNew, Store}
use Rattle.k_types.specs.Agree.{BookValue, CellValue, book_shown_by}
use Rattle.k_types.specs.Cells.{Cell, CellPart}
use Rattle.k_types.specs.Steps.{state_after}
use Rattle.k_laws.specs.Touches.{other_cells_in}
use Rattle.k_agree.specs.Agreement.{Agrees}
use Rattle.k_agree.specs.Meeting.{Fits, met_note}
use Rattle.k_book.specs.Books.{BookRecord}
use Rattle.k_laws.specs.Counts.{is_allocation, is_store}
use Rattle.k_cell.specs.Holdings.{HasObjectRoom, HoldingsValue}
use Rattle.k_operate.specs.k_commit.Changed.{bodies_after}
use Rattle.k_operate.specs.k_commit.Others.{of_shared}
use Rattle.k_operate.specs.k_commit.Rooms.{HasEventRoom, HasTableRoom}
use Rattle.k_operate.specs.k_collect.Collecting.{HasFewObjects}
use Rattle.k_agree.proofs.Meetings.{meeting}
use Rattle.k_guests.proofs.Objects.{published_counts, shown_few}
use Rattle.k_heap.specs.Heaps.{HeapRecord, holdings_of as heap_holdings, own_segment}
use Rattle.k_shared.specs.SharedHeaps.{SharedRecord, holdings_of as shared_holdings}
use Rattle.k_space.specs.Objects.{BodyValue}
use Rattle.k_tie.specs.Values.{NoteValue}
use Rattle.k_guests.specs.declared.guest.Guest.{Guest}
use Rattle.k_guests.specs.Keeping.{is_absorbed_in}
use Rattle.k_guests.specs.Serving.{Basis, BookServes, supply_of}
use Rattle.k_calls.specs.Adding.{HasCountLeft, HasEntryRoom, HasKernelItemLeft, HasKernelRoom, HasOwnRoom, HasSharedRoom}
use Rattle.k_calls.specs.Doing.{bodies_for}

-- room for one object more is there whatever the note knows
met_still : (h : HoldingsValue) (note : NoteValue) (seg : ℕ) → HasObjectRoom h seg → HasObjectRoom (record h { note = note }) seg
met_still h note seg left = record { given = left.given; room = left.room; there = left.there; can_give = left.can_give; left = left.left }

-- and whether the holdings show the phase of a shared heap
shown_still : (s : SharedRecord) (seg : ℕ) → HasObjectRoom (shared_holdings s) seg → HasObjectRoom (of_shared s).held seg
shown_still s seg left = record { given = left.given; room = left.room; there = left.there; can_give = left.can_give; left = left.left }

-- a process's cell whose note fits the journal has no more objects than the machine, whatever it has not published
pub few_of : (basis : Basis) (b : BookRecord) → BookServes basis b → (pid : Pid) (note : NoteValue) (v : CellValue) → Agrees basis.trace (User pid) note v → Fits b.journal note → HasFewObjects v
few_of basis b serves pid note v agrees fits =
    let met = meeting basis.trace b.journal b.value (User pid) note v agrees serves.stands.agrees fits in
    let same = published_counts basis.trace b.journal.list pid (met_note b.journal note) v met.agrees met.agrees.legal in
    let held = shown_few basis.trace (state_after basis.trace (b.journal.list ++ v.tail)) (User pid) v met.agrees.shows in
    let few = serves.few in
    omega (arith, same, held, few)

-- nor has the kernel's
pub few_of_kernel : (basis : Basis) (b : BookRecord) → BookServes basis b → (note : NoteValue) (v : CellValue) → Agrees basis.trace Kernel note v → Fits b.journal note → HasFewObjects v
few_of_kernel basis b serves note v agrees fits =
    let met = meeting basis.trace b.journal b.value Kernel note v agrees serves.stands.agrees fits in
    let held = shown_few basis.trace (state_after basis.trace b.journal.list) Kernel v (met.shows agrees.tail) in
    let few = serves.few in
    omega (arith, held, few)

-- the book has the same value as when its room was tested
module _ (basis : Basis) (tested b : BookRecord) (serves : BookServes basis b) (same : b.value ≡ tested.value) where
  pub event_left : length b.journal.list < basis.rooms.events → HasEventRoom b
  event_left left = let all = serves.events in omega (arith, left, all)

  entry_left : HasEntryRoom basis tested → length b.value.entries < b.entry_room
  entry_left left = let all = serves.entries in let many = ap (λ (v : BookValue). length v.entries) same in omega (arith, left, all, many)

  module _ (bodies : List BodyValue) (n : ℕ) (part : CellPart) (p : ℕ) where
    abbrev cells_of : Op → List Cell
    cells_of op = other_cells_in basis.trace (book_shown_by b.value) part p op

    -- the tables of a process's heap, where its cell alone is touched
    pub own_tables : (g : Guest) (w : HeapRecord) (op : Op) → bodies ≡ bodies_for basis op n → cells_of op ≡ [] → heap_holdings w ≡ record (heap_holdings g.cell) { note = w.note } → w.pid ≡ g.cell.pid →
        w.exit_room ≡ basis.rooms.exits → HasOwnRoom basis g tested op → HasTableRoom basis.trace bodies (heap_holdings w) (own_segment w.pid) b op
    unfolding other_cells_in
    own_tables g w (New r ty) stock cells holds pid exits room = record {
      body = record { rest = supply_of basis n; first = stock };
      serial = λ given there.
          subst (λ (h : HoldingsValue). HasObjectRoom h (own_segment w.pid)) (sym holds)
          (subst (λ (q : Pid). HasObjectRoom (record (heap_holdings g.cell) { note = w.note }) (own_segment q)) (sym pid) (met_still (heap_holdings g.cell) w.note (own_segment g.cell.pid) room.room));
    }
    own_tables g w (KNew r ty) stock cells holds pid exits room = absurd (cc)
    own_tables g w (SNew r s ty) stock cells holds pid exits room = absurd (cc)
    own_tables g w (Store base i value) stock cells holds pid exits room = record {
      exits = let same = ap (λ (h : HoldingsValue). length h.value.exits) holds in let few = room.exits in omega (arith, same, few, exits);
      entries = entry_left room.entries;
    }
    own_tables g w _ stock cells holds pid exits room = tt

    -- one object more can be counted, where the operation makes one
    pub own_counted : (g : Guest) (op : Op) → cells_of op ≡ [] → HasOwnRoom basis g tested op → IsTrue (is_allocation op) → HasCountLeft tested
    unfolding other_cells_in
    own_counted g (New r ty) cells room asks = room.counted
    own_counted g (KNew r ty) cells room asks = absurd (cc)
    own_counted g (SNew r s ty) cells room asks = absurd (cc)
    own_counted g _ cells room asks = absurd (false≢true asks)

    -- those of the kernel's heap, where its cell is touched
    pub kernel_tables : (k : HoldingsValue) (op : Op) → bodies ≡ bodies_for basis op n → cells_of op ≡ Kernel ∷ [] → k.exit_room ≡ basis.rooms.kernel_exits → HasKernelRoom basis k tested op →
        HasTableRoom basis.trace bodies k 0 b op
    unfolding other_cells_in
    kernel_tables k (New r ty) stock cells exits room = absurd (cc)
    kernel_tables k (KNew r ty) stock cells exits room = record { body = record { rest = supply_of basis n; first = stock }; serial = λ given there. room.room }
    kernel_tables k (SNew r s ty) stock cells exits room = absurd (cc)
    kernel_tables k (Store base i value) stock cells exits room = record { exits = let few = room.exits in omega (arith, few, exits); entries = entry_left room.entries }
    kernel_tables k _ stock cells exits room = tt

    pub kernel_counted : (k : HoldingsValue) (op : Op) → cells_of op ≡ Kernel ∷ [] → HasKernelRoom basis k tested op → IsTrue (is_allocation op) → HasCountLeft tested
    unfolding other_cells_in
    kernel_counted k (New r ty) cells room asks = absurd (cc)
    kernel_counted k (KNew r ty) cells room asks = room.counted
    kernel_counted k (SNew r s ty) cells room asks = absurd (cc)
    kernel_counted k _ cells room asks = absurd (false≢true asks)

    -- those of a shared heap, where its cell is touched
    pub shared_tables : (s : SharedRecord) (id : SharedId) (op : Op) → bodies ≡ bodies_for basis op n → cells_of op ≡ Shared id ∷ [] → s.exit_room ≡ basis.rooms.exits → HasSharedRoom basis s tested op →
        ((given : ℕ) → get_or s.value.made s.seg.0 None ≡ Some given → IsFalse (is_absorbed_in s.value.phase)) → HasTableRoom basis.trace bodies (of_shared s).held s.seg.0 b op
    unfolding other_cells_in
    shared_tables s id (New r ty) stock cells exits room stands = absurd (cc)
    shared_tables s id (KNew r ty) stock cells exits room stands = absurd (cc)
    shared_tables s id (SNew r t ty) stock cells exits room stands = record { body = record { rest = supply_of basis n; first = stock }; serial = λ given there. shown_still s s.seg.0 (room.room (stands given there)) }
    shared_tables s id (Store base i value) stock cells exits room stands = record { exits = let few = room.exits in omega (arith, few, exits); entries = entry_left room.entries }
    shared_tables s id _ stock cells exits room stands = tt

    pub shared_counted : (s : SharedRecord) (id : SharedId) (op : Op) → cells_of op ≡ Shared id ∷ [] → HasSharedRoom basis s tested op → IsTrue (is_allocation op) → HasCountLeft tested
    unfolding other_cells_in
    shared_counted s id (New r ty) cells room asks = absurd (cc)
    shared_counted s id (KNew r ty) cells room asks = absurd (cc)
    shared_counted s id (SNew r t ty) cells room asks = room.counted
    shared_counted s id _ cells room asks = absurd (false≢true asks)

-- a store that touches the kernel's cell has found an exit item
pub kernel_item : (basis : Basis) (k : HoldingsValue) (b : BookRecord) (op : Op) → IsTrue (is_store op) → HasKernelRoom basis k b op → HasKernelItemLeft basis k b
kernel_item basis k b (Store base i value) store room = room
kernel_item basis k b _ store room = absurd (false≢true store)

-- the supply is left once the operation has taken its body
pub bodies_left : (basis : Basis) (n : ℕ) (op : Op) → bodies_after op (bodies_for basis op n) ≡ supply_of basis n
bodies_left basis n (New r ty) = refl
bodies_left basis n (KNew r ty) = refl
bodies_left basis n (SNew r s ty) = refl
bodies_left basis n _ = refl
