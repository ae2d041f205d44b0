-- A cell and the book that keep what the locks ask can take the process's next operation.
use Rattle.std.proofs.Common.{◌≡◌, ℕ, zero, suc, ◌<◌, ◌≤◌, cond, true, false, inl, refl, sym, ap, ◌∙◌, subst, List, [], ◌∷◌, ◌++◌, append-nil, length, drop, get_or, arith, Option, Some, None, IsTrue, IsFalse}
use Rattle.std.specs.List.{list_all}
use Rattle.std.proofs.lemmas.Bool.{and_parts}
use Rattle.std.proofs.lemmas.List.{length-append}
use Rattle.atomic_table.specs.Seated.{TableId}
use Rattle.k_types.specs.declared.names.Heap.{Heap}
use Rattle.k_types.specs.declared.names.Heap.TheVariants.{Kernel, Shared, User}
use Rattle.k_types.specs.declared.names.Pid.{Pid}
use Rattle.k_types.specs.declared.op.Op.{Op}
use Rattle.k_types.specs.declared.op.Op.TheVariants.{New, KNew, SNew, Store}
use Rattle.k_types.specs.Agree.{CellValue}
use Rattle.k_types.specs.Cells.{BookPart, Cell, ShownPart, book_part, entries, part, process_of}
use Rattle.k_types.specs.Names.{among, heap_eq}
use Rattle.k_types.specs.Owners.{owner_of}
use Rattle.k_types.specs.Sound.{IsSound}
use Rattle.k_types.specs.State.{ExitItem, State}
use Rattle.k_types.specs.Steps.{done_by, in_range, state_after}
use Rattle.k_types.specs.Trace.{Trace, operations_of, process_count}
use Rattle.k_types.specs.Counted.{counted}
use Rattle.k_types.specs.Distinct.{AreDistinctNames}
use Rattle.k_types.proofs.NameTests.{heap_eq_refl, heap_eq-true}
use Rattle.k_types.proofs.Sums.{ones, sum_same}
use Rattle.k_laws.specs.Counts.{allocates_in, exit_count, is_allocation, is_store}
use Rattle.k_laws.proofs.ByProcess.{first_of}
use Rattle.k_laws.proofs.Distinct.{entries_few, targets_sum}
use Rattle.k_laws.proofs.Dones.{done_count}
use Rattle.k_laws.specs.PartUpdates.{done_in}
use Rattle.k_laws.proofs.OwnerOf.{owner_kernel, owner_stands, owner_user}
use Rattle.k_tie.specs.Values.{NoteValue}
use Rattle.k_commit.specs.k_agree.Agreement.{Agrees, Shows}
use Rattle.k_commit.specs.k_agree.Meeting.{Fits, ShowsTheJournal}
use Rattle.k_commit.specs.k_agree.Rooms.{IsNext, exit_room, serial_room}
use Rattle.k_commit.proofs.AtTheEnd.{book_sound}
use Rattle.k_commit.proofs.AgreeMeetings.{meeting}
use Rattle.k_commit.proofs.WithinRooms.{next_by_done}
use Rattle.k_entry.specs.Entries.{AreEntries, objects}
use Rattle.k_entry.proofs.WholeWalks.{all_distinct, few_items}
use Rattle.k_space.specs.Objects.{BodyValue}
use Rattle.k_process.specs.Bodies.{bodies_of}
use Rattle.k_commit.specs.Books.{BookRecord, book_entries}
use Rattle.k_commit.specs.Holdings.{HasObjectRoom, HoldingsValue}
use Rattle.k_commit.specs.Heaps.{HeapRecord, has_ended_in, holdings_of as heap_holdings, own_segment}
use Rattle.k_commit.specs.SharedHeaps.{SharedRecord}
use Rattle.k_commit.specs.Others.{of_shared}
use Rattle.k_commit.specs.Rooms.{CanOperate, CanOperateWithKernel, CanOperateWithShared, HasExitRoom, HasRoomFor, HasTableRoom}
use Rattle.k_commit.specs.Standing.{HeapStands}
use Rattle.k_process.specs.Keeping.{BookKeeps, CanGive, HeapKeeps, KernelKeeps, SharedKeeps, is_absorbed_in, operations_left}
use Rattle.k_process.specs.Rooms.{HasRoomLeft}
use Rattle.k_process.proofs.RoomLeft.{room_left, shared_room}

-- what all elements pass, the first of the rest passes
pub passes_at : {A : Type 0} (f : A → Rattle.std.proofs.Common.Bool) (n : ℕ) (xs : List A) (x : A) (rest : List A) → list_all f xs ≡ true → drop n xs ≡ x ∷ rest → f x ≡ true
passes_at f zero [] x rest all is = absurd cc
passes_at f zero (y ∷ xs) x rest all is = let same : y ≡ x = cc in ap f (sym same) ∙ (and_parts (f y) (list_all f xs) all).0
passes_at f (suc n) [] x rest all is = absurd cc
passes_at f (suc n) (y ∷ xs) x rest all is = passes_at f n xs x rest (and_parts (f y) (list_all f xs) all).1 is

-- a cell with distinct exit items has as many as the state has for it
pub exits_many : (trace : Trace) (st : State) (c : Cell) (v : CellValue) → IsSound trace st → Shows trace st c v → AreDistinctNames v.exits → length v.exits ≡ exit_count st.exits c
unfolding part
exits_many trace st c v sound shows distinct =
    sym (ones v.exits) ∙ targets_sum (λ n. 1) c st.exits v.exits sound.shape.distinct_exits distinct (λ n. ap (λ (s : ShownPart). s.exits n) shows.part)

exits_within : (exits : List ExitItem) (h : Heap) → exit_count exits h ≤ length exits
exits_within exits h = Rattle.k_laws.proofs.Counting.count_low (λ (e : ExitItem). heap_eq e.heap h) exits

-- the serials that a cell shows of its own segment
pub serial_shown : (trace : Trace) (st : State) (c : Cell) (v : CellValue) (seg : ℕ) → owner_of trace st seg ≡ c → Shows trace st c v → get_or v.made seg None ≡ Some (get_or st.made seg 0)
unfolding part
serial_shown trace st c v seg owned shows =
    ap (λ (s : ShownPart). s.made seg) shows.part
    ∙ ap (λ b. cond b (Some (get_or st.made seg 0)) None) (ap (λ h. heap_eq h c) owned ∙ heap_eq_refl c)

-- a segment of which a cell shows serials is its heap's
pub owner_shown : (trace : Trace) (st : State) (c : Cell) (v : CellValue) (seg given : ℕ) → Shows trace st c v → get_or v.made seg None ≡ Some given → owner_of trace st seg ≡ c
unfolding part
owner_shown trace st c v seg given shows there = own (heap_eq (owner_of trace st seg) c) refl
  where
    own : (t : Rattle.std.proofs.Common.Bool) → heap_eq (owner_of trace st seg) c ≡ t → owner_of trace st seg ≡ c
    own true e = heap_eq-true (owner_of trace st seg) c e
    own false e =
        let none : get_or v.made seg None ≡ None = ap (λ (s : ShownPart). s.made seg) shows.part ∙ ap (λ b. cond b (Some (get_or st.made seg 0)) None) e in
        absurd (cc)

-- the book has room for one more entry item
entries_left : (trace : Trace) (table : TableId) (b : BookRecord) → BookKeeps trace table b → AreEntries (book_entries b) → length (state_after trace b.journal.list).exits < exit_room trace →
    length b.value.entries < b.entry_room
unfolding book_part
entries_left trace table b k items left =
    let few = few_items (book_entries b) items in
    let same = sum_same (counted b.value.entries) (entries (state_after trace b.journal.list)) (λ n. ap (λ (p : BookPart). p.entries n) k.stands.agrees.shows.part) (objects b.value.entries) in
    let most = entries_few (state_after trace b.journal.list) (objects b.value.entries) (all_distinct (book_entries b) items) in
    let room = k.entries in
    omega (arith, few, same, most, left, room)

-- a segment that its cell has, and in which the next operation allocates, can give one more serial
serial_left : (trace : Trace) (st : State) (c : Cell) (v : CellValue) (h : HoldingsValue) (seg : ℕ) → h.value.made ≡ v.made → owner_of trace st seg ≡ c → Shows trace st c v → CanGive trace h.serial_rooms seg →
    get_or st.made seg 0 < serial_room trace seg → HasObjectRoom h seg
serial_left trace st c v h seg same owned shows can left = record {
  given = get_or st.made seg 0;
  room = can.room;
  there = ap (λ (made : List (Option ℕ)). get_or made seg None) same ∙ serial_shown trace st c v seg owned shows;
  can_give = can.there;
  left = let e = can.enough in inl (omega (arith, left, e));
}

-- room in the tables of a heap for the operation that comes next: each allocation finds its body, and a segment with a serial left
module _ (trace : Trace) (bodies : List BodyValue) (h : HoldingsValue) (seg : ℕ) (b : BookRecord) where
  pub table_room : (op : Op) (rest : List Op) → bodies ≡ bodies_of trace.types (op ∷ rest) → (IsTrue (is_allocation op) → (given : ℕ) → get_or h.value.made seg None ≡ Some given → HasObjectRoom h seg) → (IsTrue (is_store op) → HasExitRoom h b) →
      HasTableRoom trace bodies h seg b op
  table_room (New r ty) rest is serial exits = record { body = record { rest = bodies_of trace.types rest; first = is }; serial = serial refl }
  table_room (KNew r ty) rest is serial exits = record { body = record { rest = bodies_of trace.types rest; first = is }; serial = serial refl }
  table_room (SNew r s ty) rest is serial exits = record { body = record { rest = bodies_of trace.types rest; first = is }; serial = serial refl }
  table_room (Store base i value) rest is serial exits = exits refl
  table_room _ rest is serial exits = tt

-- what a process has done, by its cell
pub done_of : (trace : Trace) (cell : Cell) (note : NoteValue) (v : CellValue) → Agrees trace cell note v → (pid : Pid) → cell ≡ User pid →
    done_in v.process ≡ get_or (state_after trace (note.list ++ v.tail)).done pid.0 0
unfolding part
done_of trace cell note v a pid is = ap (λ (s : ShownPart). done_in s.process) a.shows.part ∙ ap (λ (c : Cell). done_in (process_of (state_after trace (note.list ++ v.tail)) c)) is

module _ (trace : Trace) (table : TableId) (c : HeapRecord) (h : HeapKeeps trace table c) where
  pub done_shown : get_or (state_after trace (c.note.list ++ c.value.tail)).done c.pid.0 0 ≡ done_in c.value.process
  done_shown = sym (done_of trace (User c.pid) c.note c.value h.agrees c.pid refl)

  -- it is no more than the trace has for it
  pub done_at_most : done_in c.value.process ≤ length (operations_of trace c.pid.0)
  done_at_most =
      let count = done_count trace c.pid.0 (c.note.list ++ c.value.tail) h.agrees.legal in
      let front = first_of trace c.pid.0 (c.note.list ++ c.value.tail) h.follows in
      let all = ap length front.1 in
      let parts = length-append (done_by c.pid.0 (c.note.list ++ c.value.tail)) front.0 in
      omega (arith, done_shown, count, all, parts)

  module _ (op : Op) (rest : List Op) (left : operations_left trace c ≡ op ∷ rest) where
    pub next_known : IsNext trace c.pid.0 (c.note.list ++ c.value.tail) op
    next_known = next_by_done trace c.pid.0 (c.note.list ++ c.value.tail) op rest h.follows (ap (λ n. drop n (operations_of trace c.pid.0)) done_shown ∙ left)

    pub next_in_range : in_range trace op ≡ true
    next_in_range = passes_at (in_range trace) (done_in c.value.process) (operations_of trace c.pid.0) op rest (h.rules.operations.in_range c.pid.0 h.agrees.there) left

    module _ (b : BookRecord) (k : BookKeeps trace table b) (settled : c.value.tail ≡ []) (lives : IsFalse (has_ended_in c.value.process)) where
      abbrev now : State
      now = state_after trace b.journal.list

      sound : IsSound trace now
      sound = book_sound trace b.journal b.value k.stands.keeps.limits k.stands.agrees

      pub heap_stands : HeapStands trace c b
      heap_stands = record { agrees = h.agrees; table = h.table ∙ sym k.table; settled = settled; idle = h.idle; lives = lives }

      module _ (fits : Fits b.journal c.note) where
        met : ShowsTheJournal trace b.journal (User c.pid) c.note c.value
        met = meeting trace b.journal b.value (User c.pid) c.note c.value h.agrees k.stands.agrees fits

        pub next_met : IsNext trace c.pid.0 b.journal.list op
        next_met =
            let n : IsNext trace c.pid.0 c.note.list op = subst (λ l. IsNext trace c.pid.0 l op) (ap (λ t. c.note.list ++ t) settled ∙ append-nil c.note.list) next_known in
            (n.0, n.1 ∙ ap (λ done. done ++ op ∷ n.0) (sym (met.done c.pid.0 refl)))

        pub leaves_room : HasRoomLeft trace b.journal.list c.pid.0 op
        leaves_room = room_left trace b.journal.list c.pid.0 op k.follows.operations h.agrees.there next_met k.stands.keeps k.stands.agrees.legal

        pub event_left : length b.journal.list < b.event_room
        event_left = let room = k.events in omega (arith, leaves_room.events, room)

        pub shows_now : Shows trace now (User c.pid) c.value
        shows_now = met.shows settled

        living : IsFalse (among c.pid.0 now.ended)
        unfolding part
        living = sym (ap (λ (s : ShownPart). has_ended_in s.process) shows_now.part) ∙ lives

        pub entry_left : AreEntries (book_entries b) → IsTrue (is_store op) → length b.value.entries < b.entry_room
        entry_left items store = entries_left trace table b k items (leaves_room.exits store)

        pub bodies_now : c.bodies ≡ bodies_of trace.types (op ∷ rest)
        bodies_now = h.bodies ∙ ap (bodies_of trace.types) left

        own_serial : IsTrue (allocates_in trace (own_segment c.pid) c.pid.0 op) → HasObjectRoom (heap_holdings c) (own_segment c.pid)
        own_serial allocates =
            serial_left trace now (User c.pid) c.value (heap_holdings c) (own_segment c.pid) refl (owner_user trace now c.pid.0 h.agrees.there living) shows_now
            (h.rooms.serials lives) (leaves_room.serials (own_segment c.pid) allocates)

        own_exit : AreDistinctNames c.value.exits → AreEntries (book_entries b) → IsTrue (is_store op) → HasExitRoom (heap_holdings c) b
        own_exit distinct items store = record {
          exits =
              let many = exits_many trace now (User c.pid) c.value sound shows_now distinct in
              let own = leaves_room.own_exits store in
              let room = h.rooms.exits in
              omega (arith, many, own, room);
          entries = entry_left items store;
        }

        kernel_room : (kernel : HoldingsValue) → KernelKeeps trace table kernel → AreDistinctNames kernel.value.exits → AreEntries (book_entries b) →
            (IsTrue (is_allocation op) → IsTrue (allocates_in trace 0 c.pid.0 op)) → Fits b.journal kernel.note → kernel.value.tail ≡ [] → HasRoomFor trace c.bodies kernel 0 b op
        kernel_room kernel kk distinct items inside kernel_fits none =
            let m = meeting trace b.journal b.value Kernel kernel.note kernel.value kk.agrees k.stands.agrees kernel_fits in
            record {
              events = event_left;
              tables = table_room trace c.bodies kernel 0 b op rest bodies_now
                  (λ allocates given there. serial_left trace now Kernel kernel.value kernel 0 refl (owner_kernel trace now) (m.shows none) kk.serials (leaves_room.serials 0 (inside allocates)))
                  (λ store. record {
                    exits =
                        let many = exits_many trace now Kernel kernel.value sound (m.shows none) distinct in
                        let few = exits_within now.exits Kernel in
                        let all = leaves_room.exits store in
                        let room = kk.exits in
                        omega (arith, many, few, all, room);
                    entries = entry_left items store;
                  });
            }

        shared_room_for : (s : SharedRecord) → SharedKeeps trace table s → AreDistinctNames s.value.exits → AreEntries (book_entries b) →
            (IsTrue (is_allocation op) → IsTrue (allocates_in trace s.seg.0 c.pid.0 op)) → Fits b.journal s.note → s.value.tail ≡ [] →
            HasRoomFor trace c.bodies (of_shared s).held s.seg.0 b op
        unfolding part
        shared_room_for s sk distinct items inside shared_fits none =
            let m = meeting trace b.journal b.value (Shared s.id) s.note s.value sk.agrees k.stands.agrees shared_fits in
            let shows = m.shows none in
            let owns = λ (given : ℕ) (there : get_or s.value.made s.seg.0 None ≡ Some given). owner_shown trace now (Shared s.id) s.value s.seg.0 given shows there in
            record {
              events = event_left;
              tables = table_room trace c.bodies (of_shared s).held s.seg.0 b op rest bodies_now
                  (λ allocates given there. serial_left trace now (Shared s.id) s.value (of_shared s).held s.seg.0 refl (owns given there) shows
                  (sk.serials (ap (λ (v : ShownPart). is_absorbed_in v.phase) shows.part ∙ owner_stands (process_count trace) now.ended now.phases s.seg.0 s.id.0 (owns given there))) (leaves_room.serials s.seg.0 (inside allocates)))
                  (λ store. record {
                    exits =
                        let many = exits_many trace now (Shared s.id) s.value sound shows distinct in
                        let few = shared_room trace b.journal.list s.id.0 k.stands.keeps.limits k.stands.agrees.legal k.follows.operations in
                        let room = sk.exits in
                        omega (arith, many, few, room);
                    entries = entry_left items store;
                  });
            }

      module _ (items : AreEntries (book_entries b)) where
        pub can_operate : AreDistinctNames c.value.exits → (IsTrue (is_allocation op) → IsTrue (allocates_in trace (own_segment c.pid) c.pid.0 op)) → CanOperate trace c b op
        can_operate distinct inside = record {
          book_stands = k.stands;
          heap_stands = heap_stands;
          in_range = next_in_range;
          room = λ fits. record {
            events = event_left fits;
            tables = table_room trace c.bodies (heap_holdings c) (own_segment c.pid) b op rest (bodies_now fits) (λ allocates given there. own_serial fits (inside allocates)) (own_exit fits distinct items);
          };
        }

        pub can_operate_with_kernel : (kernel : HoldingsValue) → KernelKeeps trace table kernel → AreDistinctNames kernel.value.exits →
            (IsTrue (is_allocation op) → IsTrue (allocates_in trace 0 c.pid.0 op)) → CanOperateWithKernel trace c kernel b op
        can_operate_with_kernel kernel kk distinct inside = record {
          book_stands = k.stands;
          heap_stands = heap_stands;
          other_stands = record { agrees = kk.agrees; table = kk.table ∙ sym k.table; segment = refl; idle = kk.idle };
          in_range = next_in_range;
          room = λ fits kernel_fits. kernel_room fits kernel kk distinct items inside kernel_fits kk.agrees.tail;
        }

        pub can_operate_with_shared : (s : SharedRecord) → SharedKeeps trace table s → AreDistinctNames s.value.exits →
            (IsTrue (is_allocation op) → IsTrue (allocates_in trace s.seg.0 c.pid.0 op)) → CanOperateWithShared trace c s b op
        can_operate_with_shared s sk distinct inside = record {
          book_stands = k.stands;
          heap_stands = heap_stands;
          other_stands = record { agrees = sk.agrees; table = sk.table ∙ sym k.table; segment = sk.segment; idle = sk.idle };
          in_range = next_in_range;
          room = λ fits shared_fits. shared_room_for fits s sk distinct items inside shared_fits sk.agrees.tail;
        }
