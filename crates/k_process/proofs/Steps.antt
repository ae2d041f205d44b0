-- What the locks keep they keep over a meeting, over the publishing of a tail, and over a local operation.
use Rattle.std.proofs.Common.{◌≡◌, ℕ, ◌+◌, ◌-◌, ◌^◌, ◌<◌, ◌≤◌, ◌==◌, nat_lt, not, Bool, true, false, cond, refl, sym, ap, ap₂, ◌∙◌, subst, List, [], ◌∷◌, ◌++◌, append_assoc, length, drop, arith, eq-eqb, IsTrue, IsFalse, Some}
use Rattle.std.specs.List.{list_all}
use Rattle.std.proofs.lemmas.Bool.{and_from, and_parts, false≢true}
use Rattle.std.proofs.lemmas.Bool.Decides.{nat_tests}
use Rattle.std.proofs.lemmas.List.{length-append}
use Rattle.atomic_table.specs.Seated.{TableId}
use Rattle.k_types.specs.declared.event.Event.{Event}
use Rattle.k_types.specs.declared.event.Event.TheVariants.{Done, Ended, Absorbed, Closing}
use Rattle.k_types.specs.declared.event.Reply.{Reply}
use Rattle.k_types.specs.declared.names.Heap.TheVariants.{Kernel, Shared, User}
use Rattle.k_types.specs.declared.op.Op.{Op}
use Rattle.k_types.specs.declared.op.Op.TheVariants.{New, KNew, SNew, Store, Load, Move, Clear, Dir, Put, Get, Freeze, Attach}
use Rattle.k_types.specs.declared.names.Pid.{Pid}
use Rattle.k_types.specs.Agree.{CellValue}
use Rattle.k_types.specs.Cells.{BookPart, Cell, CellPart}
use Rattle.k_types.specs.Complete.{IsPrefixOf}
use Rattle.k_types.specs.Effects.{step}
use Rattle.k_types.specs.Following.{FollowsOwn, FollowsTrace, is_closing}
use Rattle.k_types.specs.Local.{AreLocal}
use Rattle.k_types.specs.State.{State}
use Rattle.k_types.specs.Steps.{done_by, in_range, state_after}
use Rattle.k_types.specs.Trace.{Trace, operations_of, process_count, segment_of}
use Rattle.k_types.specs.TraceRules.{KeepsRules}
use Rattle.k_types.proofs.Sums.{count_is_total}
use Rattle.k_laws.specs.Counts.{allocates_in, is_allocation}
use Rattle.k_laws.specs.Touches.{other_cells_in}
use Rattle.k_laws.proofs.ByProcess.{follows_own}
use Rattle.k_laws.proofs.Counting.{count_low}
use Rattle.k_laws.proofs.Dones.{done_count}
use Rattle.k_laws.specs.PartUpdates.{done_in}
use Rattle.k_laws.proofs.Histories.{done_append}
use Rattle.k_laws.proofs.Tails.{tail_length}
use Rattle.k_commit.specs.k_agree.Agreement.{Agrees}
use Rattle.k_commit.specs.k_agree.Meeting.{Fits}
use Rattle.k_commit.specs.k_agree.Rooms.{AreFirst, FitsTheRooms}
use Rattle.k_commit.proofs.WithinRooms.{met_follows, tails_have_room}
use Rattle.k_process.specs.Bodies.{bodies_of}
use Rattle.k_commit.specs.Books.{BookRecord}
use Rattle.k_commit.specs.Heaps.{HeapRecord, has_ended_in}
use Rattle.k_process.specs.Locals.{HasRegisters, after_local, local_answer}
use Rattle.k_process.specs.Keeping.{BookKeeps, HeapKeeps, operations_left}
use Rattle.k_process.proofs.CanDo.{done_shown, next_in_range, next_known}
use Rattle.k_process.proofs.Kept.{drop_more}
use Rattle.k_process.proofs.LocalKept.{local_agrees, local_idle}

all_joined : {A : Type 0} (f : A → Bool) (xs ys : List A) → list_all f xs ≡ true → list_all f ys ≡ true → list_all f (xs ++ ys) ≡ true
all_joined f [] ys one two = two
all_joined f (x ∷ xs) ys one two =
    let parts = and_parts (f x) (list_all f xs) one in
    and_from (f x) (list_all f (xs ++ ys)) parts.0 (all_joined f xs ys parts.1 two)

-- no local event is a closing
none_closes : (trace : Trace) (p : ℕ) (st : State) (tail : List Event) → AreLocal trace p st tail → list_all (λ event. not (is_closing event)) tail ≡ true
none_closes trace p st [] l = refl
none_closes trace p st (Done pid op said ∷ tail) l = none_closes trace p (step trace st (Done pid op said)) tail l.2
none_closes trace p st (Ended h a b c d ∷ tail) l = absurd l
none_closes trace p st (Absorbed s ∷ tail) l = absurd l
none_closes trace p st (Closing ∷ tail) l = absurd l

-- the unpublished events have room in the journal once the cell has met it, and the longer journal follows the trace
module _ (trace : Trace) (table : TableId) (c : HeapRecord) (b : BookRecord) (h : HeapKeeps trace table c) (k : BookKeeps trace table b) (fits : Fits b.journal c.note) where
  roomy : AreFirst trace (b.journal.list ++ c.value.tail) × FitsTheRooms trace (b.journal.list ++ c.value.tail)
  roomy = tails_have_room trace b.journal b.value c.pid.0 c.note c.value h.agrees k.stands.agrees h.follows fits k.stands.keeps k.follows.operations

  pub tail_fits : length b.journal.list + length c.value.tail ≤ b.event_room
  tail_fits = let longer = length-append b.journal.list c.value.tail in let room = k.events in omega (arith, roomy.1.events, longer, room)

  pub tail_follows : FollowsTrace trace (b.journal.list ++ c.value.tail)
  tail_follows = record {
    operations = roomy.0;
    not_closing = all_joined (λ event. not (is_closing event)) b.journal.list c.value.tail k.follows.not_closing (none_closes trace c.pid.0 (state_after trace c.note.list) c.value.tail h.agrees.tail);
  }

  pub own_tail_follows : FollowsOwn trace c.pid.0 (b.journal.list ++ c.value.tail)
  own_tail_follows = met_follows trace b.journal b.value c.pid.0 c.note c.value h.agrees k.stands.agrees h.follows fits

-- a cell that keeps what the locks ask keeps it with other notes and values that show as many operations done
pub other_keeps : (trace : Trace) (table : TableId) (c w : HeapRecord) → HeapKeeps trace table c → w ≡ record c { note = w.note; value = w.value } →
    Agrees trace (User w.pid) w.note w.value → w.note.table ≡ table → w.value.collection ≡ c.value.collection → FollowsOwn trace w.pid.0 (w.note.list ++ w.value.tail) →
    done_in w.value.process ≡ done_in c.value.process → (IsFalse (has_ended_in w.value.process) → IsFalse (has_ended_in c.value.process)) → HeapKeeps trace table w
other_keeps trace table c w h is agrees same idle follows done lives = record {
  rules = h.rules;
  agrees = agrees;
  table = same;
  idle = idle ∙ h.idle;
  follows = follows;
  bodies =
      ap (λ (x : HeapRecord). x.bodies) is ∙ h.bodies
      ∙ ap (bodies_of trace.types) (sym (ap₂ (λ n (p : Pid). drop n (operations_of trace p.0)) done (ap (λ (x : HeapRecord). x.pid) is)));
  rooms = record {
    exits = subst (λ (x : HeapRecord). Rattle.k_laws.specs.Counts.stores_in (operations_of trace x.pid.0) ≤ x.exit_room) (sym is) h.rooms.exits;
    serials = λ now. subst (λ (x : HeapRecord). Rattle.k_process.specs.Keeping.CanGive trace x.serial_rooms (Rattle.k_commit.specs.Heaps.own_segment x.pid)) (sym is) (h.rooms.serials (lives now));
    tail = subst (λ (x : HeapRecord). length (operations_of trace x.pid.0) ≤ x.tail_room) (sym is) h.rooms.tail;
  };
}

-- no local operation allocates
keeps_bodies : (types : List (List Rattle.k_types.specs.declared.names.Field.Field)) (v : CellValue) (p : ℕ) (op : Op) (said : Reply) (rest : List Op) → local_answer v p op ≡ Some said →
    bodies_of types (op ∷ rest) ≡ bodies_of types rest
unfolding local_answer
keeps_bodies types v p (New r ty) said rest e = absurd cc
keeps_bodies types v p (KNew r ty) said rest e = absurd cc
keeps_bodies types v p (SNew r s ty) said rest e = absurd cc
keeps_bodies types v p _ said rest e = refl

below : (a b : ℕ) → nat_lt a b ≡ true → a < b
below a b t = grind (arith, nat_tests)

-- the registers of an operation that names what the trace declares are there
pub registers_there : (trace : Trace) (op : Op) → in_range trace op ≡ true → HasRegisters op
unfolding in_range
registers_there trace (New r ty) t = below r.0 16 (and_parts (nat_lt r.0 16) _ t).0
registers_there trace (KNew r ty) t = below r.0 16 (and_parts (nat_lt r.0 16) _ t).0
registers_there trace (SNew r s ty) t = below r.0 16 (and_parts (nat_lt r.0 16) _ (and_parts _ _ t).0).0
registers_there trace (Store base i value) t = let p = and_parts (nat_lt base.0 16) (nat_lt value.0 16) t in (below base.0 16 p.0, below value.0 16 p.1)
registers_there trace (Load r base i) t = let p = and_parts (nat_lt r.0 16) (nat_lt base.0 16) t in (below r.0 16 p.0, below base.0 16 p.1)
registers_there trace (Move r from) t = let p = and_parts (nat_lt r.0 16) (nat_lt from.0 16) t in (below r.0 16 p.0, below from.0 16 p.1)
registers_there trace (Clear r) t = below r.0 16 t
registers_there trace (Dir r) t = below r.0 16 t
registers_there trace (Put base i number) t = below base.0 16 t
registers_there trace (Get base i) t = below base.0 16 t
registers_there trace (Freeze s root) t = below root.0 16 (and_parts _ _ t).1
registers_there trace (Attach r s) t = below r.0 16 (and_parts (nat_lt r.0 16) _ t).0
registers_there trace _ t = tt

-- a process has fewer than 2 ^ 32 operations
pub few_operations : (trace : Trace) (p : ℕ) → KeepsRules trace → p < process_count trace → length (operations_of trace p) < 2 ^ 32 - 1
few_operations trace p keeps known =
    let counted = keeps.operations.counted p known in
    let sum = count_is_total (λ q. q == p) trace.order in
    let low = count_low (λ q. q == p) trace.order in
    let room = keeps.operations.room in
    omega (arith, counted, sum, low, room)

module _ (trace : Trace) (table : TableId) (c : HeapRecord) (h : HeapKeeps trace table c) (op : Op) (rest : List Op) (left : operations_left trace c ≡ op ∷ rest) where
  abbrev known : List Event
  known = c.note.list ++ c.value.tail

  done_fewer : length (done_by c.pid.0 known) < length (operations_of trace c.pid.0)
  done_fewer =
      let next = next_known trace table c h op rest left in
      let all = ap length next.1 in
      let parts = length-append (done_by c.pid.0 known) (op ∷ next.0) in
      omega (arith, all, parts)

  pub tail_room_left : length c.value.tail < c.tail_room
  tail_room_left =
      let same = tail_length trace c.pid.0 (state_after trace c.note.list) c.value.tail h.agrees.tail in
      let parts = ap length (done_append c.pid.0 c.note.list c.value.tail) in
      let both = length-append (done_by c.pid.0 c.note.list) (done_by c.pid.0 c.value.tail) in
      let room = h.rooms.tail in
      omega (arith, done_fewer, same, parts, both, room)

  done_is : done_in c.value.process ≡ length (done_by c.pid.0 known)
  done_is = sym (done_shown trace table c h) ∙ done_count trace c.pid.0 known h.agrees.legal

  pub done_small : done_in c.value.process < 2 ^ 64 - 1
  done_small = let few = few_operations trace c.pid.0 h.rules h.agrees.there in omega (arith, done_is, done_fewer, few)

  module _ (lives : has_ended_in c.value.process ≡ false) (said : Reply) (answer : local_answer c.value c.pid.0 op ≡ Some said) where
    abbrev event : Event
    event = Done c.pid op said

    agrees_now : Agrees trace (User c.pid) c.note (after_local c.pid op said c.value)
    agrees_now = local_agrees trace h.rules.limits c.pid c.note c.value op said h.agrees h.idle lives (next_in_range trace table c h op rest left) answer

    done_more : done_by c.pid.0 (c.note.list ++ (c.value.tail ++ event ∷ [])) ≡ done_by c.pid.0 known ++ op ∷ []
    done_more =
        ap (done_by c.pid.0) (sym (append_assoc c.note.list c.value.tail (event ∷ [])))
        ∙ done_append c.pid.0 known (event ∷ [])
        ∙ ap (λ t. done_by c.pid.0 known ++ cond t (op ∷ []) []) (eq-eqb c.pid.0 c.pid.0 refl)

    first_now : IsPrefixOf (done_by c.pid.0 (c.note.list ++ (c.value.tail ++ event ∷ []))) (operations_of trace c.pid.0)
    first_now =
        let next = next_known trace table c h op rest left in
        subst (λ done. IsPrefixOf done (operations_of trace c.pid.0)) (sym done_more) (next.0, append_assoc (done_by c.pid.0 known) (op ∷ []) next.0 ∙ sym next.1)

    done_now : done_in (after_local c.pid op said c.value).process ≡ done_in c.value.process + 1
    done_now =
        let after = Rattle.k_process.proofs.CanDo.done_of trace (User c.pid) c.note (after_local c.pid op said c.value) agrees_now c.pid refl in
        let count = done_count trace c.pid.0 (c.note.list ++ (c.value.tail ++ event ∷ [])) agrees_now.legal in
        let more = ap length done_more in
        let parts = length-append (done_by c.pid.0 known) (op ∷ []) in
        omega (arith, after, count, more, parts, done_is)

    pub local_left : drop (done_in (after_local c.pid op said c.value).process) (operations_of trace c.pid.0) ≡ rest
    local_left = ap (λ n. drop n (operations_of trace c.pid.0)) done_now ∙ drop_more (done_in c.value.process) (operations_of trace c.pid.0) op rest left

    pub local_keeps : HeapKeeps trace table (record c { value = after_local c.pid op said c.value })
    local_keeps = record {
      rules = h.rules;
      agrees = agrees_now;
      table = h.table;
      idle = local_idle c.value c.pid op said ∙ h.idle;
      follows = follows_own trace c.pid.0 (c.note.list ++ (c.value.tail ++ event ∷ [])) agrees_now.legal first_now;
      bodies = h.bodies ∙ ap (bodies_of trace.types) left ∙ keeps_bodies trace.types c.value c.pid.0 op said rest answer ∙ ap (bodies_of trace.types) (sym local_left);
      rooms = record { exits = h.rooms.exits; serials = λ _. h.rooms.serials lives; tail = h.rooms.tail };
    }

-- where an operation allocates, by the cells that it touches beside its process's own
module _ (trace : Trace) (b : BookPart) (own : CellPart) (p : ℕ) where
  pub alone_allocates : (op : Op) → other_cells_in trace b own p op ≡ [] → IsTrue (is_allocation op) → IsTrue (allocates_in trace (p + 1) p op)
  unfolding other_cells_in
  alone_allocates (New r ty) none t = eq-eqb (p + 1) (p + 1) refl
  alone_allocates (KNew r ty) none t = absurd cc
  alone_allocates (SNew r s ty) none t = absurd cc
  alone_allocates _ none t = absurd (false≢true t)

  pub beside_allocates : (cell : Cell) (op : Op) → other_cells_in trace b own p op ≡ cell ∷ [] → IsTrue (is_allocation op) → IsTrue (allocates_in trace (segment_of trace cell) p op)
  unfolding other_cells_in
  beside_allocates cell (New r ty) one t = absurd cc
  beside_allocates cell (KNew r ty) one t = let is : Kernel ≡ cell = cc in eq-eqb (segment_of trace Kernel) (segment_of trace cell) (ap (segment_of trace) is)
  beside_allocates cell (SNew r s ty) one t = let is : Shared s ≡ cell = cc in eq-eqb (segment_of trace (Shared s)) (segment_of trace cell) (ap (segment_of trace) is)
  beside_allocates cell _ one t = absurd (false≢true t)
