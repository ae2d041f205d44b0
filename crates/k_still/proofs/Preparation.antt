-- What is made of a trace is what the cells and the book begin with.
use Rattle.std.proofs.Common.{◌≡◌, ℕ, ◌+◌, ◌≤◌, refl, sym, ap, ap₂, ◌∙◌, subst, List, [], length, map, Vec, Global, arith}
use Rattle.std.specs.declared.collections.VecDeque.{VecDeque}
use Rattle.std.proofs.lemmas.List.{length-map}
use Rattle.std.proofs.lemmas.Option.{get_or_from_slice_get, slice_get_within}
use Rattle.atomic_table.specs.Seated.{TableId}
use Rattle.k_types.specs.declared.op.Op.{Op}
use Rattle.k_types.specs.declared.setup.Setup.{Setup}
use Rattle.k_types.specs.Numbers.{numbers_below}
use Rattle.k_types.specs.Trace.{Trace, operations_of, process_count, segment_count, trace_of}
use Rattle.k_types.specs.TraceRules.{KeepsRules}
use Rattle.k_agree.specs.Rooms.{serial_room}
use Rattle.k_types.proofs.Lists.{numbers_length}
use Rattle.k_process.specs.Bodies.{bodies_of}
use Rattle.k_process.proofs.Operations.{own_operations}
use Rattle.k_book.specs.Books.{BookRecord}
use Rattle.k_process.specs.Keeping.{BookKeeps, SharedKeeps}
use Rattle.k_shared.specs.SharedHeaps.{SharedRecord}
use Rattle.k_space.specs.Objects.{BodyValue}
use Rattle.k_tie.specs.Values.{JournalValue, NoteValue, blank_note, empty_journal}
use Rattle.k_trace.specs.declared.trace.Trace.{Trace as TraceRead}
use Rattle.k_trace.specs.Meaning.{meaning_of}
use Rattle.k_trace.specs.Rules.{IsTrace}
use Rattle.k_process.specs.declared.heaps.Heaps.{Heaps}
use Rattle.k_process.specs.declared.process.Process.{Process}
use Rattle.k_process.specs.Heaps.{value_of}
use Rattle.k_process.specs.BetweenSteps.{AllStand}
use Rattle.k_process.specs.Worlds.{WorldValue}
use Rattle.k_still.specs.declared.beginning.Beginnings.{Beginnings}
use Rattle.k_still.specs.declared.prepared.Prepared.{Prepared}
use Rattle.k_still.specs.declared.first.FirstCells.{FirstCells}
use Rattle.k_still.specs.Opening.{AreBeginnings, ArePending, ArePendingShared, AreSerialRooms, CanOpenBook, CanOpenHeaps, CanOpenKernel, CanOpenWith, HaveOpenedHeaps, IsOpened, IsPrepared, IsSetupOf, ProcessBegins, world_of}
use Rattle.k_still.proofs.InOrder.{each_mapped, each_none, each_numbered}

-- a journal that was just made is empty, and has a note for each segment
pub can_open_with : (t : TraceRead) (p : Prepared) (tie : TableId) (seat : JournalValue) (notes : List NoteValue) (cells : ℕ) → IsTrace (meaning_of t) → IsPrepared (meaning_of t).trace p → seat ≡ empty_journal tie →
    notes ≡ map (blank_note tie) (numbers_below cells) → cells ≡ length p.serials.items → CanOpenWith (record { trace = (meaning_of t).trace; table = tie }) t p tie seat notes
can_open_with t p tie seat notes cells is prepared empty blank count = record {
  is_trace = is;
  same = refl;
  prepared = prepared;
  table = refl;
  empty = empty;
  blank = blank ∙ ap (λ n. map (blank_note tie) (numbers_below n)) (count ∙ prepared.serials.count);
}

-- what all heaps begin with
module _ (world : WorldValue) (setup : Setup) (ops : List (Vec Op Global)) (p : Prepared) (notes : List NoteValue) (b : BookRecord) (can : CanOpenHeaps world setup ops p notes b) where
  first_beginnings : (first : Beginnings) → first.notes.items ≡ notes → first.serials.items ≡ p.serials.items → AreBeginnings world 0 first
  first_beginnings first notes_are serials_are =
      let blank = notes_are ∙ can.blank in
      let rooms = subst (AreSerialRooms world.trace) (sym serials_are) can.prepared.serials in
      let long : length first.notes.items ≡ segment_count world.trace
      = ap length blank ∙ length-map (numbers_below (segment_count world.trace)) (blank_note world.table) ∙ numbers_length 0 (segment_count world.trace) in
      record {
        same = rooms.count ∙ sym long;
        all = omega (arith, long);
        notes = λ k note found. each_numbered (blank_note world.table) first.notes.items (segment_count world.trace) blank k note found ∙ ap (blank_note world.table) (let e : k ≡ 0 + k = omega arith in e);
        serials = λ k room found. subst (λ n. serial_room world.trace n ≤ room) (let e : k ≡ 0 + k = omega arith in e) (omega (arith, rooms.each k room found));
      }

  pub kernel_can_open : (first : Beginnings) → first.notes.items ≡ notes → first.serials.items ≡ p.serials.items → CanOpenKernel world setup p.stores first
  kernel_can_open first notes_are serials_are = record { of = can.of; enough = omega (arith, can.prepared.stores); beginnings = first_beginnings first notes_are serials_are }

  pub processes_pending : (left : Beginnings) → AreBeginnings world 1 left → ArePending world setup ops p.bodies.items left []
  processes_pending left beginnings =
      let all : length p.bodies.items ≡ length world.trace.operations
      = sym (length-map p.bodies.items (λ (one : VecDeque BodyValue Global). one.items)) ∙ ap length can.prepared.bodies ∙ length-map world.trace.operations (bodies_of world.trace.types) in
      record {
        of = can.of;
        own_operations = λ k own found. can.own_operations k own found ∙ ap (operations_of world.trace) (let e : k ≡ 0 + k = omega arith in e);
        same = omega (arith, all, can.count, can.of.rules.operations.each);
        own_bodies = λ k own found.
            each_mapped (λ (one : VecDeque BodyValue Global). one.items) (bodies_of world.trace.types) p.bodies.items world.trace.operations [] can.prepared.bodies k own found
            ∙ ap (λ n. bodies_of world.trace.types (operations_of world.trace n)) (let e : k ≡ 0 + k = omega arith in e);
        beginnings = beginnings;
        count = omega (arith, can.count);
        processes = each_none (λ k (q : Process). ProcessBegins world q × (q.cell.pid.0 ≡ k));
      }

  pub shared_pending : (left : Beginnings) → AreBeginnings world (1 + process_count world.trace) left → ArePendingShared world setup p.shared_exits.items left []
  shared_pending left beginnings = record {
    of = can.of;
    rooms = can.prepared.shared_exits;
    beginnings = subst (λ n. AreBeginnings world n left) (let e : 1 + process_count world.trace ≡ 1 + process_count world.trace + 0 = omega arith in e) beginnings;
    heaps = each_none (λ k (s : SharedRecord). SharedKeeps world.trace world.table s × (s.id.0 ≡ k));
  }

-- all heaps with what the trace says
abbrev pub put_together : TraceRead → Heaps → FirstCells
put_together t heaps = record { setup = t.setup; names = t.names; order = t.order; heaps = heaps }

-- what is made of a trace that was read
module _ (world : WorldValue) (t : TraceRead) (p : Prepared) (tie : TableId) (seat : JournalValue) (notes : List NoteValue) (can : CanOpenWith world t p tie seat notes) where
  rules : KeepsRules world.trace
  rules = subst KeepsRules (sym can.same) can.is_trace.rules

  of_setup : IsSetupOf t.setup world
  of_setup = record { is = subst (λ (tr : Trace). tr ≡ trace_of t.setup tr.operations tr.order) (sym can.same) refl; rules = rules }

  listed : length t.ops.items ≡ process_count world.trace
  listed =
      sym (length-map t.ops.items (λ (ops : Vec Op Global). ops.items))
      ∙ can.is_trace.rules.operations.each
      ∙ ap process_count (sym can.same)

  pub book_can_open : CanOpenBook world t.setup p.stores p.events tie seat
  book_can_open = record {
    of = of_setup;
    enough_exits = omega (arith, can.prepared.stores);
    enough_events = omega (arith, can.prepared.events);
    table = can.table;
    empty = can.empty;
  }

  module _ (b : BookRecord) (keeps : BookKeeps world.trace world.table b) (journal : b.journal ≡ seat) where
    pub heaps_can_open : CanOpenHeaps world t.setup t.ops.items p notes b
    heaps_can_open = record {
      of = of_setup;
      own_operations = λ k own found.
          sym (own_operations t t.ops.items k own refl (slice_get_within t.ops.items k own found) (sym (get_or_from_slice_get t.ops.items k own own found)))
          ∙ ap (λ (tr : Trace). operations_of tr k) (sym can.same);
      count = listed;
      prepared = can.prepared;
      blank = can.blank;
      book = keeps;
    }

    pub all_opened : (heaps : Heaps) → HaveOpenedHeaps world b (value_of heaps) → IsOpened (meaning_of t) (put_together t heaps)
    all_opened heaps opened =
        let empty : heaps.book.journal ≡ empty_journal world.table = ap (λ (x : BookRecord). x.journal) opened.book_is ∙ journal ∙ can.empty in
        let table : world.table ≡ heaps.book.journal.table = sym (ap (λ (j : JournalValue). j.table) empty) in
        let same : world ≡ world_of (meaning_of t) (put_together t heaps) = ap₂ (λ (tr : Trace) (tb : TableId). let w : WorldValue = record { trace = tr; table = tb } in w) can.same table in
        record {
          stands = subst (λ w. AllStand w (value_of heaps)) same opened.stand;
          setup = subst (λ w. IsSetupOf t.setup w) same of_setup;
          names = refl;
          order = refl;
          empty = ap (λ (j : JournalValue). j.list) empty;
          published = opened.published;
        }
