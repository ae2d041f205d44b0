-- All operations in the order of the file.
use Rattle.std.proofs.Common.{◌≡◌, ℕ, ◌<◌, nat_lt, true, refl, sym, ap, ap₂, ◌∙◌, subst, List, [], ◌∷◌, ◌++◌, append-nil, append_assoc, map, get_or, length, arith, IsTrue}
use Rattle.std.specs.List.{list_all}
use Rattle.k_types.specs.declared.event.Event.{Event}
use Rattle.k_types.specs.declared.names.Heap.TheVariants.{User}
use Rattle.k_types.specs.declared.names.Pid.{Pid}
use Rattle.k_types.specs.Complete.{EndsWithClosing, IsComplete}
use Rattle.k_types.specs.FileOrder.{events_of, file_order, file_order_from, last_events, next_operation}
use Rattle.k_types.specs.State.{State, opening}
use Rattle.k_types.specs.Steps.{run, state_after}
use Rattle.k_types.specs.Trace.{Trace, operations_of, process_count}
use Rattle.k_types.specs.TraceRules.{KeepsRules}
use Rattle.k_types.proofs.Numbered.{drop_all, process_known}
use Rattle.k_laws.proofs.Dones.{done_count}
use Rattle.k_laws.specs.PartUpdates.{done_in}
use Rattle.k_laws.proofs.Histories.{run_append}
use Rattle.k_laws.proofs.FileOrders.{file_order_complete, order_end}
use Rattle.k_agree.specs.Agreement.{Shows}
use Rattle.k_agree.specs.Settled.{all_ended_in, no_orphan_in}
use Rattle.k_book.specs.Books.{BookRecord}
use Rattle.k_heap.specs.Heaps.{HeapRecord, has_ended_in}
use Rattle.k_operate.specs.k_process.Keeping.{HeapKeeps}
use Rattle.k_operate.specs.k_process.Heaps.{HeapsValue}
use Rattle.k_operate.specs.k_process.BetweenSteps.{AllStand, ArePublished, IsThroughWith}
use Rattle.k_operate.specs.k_process.Worlds.{WorldValue}
use Rattle.k_complete.specs.Closing.{HasClosedAll}
use Rattle.k_complete.specs.Meetings.{CellsMet}
use Rattle.k_complete.specs.Replaying.{CanDoLine, HasReplayed}
use Rattle.k_complete.proofs.LineKept.{process_shown}

-- what is left of the order, and the journal, are together the history of the file's order
pub record Files (trace : Trace) (history : List Event) (order : List ℕ) : Type 0 where
  pub filed : history ++ file_order_from trace (state_after trace history) order ≡ file_order trace

order_next : (trace : Trace) (st : State) (p : ℕ) (order : List ℕ) →
    file_order_from trace st (p ∷ order) ≡ events_of trace st p (next_operation trace st p) ++ file_order_from trace (run trace st (events_of trace st p (next_operation trace st p))) order
unfolding file_order_from
order_next trace st p order = refl

pub files_first : (trace : Trace) (history : List Event) → history ≡ [] → Files trace history trace.order
files_first trace history empty = record { filed = ap (λ es. es ++ file_order_from trace (state_after trace es) trace.order) empty }

pub files_next : (trace : Trace) (old new : List Event) (p : ℕ) (order : List ℕ) → Files trace old (p ∷ order) →
    new ≡ old ++ events_of trace (state_after trace old) p (next_operation trace (state_after trace old) p) → Files trace new order
files_next trace old new p order files journal =
    let st : State = state_after trace old in
    let events : List Event = events_of trace st p (next_operation trace st p) in
    record {
      filed = ap₂ (λ es (s : State). es ++ file_order_from trace s order) journal (ap (state_after trace) journal ∙ run_append trace (opening trace) old events)
          ∙ append_assoc old events (file_order_from trace (run trace st events) order)
          ∙ ap (λ es. old ++ es) (sym (order_next trace st p order))
          ∙ files.filed;
    }

pub files_last : (trace : Trace) (old new : List Event) → Files trace old [] → new ≡ old ++ last_events trace (state_after trace old) → new ≡ file_order trace
files_last trace old new files journal = journal ∙ ap (λ es. old ++ es) (sym (order_end trace (state_after trace old))) ∙ files.filed

-- the place that comes next is a process of the trace
pub next_known : (trace : Trace) (order : List Pid) (i : ℕ) (d : Pid) → KeepsRules trace → map (λ (pid : Pid). pid.0) order ≡ trace.order → i < length order → (get_or order i d).0 < process_count trace
next_known trace order i d rules is inside =
    process_known (process_count trace) order i d (subst (λ (ps : List ℕ). list_all (λ p. nat_lt p (process_count trace)) ps ≡ true) (sym is) rules.operations.ordered) inside

-- one line more
pub can_do_line : (world : WorldValue) (heaps : HeapsValue) → AllStand world heaps → ArePublished heaps.processes → (n : ℕ) → n < process_count world.trace → CanDoLine world heaps n
can_do_line world heaps stand published n known = record { stand = stand; inside = subst (λ m. n < m) (sym stand.processes.count) known; published = published }

-- a process whose cell has met a complete history is through
through_all : (world : WorldValue) (c : HeapRecord) (history : List Event) → HeapKeeps world.trace world.table c → c.note.list ≡ history → c.value.tail ≡ [] → IsComplete world.trace history → IsThroughWith world.trace c
through_all world c history h list none complete =
    let whole : c.note.list ++ c.value.tail ≡ history = ap₂ (λ xs ys. xs ++ ys) list none ∙ append-nil history in
    let shows : Shows world.trace (state_after world.trace history) (User c.pid) c.value = subst (λ es. Shows world.trace (state_after world.trace es) (User c.pid) c.value) whole h.agrees.shows in
    let process = process_shown world.trace (state_after world.trace history) c.pid c.value shows in
    record {
      published = none;
      all = λ lives.
          let done = ap length (complete.all c.pid.0 h.agrees.there (sym (ap has_ended_in process) ∙ lives)) in
          let count = done_count world.trace c.pid.0 history (subst (Rattle.k_types.specs.Steps.IsLegalHistory world.trace) whole h.agrees.legal) in
          let shown = ap done_in process in
          drop_all (operations_of world.trace c.pid.0) (done_in c.value.process) (omega (arith, done, count, shown));
    }

module _ (world : WorldValue) (old new : HeapsValue) (b : BookRecord) (rules : KeepsRules world.trace) (published : ArePublished old.processes) (files : Files world.trace b.journal.list [])
    (closed : HasClosedAll world old.kernel old.shared b old.book) (m : CellsMet world old new) where
  journal_filed : new.book.journal.list ≡ file_order world.trace
  journal_filed = ap (λ (z : BookRecord). z.journal.list) m.book_is ∙ files_last world.trace b.journal.list old.book.journal.list files closed.journal

  complete : IsComplete world.trace new.book.journal.list
  complete = subst (IsComplete world.trace) (sym journal_filed) (file_order_complete world.trace rules.operations)

  pub replayed : HasReplayed world new
  replayed = record {
    met = record {
      ended = record {
        processes = record {
          processes = m.stand.processes;
          through = λ j q found.
              let p = m.same j q found in
              through_all world q.cell new.book.journal.list (m.stand.processes.each j q found).cell (m.processes_met j q found)
              (ap (λ (c : HeapRecord). c.value.tail) p.2 ∙ published j p.0 p.1) complete;
          book = m.stand.book;
        };
        kernel = m.stand.kernel;
        shared = m.stand.shared;
        orphans = λ ended. subst (λ (z : BookRecord). IsTrue (no_orphan_in world.trace z.value)) (sym m.book_is) (closed.orphans (subst (λ (z : BookRecord). IsTrue (all_ended_in world.trace z.value)) m.book_is ended));
        closed = λ ended. subst (λ (z : BookRecord). EndsWithClosing z.journal.list) (sym m.book_is) (closed.closed (subst (λ (z : BookRecord). IsTrue (all_ended_in world.trace z.value)) m.book_is ended));
      };
      processes_met = m.processes_met;
      kernel_met = m.kernel_met;
      shared_met = m.shared_met;
    };
    journal = journal_filed;
  }
