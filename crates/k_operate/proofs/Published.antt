-- Publishing keeps what the locks ask.
use Rattle.std.proofs.Common.{◌≡◌, ◌≤◌, ◌++◌, sym, ap, ap₂, ◌∙◌, subst, [], append-nil}
use Rattle.atomic_table.specs.Seated.{TableId}
use Rattle.k_types.specs.declared.names.Pid.{Pid}
use Rattle.k_types.specs.Agree.{CellValue}
use Rattle.k_types.specs.Following.{FollowsOwn, FollowsTrace}
use Rattle.k_types.specs.Trace.{Trace, operations_of, process_count}
use Rattle.k_laws.specs.PartUpdates.{done_in}
use Rattle.k_agree.specs.Rooms.{event_room, exit_room}
use Rattle.k_process.specs.k_book.Books.{BookRecord, pin_room_of}
use Rattle.k_process.specs.k_book.Machine.{IsBookOf}
use Rattle.k_process.specs.k_heap.Heaps.{HeapRecord, has_ended_in}
use Rattle.k_process.specs.Published.{CanPublish, HasPublished}
use Rattle.k_process.specs.Keeping.{BookKeeps, HeapKeeps}
use Rattle.k_process.proofs.Steps.{other_keeps, own_tail_follows, tail_fits, tail_follows}
use Rattle.k_process.specs.declared.process.Process.{Process}
use Rattle.k_operate.specs.Steps.{HasPublishedAll, PairStands}
use Rattle.k_process.specs.Worlds.{WorldValue}

module _ (trace : Trace) (tie : TableId) (c w : HeapRecord) (b l : BookRecord) (h : HeapKeeps trace tie c) (k : BookKeeps trace tie b) (s : HasPublished trace c.value.tail c w b l) where
  published_follows : FollowsOwn trace w.pid.0 (w.note.list ++ w.value.tail)
  published_follows =
      let none : w.value.tail ≡ [] = ap (λ (x : HeapRecord). x.value.tail) s.cell_is in
      let list : w.note.list ++ w.value.tail ≡ b.journal.list ++ c.value.tail = ap₂ (λ xs ys. xs ++ ys) (s.met.list ∙ s.journal) none ∙ append-nil (b.journal.list ++ c.value.tail) in
      subst (FollowsOwn trace w.pid.0) (sym list)
      (subst (λ (p : Pid). FollowsOwn trace p.0 (b.journal.list ++ c.value.tail)) (sym (ap (λ (x : HeapRecord). x.pid) s.cell_is)) (own_tail_follows trace tie c b h k s.fits))

  pub published_keeps : HeapKeeps trace tie w
  published_keeps = other_keeps trace tie c w h (s.cell_is ∙ ap (λ (v : CellValue). record c { note = w.note; value = v }) (sym (ap (λ (x : HeapRecord). x.value) s.cell_is))) s.agrees
      (s.table ∙ s.same_table ∙ k.table)
      (ap (λ (x : HeapRecord). x.value.collection) s.cell_is)
      published_follows
      (ap (λ (x : HeapRecord). done_in x.value.process) s.cell_is)
      (λ lives. sym (ap (λ (x : HeapRecord). has_ended_in x.value.process) s.cell_is) ∙ lives)

  pub published_book : BookKeeps trace tie l
  published_book = record {
    stands = record {
      keeps = k.stands.keeps;
      of_trace = subst (IsBookOf trace) (sym s.book_is) (record { rows = k.stands.of_trace.rows; procs = k.stands.of_trace.procs; ceiling = k.stands.of_trace.ceiling; maxima = k.stands.of_trace.maxima });
      agrees = s.book_agrees;
      pins = subst (λ (x : BookRecord). pin_room_of (process_count trace) ≤ x.pin_room) (sym s.book_is) k.stands.pins;
    };
    table = s.same_table ∙ k.table;
    follows = subst (FollowsTrace trace) (sym s.journal) (tail_follows trace tie c b h k s.fits);
    events = subst (λ (x : BookRecord). event_room trace ≤ x.event_room) (sym s.book_is) k.events;
    kept = subst (λ (x : BookRecord). event_room trace ≤ x.kept) (sym s.book_is) k.kept;
    entries = subst (λ (x : BookRecord). exit_room trace ≤ x.entry_room) (sym s.book_is) k.entries;
  }

module _ (world : WorldValue) (p : Process) (b : BookRecord) (pair : PairStands world p b) where
  pub can_publish : CanPublish world.trace p.cell b
  can_publish = record {
    agrees = pair.process.cell.agrees;
    book_agrees = pair.book.stands.agrees;
    table = pair.process.cell.table ∙ sym pair.book.table;
    room = λ fits. tail_fits world.trace world.table p.cell b pair.process.cell pair.book fits;
  }

  pub published_all : (w : HeapRecord) (l : BookRecord) → HasPublished world.trace p.cell.value.tail p.cell w b l → HasPublishedAll world p (record p { cell = w }) b l
  published_all w l s = record {
    pair = record {
      process = record {
        cell = published_keeps world.trace world.table p.cell w b l pair.process.cell pair.book s;
        operations = pair.process.operations ∙ ap (λ (q : Pid). operations_of world.trace q.0) (sym (ap (λ (x : HeapRecord). x.pid) s.cell_is));
      };
      book = published_book world.trace world.table p.cell w b l pair.process.cell pair.book s;
    };
    settled = ap (λ (x : HeapRecord). x.value.tail) s.cell_is;
    journal = s.journal;
    met = s.met.list;
    cell_is = s.cell_is;
  }
