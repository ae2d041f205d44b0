-- One operation in the order of the file.
use Rattle.std.proofs.Common.{◌≡◌, ◌≢◌, ℕ, zero, suc, Bool, true, false, refl, sym, ap, ap₂, ◌∙◌, subst, List, [], ◌∷◌, ◌++◌, append-nil, drop, get_or, set, Some, None, slice_get, if◌then◌else◌, inl, inr, arith}
use Rattle.std.proofs.lemmas.Bool.{cases_eq}
use Rattle.std.proofs.lemmas.List.{length-set}
use Rattle.std.proofs.lemmas.Option.{slice_get-get_or, slice_get_within}
use Rattle.k_types.specs.declared.event.Event.{Event}
use Rattle.k_types.specs.declared.names.Heap.TheVariants.{User}
use Rattle.k_types.specs.declared.names.Pid.{Pid}
use Rattle.k_types.specs.declared.op.Op.{Op}
use Rattle.k_types.specs.Agree.{CellValue}
use Rattle.k_types.specs.Cells.{ShownPart, part}
use Rattle.k_types.specs.FileOrder.{events_of, next_operation}
use Rattle.k_types.specs.Names.{among}
use Rattle.k_types.specs.State.{State}
use Rattle.k_types.specs.Steps.{state_after}
use Rattle.k_types.specs.Trace.{Trace, operations_of}
use Rattle.k_laws.specs.PartUpdates.{done_in}
use Rattle.k_agree.specs.Agreement.{Shows}
use Rattle.k_book.specs.Books.{BookRecord}
use Rattle.k_heap.specs.Heaps.{HeapRecord, has_ended_in}
use Rattle.k_operate.specs.k_collect.Met.{CanMeet, HeapHasMet}
use Rattle.k_operate.specs.k_process.Keeping.{operations_left}
use Rattle.k_operate.specs.k_process.declared.process.Process.{Process}
use Rattle.k_operate.specs.k_process.Heaps.{HeapsValue}
use Rattle.k_operate.specs.k_process.BetweenSteps.{AllStand, ArePublished, ComesNext, IsNextOf, ProcessStands, ProcessesStand, RestStands}
use Rattle.k_operate.specs.k_process.Worlds.{WorldValue}
use Rattle.k_operate.proofs.Kept.{heap_can_meet, process_set}
use Rattle.k_operate.proofs.Written.{get_set_cases}
use Rattle.k_operate.specs.Adding.{AddsOperation, known_to}
use Rattle.k_operate.specs.Steps.{HasPublishedAll}
use Rattle.k_complete.specs.Placed.{CanDoAt, HasDoneAt}
use Rattle.k_complete.specs.Replaying.{CanDoLine, HasDoneLine}
use Rattle.k_complete.proofs.Added.{adds_events_of}
use Rattle.k_complete.proofs.EndKept.{met_stands}
use Rattle.k_complete.proofs.PlacedKept.{got_own, read_there}
use Rattle.k_types.proofs.Lists.{slice_get-set_other, same_value}

-- the first of what is left, and nothing where nothing is left
got_first : {A : Type 0} (n : ℕ) (xs : List A) (x : A) (rest : List A) → drop n xs ≡ x ∷ rest → slice_get xs n ≡ Some x
got_first zero [] x rest is = absurd cc
got_first zero (y ∷ xs) x rest is = let same : y ≡ x = cc in ap (λ z. Some z) same
got_first (suc n) [] x rest is = absurd cc
got_first (suc n) (y ∷ xs) x rest is = got_first n xs x rest is

got_none : {A : Type 0} (n : ℕ) (xs : List A) → drop n xs ≡ [] → slice_get xs n ≡ None
got_none zero [] is = refl
got_none zero (y ∷ xs) is = absurd cc
got_none (suc n) [] is = refl
got_none (suc n) (y ∷ xs) is = got_none n xs is

-- a process's cell shows the process as the state has it
pub process_shown : (trace : Trace) (st : State) (pid : Pid) (v : CellValue) → Shows trace st (User pid) v →
    v.process ≡ Some (record { registers = get_or st.registers pid.0 []; done = get_or st.done pid.0 0; has_ended = among pid.0 st.ended })
unfolding part
process_shown trace st pid v shows = ap (λ (s : ShownPart). s.process) shows.part

module _ (world : WorldValue) (heaps : HeapsValue) (at : ℕ) (can : CanDoLine world heaps at) (p : Process) (there : slice_get heaps.processes at ≡ Some p) where
  abbrev now : State
  now = state_after world.trace heaps.book.journal.list

  stands : ProcessStands world p
  stands = can.stand.processes.each at p there

  number : p.cell.pid.0 ≡ at
  number = can.stand.processes.placed at p there

  pub line_can_meet : CanMeet world.trace (User p.cell.pid) p.cell.note p.cell.value heaps.book
  line_can_meet = heap_can_meet world.trace world.table heaps.book heaps.book can.stand.rest.book.stands can.stand.rest.book.table p.cell stands.cell

  module _ (w : HeapRecord) (l : BookRecord) (s : HeapHasMet world.trace p.cell w heaps.book l) where
    abbrev met : List Process
    met = set heaps.processes at (record p { cell = w })

    pub line_stands : ProcessStands world (record p { cell = w })
    line_stands = met_stands world p heaps.book l can.stand.rest.book.stands can.stand.rest.book.table stands w s

    pub line_rest : RestStands world heaps.kernel heaps.shared l
    line_rest = subst (RestStands world heaps.kernel heaps.shared) (sym s.book_is) can.stand.rest

    process_now : w.value.process ≡ Some (record { registers = get_or now.registers p.cell.pid.0 []; done = get_or now.done p.cell.pid.0 0; has_ended = among p.cell.pid.0 now.ended })
    process_now = ap (λ (c : HeapRecord). c.value.process) s.cell_is ∙ process_shown world.trace now p.cell.pid p.cell.value (s.told.shows.shows (can.published at p there))

    ended_now : has_ended_in w.value.process ≡ among p.cell.pid.0 now.ended
    ended_now = ap has_ended_in process_now

    left_now : operations_left world.trace w ≡ drop (get_or now.done p.cell.pid.0 0) (operations_of world.trace p.cell.pid.0)
    left_now = ap₂ (λ n (q : Pid). drop n (operations_of world.trace q.0)) (ap done_in process_now) (ap (λ (c : HeapRecord). c.pid) s.cell_is)

    journal_met : l.journal.list ≡ heaps.book.journal.list
    journal_met = ap (λ (x : BookRecord). x.journal.list) s.book_is

    published_met : w.value.tail ≡ []
    published_met = ap (λ (c : HeapRecord). c.value.tail) s.cell_is ∙ can.published at p there

    pid_met : w.pid ≡ p.cell.pid
    pid_met = ap (λ (c : HeapRecord). c.pid) s.cell_is

    pub line_processes : ProcessesStand world met
    line_processes = process_set world heaps.processes at p (record p { cell = w }) can.stand.processes there line_stands pid_met

    -- all heaps once the process's cell has met the journal
    abbrev met_heaps : HeapsValue
    met_heaps = record { processes = met; kernel = heaps.kernel; shared = heaps.shared; book = l }

    line_stand : AllStand world met_heaps
    line_stand = record { processes = line_processes; rest = line_rest }

    pub line_published : ArePublished met
    line_published j q found = elim (get_set_cases heaps.processes at j (record p { cell = w }) q found) [
      | inl here ↦ subst (λ (x : Process). x.cell.value.tail ≡ []) here.1 published_met
      | inr other ↦ can.published j q other
    ]

    pub line_there : slice_get met at ≡ Some (record p { cell = w })
    line_there = got_own heaps.processes at (record p { cell = w }) p there

    -- what is read in its place after the meeting
    pub read_met : (q : Process) → q ≡ get_or met at q → record p { cell = w } ≡ q
    read_met q read = same_value (sym line_there ∙ read_there met heaps.processes at q (length-set heaps.processes at (record p { cell = w })) can.inside read)

    no_next : IsNextOf world.trace w None → next_operation world.trace now p.cell.pid.0 ≡ None
    no_next none = go (among p.cell.pid.0 now.ended) refl
      where
        go : (t : Bool) → among p.cell.pid.0 now.ended ≡ t → (if t then None else slice_get (operations_of world.trace p.cell.pid.0) (get_or now.done p.cell.pid.0 0)) ≡ None
        go true ended = refl
        go false lives = got_none (get_or now.done p.cell.pid.0 0) (operations_of world.trace p.cell.pid.0) (sym left_now ∙ none (ended_now ∙ lives))

    next_is : (op : Op) → ComesNext world.trace w op → next_operation world.trace now p.cell.pid.0 ≡ Some op
    next_is op next =
        ap (λ t. if t then None else slice_get (operations_of world.trace p.cell.pid.0) (get_or now.done p.cell.pid.0 0)) (sym ended_now ∙ next.lives)
        ∙ got_first (get_or now.done p.cell.pid.0 0) (operations_of world.trace p.cell.pid.0) op next.rest (sym left_now ∙ next.left)

    -- the events are told by the number
    by_number : (new : List Event) → new ≡ heaps.book.journal.list ++ events_of world.trace now p.cell.pid.0 (next_operation world.trace now p.cell.pid.0) → new ≡ heaps.book.journal.list ++ events_of world.trace now at (next_operation world.trace now at)
    by_number new is = subst (λ n. new ≡ heaps.book.journal.list ++ events_of world.trace now n (next_operation world.trace now n)) number is

    pub line_of_none : IsNextOf world.trace w None → HasDoneLine world at heaps met_heaps
    line_of_none none = record {
      stand = line_stand;
      published = line_published;
      journal = by_number l.journal.list
          (journal_met ∙ sym (append-nil heaps.book.journal.list) ∙ ap (λ next. heaps.book.journal.list ++ events_of world.trace now p.cell.pid.0 next) (sym (no_next none)));
    }

    module _ (op : Op) (next : ComesNext world.trace w op) where
      pub line_can_do : CanDoAt world met_heaps at (record p { cell = w }) op
      line_can_do = record { stand = line_stand; there = line_there; next = next }

      known_now : known_to (record p { cell = w }) l ≡ heaps.book.journal.list
      known_now = ap₂ (λ xs ys. xs ++ ys) journal_met published_met ∙ append-nil heaps.book.journal.list

      module _ (new : HeapsValue) (e : BookRecord) (d : HasDoneAt world op at (record p { cell = w }) met_heaps new) (r : Process) (t : HasPublishedAll world d.process r new.book e) where
        adds_now : AddsOperation world.trace p.cell.pid op heaps.book.journal.list e.journal.list
        adds_now =
            subst (AddsOperation world.trace p.cell.pid op heaps.book.journal.list) (sym t.journal)
            (subst (λ (old : List Event). AddsOperation world.trace p.cell.pid op old (known_to d.process new.book)) known_now
            (subst (λ (pid : Pid). AddsOperation world.trace pid op (known_to (record p { cell = w }) l) (known_to d.process new.book)) pid_met (d.events line_published)))

        -- nothing of the others was unpublished, and nothing of them is
        others_published : (j : ℕ) (q : Process) → j ≢ at → slice_get new.processes j ≡ Some q → q.cell.value.tail ≡ []
        others_published j q ne found =
            let within = slice_get_within new.processes j q found in
            let count = d.stand.processes.count in
            let all = line_processes.count in
            let was = slice_get-get_or met j q (omega (arith, within, count, all)) in
            (d.others j (get_or met j q) q ne was found).published (line_published j (get_or met j q) was)

        pub line_of_some : HasDoneLine world at heaps (record { processes = set new.processes at r; kernel = new.kernel; shared = new.shared; book = e })
        line_of_some = record {
          stand = record {
            processes = process_set world new.processes at d.process r d.stand.processes d.there t.pair.process (ap (λ (c : HeapRecord). c.pid) t.cell_is);
            rest = record { kernel = d.stand.rest.kernel; shared = d.stand.rest.shared; book = t.pair.book };
          };
          published = λ j q found. elim (cases_eq j at) [
            | inl is ↦ subst (λ (y : Process). y.cell.value.tail ≡ []) (same_value (sym (got_own new.processes at r d.process d.there) ∙ ap (slice_get (set new.processes at r)) (sym is) ∙ found)) t.settled
            | inr other ↦ others_published j q other (sym (slice_get-set_other new.processes at j r other) ∙ found)
          ];
          journal = by_number e.journal.list
              (adds_events_of world.trace p.cell.pid op heaps.book.journal.list e.journal.list t.pair.book.stands.agrees.legal adds_now
              ∙ ap (λ o. heaps.book.journal.list ++ events_of world.trace now p.cell.pid.0 o) (sym (next_is op next)));
        }
