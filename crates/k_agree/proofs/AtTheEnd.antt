-- A run that is over has a complete journal.
use Rattle.std.proofs.Common.{◌≡◌, ℕ, ◌<◌, ◌==◌, ◌&&◌, not, true, cond, refl, sym, ap, ap₂, ◌∙◌, subst, inl, inr, List, [], ◌∷◌, ◌++◌, append-nil, length, take, get_or, arith, find, Some, None, option_map, IsFalse, eq-eqb}
use Rattle.std.specs.List.{list_all}
use Rattle.std.proofs.Math.Path.{fun_ext}
use Rattle.std.proofs.lemmas.List.{take_all}
use Rattle.std.proofs.lemmas.Bool.{or_cases, or_left, or_right, and_parts, and_from, false≢true, cases_Bool, false_from_ne_true}
use Rattle.k_laws.specs.k_types.Agree.{BookValue, CellValue, AreMarks}
use Rattle.k_laws.specs.k_types.Cells.{BookPart, Cell, ShownPart, part, book_part}
use Rattle.k_laws.specs.k_types.Complete.{IsComplete, all_ended}
use Rattle.k_laws.specs.k_types.Names.{among}
use Rattle.k_laws.specs.k_types.Numbers.{numbers_below}
use Rattle.k_laws.specs.k_types.Owners.{user, phase_of}
use Rattle.k_laws.specs.k_types.Sound.{IsSound}
use Rattle.k_laws.specs.k_types.State.{State, Scan, Sharing, opening, has_share, scan_of}
use Rattle.k_laws.specs.k_types.Steps.{state_after, done_by, has_sharer, is_live, no_orphan}
use Rattle.k_laws.specs.k_types.Trace.{Trace, IsHeap, process_count, operations_of}
use Rattle.k_laws.specs.k_types.TraceRules.{AreLimits}
use Rattle.k_tie.proofs.NameTests.{heap_eq_refl}
use Rattle.k_laws.proofs.ByProcess.{follows_own}
use Rattle.k_laws.proofs.Sizes.{history_sized}
use Rattle.k_laws.proofs.SoundOpening.{opening_sound}
use Rattle.k_laws.proofs.SoundSteps.{run_sound}
use Rattle.k_tie.specs.Values.{JournalValue, NoteValue}
use Rattle.k_agree.specs.Agreement.{Shows, Agrees, BookAgrees}
use Rattle.k_agree.specs.Settled.{IsThrough, IsOver, all_ended_in, no_orphan_in}

pub cell_sound : (trace : Trace) (cell : Cell) (note : NoteValue) (value : CellValue) → AreLimits trace → Agrees trace cell note value → IsSound trace (state_after trace (note.list ++ value.tail))
cell_sound trace cell note value limits a = run_sound trace limits (opening trace) (note.list ++ value.tail) (opening_sound trace limits) a.legal

pub book_sound : (trace : Trace) (journal : JournalValue) (book : BookValue) → AreLimits trace → BookAgrees trace journal book → IsSound trace (state_after trace journal.list)
book_sound trace journal book limits b = run_sound trace limits (opening trace) journal.list (opening_sound trace limits) b.legal

-- a book that agrees has a maximum for each limit
pub maxima_counted : (trace : Trace) (journal : JournalValue) (book : BookValue) → BookAgrees trace journal book → length book.maxima ≡ length trace.limits
unfolding book_part
maxima_counted trace journal book b = ap (λ (p : BookPart). length p.maxima) b.shows.part ∙ (history_sized trace journal.list).maxima

-- a list of shares has a sharer where its tests have
sharer_tested : (shares others : List Sharing) (s : ℕ) → ((p : ℕ) → has_share shares p s ≡ has_share others p s) → has_sharer shares s ≡ true → has_sharer others s ≡ true
sharer_tested shares others s same t = let p = one shares t in any others p.0 (sym (same p.0) ∙ p.1)
  where
    one : (xs : List Sharing) → has_sharer xs s ≡ true → (p : ℕ) × (has_share xs p s ≡ true)
    one [] t = absurd (false≢true t)
    one (x ∷ xs) t =
        elim (or_cases (x.heap == s) (has_sharer xs s) t) [
          | inl here ↦ (x.process, or_left ((x.process == x.process) && (x.heap == s)) (has_share xs x.process s) (and_from _ _ (eq-eqb x.process x.process refl) here))
          | inr there ↦ let more = one xs there in (more.0, or_right ((x.process == more.0) && (x.heap == s)) (has_share xs more.0 s) more.1)
        ]

    any : (xs : List Sharing) (p : ℕ) → has_share xs p s ≡ true → has_sharer xs s ≡ true
    any [] p t = absurd (false≢true t)
    any (x ∷ xs) p t =
        elim (or_cases ((x.process == p) && (x.heap == s)) (has_share xs p s) t) [
          | inl here ↦ or_left (x.heap == s) (has_sharer xs s) (and_parts (x.process == p) (x.heap == s) here).1
          | inr there ↦ or_right (x.heap == s) (has_sharer xs s) (any xs p there)
        ]

sharers_same : (shares others : List Sharing) (s : ℕ) → ((p : ℕ) → has_share shares p s ≡ has_share others p s) → has_sharer shares s ≡ has_sharer others s
sharers_same shares others s same =
    elim (cases_Bool (has_sharer shares s)) [
      | inl t ↦ t ∙ sym (sharer_tested shares others s same t)
      | inr f ↦ f ∙ sym (false_from_ne_true (has_sharer others s) (λ t. false≢true (sym f ∙ sharer_tested others shares s (λ p. sym (same p)) t)))
    ]

-- no heap is collected, so no collection is open
no_scans : (scans : List Scan) (IsKnown : Cell → Type 0) → ((c : Cell) (roots : List Rattle.k_laws.specs.k_types.declared.names.Name.Name) → scan_of scans c ≡ Some roots → IsKnown c) →
    ((c : Cell) → IsKnown c → scan_of scans c ≡ None) → scans ≡ []
no_scans [] IsKnown known none = refl
no_scans (scan ∷ scans) IsKnown known none =
    let first : scan_of (scan ∷ scans) scan.heap ≡ Some scan.roots =
    ap (λ b. option_map (λ (s : Scan). s.roots) (cond b (Some scan) (find (λ s. Rattle.k_laws.specs.k_types.Names.heap_eq s.heap scan.heap) scans))) (heap_eq_refl scan.heap) in
    absurd (cc (none scan.heap (known scan.heap scan.roots first), first))

module _ (trace : Trace) (journal : JournalValue) (book : BookValue) (limits : AreLimits trace) (over : IsOver trace journal book) where
  abbrev last : State
  last = state_after trace journal.list

  sound : IsSound trace last
  sound = book_sound trace journal book limits over.book_agrees

  settled_shows : (c : Cell) (there : IsHeap trace c) → Shows trace last c (over.cells c there).value
  settled_shows c there =
      let s = over.cells c there in
      subst (λ l. Shows trace (state_after trace l) c s.value) (ap₂ (λ xs ys. xs ++ ys) s.list s.tail ∙ append-nil journal.list) s.agrees.shows

  nothing_collected : (c : Cell) → IsHeap trace c → scan_of last.scans c ≡ None
  nothing_collected c there = subst (λ k. AreMarks k (scan_of last.scans c) (over.cells c there).value) (over.cells c there).idle (settled_shows c there).marks

  process_shown : (p : ℕ) (known : p < process_count trace) →
      (over.cells (user p) known).value.process ≡ Some (record { registers = get_or last.registers p []; done = get_or last.done p 0; has_ended = among p last.ended })
  unfolding part
  process_shown p known = ap (λ (s : ShownPart). s.process) (settled_shows (user p) known).part

  all_done : (p : ℕ) → p < process_count trace → IsFalse (among p last.ended) → done_by p journal.list ≡ operations_of trace p
  all_done p known lives =
      let through = subst (IsThrough trace (user p)) (process_shown p known) (over.cells (user p) known).through in
      follows_own trace p journal.list over.book_agrees.legal (over.first p known)
      ∙ ap (λ n. take n (operations_of trace p)) (through lives)
      ∙ take_all (length (operations_of trace p)) (operations_of trace p) (omega arith)

  ended_shown : (p : ℕ) → among p book.ended ≡ among p last.ended
  unfolding book_part
  ended_shown p = ap (λ (b : BookPart). b.ended p) over.book_agrees.shows.part

  phases_shown : book.phases ≡ last.phases
  unfolding book_part
  phases_shown = ap (λ (b : BookPart). b.phases) over.book_agrees.shows.part

  shares_shown : (p s : ℕ) → has_share book.shares p s ≡ has_share last.shares p s
  unfolding book_part
  shares_shown p s = ap (λ (b : BookPart). b.shares p s) over.book_agrees.shows.part

  all_ended_shown : all_ended_in trace book ≡ all_ended trace last
  all_ended_shown = ap (λ f. list_all f (numbers_below (process_count trace))) (fun_ext ended_shown)

  no_orphan_shown : no_orphan_in trace book ≡ no_orphan trace last
  no_orphan_shown =
      ap (λ f. list_all f (numbers_below trace.shared_heaps))
      (fun_ext (λ s. ap₂ (λ phases has. not (is_live (phase_of phases s) && not has)) phases_shown (sharers_same book.shares last.shares s (λ p. shares_shown p s))))

  pub is_complete : IsComplete trace journal.list
  is_complete = record {
    in_order = over.first;
    all = all_done;
    no_scan = no_scans last.scans (IsHeap trace) sound.shape.known.scanned nothing_collected;
    no_orphan = λ ended. sym no_orphan_shown ∙ over.orphans (all_ended_shown ∙ ended);
    ends = λ ended. over.closed (all_ended_shown ∙ ended);
  }
