-- The end of a collection has the same numbers in two sound states where the heap's cell and the book have the same parts.
use Rattle.std.proofs.Common.{◌≡◌, ℕ, ◌==◌, ◌&&◌, ◌||◌, not, true, false, cond, refl, sym, ap, ap₂, ◌∙◌, List, [], ◌∷◌, map, filter, length, count_by, Option, Some, None, is_some, IsTrue}
use Rattle.std.specs.List.{list_any}
use Rattle.std.proofs.lemmas.Bool.{false≢true}
use Rattle.k_types.specs.declared.names.Name.{Name}
use Rattle.k_types.specs.declared.names.Heap.{Heap}
use Rattle.k_types.specs.declared.names.Heap.TheVariants.{Kernel, User, Shared}
use Rattle.k_types.specs.declared.event.Event.{Event}
use Rattle.k_types.specs.declared.event.Event.TheVariants.{Done, Ended, Absorbed, Closing}
use Rattle.k_types.specs.Names.{name_eq, heap_eq, name_among}
use Rattle.k_types.specs.Totals.{total}
use Rattle.k_types.specs.Numbers.{numbers_below}
use Rattle.k_types.specs.Trace.{Trace}
use Rattle.k_types.specs.State.{State, Object, ExitItem, Sharing, has, refers, has_exit, scan_of, is_scanned}
use Rattle.k_types.specs.Owners.{owner_of, object_bytes, user}
use Rattle.k_types.specs.Effects.{survives, exit_stays, share_stays, open_roots}
use Rattle.k_types.specs.Steps.{IsPossible}
use Rattle.k_types.specs.Sound.{IsSound, AreDistinctExits}
use Rattle.k_types.specs.Cells.{BookPart, CellPart, part, book_part, cells_touched}
use Rattle.k_types.specs.Distinct.{AreDistinctNames}
use Rattle.k_laws.proofs.Distinct.{targets_sum}
use Rattle.k_laws.specs.CellChanges.{reached_in}
use Rattle.k_laws.specs.BookChanges.{has_way_into}
use Rattle.k_laws.proofs.SharedSums.{shares_sum}
use Rattle.k_laws.proofs.WaysInto.{share_stays_so}
use Rattle.k_types.proofs.NameTests.{heap_eq_refl, heap_eq-true}
use Rattle.k_types.proofs.Sums.{bit, sum_same, sum-filter, zeros, count_is_total, not_or_bit}
use Rattle.k_laws.proofs.Means.{reach_is}
use Rattle.k_laws.specs.Same.{SameToEvent}
use Rattle.k_laws.proofs.SameRead.{owners_same}
use Rattle.k_types.specs.TraceRules.{AreLimits}
use Rattle.k_laws.proofs.SamePossible.{scan_same, scanned_same, done_possible, absorbed_possible, closing_possible}
use Rattle.k_types.proofs.Lists.{both_kept}
use Rattle.k_types.proofs.Tests.{not_or}

-- the objects of the cell that its collection didn't reach, and whether it reached a reference to the name
abbrev unreached : CellPart → List Object
unreached c = filter (λ o. not (has (reached_in c) o.name)) c.objects

abbrev missed : CellPart → Name → ℕ
missed c n = bit (not (list_any (λ x. refers x n) (reached_in c)))

-- whether the process has no way left into the shared heap, and how many of its shares have none
abbrev no_way : (ℕ → Heap) → BookPart → CellPart → ℕ → ℕ → ℕ
no_way own b c p t = bit (not (has_way_into own b c p t))

abbrev shares_lost : Trace → (ℕ → Heap) → BookPart → CellPart → ℕ → ℕ
shares_lost trace own b c p = total (λ t. cond (b.shares p t) (no_way own b c p t) 0) (numbers_below trace.shared_heaps)

module _ (trace : Trace) (st : State) (h : Heap) where
  objects_told : filter (λ o. not (survives trace st h o.name)) st.objects ≡ unreached (part trace st h)
  unfolding part survives
  objects_told =
      both_kept (λ o. heap_eq (owner_of trace st o.name.seg.0) h) (λ o. not (has (reached_in (part trace st h)) o.name)) (λ o. not (survives trace st h o.name))
      (λ o. ap (λ set. not (not (heap_eq (owner_of trace st o.name.seg.0) h) || has set o.name)) (reach_is trace st h (open_roots st h))
      ∙ not_or (heap_eq (owner_of trace st o.name.seg.0) h) (has (reached_in (part trace st h)) o.name)) st.objects

  exits_told : count_by (λ e. not (exit_stays trace st h e)) st.exits ≡ total (λ (e : ExitItem). cond (heap_eq e.heap h) (missed (part trace st h) e.target) 0) st.exits
  unfolding part exit_stays
  exits_told =
      count_is_total (λ e. not (exit_stays trace st h e)) st.exits
      ∙ sum_same (λ e. bit (not (exit_stays trace st h e))) (λ (e : ExitItem). cond (heap_eq e.heap h) (missed (part trace st h) e.target) 0)
      (λ e. ap (λ set. bit (not (not (heap_eq e.heap h) || list_any (λ x. refers x e.target) set))) (reach_is trace st h (open_roots st h))
      ∙ not_or_bit (heap_eq e.heap h) (list_any (λ x. refers x e.target) (reached_in (part trace st h)))) st.exits

-- the targets of a heap's exit items
targets : Heap → List ExitItem → List Name
targets h exits = map (λ e. e.target) (filter (λ e. heap_eq e.heap h) exits)

listed : (h : Heap) (exits : List ExitItem) (n : Name) → name_among n (targets h exits) ≡ has_exit exits h n
unfolding targets
listed h [] n = refl
listed h (e ∷ exits) n =
    elim (heap_eq e.heap h) as (λ b. name_among n (map (λ (e : ExitItem). e.target) (cond b (e ∷ filter (λ (e : ExitItem). heap_eq e.heap h) exits) (filter (λ (e : ExitItem). heap_eq e.heap h) exits))) ≡ ((b && name_eq e.target n) || has_exit exits h n)) [
      | true ↦ ap (λ b. name_eq e.target n || b) (listed h exits n)
      | false ↦ listed h exits n
    ]

distinct_targets : (h : Heap) (exits : List ExitItem) → AreDistinctExits exits → AreDistinctNames (targets h exits)
unfolding targets
distinct_targets h [] d = tt
distinct_targets h (e ∷ exits) d =
    elim (heap_eq e.heap h) as (λ b. heap_eq e.heap h ≡ b → AreDistinctNames (map (λ (e : ExitItem). e.target) (cond b (e ∷ filter (λ (e : ExitItem). heap_eq e.heap h) exits) (filter (λ (e : ExitItem). heap_eq e.heap h) exits)))) [
      | true ↦ λ t. (listed h exits e.target ∙ ap (λ k. has_exit exits k e.target) (sym (heap_eq-true e.heap h t)) ∙ d.0, distinct_targets h exits d.1)
      | false ↦ λ t. distinct_targets h exits d.1
    ] refl

-- a sum over a heap's exit items goes by the test for them
exits_sum : (f : Name → ℕ) (h : Heap) (exits others : List ExitItem) → AreDistinctExits exits → AreDistinctExits others → ((n : Name) → has_exit exits h n ≡ has_exit others h n) →
    total (λ (e : ExitItem). cond (heap_eq e.heap h) (f e.target) 0) exits ≡ total (λ (e : ExitItem). cond (heap_eq e.heap h) (f e.target) 0) others
exits_sum f h exits others d d' same =
    sym (targets_sum f h exits (targets h exits) d (distinct_targets h exits d) (listed h exits))
    ∙ targets_sum f h others (targets h exits) d' (distinct_targets h exits d) (λ n. listed h exits n ∙ same n)

-- where a process's heap is collected, the shares that go are told
shares_told : (trace : Trace) (st : State) → IsSound trace st → (p : ℕ) (roots : List Name) → scan_of st.scans (user p) ≡ Some roots →
    count_by (λ e. not (share_stays trace st (user p) e)) st.shares ≡ shares_lost trace (owner_of trace st) (book_part trace st) (part trace st (user p)) p
unfolding book_part
shares_told trace st sound p roots opened =
    count_is_total (λ e. not (share_stays trace st (user p) e)) st.shares
    ∙ sum_same (λ e. bit (not (share_stays trace st (user p) e))) (λ (e : Sharing). cond (e.process == p) (no_way (owner_of trace st) (book_part trace st) (part trace st (user p)) p e.heap) 0)
    (λ e. ap (λ b. bit (not b)) (share_stays_so trace st sound p roots opened e.heap e.process) ∙ not_or_bit (e.process == p) (has_way_into (owner_of trace st) (book_part trace st) (part trace st (user p)) p e.heap)) st.shares
    ∙ sym (sum-filter (λ (e : Sharing). e.process == p) (λ (e : Sharing). no_way (owner_of trace st) (book_part trace st) (part trace st (user p)) p e.heap) st.shares)
    ∙ shares_sum (no_way (owner_of trace st) (book_part trace st) (part trace st (user p)) p) p trace.shared_heaps st.shares sound.shape.distinct_shares sound.shape.known.shared

-- other collections let no share go
none_go : (trace : Trace) (st : State) (h : Heap) → ((e : Sharing) → not (share_stays trace st h e) ≡ false) → count_by (λ e. not (share_stays trace st h e)) st.shares ≡ 0
none_go trace st h stays =
    count_is_total (λ e. not (share_stays trace st h e)) st.shares
    ∙ sum_same (λ e. bit (not (share_stays trace st h e))) (λ e. 0) (λ e. ap bit (stays e)) st.shares
    ∙ zeros st.shares

opened_roots : {A : Type 0} (scan : Option A) → IsTrue (is_some scan) → (roots : A) × (scan ≡ Some roots)
opened_roots None t = absurd (false≢true t)
opened_roots (Some roots) t = (roots, refl)

module _ (trace : Trace) (st su : State) (sound : IsSound trace st) (sound' : IsSound trace su) where
  shares_gone_same : (h : Heap) → IsTrue (is_scanned st.scans h) → part trace st h ≡ part trace su h → book_part trace st ≡ book_part trace su →
      count_by (λ e. not (share_stays trace st h e)) st.shares ≡ count_by (λ e. not (share_stays trace su h e)) su.shares
  unfolding share_stays
  shares_gone_same Kernel opened same book = none_go trace st Kernel (λ e. refl) ∙ sym (none_go trace su Kernel (λ e. refl))
  shares_gone_same (Shared s) opened same book = none_go trace st (Shared s) (λ e. refl) ∙ sym (none_go trace su (Shared s) (λ e. refl))
  shares_gone_same (User q) opened same book =
      let roots = opened_roots (scan_of st.scans (User q)) opened in
      shares_told trace st sound q.0 roots.0 roots.1
      ∙ ap₂ (λ own b. shares_lost trace own b (part trace st (User q)) q.0) (owners_same trace st su book) book
      ∙ ap (λ c. shares_lost trace (owner_of trace su) (book_part trace su) c q.0) same
      ∙ sym (shares_told trace su sound' q.0 roots.0 (sym (scan_same trace st su (User q) same) ∙ roots.1))

  exits_same : (h : Heap) → part trace st h ≡ part trace su h → (n : Name) → has_exit st.exits h n ≡ has_exit su.exits h n
  unfolding part
  exits_same h same n = ap (λ (q : CellPart). q.exits n) same

  pub end_possible : (h : Heap) (objects bytes exits shares : ℕ) → SameToEvent trace st su (Ended h objects bytes exits shares) →
      IsPossible trace st (Ended h objects bytes exits shares) → IsPossible trace su (Ended h objects bytes exits shares)
  unfolding cells_touched
  end_possible h objects bytes exits shares same may =
      let cell = same.cells h (ap (λ b. b || false) (heap_eq_refl h)) in
      let gone = objects_told trace st h ∙ ap unreached cell ∙ sym (objects_told trace su h) in
      record {
        scanned = sym (scanned_same trace st su h cell) ∙ may.scanned;
        objects_gone = may.objects_gone ∙ ap length gone;
        bytes_gone = may.bytes_gone ∙ ap (total object_bytes) gone;
        exits_gone = may.exits_gone ∙ exits_told trace st h
            ∙ ap (λ c. total (λ (e : ExitItem). cond (heap_eq e.heap h) (missed c e.target) 0) st.exits) cell
            ∙ exits_sum (missed (part trace su h)) h st.exits su.exits sound.shape.distinct_exits sound'.shape.distinct_exits (exits_same h cell)
            ∙ sym (exits_told trace su h);
        shares_gone = may.shares_gone ∙ shares_gone_same h may.scanned cell same.book;
      }

  pub event_possible : AreLimits trace → (event : Event) → SameToEvent trace st su event → IsPossible trace st event → IsPossible trace su event
  event_possible limits (Done pid op said) same may = done_possible trace st su pid op said limits same may
  event_possible limits (Ended h objects bytes exits shares) same may = end_possible h objects bytes exits shares same may
  event_possible limits (Absorbed s) same may = absorbed_possible trace st su s same may
  event_possible limits Closing same may = closing_possible trace st su same may
