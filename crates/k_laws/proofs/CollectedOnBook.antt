-- What the end of a collection changes in the book's part.
use Rattle.std.proofs.Common.{◌≡◌, ◌≢◌, ℕ, ◌+◌, ◌-◌, ◌*◌, ◌≤◌, ◌<◌, ◌==◌, ◌&&◌, ◌||◌, not, Bool, true, false, cond, refl, sym, ap, ap₂, ◌∙◌, inl, inr, List, [], ◌∷◌, filter, map, length, Some, get_or, arith, eq-eqb, eqb-true, ne_eqb, IsFalse}
use Rattle.std.proofs.Math.Path.{fun_ext}
use Rattle.std.specs.List.{list_any}
use Rattle.std.proofs.lemmas.Bool.{false≢true, cases_eq, or_left}
use Rattle.k_types.specs.declared.names.Name.{Name}
use Rattle.k_types.specs.declared.names.Heap.{Heap}
use Rattle.k_types.specs.declared.names.Heap.TheVariants.{Kernel}
use Rattle.k_types.specs.Names.{heap_eq, name_eq, among}
use Rattle.k_types.specs.Totals.{total}
use Rattle.k_types.specs.Numbers.{numbers_below}
use Rattle.k_types.specs.TraceRules.{AreLimits}
use Rattle.k_types.specs.Trace.{Trace, process_count}
use Rattle.k_types.specs.State.{State, Object, ExitItem, Sharing, has_exit, has_share, scan_of, refers, has}
use Rattle.k_types.specs.Owners.{owner_of, user, shared, bytes_by, bytes_of, charge_of, charge_by, object_bytes}
use Rattle.k_types.specs.Limits.{direct_by}
use Rattle.k_types.specs.Updates.{keep_objects, keep_exits, keep_shares, close_scan}
use Rattle.k_types.specs.Reach.{reach_in}
use Rattle.k_types.specs.Effects.{after_ended, survives, exit_stays, share_stays, open_roots}
use Rattle.k_types.specs.Cells.{CellPart, book_part, part, entries}
use Rattle.k_types.specs.Sound.{IsSound}
use Rattle.k_laws.specs.CellChanges.{collected, reached_in}
use Rattle.k_laws.specs.BookChanges.{when_collected, without_entries, drops, has_way_into, shared_by, bytes_in}
use Rattle.k_laws.proofs.Collected.{ended_on_cell, stays_here}
use Rattle.k_laws.proofs.EndsOnBook.{direct_lowered}
use Rattle.k_laws.proofs.EntryCounts.{kept_and_gone, one_item}
use Rattle.k_laws.proofs.SharedSums.{shares_sum}
use Rattle.k_laws.proofs.WaysInto.{share_stays_so}
use Rattle.k_types.proofs.Sums.{bit, sum_same, sum_both, same_below}
use Rattle.k_laws.proofs.Kept.{has_share-kept, distinct_shares-kept, any-fewer}
use Rattle.k_types.proofs.NameTests.{heap_eq-true}
use Rattle.k_types.proofs.Lists.{get_mapped, filter_stronger}

-- the bytes of a heap are those of the objects in its cell's part
shows : (trace : Trace) (su : State) (h : Heap) → bytes_of trace su h ≡ bytes_in (part trace su h)
unfolding bytes_by part
shows trace su h = refl

-- one heap's items alone go
item_goes : (q a m : Bool) → (q ≡ false → a ≡ true) → cond q 0 (bit m) ≡ bit ((a && m) && not q)
item_goes true true true other = refl
item_goes true true false other = refl
item_goes true false m other = refl
item_goes false true true other = refl
item_goes false true false other = refl
item_goes false false m other = absurd (false≢true (other refl))

module _ (trace : Trace) (st : State) (h : Heap) (sound : IsSound trace st) where
  goes : (e : ExitItem) → exit_stays trace st h e ≡ false → heap_eq e.heap h ≡ true
  unfolding exit_stays
  goes e f = go (heap_eq e.heap h) refl f
    where
      go : (b : Bool) → heap_eq e.heap h ≡ b → (not b || list_any (λ x. refers x e.target) (reach_in trace st h (open_roots st h))) ≡ false → b ≡ true
      go true t f = refl
      go false t f = absurd (false≢true (sym f))

  pub entries_then : (n : Name) → entries (after_ended trace h st) n ≡ entries st n - bit (drops (part trace st h) n)
  unfolding after_ended keep_objects keep_exits keep_shares close_scan part
  entries_then n =
      let all = kept_and_gone (λ (e : ExitItem). bit (name_eq e.target n)) (exit_stays trace st h) st.exits in
      let gone = sum_same (λ (e : ExitItem). cond (exit_stays trace st h e) 0 (bit (name_eq e.target n))) (λ (e : ExitItem). bit ((heap_eq e.heap h && name_eq e.target n) && not (exit_stays trace st h e)))
      (λ e. item_goes (exit_stays trace st h e) (heap_eq e.heap h) (name_eq e.target n) (goes e)) st.exits in
      let one = one_item (exit_stays trace st h) h n st.exits sound.shape.distinct_exits ∙ ap (λ b. bit (has_exit st.exits h n && not b)) (stays_here trace st h n) in
      omega (arith, all, gone, one)

  survives_elsewhere : (g : Heap) → IsFalse (heap_eq g h) → (o : Object) → heap_eq (owner_of trace st o.name.seg.0) g ≡ true → survives trace st h o.name ≡ true
  unfolding survives
  survives_elsewhere g apart o own = or_left _ _ (ap (λ k. not (heap_eq k h)) (heap_eq-true (owner_of trace st o.name.seg.0) g own) ∙ ap not apart)

  pub other_bytes : (g : Heap) → IsFalse (heap_eq g h) → bytes_of trace (after_ended trace h st) g ≡ bytes_of trace st g
  unfolding after_ended keep_objects keep_exits keep_shares close_scan bytes_by
  other_bytes g apart = ap (total object_bytes) (filter_stronger (λ o. heap_eq (owner_of trace st o.name.seg.0) g) (λ o. survives trace st h o.name) (survives_elsewhere g apart) st.objects)

  own_bytes : bytes_of trace (after_ended trace h st) h ≡ bytes_in (collected (part trace st h))
  own_bytes = shows trace (after_ended trace h st) h ∙ ap (λ (c : CellPart). bytes_in c) (ended_on_cell trace st h)

module _ (trace : Trace) (st : State) (sound : IsSound trace st) where
  kernel_stays : (e : Sharing) → share_stays trace st Kernel e ≡ true
  unfolding share_stays
  kernel_stays e = refl

  all_kept : (shares : List Sharing) → filter (share_stays trace st Kernel) shares ≡ shares
  all_kept [] = refl
  all_kept (e ∷ shares) = ap (λ b. cond b (e ∷ filter (share_stays trace st Kernel) shares) (filter (share_stays trace st Kernel) shares)) (kernel_stays e) ∙ ap (λ rest. e ∷ rest) (all_kept shares)

  kernel_charge : (q : ℕ) → charge_of trace (after_ended trace Kernel st) q ≡ charge_of trace st q
  unfolding after_ended keep_objects keep_exits keep_shares close_scan
  kernel_charge q =
      ap (λ shares. charge_by (bytes_of trace (after_ended trace Kernel st)) st.ended shares q) (all_kept st.shares)
      ∙ ap₂ (λ a b. cond (among q st.ended) 0 (a + b)) (other_bytes trace st Kernel sound (user q) refl)
      (sum_same (λ (e : Sharing). bytes_of trace (after_ended trace Kernel st) (shared e.heap)) (λ (e : Sharing). bytes_of trace st (shared e.heap)) (λ e. other_bytes trace st Kernel sound (shared e.heap) refl) (filter (λ e. e.process == q) st.shares))

  pub kernel_collected_on_book : book_part trace (after_ended trace Kernel st) ≡ without_entries (drops (part trace st Kernel)) (book_part trace st)
  unfolding book_part after_ended keep_objects keep_exits keep_shares close_scan
  kernel_collected_on_book =
      ap₂ (λ shares bytes. record (book_part trace (after_ended trace Kernel st)) { shares = shares; shared_bytes = bytes })
      (ap has_share (all_kept st.shares))
      (ap (λ f. map f (numbers_below trace.shared_heaps)) (fun_ext (λ t. other_bytes trace st Kernel sound (shared t) refl)))
      ∙ ap₂ (λ direct entered. record (book_part trace st) { direct = direct; entries = entered })
      (ap (λ c. map (direct_by trace c) (numbers_below (length trace.limits))) (fun_ext kernel_charge))
      (fun_ext (entries_then trace st Kernel sound))

module _ (trace : Trace) (limits : AreLimits trace) (st : State) (p : ℕ) (sound : IsSound trace st) (roots : List Name) (opened : scan_of st.scans (user p) ≡ Some roots) where
  abbrev heap : CellPart
  heap = part trace st (user p)

  abbrev stays : ℕ → Bool
  stays t = has_way_into (owner_of trace st) (book_part trace st) (part trace st (user p)) p t

  known : p < process_count trace
  known = sound.shape.known.scanned (user p) roots opened

  lives : IsFalse (among p st.ended)
  lives = go (among p st.ended) refl
    where
      go : (b : Bool) → among p st.ended ≡ b → b ≡ false
      go false e = refl
      go true e = let none = sound.gone.scans p e in absurd (cc (none, opened))

  shares_then : (q t : ℕ) → has_share (after_ended trace (user p) st).shares q t ≡ (has_share st.shares q t && (not (q == p) || stays t))
  unfolding after_ended keep_objects keep_exits keep_shares close_scan
  shares_then q t = has_share-kept (share_stays trace st (user p)) st.shares q t ∙ ap (λ b. has_share st.shares q t && b) (share_stays_so trace st sound p roots opened t q)

  shared_then : (t : ℕ) → bytes_of trace (after_ended trace (user p) st) (shared t) ≡ bytes_of trace st (shared t)
  shared_then t = other_bytes trace st (user p) sound (shared t) refl

  after : State
  after = after_ended trace (user p) st

  -- the shares of another process stay
  others_hidden : (q : ℕ) → q ≢ p → filter (λ e. e.process == q) (filter (share_stays trace st (user p)) st.shares) ≡ filter (λ e. e.process == q) st.shares
  others_hidden q ne = filter_stronger (λ (e : Sharing). e.process == q) (share_stays trace st (user p))
      (λ e t. share_stays_so trace st sound p roots opened e.heap e.process
      ∙ ap (λ b. not b || stays e.heap) (ne_eqb e.process p (λ same. ne (sym (eqb-true e.process q t) ∙ same)))) st.shares

  other_charge : (q : ℕ) → q ≢ p → charge_of trace after q ≡ charge_of trace st q
  unfolding after after_ended keep_objects keep_exits keep_shares close_scan
  other_charge q ne =
      ap₂ (λ a b. cond (among q st.ended) 0 (a + b)) (other_bytes trace st (user p) sound (user q) (ne_eqb q p ne))
      (ap (total (λ (e : Sharing). bytes_of trace (after_ended trace (user p) st) (shared e.heap))) (others_hidden q ne)
      ∙ sum_same (λ (e : Sharing). bytes_of trace (after_ended trace (user p) st) (shared e.heap)) (λ (e : Sharing). bytes_of trace st (shared e.heap)) (λ e. shared_then e.heap) (filter (λ e. e.process == q) st.shares))

  weight : ℕ → ℕ
  weight t = bytes_of trace st (shared t)

  own_shares : total (λ (e : Sharing). bytes_of trace (after_ended trace (user p) st) (shared e.heap)) (filter (λ e. e.process == p) (filter (share_stays trace st (user p)) st.shares))
      ≡ total (λ t. cond (has_share st.shares p t && stays t) (weight t) 0) (numbers_below trace.shared_heaps)
  unfolding weight
  own_shares =
      sum_same (λ (e : Sharing). bytes_of trace (after_ended trace (user p) st) (shared e.heap)) (λ (e : Sharing). weight e.heap) (λ e. shared_then e.heap) (filter (λ e. e.process == p) (filter (share_stays trace st (user p)) st.shares))
      ∙ shares_sum weight p trace.shared_heaps (filter (share_stays trace st (user p)) st.shares) (distinct_shares-kept (share_stays trace st (user p)) st.shares sound.shape.distinct_shares)
      (λ q s t. sound.shape.known.shared q s (any-fewer _ (share_stays trace st (user p)) st.shares t))
      ∙ sum_same (λ t. cond (has_share (filter (share_stays trace st (user p)) st.shares) p t) (weight t) 0) (λ t. cond (has_share st.shares p t && stays t) (weight t) 0)
      (λ t. ap (λ b. cond b (weight t) 0) (has_share-kept (share_stays trace st (user p)) st.shares p t ∙ ap (λ b. has_share st.shares p t && b) (share_stays_so trace st sound p roots opened t p ∙ ap (λ b. not b || stays t) (eq-eqb p p refl)))) (numbers_below trace.shared_heaps)

  own_before : total (λ (e : Sharing). bytes_of trace st (shared e.heap)) (filter (λ e. e.process == p) st.shares) ≡ total (λ t. cond (has_share st.shares p t) (weight t) 0) (numbers_below trace.shared_heaps)
  unfolding weight
  own_before = shares_sum weight p trace.shared_heaps st.shares sound.shape.distinct_shares sound.shape.known.shared

  split : (a b : Bool) (n : ℕ) → cond a n 0 ≡ cond (a && b) n 0 + cond (a && not b) n 0
  split true true n = omega arith
  split true false n = omega arith
  split false b n = omega arith

  dropped : total (λ t. cond (has_share st.shares p t && not (stays t)) (weight t) 0) (numbers_below trace.shared_heaps) ≡ shared_by trace (book_part trace st) p (λ t. not (stays t))
  unfolding weight book_part
  dropped = same_below (λ t. cond (has_share st.shares p t && not (stays t)) (bytes_of trace st (shared t)) 0)
      (λ t. cond (has_share st.shares p t && not (stays t)) (get_or (map (λ s. bytes_of trace st (shared s)) (numbers_below trace.shared_heaps)) t 0) 0) 0 trace.shared_heaps
      (λ t inside. ap (λ n. cond (has_share st.shares p t && not (stays t)) n 0) (sym (get_mapped (λ s. bytes_of trace st (shared s)) 0 trace.shared_heaps t (omega (arith, inside)) ∙ ap (λ s. bytes_of trace st (shared s)) (omega arith))))

  abbrev credit : ℕ
  credit = (bytes_in heap - bytes_in (collected heap)) + shared_by trace (book_part trace st) p (λ t. not (stays t))

  freed : bytes_in (collected heap) ≤ bytes_in heap
  freed = let all = kept_and_gone object_bytes (λ o. has (reached_in heap) o.name) heap.objects in omega arith

  charge_of_own : charge_of trace st p ≡ charge_of trace after p + credit
  unfolding after after_ended keep_objects keep_exits keep_shares close_scan
  charge_of_own =
      let now = ap (λ b. cond b 0 (bytes_of trace (after_ended trace (user p) st) (user p) + total (λ (e : Sharing). bytes_of trace (after_ended trace (user p) st) (shared e.heap)) (filter (λ e. e.process == p) (filter (share_stays trace st (user p)) st.shares)))) lives in
      let was = ap (λ b. cond b 0 (bytes_of trace st (user p) + total (λ (e : Sharing). bytes_of trace st (shared e.heap)) (filter (λ e. e.process == p) st.shares))) lives in
      let own = own_bytes trace st (user p) sound in
      let before = shows trace st (user p) in
      let parts = sum_same (λ t. cond (has_share st.shares p t) (weight t) 0) (λ t. cond (has_share st.shares p t && stays t) (weight t) 0 + cond (has_share st.shares p t && not (stays t)) (weight t) 0) (λ t. split (has_share st.shares p t) (stays t) (weight t)) (numbers_below trace.shared_heaps)
      ∙ sum_both (λ t. cond (has_share st.shares p t && stays t) (weight t) 0) (λ t. cond (has_share st.shares p t && not (stays t)) (weight t) 0) (numbers_below trace.shared_heaps) in
      omega (arith, now, was, own, before, parts, own_shares, own_before, dropped, freed)

  charge_then : (q : ℕ) → charge_of trace st q ≡ charge_of trace after q + credit * bit (q == p)
  charge_then q = elim (cases_eq q p) [
    | inl e ↦ rw (eq-eqb q p e) (let all = charge_of_own in let same = ap (charge_of trace st) e in let now = ap (charge_of trace after) e in omega arith)
    | inr ne ↦ rw (ne_eqb q p ne) (let same = other_charge q ne in omega arith)
  ]

  pub collected_on_book : book_part trace (after_ended trace (user p) st) ≡ when_collected trace (owner_of trace st) p (part trace st (user p)) (book_part trace st)
  unfolding book_part after_ended keep_objects keep_exits keep_shares close_scan after
  collected_on_book =
      ap₂ (λ shares bytes. record (book_part trace (after_ended trace (user p) st)) { shares = shares; shared_bytes = bytes })
      (fun_ext (λ q. fun_ext (shares_then q)))
      (ap (λ f. map f (numbers_below trace.shared_heaps)) (fun_ext shared_then))
      ∙ ap₂ (λ direct entered. record (when_collected trace (owner_of trace st) p (part trace st (user p)) (book_part trace st)) { direct = direct; entries = entered })
      (direct_lowered trace limits p credit (charge_of trace st) (charge_of trace after) known charge_then)
      (fun_ext (entries_then trace st (user p) sound))
