-- What the small changes of a state change in the book's part.
use Rattle.std.proofs.Common.{◌≡◌, ◌≢◌, ℕ, zero, suc, ◌+◌, ◌*◌, ◌<◌, ◌==◌, ◌&&◌, ◌||◌, not, Bool, true, false, cond, refl, sym, ap, ap₂, ◌∙◌, List, [], ◌∷◌, ◌++◌, map, length, get_or, set, arith, eq-eqb, ne_eqb, IsFalse}
use Rattle.std.proofs.Math.Path.{fun_ext}
use Rattle.std.proofs.lemmas.List.Folds.{list_any-append}
use Rattle.k_types.specs.declared.names.Name.{Name}
use Rattle.k_types.specs.declared.names.Heap.{Heap}
use Rattle.k_types.specs.declared.names.Phase.{Phase}
use Rattle.k_types.specs.Names.{heap_eq, name_eq, among}
use Rattle.k_types.specs.Totals.{total}
use Rattle.k_types.specs.Numbers.{numbers_below, numbers_from}
use Rattle.k_types.specs.TraceRules.{AreLimits}
use Rattle.k_types.specs.Trace.{Trace, process_count, limit_of}
use Rattle.k_types.specs.State.{State, Content, ExitItem, has_exit, has_share}
use Rattle.k_types.specs.Owners.{owner_of, owner_of_segment, user, shared, bytes_by, bytes_of, charge_of, charge_by, phase_of, is_absorbed}
use Rattle.k_types.specs.Limits.{direct_by}
use Rattle.k_types.specs.Updates.{count_done, write, add_exit, with_exit, open_scan, set_phase, add_share, close, set_max}
use Rattle.k_types.specs.Cells.{book_part, pins_of}
use Rattle.k_laws.specs.BookChanges.{owner_in, with_charge, with_entry, with_phase, with_share, when_closed, with_max}
use Rattle.k_laws.proofs.Bytes.{bytes-written}
use Rattle.k_types.proofs.Sums.{bit, total_append}
use Rattle.k_laws.proofs.Raised.{direct_added, charge_sharing}
use Rattle.k_laws.proofs.SoundShare.{owner_kept}
use Rattle.k_types.proofs.Lists.{get_mapped}

-- the book tells all owners
pub owner_told : (trace : Trace) (st : State) → owner_in trace (book_part trace st) ≡ owner_of trace st
unfolding book_part owner_of_segment
owner_told trace st = refl

-- a list by numbers, of which one changes
map_above : (f g : ℕ → ℕ) (first n p : ℕ) → p < first → ((q : ℕ) → q ≢ p → g q ≡ f q) → map g (numbers_from first n) ≡ map f (numbers_from first n)
map_above f g first zero p low same = refl
map_above f g first (suc n) p low same = ap₂ (λ x xs. x ∷ xs) (same first (λ e. absurd (omega (arith, e)))) (map_above f g (suc first) n p (omega arith) same)

pub map_changed : (f g : ℕ → ℕ) (first n k : ℕ) → ((q : ℕ) → q ≢ first + k → g q ≡ f q) → map g (numbers_from first n) ≡ set (map f (numbers_from first n)) k (g (first + k))
map_changed f g first zero k same = refl
map_changed f g first (suc n) zero same =
    ap₂ (λ x xs. x ∷ xs) (ap g (omega arith)) (map_above f g (suc first) n first (omega arith) (λ q ne. same q (λ e. ne (omega (arith, e)))))
map_changed f g first (suc n) (suc k) same =
    ap₂ (λ x xs. x ∷ xs) (same first (λ e. absurd (omega (arith, e))))
    (map_changed f g (suc first) n k (λ q ne. same q (λ e. ne (omega (arith, e)))) ∙ ap (λ at. set (map f (numbers_from (suc first) n)) k (g at)) (omega arith))

-- one number of the list is more by so much
pub map_raised : (f g : ℕ → ℕ) (n k more : ℕ) → k < n → ((q : ℕ) → g q ≡ f q + more * bit (q == k)) → map g (numbers_below n) ≡ set (map f (numbers_below n)) k (get_or (map f (numbers_below n)) k 0 + more)
map_raised f g n k more inside at =
    map_changed f g 0 n k (λ q ne. at q ∙ ap (λ b. f q + more * bit b) (ne_eqb q k (λ e. ne (omega (arith, e)))) ∙ (omega arith))
    ∙ ap (λ x. set (map f (numbers_below n)) k x) (raised)
  where
    raised : g (0 + k) ≡ get_or (map f (numbers_below n)) k 0 + more
    raised =
        let now = at (0 + k) ∙ ap (λ b. f (0 + k) + more * bit b) (eq-eqb (0 + k) k (omega arith)) in
        let was = get_mapped f 0 n k inside in
        omega arith

module _ (trace : Trace) (st : State) where
  pub count_done_on_book : (p : ℕ) → book_part trace (count_done p st) ≡ book_part trace st
  unfolding book_part count_done
  count_done_on_book p = refl

  pub open_scan_on_book : (h : Heap) (roots : List Name) → book_part trace (open_scan h roots st) ≡ book_part trace st
  unfolding book_part open_scan
  open_scan_on_book h roots = refl

  pub set_max_on_book : (m max : ℕ) → book_part trace (set_max m max st) ≡ with_max m max (book_part trace st)
  unfolding book_part set_max
  set_max_on_book m max = refl

  pub close_on_book : book_part trace (close st) ≡ when_closed (book_part trace st)
  unfolding book_part close
  close_on_book = refl

  pub write_on_book : (x : Name) (i : ℕ) (c : Content) → book_part trace (write x i c st) ≡ book_part trace st
  unfolding write book_part
  write_on_book x i c = ap (λ b. record (book_part trace st) {
    shared_bytes = map (λ s. b (shared s)) (numbers_below trace.shared_heaps);
    direct = map (direct_by trace (charge_by b st.ended st.shares)) (numbers_below (length trace.limits));
  })
      (fun_ext (λ h. bytes-written (owner_of trace st) h x i c st.objects))

  entry_more : (h : Heap) (y n : Name) → total (λ (e : ExitItem). bit (name_eq e.target n)) (with_exit h y st.exits) ≡ total (λ (e : ExitItem). bit (name_eq e.target n)) st.exits + bit (not (has_exit st.exits h y) && name_eq y n)
  entry_more h y n =
      elim (has_exit st.exits h y) as (λ b. total (λ (e : ExitItem). bit (name_eq e.target n)) (cond b st.exits (st.exits ++ record { heap = h; target = y } ∷ []))
      ≡ total (λ (e : ExitItem). bit (name_eq e.target n)) st.exits + bit (not b && name_eq y n)) [
        | true ↦ omega arith
        | false ↦ omega (arith, total_append (λ (e : ExitItem). bit (name_eq e.target n)) st.exits (record { heap = h; target = y } ∷ []))
      ]

  pub add_exit_on_book : (h : Heap) (y : Name) → book_part trace (add_exit h y st) ≡ with_entry (not (has_exit st.exits h y)) y (book_part trace st)
  unfolding book_part add_exit
  add_exit_on_book h y = ap (λ entries. record (book_part trace st) { entries = entries }) (fun_ext (entry_more h y))

  pub set_phase_on_book : (s : ℕ) (phase : Phase) → is_absorbed phase ≡ is_absorbed (phase_of st.phases s) → book_part trace (set_phase s phase st) ≡ with_phase s phase (book_part trace st)
  unfolding book_part set_phase
  set_phase_on_book s phase same =
      ap (λ own. record (with_phase s phase (book_part trace st)) {
        shared_bytes = map (λ s. bytes_by own (shared s) st.objects) (numbers_below trace.shared_heaps);
        direct = map (direct_by trace (charge_by (λ h. bytes_by own h st.objects) st.ended st.shares)) (numbers_below (length trace.limits));
        pins = λ n. total (λ p. cond (heap_eq (user p) (own n.seg.0)) 0 (pins_of (get_or st.registers p []) n)) (numbers_below (process_count trace));
      })
      (owner_kept trace st s phase same)

  -- a process's charge that is more by so much shows at its limit
  pub direct_raised : AreLimits trace → (p more : ℕ) (c d : ℕ → ℕ) → p < process_count trace → ((q : ℕ) → d q ≡ c q + more * bit (q == p)) →
      map (direct_by trace d) (numbers_below (length trace.limits)) ≡ set (map (direct_by trace c) (numbers_below (length trace.limits))) (limit_of trace p) (get_or (map (direct_by trace c) (numbers_below (length trace.limits))) (limit_of trace p) 0 + more)
  direct_raised limits p more c d known at =
      map_raised (direct_by trace c) (direct_by trace d) (length trace.limits) (limit_of trace p) more (limits.limited p known) (direct_added trace c d p more known at)

  share_at : (p s q t : ℕ) → has_share st.shares p s ≡ false → has_share (st.shares ++ record { process = p; heap = s } ∷ []) q t ≡ (has_share st.shares q t || ((p == q) && (s == t)))
  share_at p s q t new =
      list_any-append (λ e. (e.process == q) && (e.heap == t)) st.shares (record { process = p; heap = s } ∷ [])
      ∙ ap (λ b. has_share st.shares q t || b) (or_none ((p == q) && (s == t)))
    where
      or_none : (b : Bool) → (b || false) ≡ b
      or_none true = refl
      or_none false = refl

  -- a new share of a living process charges the heap's bytes at its limit
  pub add_share_on_book : AreLimits trace → (p s : ℕ) → p < process_count trace → IsFalse (among p st.ended) → s < trace.shared_heaps → has_share st.shares p s ≡ false →
      book_part trace (add_share p s st) ≡ with_charge (limit_of trace p) (get_or (book_part trace st).shared_bytes s 0) (with_share p s (book_part trace st))
  unfolding book_part add_share
  add_share_on_book limits p s known lives inside new =
      ap (λ b. record (book_part trace st) {
        shares = has_share (cond b st.shares (st.shares ++ record { process = p; heap = s } ∷ []));
        direct = map (direct_by trace (charge_by (bytes_of trace st) st.ended (cond b st.shares (st.shares ++ record { process = p; heap = s } ∷ [])))) (numbers_below (length trace.limits));
      }) new
      ∙ ap₂ (λ shares direct. record (book_part trace st) { shares = shares; direct = direct })
      (fun_ext (λ q. fun_ext (λ t. share_at p s q t new)))
      (direct_raised limits p (bytes_of trace st (shared s)) (charge_of trace st) (charge_by (bytes_of trace st) st.ended (st.shares ++ record { process = p; heap = s } ∷ [])) known
      (charge_sharing (bytes_of trace st) st.ended st.shares p s lives)
      ∙ ap (λ n. set (map (direct_by trace (charge_of trace st)) (numbers_below (length trace.limits))) (limit_of trace p) (get_or (map (direct_by trace (charge_of trace st)) (numbers_below (length trace.limits))) (limit_of trace p) 0 + n))
      (sym (get_mapped (λ t. bytes_of trace st (shared t)) 0 trace.shared_heaps s inside ∙ ap (λ t. bytes_of trace st (shared t)) (omega arith))))

-- a share that is there already changes nothing
pub share_again : (st : State) (p s : ℕ) → has_share st.shares p s ≡ true → add_share p s st ≡ st
unfolding add_share
share_again st p s there = ap (λ b. record st { shares = cond b st.shares (st.shares ++ record { process = p; heap = s } ∷ []) }) there
