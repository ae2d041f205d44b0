-- What the end of a process changes in the book's part.
use Rattle.std.proofs.Common.{◌≡◌, ◌≢◌, ◌⊎◌, ℕ, zero, suc, ◌+◌, ◌-◌, ◌*◌, ◌<◌, ◌==◌, ◌&&◌, ◌||◌, not, Bool, true, false, cond, refl, sym, ap, ap₂, ◌∙◌, inl, inr, List, [], filter, map, length, replicate, Option, Some, None, is_some, get_or, set, get_or-set_same, get_or-set_other, arith, eq-eqb, ne_eqb, IsFalse}
use Rattle.std.proofs.Math.Path.{fun_ext}
use Rattle.std.proofs.lemmas.Bool.{false≢true, cases_eq}
use Rattle.k_types.specs.declared.names.Name.{Name}
use Rattle.k_types.specs.declared.names.Heap.{Heap}
use Rattle.k_types.specs.declared.names.Heap.TheVariants.{Kernel}
use Rattle.k_types.specs.Names.{heap_eq, among}
use Rattle.k_types.specs.Totals.{total}
use Rattle.k_types.specs.Numbers.{numbers_below}
use Rattle.k_types.specs.TraceRules.{AreLimits}
use Rattle.k_types.specs.Trace.{Trace, process_count, limit_of}
use Rattle.k_types.specs.State.{State, ExitItem, Sharing, has_exit, has_share}
use Rattle.k_types.specs.Owners.{owner_of, user, shared, bytes_by, bytes_of, charge_of}
use Rattle.k_types.specs.Limits.{direct_by}
use Rattle.k_types.specs.Reach.{is_shared_heap}
use Rattle.k_types.specs.Updates.{keep_shares, clear_registers, end_process, turn_exits}
use Rattle.k_types.specs.Effects.{after_end_of, exit_after, passes_to_kernel, leads_back}
use Rattle.k_types.specs.Cells.{BookPart, book_part, part, entries, pins, pins_of}
use Rattle.k_types.specs.Sound.{IsSound}
use Rattle.k_laws.specs.Changes.{MayExit}
use Rattle.k_laws.specs.BookChanges.{charge_in, when_ended}
use Rattle.k_laws.proofs.OnBook.{map_changed}
use Rattle.k_laws.proofs.PinsOnBook.{one_changed}
use Rattle.k_laws.proofs.EntryCounts.{entries_left, entries_turned}
use Rattle.k_laws.proofs.SharedSums.{shares_sum}
use Rattle.k_types.proofs.Sums.{bit, same_below}
use Rattle.k_types.proofs.NameTests.{heap_eq-true, heap_eq_refl}
use Rattle.k_laws.proofs.Merge.{merged}
use Rattle.k_laws.proofs.Ending.{same_bytes, own_charge, other_charge, leaves_rest}
use Rattle.k_laws.proofs.Raised.{direct_added}
use Rattle.k_laws.proofs.SoundExited.{is_merged}
use Rattle.k_types.proofs.Lists.{get_mapped}

-- one number of the list is less by so much
pub map_lowered : (f g : ℕ → ℕ) (n k less : ℕ) → k < n → ((q : ℕ) → f q ≡ g q + less * bit (q == k)) → map g (numbers_below n) ≡ set (map f (numbers_below n)) k (get_or (map f (numbers_below n)) k 0 - less)
map_lowered f g n k less inside at =
    map_changed f g 0 n k (λ q ne. sym (at q ∙ ap (λ b. g q + less * bit b) (ne_eqb q k (λ e. ne (omega (arith, e)))) ∙ (omega arith)))
    ∙ ap (λ x. set (map f (numbers_below n)) k x) lowered
  where
    lowered : g (0 + k) ≡ get_or (map f (numbers_below n)) k 0 - less
    lowered =
        let now = at (0 + k) ∙ ap (λ b. g (0 + k) + less * bit b) (eq-eqb (0 + k) k (omega arith)) in
        let was = get_mapped f 0 n k inside in
        omega arith

pub direct_lowered : (trace : Trace) → AreLimits trace → (p less : ℕ) (c d : ℕ → ℕ) → p < process_count trace → ((q : ℕ) → c q ≡ d q + less * bit (q == p)) →
    map (direct_by trace d) (numbers_below (length trace.limits)) ≡ set (map (direct_by trace c) (numbers_below (length trace.limits))) (limit_of trace p) (get_or (map (direct_by trace c) (numbers_below (length trace.limits))) (limit_of trace p) 0 - less)
direct_lowered trace limits p less c d known at =
    map_lowered (direct_by trace c) (direct_by trace d) (length trace.limits) (limit_of trace p) less (limits.limited p known) (direct_added trace d c p less known at)

-- what a living process is charged is told by its cell and the book
pub charge_told : (trace : Trace) (st : State) (p : ℕ) → IsSound trace st → IsFalse (among p st.ended) → charge_of trace st p ≡ charge_in trace (book_part trace st) (part trace st (user p)) p
unfolding book_part part bytes_by
charge_told trace st p sound lives =
    ap (λ b. cond b 0 (bytes_of trace st (user p) + total (λ (e : Sharing). bytes_of trace st (shared e.heap)) (filter (λ e. e.process == p) st.shares))) lives
    ∙ ap (λ n. bytes_of trace st (user p) + n)
    (shares_sum (λ t. bytes_of trace st (shared t)) p trace.shared_heaps st.shares sound.shape.distinct_shares sound.shape.known.shared
    ∙ same_below (λ t. cond (has_share st.shares p t) (bytes_of trace st (shared t)) 0)
    (λ t. cond (has_share st.shares p t && true) (get_or (map (λ s. bytes_of trace st (shared s)) (numbers_below trace.shared_heaps)) t 0) 0) 0 trace.shared_heaps each)
  where
    and_true : (b : Bool) → b ≡ (b && true)
    and_true true = refl
    and_true false = refl

    each : (t : ℕ) → t < 0 + trace.shared_heaps → cond (has_share st.shares p t) (bytes_of trace st (shared t)) 0
        ≡ cond (has_share st.shares p t && true) (get_or (map (λ s. bytes_of trace st (shared s)) (numbers_below trace.shared_heaps)) t 0) 0
    each t inside = ap₂ (λ b n. cond b n 0) (and_true (has_share st.shares p t)) (sym (get_mapped (λ s. bytes_of trace st (shared s)) 0 trace.shared_heaps t (omega (arith, inside)) ∙ ap (λ s. bytes_of trace st (shared s)) (omega arith)))

module _ (trace : Trace) (limits : AreLimits trace) (st : State) (p : ℕ) (sound : IsSound trace st) (may : MayExit trace st p) where
  owner_then : (seg : ℕ) → owner_of trace (after_end_of trace p st) seg ≡ merged (user p) (owner_of trace st seg)
  owner_then seg = is_merged trace st p sound may seg

  row : List (Option Name)
  row = get_or st.registers p []

  inside : p < length st.registers
  inside = rw sound.shape.sized.registers may.known

  no_pins : (n : ℕ) (x : Name) → pins_of (replicate n None) x ≡ 0
  no_pins zero x = refl
  no_pins (suc n) x = omega (arith, no_pins n x)

  counts : (ℕ → Heap) → List (List (Option Name)) → Name → ℕ → ℕ
  counts own registers n q = cond (heap_eq (user q) (own n.seg.0)) 0 (pins_of (get_or registers q []) n)

  other_count : (n : Name) (q : ℕ) → q ≢ p → counts (owner_of trace (after_end_of trace p st)) (set st.registers p (replicate 16 None)) n q ≡ counts (owner_of trace st) st.registers n q
  unfolding counts
  other_count n q ne =
      ap₂ (λ b r. cond b 0 (pins_of r n)) (ap (heap_eq (user q)) (owner_then n.seg.0) ∙ same_test (heap_eq (owner_of trace st n.seg.0) (user p)) refl) (get_or-set_other st.registers p q (replicate 16 None) [] ne)
    where
      same_test : (b : Bool) → heap_eq (owner_of trace st n.seg.0) (user p) ≡ b → heap_eq (user q) (cond b Kernel (owner_of trace st n.seg.0)) ≡ heap_eq (user q) (owner_of trace st n.seg.0)
      same_test false e = refl
      same_test true e = sym (ap (heap_eq (user q)) (heap_eq-true (owner_of trace st n.seg.0) (user p) e) ∙ ne_eqb q p ne)

  own_count : (n : Name) → counts (owner_of trace (after_end_of trace p st)) (set st.registers p (replicate 16 None)) n p ≡ 0
  unfolding counts
  own_count n =
      ap (λ r. cond (heap_eq (user p) (owner_of trace (after_end_of trace p st) n.seg.0)) 0 (pins_of r n)) (get_or-set_same st.registers p (replicate 16 None) [] inside)
      ∙ ap (cond (heap_eq (user p) (owner_of trace (after_end_of trace p st) n.seg.0)) 0) (no_pins 16 n) ∙ same (heap_eq (user p) (owner_of trace (after_end_of trace p st) n.seg.0))
    where
      same : (b : Bool) → ◌≡◌ {A = ℕ} (cond b 0 0) 0
      same true = refl
      same false = refl

  pins_then : (n : Name) → pins trace (after_end_of trace p st) n ≡ pins trace st n - cond (heap_eq (user p) (owner_of trace st n.seg.0)) 0 (pins_of (get_or st.registers p []) n)
  unfolding after_end_of end_process clear_registers keep_shares turn_exits counts
  pins_then n =
      let all = one_changed (counts (owner_of trace st) st.registers n) (counts (owner_of trace (after_end_of trace p st)) (set st.registers p (replicate 16 None)) n) p 0 (process_count trace) (omega arith) (omega (arith, may.known)) (other_count n) in
      let none = own_count n in
      omega (arith, all, none)

  keeps_target : (e y : ExitItem) → exit_after trace st p e ≡ Some y → y.target ≡ e.target
  keeps_target e y = go (heap_eq e.heap (user p)) (passes_to_kernel trace st e.target) (leads_back trace st p e)
    where
      go : (a b c : Bool) → cond a (cond b (Some (record e { heap = Kernel })) None) (cond c None (Some e)) ≡ Some y → y.target ≡ e.target
      go true true c f = let is : record e { heap = Kernel } ≡ y = cc f in ap (λ (z : ExitItem). z.target) (sym is)
      go true false c f = absurd (cc f)
      go false b true f = absurd (cc f)
      go false b false f = let is : e ≡ y = cc f in ap (λ (z : ExitItem). z.target) (sym is)

  stays : ExitItem → Bool
  stays e = is_some (exit_after trace st p e)

  goes : (e : ExitItem) → stays e ≡ false → (heap_eq e.heap (user p) ≡ true) ⊎ (heap_eq e.heap Kernel ≡ true)
  unfolding stays
  goes e = go (heap_eq e.heap (user p)) (passes_to_kernel trace st e.target) (heap_eq e.heap Kernel) (heap_eq (owner_of trace st e.target.seg.0) (user p))
    where
      go : (a b c d : Bool) → is_some (cond a (cond b (Some (record e { heap = Kernel })) None) (cond (c && d) None (Some e))) ≡ false → (a ≡ true) ⊎ (c ≡ true)
      go true b c d f = inl refl
      go false b true d f = inr refl
      go false b false d f = absurd (false≢true (sym f))

  own_stays : (n : Name) → not (stays (record { heap = user p; target = n })) ≡ not (is_shared_heap (owner_of trace st n.seg.0) && not (has_exit st.exits Kernel n))
  unfolding stays
  own_stays n =
      ap (λ b. not (is_some {T = ExitItem} (cond b (cond (passes_to_kernel trace st n) (Some (record { heap = Kernel; target = n })) None) (cond (leads_back trace st p (record { heap = user p; target = n })) None (Some (record { heap = user p; target = n })))))) (heap_eq_refl (user p))
      ∙ go (passes_to_kernel trace st n)
    where
      go : (b : Bool) → not (is_some (cond b (Some (let e : ExitItem = record { heap = Kernel; target = n } in e)) None)) ≡ not b
      go true = refl
      go false = refl

  kernel_stays : (n : Name) → not (stays (record { heap = Kernel; target = n })) ≡ heap_eq (owner_of trace st n.seg.0) (user p)
  unfolding stays
  kernel_stays n = go (heap_eq (owner_of trace st n.seg.0) (user p))
    where
      go : (b : Bool) → not (is_some (cond b None (Some (let e : ExitItem = record { heap = Kernel; target = n } in e)))) ≡ b
      go true = refl
      go false = refl

  entries_then : (n : Name) → entries (after_end_of trace p st) n
      ≡ (entries st n - bit (has_exit st.exits (user p) n && not (is_shared_heap (owner_of trace st n.seg.0) && not (has_exit st.exits Kernel n)))) - bit (has_exit st.exits Kernel n && heap_eq (owner_of trace st n.seg.0) (user p))
  unfolding after_end_of end_process clear_registers keep_shares turn_exits stays
  entries_then n =
      entries_turned (exit_after trace st p) keeps_target n st.exits
      ∙ entries_left stays (user p) Kernel n st.exits sound.shape.distinct_exits refl goes
      ∙ ap₂ (λ a b. (entries st n - bit (has_exit st.exits (user p) n && a)) - bit (has_exit st.exits Kernel n && b)) (own_stays n) (kernel_stays n)

  charge_then : (q : ℕ) → charge_of trace st q ≡ charge_of trace (after_end_of trace p st) q + charge_in trace (book_part trace st) (part trace st (user p)) p * bit (q == p)
  charge_then q =
      let told = charge_told trace st p sound may.lives in
      elim (cases_eq q p) [
        | inl e ↦ rw (eq-eqb q p e) (let own = own_charge trace st p in let same = ap (charge_of trace st) e in let now = ap (charge_of trace (after_end_of trace p st)) e in omega arith)
        | inr ne ↦ rw (ne_eqb q p ne) (let same = other_charge trace st p q ne in omega arith)
      ]

  shared_then : (t : ℕ) → bytes_of trace (after_end_of trace p st) (shared t) ≡ bytes_of trace st (shared t)
  shared_then t = same_bytes trace st p (shared t) refl refl

  or_false : (b : Bool) → b ≡ (b || false)
  or_false true = refl
  or_false false = refl

  shares_then : (q t : ℕ) → has_share (after_end_of trace p st).shares q t ≡ (has_share st.shares q t && (not (q == p) || false))
  shares_then q t =
      let rest = leaves_rest trace st p inside in
      elim (cases_eq q p) [
        | inl e ↦ ap (λ k. has_share (after_end_of trace p st).shares k t) e ∙ rest.shares t ∙ sym (ap (λ b. has_share st.shares q t && (not b || false)) (eq-eqb q p e) ∙ and_false (has_share st.shares q t))
        | inr ne ↦ rest.other_shares q t ne ∙ sym (ap (λ b. has_share st.shares q t && (not b || false)) (ne_eqb q p ne) ∙ and_true (has_share st.shares q t))
      ]
    where
      and_false : (b : Bool) → (b && false) ≡ false
      and_false true = refl
      and_false false = refl

      and_true : (b : Bool) → (b && true) ≡ b
      and_true true = refl
      and_true false = refl

  made_of_parts : (ℕ → Bool) → (ℕ → ℕ → Bool) → List ℕ → List ℕ → (Name → ℕ) → (Name → ℕ) → BookPart
  made_of_parts ended shares bytes direct entered pinned = record (book_part trace st) { ended = ended; shares = shares; shared_bytes = bytes; direct = direct; entries = entered; pins = pinned }

  pub end_on_book : book_part trace (after_end_of trace p st) ≡ when_ended trace (owner_of trace st) p (part trace st (user p)) (part trace st Kernel) (book_part trace st)
  unfolding book_part part made_of_parts
  end_on_book =
      let rest = leaves_rest trace st p inside in
      same_parts rest.phases rest.closed rest.maxima
      ∙ ap₂ (λ ended shares. made_of_parts ended shares (map (λ t. bytes_of trace (after_end_of trace p st) (shared t)) (numbers_below trace.shared_heaps)) (map (direct_by trace (charge_of trace (after_end_of trace p st))) (numbers_below (length trace.limits))) (entries (after_end_of trace p st)) (pins trace (after_end_of trace p st)))
      (fun_ext rest.ended) (fun_ext (λ q. fun_ext (shares_then q)))
      ∙ ap₂ (λ bytes direct. made_of_parts (λ q. among q st.ended || (p == q)) (λ q t. has_share st.shares q t && (not (q == p) || false)) bytes direct (entries (after_end_of trace p st)) (pins trace (after_end_of trace p st)))
      (ap (λ f. map f (numbers_below trace.shared_heaps)) (fun_ext shared_then))
      (direct_lowered trace limits p (charge_in trace (book_part trace st) (part trace st (user p)) p) (charge_of trace st) (charge_of trace (after_end_of trace p st)) may.known charge_then)
      ∙ ap₂ (λ entered pinned. record (when_ended trace (owner_of trace st) p (part trace st (user p)) (part trace st Kernel) (book_part trace st)) { entries = entered; pins = pinned })
      (fun_ext entries_then) (fun_ext pins_then)
    where
      same_parts : (after_end_of trace p st).phases ≡ st.phases → (after_end_of trace p st).closed ≡ st.closed → (after_end_of trace p st).maxima ≡ st.maxima →
          book_part trace (after_end_of trace p st)
          ≡ made_of_parts (λ q. among q (after_end_of trace p st).ended) (has_share (after_end_of trace p st).shares) (map (λ t. bytes_of trace (after_end_of trace p st) (shared t)) (numbers_below trace.shared_heaps)) (map (direct_by trace (charge_of trace (after_end_of trace p st))) (numbers_below (length trace.limits))) (entries (after_end_of trace p st)) (pins trace (after_end_of trace p st))
      same_parts phases closed maxima = ap₂ (λ ps cl. record (book_part trace (after_end_of trace p st)) { phases = ps; closed = cl }) phases closed ∙ ap (λ ms. record (book_part trace (after_end_of trace p st)) { phases = st.phases; closed = st.closed; maxima = ms }) maxima
