-- What is so of a state is so of the state as its snapshot has it: its lists in order say the same as the state's own.
use Rattle.std.proofs.Common.{◌≡◌, ◌∙◌, ◌&&◌, ◌||◌, ◌==◌, inl, inr, ℕ, zero, suc, ◌+◌, ◌-◌, ◌<◌, ◌≤◌, nat_le, Bool, true, false, cond, List, [], ◌∷◌, ◌++◌, map, filter, length, refl, sym, ap, subst, arith, eqb-true, eq-eqb}
use Rattle.std.proofs.Math.Path.{fun_ext}
use Rattle.std.specs.List.{flat_map}
use Rattle.std.proofs.lemmas.Bool.{and_from, and_parts, or_cases, or_left, or_right}
use Rattle.std.proofs.lemmas.List.Folds.{list_any-append}
use Rattle.k_types.specs.declared.names.Heap.{Heap}
use Rattle.k_types.specs.declared.names.Heap.TheVariants.{Kernel, User, Shared}
use Rattle.k_types.specs.declared.names.Name.{Name}
use Rattle.k_types.specs.Limits.{limits_in, use_by, use_of}
use Rattle.k_types.specs.Names.{among, heap_eq, name_among, name_eq}
use Rattle.k_types.specs.Numbers.{numbers_below, numbers_from}
use Rattle.k_types.specs.Owners.{bytes_by, bytes_of, charge_by, charge_of, owner_of, owner_of_segment, owner_of_shared, shared, user}
use Rattle.k_types.specs.Sound.{IsSound}
use Rattle.k_types.specs.State.{ExitItem, Sharing, State, has_exit, has_share}
use Rattle.k_types.specs.Steps.{has_sharer}
use Rattle.k_types.specs.Totals.{total}
use Rattle.k_types.specs.Trace.{IsHeap, Trace, process_count}
use Rattle.k_types.proofs.NameTests.{heap_eq-true, heap_eq_refl}
use Rattle.k_types.proofs.Numbered.{listed_below, passes_below}
use Rattle.k_types.proofs.Sums.{sum_same}
use Rattle.k_types.proofs.Tests.{same_test}
use Rattle.k_laws.proofs.SharedSums.{shares_sum}
use Rattle.k_text.specs.Shown.{exits_of}
use Rattle.k_text.proofs.InOrder.{in_order_among}
use Rattle.k_audit.proofs.Means.{order}
use Rattle.k_audit.proofs.Rising.{shares_rise}
use Rattle.k_audit.proofs.Shaped.{distinct_shares}
use Rattle.k_audit.specs.Claims.{Claims, claims_of, ended_in_order, exits_in_order, items_of, share_of, shares_in_order, still}
use Rattle.k_types.proofs.Exits.{targets_among}
use Rattle.k_types.proofs.Shares.{sharer_from, sharer_of}

-- ---- exit items

abbrev item : Heap → Name → ExitItem
item h n = record { heap = h; target = n }

-- among the ordered targets of a heap are those of its exit items
pub among_exits : (exits : List ExitItem) (h : Heap) (n : Name) → name_among n (exits_of exits h) ≡ has_exit exits h n
among_exits exits h n = in_order_among n (map (λ e. e.target) (filter (λ e. heap_eq e.heap h) exits)) ∙ targets_among exits h n

-- what is an exit item of such a list is one of that heap, with a target of the list
of_heap : (g : Heap) (ns : List Name) (h : Heap) (n : Name) → has_exit (map (item g) ns) h n ≡ true → (g ≡ h) × (name_among n ns ≡ true)
of_heap g [] h n there = absurd cc
of_heap g (m ∷ ns) h n there =
    elim (or_cases (heap_eq g h && name_eq m n) (has_exit (map (item g) ns) h n) there) [
      | inl here ↦ let parts = and_parts (heap_eq g h) (name_eq m n) here in (heap_eq-true g h parts.0, or_left (name_eq m n) (name_among n ns) parts.1)
      | inr later ↦ let rest = of_heap g ns h n later in (rest.0, or_right (name_eq m n) (name_among n ns) rest.1)
    ]

to_heap : (g : Heap) (ns : List Name) (n : Name) → name_among n ns ≡ true → has_exit (map (item g) ns) g n ≡ true
to_heap g [] n there = absurd cc
to_heap g (m ∷ ns) n there =
    elim (or_cases (name_eq m n) (name_among n ns) there) [
      | inl here ↦ or_left (heap_eq g g && name_eq m n) (has_exit (map (item g) ns) g n) (and_from (heap_eq g g) (name_eq m n) (heap_eq_refl g) here)
      | inr later ↦ or_right (heap_eq g g && name_eq m n) (has_exit (map (item g) ns) g n) (to_heap g ns n later)
    ]

module _ (st : State) where
  abbrev exit_among : Heap → Name → ExitItem → Bool
  exit_among h n e = heap_eq e.heap h && name_eq e.target n

  items_back : (g h : Heap) (n : Name) → has_exit (items_of st g) h n ≡ true → has_exit st.exits h n ≡ true
  items_back g h n there =
      let found = of_heap g (exits_of st.exits g) h n there in
      subst (λ (x : Heap). has_exit st.exits x n ≡ true) found.0 (sym (among_exits st.exits g n) ∙ found.1)

  items_there : (g : Heap) (n : Name) → has_exit st.exits g n ≡ true → has_exit (items_of st g) g n ≡ true
  items_there g n there = to_heap g (exits_of st.exits g) n (among_exits st.exits g n ∙ there)

  either : (xs ys : List ExitItem) (h : Heap) (n : Name) → has_exit (xs ++ ys) h n ≡ (has_exit xs h n || has_exit ys h n)
  either xs ys h n = list_any-append (exit_among h n) xs ys

  flat_back : (f : ℕ → Heap) (ks : List ℕ) (h : Heap) (n : Name) → has_exit (flat_map (λ k. items_of st (f k)) ks) h n ≡ true → has_exit st.exits h n ≡ true
  flat_back f [] h n there = absurd cc
  flat_back f (k ∷ ks) h n there =
      elim (or_cases (has_exit (items_of st (f k)) h n) (has_exit (flat_map (λ j. items_of st (f j)) ks) h n) (sym (either (items_of st (f k)) (flat_map (λ j. items_of st (f j)) ks) h n) ∙ there)) [
        | inl here ↦ items_back (f k) h n here
        | inr later ↦ flat_back f ks h n later
      ]

  flat_there : (f : ℕ → Heap) (first count k : ℕ) (n : Name) → first ≤ k → k < first + count → has_exit st.exits (f k) n ≡ true → has_exit (flat_map (λ j. items_of st (f j)) (numbers_from first count)) (f k) n ≡ true
  flat_there f first zero k n low high there = absurd (omega (arith, low, high))
  flat_there f first (suc count) k n low high there =
      let rest = flat_map (λ j. items_of st (f j)) (numbers_from (suc first) count) in
      either (items_of st (f first)) rest (f k) n
      ∙ (elim (first == k) as (λ b. (first == k) ≡ b → (has_exit (items_of st (f first)) (f k) n || has_exit rest (f k) n) ≡ true) [
        | true ↦ λ same.
            or_left (has_exit (items_of st (f first)) (f k) n) (has_exit rest (f k) n)
            (subst (λ (j : ℕ). has_exit (items_of st (f j)) (f k) n ≡ true) (sym (eqb-true first k same)) (items_there (f k) n there))
        | false ↦ λ apart.
            or_right (has_exit (items_of st (f first)) (f k) n) (has_exit rest (f k) n)
            (flat_there f (suc first) count k n (above first k low apart) (omega (arith, high)) there)
      ]) refl
    where
      above : (a b : ℕ) → a ≤ b → (a == b) ≡ false → suc a ≤ b
      above a b le apart =
          elim (order a b) [
            | inl less ↦ omega (arith, less)
            | inr least ↦ let same : a ≡ b = omega (arith, le, least) in let clash : true ≡ false = sym (eq-eqb a b same) ∙ apart in absurd cc
          ]

-- ---- shares

abbrev share : ℕ → ℕ → Sharing
share p s = record { process = p; heap = s }

module _ (st : State) where
  abbrev share_among : ℕ → ℕ → Sharing → Bool
  share_among p s e = (e.process == p) && (e.heap == s)

  parted : (xs ys : List Sharing) (p s : ℕ) → has_share (xs ++ ys) p s ≡ (has_share xs p s || has_share ys p s)
  parted xs ys p s = list_any-append (share_among p s) xs ys

  -- the share of a process in a heap, where it has one, is that share
  one_back : (q t p s : ℕ) (b : Bool) → b ≡ has_share st.shares q t → has_share (cond b (share q t ∷ []) []) p s ≡ true → has_share st.shares p s ≡ true
  one_back q t p s false is there = absurd cc
  one_back q t p s true is there =
      elim (or_cases ((q == p) && (t == s)) false there) [
        | inl here ↦
            let parts = and_parts (q == p) (t == s) here in
            subst (λ (x : ℕ). has_share st.shares x s ≡ true) (eqb-true q p parts.0) (subst (λ (x : ℕ). has_share st.shares q x ≡ true) (eqb-true t s parts.1) (sym is))
        | inr none ↦ absurd cc
      ]

  one_there : (p s : ℕ) (b : Bool) → b ≡ true → has_share (cond b (share p s ∷ []) []) p s ≡ true
  one_there p s true e = or_left ((p == p) && (s == s)) false (and_from (p == p) (s == s) (eq-eqb p p refl) (eq-eqb s s refl))
  one_there p s false e = absurd cc

  row_back : (q p s : ℕ) (ts : List ℕ) → has_share (flat_map (share_of st q) ts) p s ≡ true → has_share st.shares p s ≡ true
  row_back q p s [] there = absurd cc
  row_back q p s (t ∷ ts) there =
      elim (or_cases (has_share (share_of st q t) p s) (has_share (flat_map (share_of st q) ts) p s) (sym (parted (share_of st q t) (flat_map (share_of st q) ts) p s) ∙ there)) [
        | inl here ↦ one_back q t p s (has_share st.shares q t) refl here
        | inr later ↦ row_back q p s ts later
      ]

  row_there : (p s first count : ℕ) → first ≤ s → s < first + count → has_share st.shares p s ≡ true → has_share (flat_map (share_of st p) (numbers_from first count)) p s ≡ true
  row_there p s first zero low high there = absurd (omega (arith, low, high))
  row_there p s first (suc count) low high there =
      let rest = flat_map (share_of st p) (numbers_from (suc first) count) in
      parted (share_of st p first) rest p s
      ∙ elim (order first s) [
        | inl less ↦ or_right (has_share (share_of st p first) p s) (has_share rest p s) (row_there p s (suc first) count (omega (arith, less)) (omega (arith, high)) there)
        | inr least ↦
            let same : s ≡ first = omega (arith, low, least) in
            or_left (has_share (share_of st p first) p s) (has_share rest p s)
            (subst (λ (x : ℕ). has_share (share_of st p x) p s ≡ true) same (one_there p s (has_share st.shares p s) there))
      ]

  rows_back : (heaps p s : ℕ) (qs : List ℕ) → has_share (flat_map (λ q. flat_map (share_of st q) (numbers_below heaps)) qs) p s ≡ true → has_share st.shares p s ≡ true
  rows_back heaps p s [] there = absurd cc
  rows_back heaps p s (q ∷ qs) there =
      let here_of = flat_map (share_of st q) (numbers_below heaps) in
      let rest = flat_map (λ q. flat_map (share_of st q) (numbers_below heaps)) qs in
      elim (or_cases (has_share here_of p s) (has_share rest p s) (sym (parted here_of rest p s) ∙ there)) [
        | inl here ↦ row_back q p s (numbers_below heaps) here
        | inr later ↦ rows_back heaps p s qs later
      ]

  rows_there : (heaps p s first count : ℕ) → s < heaps → first ≤ p → p < first + count → has_share st.shares p s ≡ true →
      has_share (flat_map (λ q. flat_map (share_of st q) (numbers_below heaps)) (numbers_from first count)) p s ≡ true
  rows_there heaps p s first zero inside low high there = absurd (omega (arith, low, high))
  rows_there heaps p s first (suc count) inside low high there =
      let here_of = flat_map (share_of st first) (numbers_below heaps) in
      let rest = flat_map (λ q. flat_map (share_of st q) (numbers_below heaps)) (numbers_from (suc first) count) in
      parted here_of rest p s
      ∙ elim (order first p) [
        | inl less ↦ or_right (has_share here_of p s) (has_share rest p s) (rows_there heaps p s (suc first) count inside (omega (arith, less)) (omega (arith, high)) there)
        | inr least ↦
            let same : p ≡ first = omega (arith, low, least) in
            or_left (has_share here_of p s) (has_share rest p s)
            (subst (λ (x : ℕ). has_share (flat_map (share_of st x) (numbers_below heaps)) p s ≡ true) same (row_there p s 0 heaps (omega arith) (omega (arith, inside)) there))
      ]

-- ---- the claims

-- what is true of a state, by who owns what and by uses and charges
abbrev claims_by : Trace → State → (ℕ → Heap) → (ℕ → ℕ) → (ℕ → ℕ) → Claims
claims_by trace st own used charge = record {
  owners = map (λ o. own o.name.seg.0) st.objects;
  kernel = bytes_by own Kernel st.objects;
  ceiling = trace.ceiling;
  uses = map used (numbers_below (length trace.limits));
  charges = map charge (numbers_below (process_count trace));
  shared_bytes = map (λ s. bytes_by own (shared s) st.objects) (numbers_below trace.shared_heaps);
}

module _ (trace : Trace) (st : State) (sound : IsSound trace st) where
  pub ended_same : (p : ℕ) → among p (ended_in_order trace st) ≡ among p st.ended
  ended_same p =
      same_test (among p (ended_in_order trace st)) (among p st.ended)
      (λ there. (passes_below (λ q. among q st.ended) (process_count trace) p there).1)
      (λ there. listed_below (λ q. among q st.ended) (process_count trace) p (sound.shape.declared.ended p there) there)

  owner_at : (segment : ℕ) → owner_of trace (still trace st) segment ≡ owner_of trace st segment
  unfolding owner_of_segment
  owner_at segment =
      ap (λ (b : Bool). cond (segment == 0) Kernel (cond (nat_le segment (process_count trace)) (cond b Kernel (user (segment - 1))) (owner_of_shared st.phases (segment - 1 - process_count trace)))) (ended_same (segment - 1))

  pub own_same : owner_of trace (still trace st) ≡ owner_of trace st
  own_same = fun_ext owner_at

  exit_kept : (h : Heap) (n : Name) → has_exit st.exits h n ≡ true → IsHeap trace h → has_exit (exits_in_order trace st) h n ≡ true
  exit_kept h n there known =
      let ks = items_of st Kernel in
      let ps = flat_map (λ p. items_of st (user p)) (numbers_below (process_count trace)) in
      let ss = flat_map (λ s. items_of st (shared s)) (numbers_below trace.shared_heaps) in
      either st (ks ++ ps) ss h n ∙ ap (λ (b : Bool). b || has_exit ss h n) (either st ks ps h n) ∙ placed h there known
    where
      placed : (g : Heap) → has_exit st.exits g n ≡ true → IsHeap trace g →
          ((has_exit (items_of st Kernel) g n || has_exit (flat_map (λ p. items_of st (user p)) (numbers_below (process_count trace))) g n) || has_exit (flat_map (λ s. items_of st (shared s)) (numbers_below trace.shared_heaps)) g n) ≡ true
      placed Kernel there known = or_left _ _ (or_left _ _ (items_there st Kernel n there))
      placed (User p) there known = or_left _ _ (or_right _ _ (flat_there st user 0 (process_count trace) p.0 n (omega arith) (omega (arith, known)) there))
      placed (Shared s) there known = or_right _ _ (flat_there st shared 0 trace.shared_heaps s.0 n (omega arith) (omega (arith, known)) there)

  exit_back : (h : Heap) (n : Name) → has_exit (exits_in_order trace st) h n ≡ true → has_exit st.exits h n ≡ true
  exit_back h n there =
      let ks = items_of st Kernel in
      let ps = flat_map (λ p. items_of st (user p)) (numbers_below (process_count trace)) in
      let ss = flat_map (λ s. items_of st (shared s)) (numbers_below trace.shared_heaps) in
      elim (or_cases (has_exit (ks ++ ps) h n) (has_exit ss h n) (sym (either st (ks ++ ps) ss h n) ∙ there)) [
        | inl early ↦
            elim (or_cases (has_exit ks h n) (has_exit ps h n) (sym (either st ks ps h n) ∙ early)) [
              | inl first ↦ items_back st Kernel h n first
              | inr second ↦ flat_back st user (numbers_below (process_count trace)) h n second
            ]
        | inr late ↦ flat_back st shared (numbers_below trace.shared_heaps) h n late
      ]

  pub exit_same : (h : Heap) (n : Name) → has_exit (exits_in_order trace st) h n ≡ has_exit st.exits h n
  exit_same h n = same_test (has_exit (exits_in_order trace st) h n) (has_exit st.exits h n) (exit_back h n) (λ there. exit_kept h n there (sound.shape.known.referring h n there))

  pub share_same : (p s : ℕ) → has_share (shares_in_order trace st) p s ≡ has_share st.shares p s
  share_same p s =
      same_test (has_share (shares_in_order trace st) p s) (has_share st.shares p s)
      (rows_back st trace.shared_heaps p s (numbers_below (process_count trace)))
      (λ there.
      rows_there st trace.shared_heaps p s 0 (process_count trace) (sound.shape.known.shared p s there) (omega arith)
      (let inside = sound.shape.known.sharers p s there in omega (arith, inside)) there)

  pub sharer_same : (s : ℕ) → has_sharer (shares_in_order trace st) s ≡ has_sharer st.shares s
  sharer_same s =
      same_test (has_sharer (shares_in_order trace st) s) (has_sharer st.shares s)
      (λ there. let found = sharer_from (shares_in_order trace st) s there in sharer_of st.shares found.0 s (sym (share_same found.0 s) ∙ found.1))
      (λ there. let found = sharer_from st.shares s there in sharer_of (shares_in_order trace st) found.0 s (share_same found.0 s ∙ found.1))

  -- ---- charges, uses and claims

  shared_sum : (f : ℕ → ℕ) (p : ℕ) → total (λ e. f e.heap) (filter (λ e. e.process == p) (shares_in_order trace st)) ≡ total (λ e. f e.heap) (filter (λ e. e.process == p) st.shares)
  shared_sum f p =
      shares_sum f p trace.shared_heaps (shares_in_order trace st) (distinct_shares trace 0 (shares_in_order trace st) (shares_rise trace st)) (λ q s there. sound.shape.known.shared q s (sym (share_same q s) ∙ there))
      ∙ sum_same (λ t. cond (has_share (shares_in_order trace st) p t) (f t) 0) (λ t. cond (has_share st.shares p t) (f t) 0) (λ t. ap (λ (b : Bool). cond b (f t) 0) (share_same p t)) (numbers_below trace.shared_heaps)
      ∙ sym (shares_sum f p trace.shared_heaps st.shares sound.shape.distinct_shares sound.shape.known.shared)

  charge_at : (p : ℕ) → charge_of trace (still trace st) p ≡ charge_of trace st p
  charge_at p =
      ap (λ (own : ℕ → Heap). charge_by (λ h. bytes_by own h st.objects) (ended_in_order trace st) (shares_in_order trace st) p) own_same
      ∙ ap (λ (b : Bool). cond b 0 (bytes_of trace st (user p) + total (λ e. bytes_of trace st (shared e.heap)) (filter (λ e. e.process == p) (shares_in_order trace st)))) (ended_same p)
      ∙ ap (λ n. cond (among p st.ended) 0 (bytes_of trace st (user p) + n)) (shared_sum (λ s. bytes_of trace st (shared s)) p)

  charge_same : charge_of trace (still trace st) ≡ charge_of trace st
  charge_same = fun_ext charge_at

  pub use_same : use_of trace (still trace st) ≡ use_of trace st
  use_same = fun_ext (λ m. ap (λ (charge : ℕ → ℕ). use_by trace (limits_in trace st) charge m) charge_same)

  pub claims_same : claims_of trace st ≡ claims_of trace (still trace st)
  claims_same =
      sym (ap (λ (own : ℕ → Heap). claims_by trace st own (use_of trace (still trace st)) (charge_of trace (still trace st))) own_same
      ∙ ap (λ (used : ℕ → ℕ). claims_by trace st (owner_of trace st) used (charge_of trace (still trace st))) use_same
      ∙ ap (λ (charge : ℕ → ℕ). claims_by trace st (owner_of trace st) (use_of trace st) charge) charge_same)
