-- The uses still fit where a process is charged more, and the charge fitted on the path of its limit.
use Rattle.std.proofs.Common.{◌≡◌, ℕ, ◌+◌, ◌*◌, ◌<◌, ◌≤◌, ◌==◌, ◌&&◌, nat_lt, Bool, true, false, cond, refl, sym, ap, ap₂, ◌∙◌, List, [], ◌∷◌, ◌++◌, filter, find, length, None, arith, eqb-true, ne_eqb, eq-eqb, inl, inr, IsTrue, IsFalse, ltb-false, le_trans, le_of_eq, mul-le-mul_left}
use Rattle.std.proofs.lemmas.Bool.{cases_Bool, cases_eq, false≢true, false_from_ne_true, and_parts}
use Rattle.k_types.specs.declared.names.Heap.{Heap}
use Rattle.k_types.specs.Names.{heap_eq, among}
use Rattle.k_types.specs.Totals.{total}
use Rattle.k_types.specs.TraceRules.{AreLimits}
use Rattle.k_types.specs.Trace.{Trace, process_count, limit_of}
use Rattle.k_types.specs.State.{State, Sharing, has_share}
use Rattle.k_types.specs.Owners.{user, shared, charge_of, charge_by}
use Rattle.k_types.specs.Numbers.{numbers_below}
use Rattle.k_types.specs.Limits.{limits_in, use_of, use_by, direct_by, full_limit, path_of, max_of}
use Rattle.k_types.specs.Sound.{AreDistinctShares}
use Rattle.k_types.proofs.Charges.{use_added, counted_once, bit_turned}
use Rattle.k_types.proofs.Sums.{bit, sum_added, sum_same, sum-filter, one_counts, total_append}
use Rattle.k_types.proofs.Maxima.{length_in, tree_in}

-- nothing that the search passed meets the test
pub not_found : (p : ℕ → Bool) (xs : List ℕ) (q : ℕ) → find p xs ≡ None → IsTrue (among q xs) → p q ≡ false
not_found p [] q none t = absurd (false≢true t)
not_found p (x ∷ xs) q none t = grind (arith, not_found p xs q, eqb-true x q)

-- a process that has n more bytes in its heap is charged them
pub charge_added : (b c : Heap → ℕ) (ended : List ℕ) (shares : List Sharing) (p n : ℕ) → IsFalse (among p ended) →
    ((h : Heap) → c h ≡ b h + n * bit (heap_eq (user p) h)) → (q : ℕ) → charge_by c ended shares q ≡ charge_by b ended shares q + n * bit (q == p)
charge_added b c ended shares p n lives more q =
    elim (among q ended) as (λ t. among q ended ≡ t → cond t 0 (c (user q) + total (λ e. c (shared e.heap)) (filter (λ e. e.process == q) shares))
    ≡ cond t 0 (b (user q) + total (λ e. b (shared e.heap)) (filter (λ e. e.process == q) shares)) + n * bit (q == p)) [
      | true ↦ λ e. rw (ne_eqb q p (λ same. false≢true (sym lives ∙ ap (λ k. among k ended) (sym same) ∙ e))) (omega arith)
      | false ↦ λ e.
          let own = more (user q) in
          let turned = ap (λ k. n * k) (bit_turned p q) in
          let rest = sum_same (λ e. c (shared e.heap)) (λ e. b (shared e.heap)) (λ e. let at = more (shared e.heap) in omega arith) (filter (λ e. e.process == q) shares) in
          omega arith
    ] refl

cond_swap : (a b : Bool) → cond a (bit b) 0 ≡ cond b (bit a) 0
cond_swap true true = refl
cond_swap true false = refl
cond_swap false true = refl
cond_swap false false = refl

-- what is charged directly at each limit
pub direct_added : (trace : Trace) (c d : ℕ → ℕ) (p n : ℕ) → p < process_count trace → ((q : ℕ) → d q ≡ c q + n * bit (q == p)) → (m : ℕ) →
    direct_by trace d m ≡ direct_by trace c m + n * bit (m == limit_of trace p)
direct_added trace c d p n known more m =
    let each = sum_same d (λ q. c q + n * bit (q == p)) more (filter (λ q. limit_of trace q == m) (numbers_below (process_count trace))) in
    let split = sum_added c (λ q. bit (q == p)) n (filter (λ q. limit_of trace q == m) (numbers_below (process_count trace))) in
    let one = sum-filter (λ q. limit_of trace q == m) (λ q. bit (q == p)) (numbers_below (process_count trace))
    ∙ sum_same (λ q. cond (limit_of trace q == m) (bit (q == p)) 0) (λ q. cond (q == p) (bit (limit_of trace q == m)) 0) (λ q. cond_swap (limit_of trace q == m) (q == p)) (numbers_below (process_count trace))
    ∙ one_counts (λ q. bit (limit_of trace q == m)) p 0 (process_count trace) (omega arith) (omega arith)
    ∙ bit_turned (limit_of trace p) m in
    let times = ap (λ k. n * k) one in
    omega arith

-- where the process's charge rises by what fitted at its limit, each use still fits
pub raised_fits : (trace : Trace) → AreLimits trace → (st : State) (p n : ℕ) (charge : ℕ → ℕ) → p < process_count trace → full_limit trace st (limit_of trace p) n ≡ None →
    ((m : ℕ) → m < length trace.limits → use_of trace st m ≤ max_of (limits_in trace st) m) → ((q : ℕ) → charge q ≡ charge_of trace st q + n * bit (q == p)) →
    (m : ℕ) → m < length trace.limits → use_by trace (limits_in trace st) charge m ≤ max_of (limits_in trace st) m
raised_fits trace rules_hold st p n charge known fits before more m inside =
    let now = use_added (limits_in trace st) (limit_of trace p) (direct_by trace (charge_of trace st)) (direct_by trace charge) n
    (direct_added trace (charge_of trace st) charge p n known more) (length (limits_in trace st)) m in
    let once = counted_once (limits_in trace st) (tree_in trace.limits st.maxima rules_hold.tree) (limit_of trace p) (rw (length_in trace.limits st.maxima) (rules_hold.limited p known)) (length (limits_in trace st)) m in
    elim (cases_Bool (among m (path_of (limits_in trace st) (limit_of trace p)))) [
      | inl on ↦
          let room = ltb-false _ _ (not_found (λ q. nat_lt (max_of (limits_in trace st) q) (use_of trace st q + n)) (path_of (limits_in trace st) (limit_of trace p)) m fits on) in
          let at_most = mul-le-mul_left n (le_trans once (le_of_eq (ap bit on))) in
          omega arith
      | inr off ↦
          let at_most = mul-le-mul_left n (le_trans once (le_of_eq (ap bit off))) in
          omega (arith, before m inside)
    ]

-- a share stands at most once in the list
sharing_once_step : (e : Sharing) (shares : List Sharing) (q s : ℕ) → IsFalse (has_share shares e.process e.heap) → total (λ e. bit ((e.process == q) && (e.heap == s))) shares ≡ bit (has_share shares q s) →
    total (λ e. bit ((e.process == q) && (e.heap == s))) (e ∷ shares) ≡ bit (has_share (e ∷ shares) q s)
sharing_once_step e shares q s new ih =
    elim (cases_Bool ((e.process == q) && (e.heap == s))) [
      | inl here ↦
          let parts = and_parts (e.process == q) (e.heap == s) here in
          let gone : has_share shares q s ≡ false = ap₂ (λ a b. has_share shares a b) (sym (eqb-true e.process q parts.0)) (sym (eqb-true e.heap s parts.1)) ∙ new in
          rw here (let none = ih ∙ ap bit gone in omega arith)
      | inr other ↦ rw other (omega (arith, ih))
    ]

pub sharing_once : (shares : List Sharing) (q s : ℕ) → AreDistinctShares shares → total (λ e. bit ((e.process == q) && (e.heap == s))) shares ≡ bit (has_share shares q s)
sharing_once [] q s d = refl
sharing_once (e ∷ shares) q s d = sharing_once_step e shares q s d.0 (sharing_once shares q s d.1)

-- who shares a heap that has n more bytes is charged them
shared_added_at : (b c : Heap → ℕ) (s n q : ℕ) → ((h : Heap) → c h ≡ b h + n * bit (heap_eq (shared s) h)) → (e : Sharing) →
    cond (e.process == q) (c (shared e.heap)) 0 ≡ cond (e.process == q) (b (shared e.heap)) 0 + n * bit ((e.process == q) && (e.heap == s))
shared_added_at b c s n q more e =
    let turned = ap (λ k. n * k) (bit_turned s e.heap) in
    elim (e.process == q) as (λ t. cond t (c (shared e.heap)) 0 ≡ cond t (b (shared e.heap)) 0 + n * bit (t && (e.heap == s))) [
      | true ↦ omega (arith, more (shared e.heap), turned)
      | false ↦ omega arith
    ]

pub shared_added : (b c : Heap → ℕ) (shares : List Sharing) (s n q : ℕ) → AreDistinctShares shares → ((h : Heap) → c h ≡ b h + n * bit (heap_eq (shared s) h)) →
    total (λ e. c (shared e.heap)) (filter (λ e. e.process == q) shares) ≡ total (λ e. b (shared e.heap)) (filter (λ e. e.process == q) shares) + n * bit (has_share shares q s)
shared_added b c shares s n q distinct more =
    sum-filter (λ e. e.process == q) (λ e. c (shared e.heap)) shares
    ∙ sum_same _ _ (shared_added_at b c s n q more) shares
    ∙ sum_added (λ e. cond (e.process == q) (b (shared e.heap)) 0) (λ e. bit ((e.process == q) && (e.heap == s))) n shares
    ∙ ap₂ (λ x y. x + n * y) (sym (sum-filter (λ e. e.process == q) (λ e. b (shared e.heap)) shares)) (sharing_once shares q s distinct)

-- the one sharer of the heap is charged for what it has more
pub charge_shared_added : (b c : Heap → ℕ) (ended : List ℕ) (shares : List Sharing) (p s n : ℕ) → IsFalse (among p ended) → AreDistinctShares shares → IsTrue (has_share shares p s) →
    ((q : ℕ) → IsTrue (has_share shares q s) → q ≡ p) → ((h : Heap) → c h ≡ b h + n * bit (heap_eq (shared s) h)) → (q : ℕ) → charge_by c ended shares q ≡ charge_by b ended shares q + n * bit (q == p)
charge_shared_added b c ended shares p s n lives distinct shares_it alone more q =
    elim (among q ended) as (λ t. among q ended ≡ t → cond t 0 (c (user q) + total (λ e. c (shared e.heap)) (filter (λ e. e.process == q) shares))
    ≡ cond t 0 (b (user q) + total (λ e. b (shared e.heap)) (filter (λ e. e.process == q) shares)) + n * bit (q == p)) [
      | true ↦ λ e. rw (ne_eqb q p (λ same. false≢true (sym lives ∙ ap (λ k. among k ended) (sym same) ∙ e))) (omega arith)
      | false ↦ λ e.
          let own = more (user q) in
          let rest = shared_added b c shares s n q distinct more in
          let who = ap (λ k. n * k) sharer in
          omega arith
    ] refl
  where
    sharer : bit (has_share shares q s) ≡ bit (q == p)
    sharer = elim (cases_eq q p) [
      | inl e ↦ ap bit (ap (λ k. has_share shares k s) e ∙ shares_it ∙ sym (eq-eqb q p e))
      | inr ne ↦ ap bit (false_from_ne_true _ (λ t. ne (alone q t)) ∙ sym (ne_eqb q p ne))
    ]

one_more : (b : Heap → ℕ) (p s q : ℕ) → total {A = Sharing} (λ e. cond (e.process == q) (b (shared e.heap)) 0) (record { process = p; heap = s } ∷ []) ≡ b (shared s) * bit (q == p)
one_more b p s q =
    let turned = ap (λ k. b (shared s) * k) (bit_turned p q) in
    elim (p == q) as (λ t. b (shared s) * bit t ≡ b (shared s) * bit (q == p) → cond t (b (shared s)) 0 + 0 ≡ b (shared s) * bit (q == p)) [
      | true ↦ λ e. omega arith
      | false ↦ λ e. omega arith
    ] turned

-- a living process that shares one heap more is charged its bytes
pub charge_sharing : (b : Heap → ℕ) (ended : List ℕ) (shares : List Sharing) (p s : ℕ) → IsFalse (among p ended) → (q : ℕ) →
    charge_by b ended (shares ++ record { process = p; heap = s } ∷ []) q ≡ charge_by b ended shares q + b (shared s) * bit (q == p)
charge_sharing b ended shares p s lives q =
    elim (among q ended) as (λ t. among q ended ≡ t → cond t 0 (b (user q) + total (λ e. b (shared e.heap)) (filter (λ e. e.process == q) (shares ++ record { process = p; heap = s } ∷ [])))
    ≡ cond t 0 (b (user q) + total (λ e. b (shared e.heap)) (filter (λ e. e.process == q) shares)) + b (shared s) * bit (q == p)) [
      | true ↦ λ e. rw (ne_eqb q p (λ same. false≢true (sym lives ∙ ap (λ k. among k ended) (sym same) ∙ e))) (omega arith)
      | false ↦ λ e.
          let more = sum-filter (λ e. e.process == q) (λ e. b (shared e.heap)) (shares ++ record { process = p; heap = s } ∷ [])
          ∙ total_append (λ e. cond (e.process == q) (b (shared e.heap)) 0) shares (record { process = p; heap = s } ∷ [])
          ∙ ap₂ (λ x y. x + y) (sym (sum-filter (λ e. e.process == q) (λ e. b (shared e.heap)) shares)) (one_more b p s q) in
          omega arith
    ] refl
