-- The bytes of a heap, segment by segment, from the totals.
use Rattle.std.proofs.Common.{◌≡◌, ◌≢◌, ℕ, zero, suc, ◌+◌, ◌-◌, ◌<◌, ◌≤◌, ◌==◌, ◌&&◌, ◌^◌, nat_le, nat_lt, cond, Bool, true, false, inl, inr, refl, ap, sym, ◌∙◌, List, length, get_or, arith}
use Rattle.std.proofs.lemmas.Bool.{cases_eq, false_from_ne_true}
use Rattle.std.proofs.lemmas.Bool.Decides.{nat_tests}
use Rattle.k_types.specs.declared.names.Heap.{Heap}
use Rattle.k_types.specs.declared.names.Heap.TheVariants.{Kernel}
use Rattle.k_types.specs.Names.{among, heap_eq}
use Rattle.k_types.specs.Owners.{bytes_of, is_absorbed, owner_of, owner_of_process, owner_of_segment, owner_of_shared, phase_of, shared, user}
use Rattle.k_types.specs.State.{State}
use Rattle.k_types.specs.Trace.{Trace, process_count, segment_of}
use Rattle.k_laws.proofs.NameTests.{heap_eq-true}
use Rattle.k_state.specs.Machines.{IsKept, Machine}
use Rattle.k_state.proofs.Totals.{below, below_all, below_next, below_none, below_small}

-- the bytes of the heap's objects in the segments below that one
abbrev pub bytes_below : Machine → Heap → ℕ → ℕ
bytes_below m h seg = below (owner_of m.setup m.state) h seg m.state.objects

pub bytes_begin : (m : Machine) (h : Heap) → bytes_below m h 0 ≡ 0
bytes_begin m h = below_none (owner_of m.setup m.state) h m.state.objects

pub bytes_next : (m : Machine) (totals : List ℕ) (h : Heap) (seg : ℕ) → IsKept m totals → seg < length totals →
    bytes_below m h (seg + 1) ≡ bytes_below m h seg + cond (heap_eq (owner_of m.setup m.state seg) h) (get_or totals seg 0) 0
bytes_next m totals h seg kept inside =
    below_next (owner_of m.setup m.state) h seg m.state.objects
    ∙ ap (λ n. bytes_below m h seg + cond (heap_eq (owner_of m.setup m.state seg) h) n 0) (sym (kept.bytes seg inside))

pub bytes_end : (m : Machine) (totals : List ℕ) (h : Heap) (seg : ℕ) → IsKept m totals → seg ≡ length totals → bytes_below m h seg ≡ bytes_of m.setup m.state h
bytes_end m totals h seg kept end =
    ap (bytes_below m h) (end ∙ kept.counted) ∙ below_all (owner_of m.setup m.state) h m.setup m.state.objects kept.plain.declared

pub bytes_small : (m : Machine) (totals : List ℕ) (h : Heap) (seg : ℕ) → IsKept m totals → bytes_below m h seg < 2 ^ 40
bytes_small m totals h seg kept = omega (arith, kept.plain.few, below_small (owner_of m.setup m.state) h m.setup seg m.state.objects kept.plain.declared)

-- a heap that is not the kernel's owns at most the segment with which it begins
module _ (setup : Trace) (st : State) (h : Heap) (other : h ≢ Kernel) where
  no_kernel : heap_eq Kernel h ≡ true → ⊥
  no_kernel is = other (sym (heap_eq-true Kernel h is))

  own_process : (k : ℕ) → 0 < k → heap_eq (owner_of_process st.ended (k - 1)) h ≡ true → k ≡ segment_of setup h
  own_process k positive is = go (among (k - 1) st.ended) is
    where
      go : (b : Bool) → heap_eq (cond b Kernel (user (k - 1))) h ≡ true → k ≡ segment_of setup h
      go true is = absurd (no_kernel is)
      go false is = let at : k ≡ k - 1 + 1 = omega (arith, positive) in at ∙ ap (segment_of setup) (heap_eq-true (user (k - 1)) h is)

  own_shared : (k : ℕ) → 0 < k → process_count setup < k → heap_eq (owner_of_shared st.phases (k - 1 - process_count setup)) h ≡ true → k ≡ segment_of setup h
  own_shared k positive past is = go (is_absorbed (phase_of st.phases (k - 1 - process_count setup))) is
    where
      go : (b : Bool) → heap_eq (cond b Kernel (shared (k - 1 - process_count setup))) h ≡ true → k ≡ segment_of setup h
      go true is = absurd (no_kernel is)
      go false is =
          let at : k ≡ 1 + process_count setup + (k - 1 - process_count setup) = omega (arith, positive, past) in
          at ∙ ap (segment_of setup) (heap_eq-true (shared (k - 1 - process_count setup)) h is)

  own_segment : (k : ℕ) → heap_eq (owner_of setup st k) h ≡ true → k ≡ segment_of setup h
  unfolding owner_of_segment
  own_segment k is = first (k == 0) (nat_le k (process_count setup)) refl refl is
    where
      first : (z low : Bool) → (k == 0) ≡ z → nat_le k (process_count setup) ≡ low →
          heap_eq (cond z Kernel (cond low (owner_of_process st.ended (k - 1)) (owner_of_shared st.phases (k - 1 - process_count setup)))) h ≡ true → k ≡ segment_of setup h
      first true low at test is = absurd (no_kernel is)
      first false true at test is = own_process k (grind (arith, nat_tests, at)) is
      first false false at test is = own_shared k (grind (arith, nat_tests, at)) (grind (arith, nat_tests, test)) is

  pub not_elsewhere : (k : ℕ) → k ≢ segment_of setup h → heap_eq (owner_of setup st k) h ≡ false
  not_elsewhere k ne = false_from_ne_true _ (λ is. ne (own_segment k is))

-- so its bytes are that segment's
pub bytes_one : (m : Machine) (totals : List ℕ) (h : Heap) (seg n : ℕ) → IsKept m totals → n ≤ length totals → ((k : ℕ) → k ≢ seg → heap_eq (owner_of m.setup m.state k) h ≡ false) →
    bytes_below m h n ≡ cond (nat_lt seg n && heap_eq (owner_of m.setup m.state seg) h) (get_or totals seg 0) 0
bytes_one m totals h seg zero kept inside elsewhere =
    let none : nat_lt seg 0 ≡ false = grind (arith, nat_tests) in
    bytes_begin m h ∙ sym (ap (λ b. cond (b && heap_eq (owner_of m.setup m.state seg) h) (get_or totals seg 0) 0) none)
bytes_one m totals h seg (suc n) kept inside elsewhere =
    let owned = heap_eq (owner_of m.setup m.state seg) h in
    let before = bytes_one m totals h seg n kept (omega (arith, inside)) elsewhere in
    let next = bytes_next m totals h n kept (omega (arith, inside)) in
    let one : suc n ≡ n + 1 = omega arith in
    let at = ap (bytes_below m h) one in
    elim (cases_eq seg n) [
      | inl e ↦
          let not_yet : nat_lt seg n ≡ false = grind (arith, nat_tests, e) in
          let now : nat_lt seg (suc n) ≡ true = grind (arith, nat_tests, e) in
          let none = ap (λ b. cond (b && owned) (get_or totals seg 0) 0) not_yet in
          let all = ap (λ b. cond (b && owned) (get_or totals seg 0) 0) now in
          let same = ap (λ k. cond (heap_eq (owner_of m.setup m.state k) h) (get_or totals k 0) 0) e in
          omega (arith, before, next, at, none, all, same)
      | inr ne ↦
          let still : nat_lt seg (suc n) ≡ nat_lt seg n = grind (arith, nat_tests, ne) in
          let same = ap (λ b. cond (b && owned) (get_or totals seg 0) 0) still in
          let add = ap (λ b. cond b (get_or totals n 0) 0) (elsewhere n (λ e. ne (sym e))) in
          omega (arith, before, next, at, same, add)
    ]

pub bytes_at_one : (m : Machine) (totals : List ℕ) (h : Heap) (seg : ℕ) → IsKept m totals → h ≢ Kernel → seg ≡ segment_of m.setup h →
    bytes_of m.setup m.state h ≡ cond (nat_lt seg (length totals) && heap_eq (owner_of m.setup m.state seg) h) (get_or totals seg 0) 0
bytes_at_one m totals h seg kept other is =
    sym (bytes_end m totals h (length totals) kept refl)
    ∙ bytes_one m totals h seg (length totals) kept (omega arith) (λ k ne. not_elsewhere m.setup m.state h other k (λ e. ne (e ∙ sym is)))

pub bytes_small_of : (m : Machine) (totals : List ℕ) (h : Heap) → IsKept m totals → bytes_of m.setup m.state h < 2 ^ 40
bytes_small_of m totals h kept = let small = bytes_small m totals h (length totals) kept in let all = bytes_end m totals h (length totals) kept refl in omega (arith, small, all)
