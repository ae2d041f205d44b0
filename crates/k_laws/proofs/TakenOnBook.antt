-- What the absorption of a shared heap changes in the book's part.
use Rattle.std.proofs.Common.{◌≡◌, ◌⊎◌, ℕ, ◌+◌, ◌-◌, ◌==◌, ◌&&◌, ◌||◌, not, Bool, true, false, cond, refl, sym, ap, ap₂, ◌∙◌, inl, inr, List, [], ◌∷◌, filter, map, length, get_or, set, arith, ne_eqb, IsFalse}
use Rattle.std.proofs.Math.Path.{fun_ext}
use Rattle.std.proofs.lemmas.Bool.{false≢true, or_parts}
use Rattle.std.proofs.lemmas.Bool.Decides.{nat_tests}
use Rattle.k_types.specs.declared.names.Name.{Name}
use Rattle.k_types.specs.declared.names.Heap.{Heap}
use Rattle.k_types.specs.declared.names.Heap.TheVariants.{Kernel}
use Rattle.k_types.specs.Names.{heap_eq, among}
use Rattle.k_types.specs.Totals.{total}
use Rattle.k_types.specs.Numbers.{numbers_below}
use Rattle.k_types.specs.Trace.{Trace, process_count}
use Rattle.k_types.specs.State.{State, ExitItem, Sharing, has_exit}
use Rattle.k_types.specs.Owners.{owner_of, user, shared, bytes_by, bytes_of, charge_of, object_bytes}
use Rattle.k_types.specs.Limits.{direct_by}
use Rattle.k_types.specs.Updates.{set_phase, keep_exits}
use Rattle.k_types.specs.Effects.{after_absorbed, stays_after_absorb}
use Rattle.k_types.specs.Steps.{has_sharer}
use Rattle.k_types.specs.Cells.{book_part, part, entries, pins, pins_of}
use Rattle.k_types.specs.Sound.{IsSound}
use Rattle.k_laws.specs.Changes.{MayAbsorb}
use Rattle.k_laws.specs.BookChanges.{when_taken}
use Rattle.k_laws.proofs.OnBook.{map_changed}
use Rattle.k_laws.proofs.EntryCounts.{entries_left}
use Rattle.k_laws.proofs.GivenAway.{nothing_owned}
use Rattle.k_types.proofs.Sums.{bit, sum_same}
use Rattle.k_laws.proofs.ElsewhereOther.{owned_agree}
use Rattle.k_types.proofs.NameTests.{heap_eq-true, heap_eq_refl, heap_eq_sym}
use Rattle.k_laws.proofs.Merge.{merged}
use Rattle.k_laws.proofs.SoundAbsorbed.{is_merged, to_kernel}

merged_same : (g o h : Heap) → IsFalse (heap_eq g h) → IsFalse (heap_eq Kernel h) → heap_eq (merged g o) h ≡ heap_eq o h
merged_same g o h apart kernel = go (heap_eq o g) refl
  where
    go : (b : Bool) → heap_eq o g ≡ b → heap_eq (cond b Kernel o) h ≡ heap_eq o h
    go true e = kernel ∙ sym (ap (λ k. heap_eq k h) (heap_eq-true o g e) ∙ apart)
    go false e = refl

module _ (trace : Trace) (st : State) (s : ℕ) (sound : IsSound trace st) (may : MayAbsorb trace st s) where
  owner_then : (seg : ℕ) → owner_of trace (after_absorbed trace s st) seg ≡ merged (shared s) (owner_of trace st seg)
  owner_then seg = is_merged trace st s sound may seg

  same_bytes : (h : Heap) → IsFalse (heap_eq (shared s) h) → IsFalse (heap_eq Kernel h) → bytes_of trace (after_absorbed trace s st) h ≡ bytes_of trace st h
  unfolding after_absorbed set_phase keep_exits bytes_by
  same_bytes h apart kernel = ap (total object_bytes)
      (owned_agree (owner_of trace st) (owner_of trace (after_absorbed trace s st)) h (λ seg. ap (λ k. heap_eq k h) (owner_then seg) ∙ merged_same (shared s) (owner_of trace st seg) h apart kernel) st.objects)

  no_bytes : bytes_of trace (after_absorbed trace s st) (shared s) ≡ 0
  unfolding after_absorbed set_phase keep_exits bytes_by
  no_bytes = ap (total object_bytes) (nothing_owned (owner_of trace st) (owner_of trace (after_absorbed trace s st)) (shared s) refl owner_then st.objects)

  -- no process shares the heap, so no charge changes
  same_sum : (shares : List Sharing) (q : ℕ) → IsFalse (has_sharer shares s) →
      total (λ (e : Sharing). bytes_of trace (after_absorbed trace s st) (shared e.heap)) (filter (λ e. e.process == q) shares) ≡ total (λ (e : Sharing). bytes_of trace st (shared e.heap)) (filter (λ e. e.process == q) shares)
  same_sum [] q none = refl
  same_sum (e ∷ shares) q none =
      let parts = or_parts (e.heap == s) (has_sharer shares s) none in
      let rest = same_sum shares q parts.1 in
      let here = same_bytes (shared e.heap) (turned s e.heap parts.0) refl in
      elim (e.process == q) as (λ b. total (λ (e : Sharing). bytes_of trace (after_absorbed trace s st) (shared e.heap)) (cond b (e ∷ filter (λ e. e.process == q) shares) (filter (λ e. e.process == q) shares))
      ≡ total (λ (e : Sharing). bytes_of trace st (shared e.heap)) (cond b (e ∷ filter (λ e. e.process == q) shares) (filter (λ e. e.process == q) shares))) [
        | true ↦ ap₂ (λ a b. a + b) here rest
        | false ↦ rest
      ]
    where
      turned : (a b : ℕ) → (b == a) ≡ false → (a == b) ≡ false
      turned a b e = grind (arith, nat_tests)

  charge_then : (q : ℕ) → charge_of trace (after_absorbed trace s st) q ≡ charge_of trace st q
  unfolding after_absorbed set_phase keep_exits
  charge_then q = ap₂ (λ a b. cond (among q st.ended) 0 (a + b)) (same_bytes (user q) refl refl) (same_sum st.shares q may.no_sharer)

  shared_then : map (λ t. bytes_of trace (after_absorbed trace s st) (shared t)) (numbers_below trace.shared_heaps) ≡ set (map (λ t. bytes_of trace st (shared t)) (numbers_below trace.shared_heaps)) s 0
  shared_then =
      map_changed (λ t. bytes_of trace st (shared t)) (λ t. bytes_of trace (after_absorbed trace s st) (shared t)) 0 trace.shared_heaps s (λ t ne. same_bytes (shared t) (ne_eqb s t (λ e. ne (omega (arith, e)))) refl)
      ∙ ap (λ n. set (map (λ t. bytes_of trace st (shared t)) (numbers_below trace.shared_heaps)) s n) (ap (λ t. bytes_of trace (after_absorbed trace s st) (shared t)) (omega arith) ∙ no_bytes)

  pins_then : (n : Name) → pins trace (after_absorbed trace s st) n ≡ pins trace st n
  unfolding after_absorbed set_phase keep_exits
  pins_then n = sum_same (λ q. cond (heap_eq (user q) (owner_of trace (after_absorbed trace s st) n.seg.0)) 0 (pins_of (get_or st.registers q []) n)) (λ q. cond (heap_eq (user q) (owner_of trace st n.seg.0)) 0 (pins_of (get_or st.registers q []) n))
      (λ q. ap (λ b. cond b 0 (pins_of (get_or st.registers q []) n))
      (ap (heap_eq (user q)) (owner_then n.seg.0) ∙ heap_eq_sym (user q) (merged (shared s) (owner_of trace st n.seg.0)) ∙ merged_same (shared s) (owner_of trace st n.seg.0) (user q) refl refl ∙ heap_eq_sym (owner_of trace st n.seg.0) (user q)))
      (numbers_below (process_count trace))

  goes : (e : ExitItem) → stays_after_absorb trace st s e ≡ false → (heap_eq e.heap (shared s) ≡ true) ⊎ (heap_eq e.heap Kernel ≡ true)
  goes e = go (heap_eq e.heap (shared s)) (heap_eq (owner_of trace st e.target.seg.0) Kernel) (heap_eq e.heap Kernel) (heap_eq (owner_of trace st e.target.seg.0) (shared s))
    where
      go : (a b c d : Bool) → not ((a && b) || (c && d)) ≡ false → (a ≡ true) ⊎ (c ≡ true)
      go true b c d f = inl refl
      go false b true d f = inr refl
      go false b false d f = absurd (false≢true (sym f))

  own_goes : (n : Name) → (has_exit st.exits (shared s) n && not (stays_after_absorb trace st s (record { heap = shared s; target = n }))) ≡ has_exit st.exits (shared s) n
  own_goes n = go (has_exit st.exits (shared s) n) refl
    where
      go : (b : Bool) → has_exit st.exits (shared s) n ≡ b → (b && not (stays_after_absorb trace st s (record { heap = shared s; target = n }))) ≡ b
      go false e = refl
      go true e =
          ap (λ h. not (not ((heap_eq (shared s) (shared s) && heap_eq h Kernel) || (heap_eq (shared s) Kernel && heap_eq h (shared s))))) (to_kernel trace st s sound n e)
          ∙ ap (λ b. not (not ((b && true) || false))) (heap_eq_refl (shared s))

  kernel_goes : (n : Name) → not (stays_after_absorb trace st s (record { heap = Kernel; target = n })) ≡ heap_eq (owner_of trace st n.seg.0) (shared s)
  kernel_goes n = go (heap_eq (owner_of trace st n.seg.0) Kernel) (heap_eq (owner_of trace st n.seg.0) (shared s))
    where
      go : (a b : Bool) → not (not ((false && a) || (true && b))) ≡ b
      go a true = refl
      go a false = refl

  entries_then : (n : Name) → entries (after_absorbed trace s st) n
      ≡ (entries st n - bit (has_exit st.exits (shared s) n)) - bit (has_exit st.exits Kernel n && heap_eq (owner_of trace st n.seg.0) (shared s))
  unfolding after_absorbed set_phase keep_exits
  entries_then n =
      entries_left (stays_after_absorb trace st s) (shared s) Kernel n st.exits sound.shape.distinct_exits refl goes
      ∙ ap₂ (λ a b. (entries st n - bit a) - bit (has_exit st.exits Kernel n && b)) (own_goes n) (kernel_goes n)

  pub taken_on_book : book_part trace (after_absorbed trace s st) ≡ when_taken (owner_of trace st) s (part trace st (shared s)) (part trace st Kernel) (book_part trace st)
  unfolding book_part part after_absorbed set_phase keep_exits
  taken_on_book =
      ap₂ (λ bytes direct. record (book_part trace (after_absorbed trace s st)) { shared_bytes = bytes; direct = direct })
      shared_then (ap (λ c. map (direct_by trace c) (numbers_below (length trace.limits))) (fun_ext charge_then))
      ∙ ap₂ (λ entered pinned. record (when_taken (owner_of trace st) s (part trace st (shared s)) (part trace st Kernel) (book_part trace st)) { entries = entered; pins = pinned })
      (fun_ext entries_then) (fun_ext pins_then)
