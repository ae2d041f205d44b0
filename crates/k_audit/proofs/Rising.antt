-- The lists of a snapshot's state stand in the order of the grammar.
use Rattle.std.proofs.Common.{◌≡◌, ◌∙◌, inl, inr, ℕ, zero, suc, ◌+◌, ◌*◌, ◌<◌, ◌≤◌, Bool, true, false, cond, List, [], ◌∷◌, ◌++◌, map, filter, Option, Some, None, refl, sym, ap, subst, arith, append_assoc, append-nil}
use Rattle.std.specs.List.{AllByRecursion, flat_map}
use Rattle.k_types.specs.declared.names.Heap.{Heap}
use Rattle.k_types.specs.declared.names.Heap.TheVariants.{Kernel}
use Rattle.k_types.specs.declared.names.Name.{Name}
use Rattle.k_types.specs.Names.{among, heap_eq}
use Rattle.k_types.specs.Numbers.{numbers_below, numbers_from}
use Rattle.k_types.specs.Owners.{shared, user}
use Rattle.k_types.specs.State.{ExitItem, Sharing, State, has_share}
use Rattle.k_types.specs.Trace.{Trace, process_count, segment_of}
use Rattle.k_text.specs.Shown.{AreRising, AreRisingFrom as AreNamesFrom, exits_of}
use Rattle.k_text.proofs.InOrder.{in_order_rises}
use Rattle.k_audit.specs.Claims.{ended_in_order, exits_in_order, items_of, share_of, shares_in_order}
use Rattle.k_audit.specs.Grammar.{AreExitsFrom, AreRisingFrom, share_place}

-- ---- numbers that pass a test

rises : (test : ℕ → Bool) (least first count : ℕ) → least ≤ first → AreRisingFrom least (filter test (numbers_from first count))
rises test least first zero low = tt
rises test least first (suc count) low =
    elim (test first) as (λ b. AreRisingFrom least (cond b (first ∷ filter test (numbers_from (suc first) count)) (filter test (numbers_from (suc first) count)))) [
      | true ↦ (low, rises test (first + 1) (suc first) count (omega arith))
      | false ↦ rises test least (suc first) count (omega (arith, low))
    ]

within : (test : ℕ → Bool) (bound first count : ℕ) → first + count ≤ bound → AllByRecursion (λ p. p < bound) (filter test (numbers_from first count))
within test bound first zero high = tt
within test bound first (suc count) high =
    let rest = within test bound (suc first) count (omega (arith, high)) in
    elim (test first) as (λ b. AllByRecursion (λ p. p < bound) (cond b (first ∷ filter test (numbers_from (suc first) count)) (filter test (numbers_from (suc first) count)))) [
      | true ↦ (omega (arith, high), rest)
      | false ↦ rest
    ]

pub ended_rise : (trace : Trace) (st : State) → AreRisingFrom 0 (ended_in_order trace st)
ended_rise trace st = rises (λ p. among p st.ended) 0 0 (process_count trace) (omega arith)

pub ended_known : (trace : Trace) (st : State) → AllByRecursion (λ p. p < process_count trace) (ended_in_order trace st)
ended_known trace st = within (λ p. among p st.ended) (process_count trace) 0 (process_count trace) (omega arith)

-- ---- exit items

module _ (trace : Trace) where
  abbrev items : Heap → List Name → List ExitItem
  items h ns = map (λ n. let e : ExitItem = record { heap = h; target = n } in e) ns

  -- items that come after all of the segments up to that one, whatever the last target was
  abbrev ComeAfter : ℕ → List ExitItem → Type 0
  ComeAfter top rest = (s : ℕ) (last : Option Name) → s ≤ top → AreExitsFrom trace s last rest

  behind : (h : Heap) (n : Name) (ns : List Name) (rest : List ExitItem) → AreNamesFrom n ns → ComeAfter (segment_of trace h) rest → AreExitsFrom trace (segment_of trace h) (Some n) (items h ns ++ rest)
  behind h n [] rest rising after = after (segment_of trace h) (Some n) (omega arith)
  behind h n (m ∷ ns) rest rising after = (inr (refl, rising.0), behind h m ns rest rising.1 after)

  of_next : (h : Heap) (ns : List Name) (rest : List ExitItem) (s : ℕ) (last : Option Name) → AreRising ns → s < segment_of trace h → ComeAfter (segment_of trace h) rest → AreExitsFrom trace s last (items h ns ++ rest)
  of_next h [] rest s last rising low after = after s last (omega (arith, low))
  of_next h (n ∷ ns) rest s last rising low after = (inl low, behind h n ns rest rising after)

  of_kernel : (ns : List Name) (rest : List ExitItem) → AreRising ns → ComeAfter 0 rest → AreExitsFrom trace 0 None (items Kernel ns ++ rest)
  of_kernel [] rest rising after = after 0 None (omega arith)
  of_kernel (n ∷ ns) rest rising after = (inr (refl, tt), behind Kernel n ns rest rising after)

  module _ (st : State) where
    targets_rise : (h : Heap) → AreRising (exits_of st.exits h)
    targets_rise h = in_order_rises (map (λ e. e.target) (filter (λ e. heap_eq e.heap h) st.exits))

    -- the items of heaps whose segments follow each other
    heaps_rise : (f : ℕ → Heap) (base : ℕ) → ((k : ℕ) → segment_of trace (f k) ≡ base + k + 1) → (first count : ℕ) (rest : List ExitItem) → ComeAfter (base + (first + count)) rest →
        ComeAfter (base + first) (flat_map (λ k. items_of st (f k)) (numbers_from first count) ++ rest)
    heaps_rise f base at first zero rest after s last low = after s last (omega (arith, low))
    heaps_rise f base at first (suc count) rest after s last low =
        let here = items_of st (f first) in
        let later = flat_map (λ k. items_of st (f k)) (numbers_from (suc first) count) in
        let more : ComeAfter (base + suc first) (later ++ rest) = heaps_rise f base at (suc first) count rest (λ t l le. after t l (omega (arith, le))) in
        subst (λ (es : List ExitItem). AreExitsFrom trace s last es) (sym (append_assoc here later rest))
        (of_next (f first) (exits_of st.exits (f first)) (later ++ rest) s last (targets_rise (f first)) (let seg = at first in omega (arith, low, seg)) (λ t l le. more t l (let seg = at first in omega (arith, le, seg))))

    pub exits_rise : AreExitsFrom trace 0 None (exits_in_order trace st)
    exits_rise =
        let ks = items_of st Kernel in
        let ps = flat_map (λ p. items_of st (user p)) (numbers_below (process_count trace)) in
        let ss = flat_map (λ s. items_of st (shared s)) (numbers_below trace.shared_heaps) in
        let last_of_all : ComeAfter (process_count trace + (0 + trace.shared_heaps)) [] = λ s last low. tt in
        let of_shared : ComeAfter (process_count trace + 0) (ss ++ []) =
        heaps_rise shared (process_count trace) (λ s. let e : 1 + process_count trace + s ≡ process_count trace + s + 1 = omega arith in e) 0 trace.shared_heaps [] last_of_all in
        let of_users : ComeAfter (0 + 0) (ps ++ (ss ++ [])) =
        heaps_rise user 0 (λ p. let e : p + 1 ≡ 0 + p + 1 = omega arith in e) 0 (process_count trace) (ss ++ []) (λ s last low. of_shared s last (omega (arith, low))) in
        subst (λ (es : List ExitItem). AreExitsFrom trace 0 None es)
        (ap (λ (es : List ExitItem). ks ++ (ps ++ es)) (append-nil ss) ∙ sym (append_assoc ks ps ss))
        (of_kernel (exits_of st.exits Kernel) (ps ++ (ss ++ [])) (targets_rise Kernel) (λ s last low. of_users s last (omega (arith, low))))

-- ---- shares

module _ (trace : Trace) (st : State) where
  abbrev place : Sharing → ℕ
  place = share_place trace

  row_rises : (p least first count : ℕ) (rest : List Sharing) → least ≤ p * trace.shared_heaps + first → ((l : ℕ) → l ≤ p * trace.shared_heaps + (first + count) → AreRisingFrom l (map place rest)) →
      AreRisingFrom least (map place (flat_map (share_of st p) (numbers_from first count) ++ rest))
  row_rises p least first zero rest low after = after least (omega (arith, low))
  row_rises p least first (suc count) rest low after =
      let later = flat_map (share_of st p) (numbers_from (suc first) count) in
      elim (has_share st.shares p first) as (λ b. AreRisingFrom least (map place ((cond b (record { process = p; heap = first } ∷ []) [] ++ later) ++ rest))) [
        | true ↦ (low, row_rises p (p * trace.shared_heaps + first + 1) (suc first) count rest (omega arith) (λ l le. after l (omega (arith, le))))
        | false ↦ row_rises p least (suc first) count rest (omega (arith, low)) (λ l le. after l (omega (arith, le)))
      ]

  next_row : (p n : ℕ) → p * n + (0 + n) ≡ suc p * n
  next_row p n = omega arith

  rows_rise : (least first count : ℕ) → least ≤ first * trace.shared_heaps → AreRisingFrom least (map place (flat_map (λ p. flat_map (share_of st p) (numbers_below trace.shared_heaps)) (numbers_from first count)))
  rows_rise least first zero low = tt
  rows_rise least first (suc count) low =
      row_rises first least 0 trace.shared_heaps (flat_map (λ p. flat_map (share_of st p) (numbers_below trace.shared_heaps)) (numbers_from (suc first) count)) (omega (arith, low))
      (λ l le. rows_rise l (suc first) count (let row = next_row first trace.shared_heaps in omega (arith, le, row)))

  pub shares_rise : AreRisingFrom 0 (map (share_place trace) (shares_in_order trace st))
  shares_rise = rows_rise 0 0 (process_count trace) (omega arith)
