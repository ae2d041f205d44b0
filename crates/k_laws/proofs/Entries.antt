-- The entries of an object are the heaps with an exit item to it.
use Rattle.std.proofs.Common.{◌≡◌, ℕ, ◌+◌, ◌*◌, ◌<◌, ◌==◌, ◌&&◌, ◌||◌, Bool, true, false, refl, sym, ap, ap₂, ◌∙◌, List, [], ◌∷◌, map, arith, IsTrue}
use Rattle.std.proofs.lemmas.Bool.{and_from, or_left, or_right}
use Rattle.k_types.specs.Totals.{total}
use Rattle.k_types.specs.Numbers.{numbers_below}
use Rattle.k_types.specs.declared.names.Name.{Name}
use Rattle.k_types.specs.declared.names.Heap.{Heap}
use Rattle.k_types.specs.declared.names.Heap.TheVariants.{Kernel, User, Shared}
use Rattle.k_types.specs.Names.{name_eq, heap_eq}
use Rattle.k_types.specs.Trace.{Trace, process_count, IsHeap}
use Rattle.k_types.specs.State.{State, ExitItem, has_exit}
use Rattle.k_types.specs.Owners.{user, shared}
use Rattle.k_types.specs.Cells.{entries}
use Rattle.k_types.specs.Sound.{IsSound, AreDistinctExits}
use Rattle.k_laws.specs.Meaning.{heaps_of}
use Rattle.k_types.proofs.NameTests.{name_eq_refl, name_eq-true, heap_eq-true, heap_eq_refl}
use Rattle.k_types.proofs.Charges.{bit_turned}
use Rattle.k_types.proofs.Sums.{bit, sum_same, sum_added, one_counts, total_map, total_append, zeros}

parts_of : (trace : Trace) (f : Heap → ℕ) → total f (heaps_of trace)
    ≡ f Kernel + (total (λ p. f (user p)) (numbers_below (process_count trace)) + total (λ s. f (shared s)) (numbers_below trace.shared_heaps))
parts_of trace f =
    ap (λ n. f Kernel + n)
    (total_append f (map user (numbers_below (process_count trace))) (map shared (numbers_below trace.shared_heaps))
    ∙ ap₂ (λ a b. a + b) (total_map f user (numbers_below (process_count trace))) (total_map f shared (numbers_below trace.shared_heaps)))

one_number : (p n : ℕ) → p < n → total (λ q. bit (p == q)) (numbers_below n) ≡ 1
one_number p n known = sum_same (λ q. bit (p == q)) (λ q. bit (q == p)) (bit_turned p) (numbers_below n) ∙ one_counts (λ q. 1) p 0 n (omega arith) (omega arith)

-- each heap stands once among the heaps
heap_once : (trace : Trace) (h : Heap) → IsHeap trace h → total (λ k. bit (heap_eq h k)) (heaps_of trace) ≡ 1
heap_once trace Kernel known = omega (arith, parts_of trace (λ k. bit (heap_eq Kernel k)), zeros (numbers_below (process_count trace)), zeros (numbers_below trace.shared_heaps))
heap_once trace (User p) known = omega (arith, parts_of trace (λ k. bit (heap_eq (User p) k)), one_number p.0 (process_count trace) known, zeros (numbers_below trace.shared_heaps))
heap_once trace (Shared s) known = omega (arith, parts_of trace (λ k. bit (heap_eq (Shared s) k)), zeros (numbers_below (process_count trace)), one_number s.0 trace.shared_heaps known)

one_more : (a b c : Bool) → (a ≡ true → b ≡ true → c ≡ false) → bit ((a && b) || c) ≡ bit c + bit b * bit a
one_more true true true apart = absurd (omega (arith, ap bit (apart refl refl)))
one_more true true false apart = refl
one_more true false true apart = refl
one_more true false false apart = refl
one_more false true true apart = refl
one_more false true false apart = refl
one_more false false true apart = refl
one_more false false false apart = refl

entries_from : (trace : Trace) (exits : List ExitItem) (n : Name) → AreDistinctExits exits → ((h : Heap) (m : Name) → IsTrue (has_exit exits h m) → IsHeap trace h) →
    total (λ e. bit (name_eq e.target n)) exits ≡ total (λ h. bit (has_exit exits h n)) (heaps_of trace)
entries_from trace [] n distinct known = sym (zeros (heaps_of trace))
entries_from trace (e ∷ exits) n distinct known =
    let rest = entries_from trace exits n distinct.1 (λ h m t. known h m (or_right _ _ t)) in
    let once = heap_once trace e.heap (known e.heap e.target (or_left _ _ (and_from _ _ (heap_eq_refl e.heap) (name_eq_refl e.target)))) in
    let more = sum_same (λ h. bit (has_exit (e ∷ exits) h n)) (λ h. bit (has_exit exits h n) + bit (name_eq e.target n) * bit (heap_eq e.heap h)) (λ h. one_more (heap_eq e.heap h) (name_eq e.target n) (has_exit exits h n)
    (λ a b. ap₂ (λ k m. has_exit exits k m) (sym (heap_eq-true e.heap h a)) (sym (name_eq-true e.target n b)) ∙ distinct.0)) (heaps_of trace) in
    let split = sum_added (λ h. bit (has_exit exits h n)) (λ h. bit (heap_eq e.heap h)) (bit (name_eq e.target n)) (heaps_of trace) in
    let product = ap (λ x. bit (name_eq e.target n) * x) once in
    let alone : bit (name_eq e.target n) * 1 ≡ bit (name_eq e.target n) = omega arith in
    omega (arith, rest, more, split, product, alone)

pub entries_are : (trace : Trace) (st : State) (n : Name) → IsSound trace st → entries st n ≡ total (λ h. bit (has_exit st.exits h n)) (heaps_of trace)
entries_are trace st n sound = entries_from trace st.exits n sound.shape.distinct_exits sound.shape.known.referring
