-- The targets of exit items beside the lists.
use Rattle.std.proofs.Common.{◌≡◌, ℕ, zero, suc, ◌<◌, ◌≤◌, Bool, true, false, cond, refl, sym, ◌∙◌, List, [], ◌∷◌, map, filter, length, get_or, arith, Vec, Global}
use Rattle.std.proofs.lemmas.Bool.{or_left, or_right}
use Rattle.std.proofs.lemmas.Bool.Decides.{nat_tests}
use Rattle.std.proofs.lemmas.List.{length-map}
use Rattle.std.proofs.lemmas.List.Sums.{count_by-le-length, length-filter}
use Rattle.k_types.specs.declared.names.Heap.{Heap}
use Rattle.k_types.specs.declared.names.Heap.TheVariants.{Kernel, User, Shared}
use Rattle.k_types.specs.declared.names.Name.{Name}
use Rattle.k_types.specs.Known.{IsKnownName}
use Rattle.k_types.specs.Names.{heap_eq, name_among, name_eq, name_lt}
use Rattle.k_types.specs.Sound.{IsSound}
use Rattle.k_types.specs.State.{ExitItem, State}
use Rattle.k_types.specs.Trace.{IsHeap, Trace, segment_of}
use Rattle.k_types.proofs.NameTests.{name_eq_refl}
use Rattle.k_text.specs.Shown.{exits_of, in_order, with_name}
use Rattle.k_text.proofs.InOrder.{in_order_among}
use Rattle.k_text.specs.Heaps.{heap_at}
use Rattle.k_text.proofs.Sorted.{targets_among, targets_of}

-- the heap begins with its segment
pub begins_with : (trace : Trace) (h : Heap) → IsHeap trace h → heap_at trace (segment_of trace h) ≡ h
begins_with trace Kernel known = refl
begins_with trace (User p) known = grind (arith, nat_tests)
begins_with trace (Shared s) known = grind (arith, nat_tests)

-- a row as its list
pub row_at : (rows : List (Vec Name Global)) (i : ℕ) (d : Vec Name Global) → i < length rows → get_or (map (λ (row : Vec Name Global). row.items) rows) i [] ≡ (get_or rows i d).items
row_at [] i d inside = absurd (omega arith)
row_at (row ∷ rows) zero d inside = refl
row_at (row ∷ rows) (suc i) d inside = row_at rows i d (omega arith)

with_length : (n : Name) (names : List Name) → length (with_name n names) ≤ suc (length names)
with_length n [] = omega arith
with_length n (m ∷ names) = go (name_lt m n) (name_eq m n) (with_length n names)
  where
    go : (a b : Bool) → length (with_name n names) ≤ suc (length names) →
        length (cond a (m ∷ with_name n names) (cond b (m ∷ names) (n ∷ m ∷ names))) ≤ suc (suc (length names))
    go true b le = omega arith
    go false true le = omega arith
    go false false le = omega arith

order_length : (names : List Name) → length (in_order names) ≤ length names
order_length [] = omega arith
order_length (n ∷ names) = omega (arith, with_length n (in_order names), order_length names)

-- a heap has no more targets than there are exit items
pub exits_length : (exits : List ExitItem) (h : Heap) → length (exits_of exits h) ≤ length exits
exits_length exits h =
    omega (
      arith,
      order_length (targets_of exits h),
      length-map (filter (λ (e : ExitItem). heap_eq e.heap h) exits) (λ (e : ExitItem). e.target),
      length-filter (λ (e : ExitItem). heap_eq e.heap h) exits,
      count_by-le-length (λ (e : ExitItem). heap_eq e.heap h) exits,
    )

among_got : (names : List Name) (i : ℕ) (d : Name) → i < length names → name_among (get_or names i d) names ≡ true
among_got [] i d inside = absurd (omega arith)
among_got (n ∷ names) zero d inside = or_left (name_eq n n) (name_among n names) (name_eq_refl n)
among_got (n ∷ names) (suc i) d inside = or_right (name_eq n (get_or names i d)) (name_among (get_or names i d) names) (among_got names i d (omega arith))

-- a target lies in a segment of the trace
pub target_known : (trace : Trace) (st : State) (h : Heap) (i : ℕ) (d : Name) → IsSound trace st → i < length (exits_of st.exits h) →
    IsKnownName trace (get_or (exits_of st.exits h) i d)
target_known trace st h i d sound inside =
    let n = get_or (exits_of st.exits h) i d in
    (sound.shape.placed n (sound.no_dangling.exits h n
    (sym (in_order_among n (targets_of st.exits h) ∙ targets_among st.exits h n) ∙ among_got (exits_of st.exits h) i d inside))).1
