-- The totals after the touches of an event.
use Rattle.std.proofs.Common.{◌≡◌, ℕ, ◌+◌, ◌||◌, Bool, true, false, cond, refl, sym, ap, ◌∙◌, List, [], ◌∷◌, arith, ne_eqb, eq-eqb}
use Rattle.std.specs.List.{AllByRecursion}
use Rattle.std.proofs.lemmas.Bool.{false≢true}
use Rattle.k_laws.specs.k_types.declared.event.Event.{Event}
use Rattle.k_laws.specs.k_types.declared.names.Heap.TheVariants.{Kernel, User, Shared}
use Rattle.k_laws.specs.k_types.Cells.{Cell}
use Rattle.k_laws.specs.k_types.Names.{heap_eq}
use Rattle.k_laws.specs.k_types.Trace.{Trace, IsHeap, segment_of}
use Rattle.k_tie.proofs.NameTests.{heap_eq-true, heap_eq_refl}
use Rattle.k_tie.specs.Rule.{total_of}
use Rattle.k_tie.specs.Values.{JournalValue}
use Rattle.k_agree.specs.Committing.{NotedCell, cells_of, numbers_of, cell_among, AreDistinctCells, touches_after, IsReady}
use Rattle.k_tie.specs.k_types.Counts.{one_if_same}

-- cells of one number are one
pub same_number : (trace : Trace) (a b : Cell) → IsHeap trace a → IsHeap trace b → segment_of trace a ≡ segment_of trace b → a ≡ b
same_number trace Kernel Kernel ia ib e = refl
same_number trace Kernel (User q) ia ib e = absurd (omega arith)
same_number trace Kernel (Shared t) ia ib e = absurd (omega arith)
same_number trace (User p) Kernel ia ib e = absurd (omega arith)
same_number trace (User p) (User q) ia ib e = ap (λ n. User (record { 0 = n })) (omega (arith, e))
same_number trace (User p) (Shared t) ia ib e = absurd (omega (arith, e, ia))
same_number trace (Shared s) Kernel ia ib e = absurd (omega arith)
same_number trace (Shared s) (User q) ia ib e = absurd (omega (arith, e, ib))
same_number trace (Shared s) (Shared t) ia ib e = ap (λ n. Shared (record { 0 = n })) (omega (arith, e))

pub one_number : (trace : Trace) (a c : Cell) → IsHeap trace a → IsHeap trace c → one_if_same (segment_of trace a) (segment_of trace c) ≡ cond (heap_eq a c) 1 0
one_number trace a c ia ic = go (heap_eq a c) refl
  where
    go : (b : Bool) → heap_eq a c ≡ b → one_if_same (segment_of trace a) (segment_of trace c) ≡ cond b 1 0
    go true e = ap (λ (d : Cell). one_if_same (segment_of trace a) (segment_of trace d)) (sym (heap_eq-true a c e)) ∙ ap (λ b. cond b 1 0) (eq-eqb (segment_of trace a) (segment_of trace a) refl)
    go false e = ap (λ b. cond b 1 0) (ne_eqb (segment_of trace a) (segment_of trace c) (λ n. false≢true (sym e ∙ ap (heap_eq a) (sym (same_number trace a c ia ic n)) ∙ heap_eq_refl a)))

-- of two tests of which at most one holds, so many hold as either does
either_counts : (a b : Bool) → (a ≡ true → b ≡ false) → ◌≡◌ {A = ℕ} (cond (a || b) 1 0) (cond a 1 0 + cond b 1 0)
either_counts true true apart = absurd (false≢true (sym (apart refl)))
either_counts true false apart = refl
either_counts false b apart = omega arith

module _ (trace : Trace) (journal : JournalValue) (event : Event) where
  pub raised : (touched : List NotedCell) (touches : List ℕ) (c : Cell) → AllByRecursion (IsReady trace journal event) touched → AreDistinctCells (cells_of touched) → IsHeap trace c →
      total_of (touches_after (numbers_of touched) touches) (segment_of trace c) ≡ total_of touches (segment_of trace c) + cond (cell_among c (cells_of touched)) 1 0
  raised [] touches c ready distinct ic = omega arith
  raised (n ∷ touched) touches c ready distinct ic =
      let ih = raised touched (n.note.cell ∷ touches) c ready.1 distinct.1 ic in
      let one : one_if_same n.note.cell (segment_of trace c) ≡ cond (heap_eq n.cell c) 1 0 =
      ap (λ m. one_if_same m (segment_of trace c)) ready.0.met.number ∙ one_number trace n.cell c ready.0.met.there ic in
      let apart : heap_eq n.cell c ≡ true → cell_among c (cells_of touched) ≡ false =
      λ same. ap (λ d. cell_among d (cells_of touched)) (sym (heap_eq-true n.cell c same)) ∙ distinct.0 in
      let both = either_counts (heap_eq n.cell c) (cell_among c (cells_of touched)) apart in
      omega (arith, ih, one, both)
