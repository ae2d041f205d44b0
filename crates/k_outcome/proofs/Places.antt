-- Heaps and the segments with which they begin, and rows that are filled one after the other.
use Rattle.std.proofs.Common.{◌≡◌, ℕ, zero, suc, ◌-◌, ◌<◌, ◌==◌, cond, nat_le, Bool, true, false, refl, sym, ap, ◌∙◌, List, [], ◌∷◌, ◌++◌, Vec, Global, arith}
use Rattle.std.proofs.lemmas.Bool.Decides.{nat_tests}
use Rattle.k_types.specs.declared.names.Heap.TheVariants.{Kernel, Shared, User}
use Rattle.k_types.specs.declared.names.Name.{Name}
use Rattle.k_types.specs.Trace.{IsHeap, Trace, process_count, segment_count, segment_of}
use Rattle.k_text.specs.Heaps.{heap_at}
use Rattle.k_outcome.specs.Listed.{AreEmpty}

-- each segment of the trace begins some heap of the trace
pub begins_heap : (trace : Trace) (seg : ℕ) → seg < segment_count trace → IsHeap trace (heap_at trace seg)
begins_heap trace seg known = go (seg == 0) refl (nat_le seg (process_count trace)) refl
  where
    go : (a : Bool) → (seg == 0) ≡ a → (b : Bool) → nat_le seg (process_count trace) ≡ b →
        IsHeap trace (cond a Kernel (cond b (User (record { 0 = seg - 1 })) (Shared (record { 0 = seg - 1 - process_count trace }))))
    go true is b low = tt
    go false not true low = grind (arith, nat_tests)
    go false not false high = grind (arith, nat_tests)

-- and is that with which the heap begins
pub begun_by : (trace : Trace) (seg : ℕ) → seg < segment_count trace → segment_of trace (heap_at trace seg) ≡ seg
begun_by trace seg known = go (seg == 0) refl (nat_le seg (process_count trace)) refl
  where
    go : (a : Bool) → (seg == 0) ≡ a → (b : Bool) → nat_le seg (process_count trace) ≡ b →
        segment_of trace (cond a Kernel (cond b (User (record { 0 = seg - 1 })) (Shared (record { 0 = seg - 1 - process_count trace })))) ≡ seg
    go true is b low = grind (arith, nat_tests)
    go false not true low = grind (arith, nat_tests)
    go false not false high = grind (arith, nat_tests)

pub none_empty : AreEmpty []
none_empty k row at = absurd (cc at)

-- one empty row more
pub more_empty : (rows : List (Vec Name Global)) (row : Vec Name Global) → AreEmpty rows → row.items ≡ [] → AreEmpty (rows ++ row ∷ [])
more_empty [] row all none zero x at = let same : row ≡ x = cc at in ap (λ (v : Vec Name Global). v.items) (sym same) ∙ none
more_empty [] row all none (suc k) x at = absurd (cc at)
more_empty (r ∷ rows) row all none zero x at = all zero x at
more_empty (r ∷ rows) row all none (suc k) x at = more_empty rows row (λ j y there. all (suc j) y there) none k x at
