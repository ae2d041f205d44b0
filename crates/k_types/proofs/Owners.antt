-- Who owns a segment.
use Rattle.std.proofs.Common.{◌≡◌, ℕ, ◌-◌, ◌<◌, ◌==◌, cond, Bool, true, false, sym, List, arith, nat_le, false-eqb, leb-true, leb-false, refl, ◌+◌}
use Rattle.k_types.specs.declared.names.Heap.TheVariants.{Kernel, User, Shared}
use Rattle.k_types.specs.declared.names.Phase.{Phase}
use Rattle.k_types.specs.Trace.{Trace, process_count, segment_count, IsHeap, segment_of}
use Rattle.k_types.specs.Owners.{user, shared, owner_of, owner_of_segment, is_absorbed}
use Rattle.k_types.specs.State.{State}
use Rattle.k_types.specs.declared.names.Phase.TheVariants.{Unmade, Populating, Frozen, Absorbed}
use Rattle.std.proofs.lemmas.Bool.{false≢true}
use Rattle.k_types.specs.declared.names.Heap.{Heap}

-- who owns one of the trace's segments is one of the trace's heaps
pub known_if : (trace : Trace) (ended : List ℕ) (phases : List Phase) (seg : ℕ) → seg < segment_count trace → (a b c d : Bool) → (seg == 0) ≡ a → nat_le seg (process_count trace) ≡ b →
    IsHeap trace (cond a Kernel (cond b (cond c Kernel (user (seg - 1))) (cond d Kernel (shared (seg - 1 - process_count trace)))))
known_if trace ended phases seg h true b c d e f = tt
known_if trace ended phases seg h false true true d e f = tt
known_if trace ended phases seg h false true false d e f = let ne = false-eqb seg 0 (sym e) in let low = leb-true seg (process_count trace) f in omega arith
known_if trace ended phases seg h false false c true e f = tt
known_if trace ended phases seg h false false c false e f = let ne = false-eqb seg 0 (sym e) in let high = leb-false seg (process_count trace) f in omega arith

pub owner_known : (trace : Trace) (st : State) (seg : ℕ) → seg < segment_count trace → IsHeap trace (owner_of trace st seg)
unfolding owner_of_segment
owner_known trace st seg h = known_if trace st.ended st.phases seg h (seg == 0) (nat_le seg (process_count trace)) _ _ refl refl

-- the phase of a heap that is absorbed
pub absorbed_is : (phase : Phase) → is_absorbed phase ≡ true → phase ≡ Absorbed
absorbed_is Unmade e = absurd (false≢true e)
absorbed_is (Populating p) e = absurd (false≢true e)
absorbed_is (Frozen root) e = absurd (false≢true e)
absorbed_is Absorbed e = refl

-- the segment with which a heap of the trace begins is one of the trace
pub segment_known : (trace : Trace) (h : Heap) → IsHeap trace h → segment_of trace h < segment_count trace
segment_known trace Kernel known = omega arith
segment_known trace (User p) known = omega (arith, known)
segment_known trace (Shared s) known = omega (arith, known)
