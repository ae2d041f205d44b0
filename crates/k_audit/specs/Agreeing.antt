-- What a snapshot claims, as a test of its lists.
use Rattle.std.specs.Prelude.{ℕ, ◌==◌, ◌&&◌, Bool, true, false, List, [], ◌∷◌, length, slice_index_or}
use Rattle.std.specs.List.{list_all}
use Rattle.k_types.specs.declared.names.Heap.{Heap}
use Rattle.k_types.specs.declared.names.Heap.TheVariants.{Kernel}
use Rattle.k_types.specs.Limits.{use_of}
use Rattle.k_types.specs.Names.{heap_eq}
use Rattle.k_types.specs.Numbers.{numbers_below}
use Rattle.k_types.specs.Owners.{bytes_of, charge_of, owner_of, shared}
use Rattle.k_types.specs.State.{Object, State}
use Rattle.k_types.specs.Trace.{Trace, process_count}
use Rattle.k_audit.specs.Claims.{Claims}

-- The claimed numbers are those of the function, one by one.
abbrev pub agree : (ℕ → ℕ) → List ℕ → ℕ → Bool
agree f claimed n = list_all (λ k. slice_index_or claimed k 0 == f k) (numbers_below n)

-- The claimed owners are those of the objects, one by one.
abbrev pub owners_agree : (ℕ → Heap) → List Heap → List Object → Bool
owners_agree own [] [] = true
owners_agree own (h ∷ owners) (o ∷ objects) = heap_eq h (own o.name.seg.0) && owners_agree own owners objects
owners_agree own [] (o ∷ objects) = false
owners_agree own (h ∷ owners) [] = false

-- The bytes of a shared heap.
abbrev pub shared_bytes : Trace → State → ℕ → ℕ
shared_bytes trace st s = bytes_of trace st (shared s)

-- The kernel's bytes and its ceiling are the claimed ones.
abbrev pub kernel_agrees : Trace → State → Claims → Bool
kernel_agrees trace st claims = (claims.kernel == bytes_of trace st Kernel) && (claims.ceiling == trace.ceiling)

-- All claims agree.
abbrev pub claims_agree : Trace → State → Claims → Bool
claims_agree trace st claims =
    kernel_agrees trace st claims && owners_agree (owner_of trace st) claims.owners st.objects && agree (use_of trace st) claims.uses (length trace.limits)
    && agree (charge_of trace st) claims.charges (process_count trace) && agree (shared_bytes trace st) claims.shared_bytes trace.shared_heaps
