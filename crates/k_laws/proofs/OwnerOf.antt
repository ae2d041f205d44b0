-- The owners of the segments that events name.
use Rattle.std.proofs.Common.{◌≡◌, ℕ, ◌+◌, ◌-◌, ◌<◌, refl, ap, ◌∙◌, List, arith, IsFalse, ne_eqb, le-leb}
use Rattle.std.proofs.lemmas.Bool.{cond-false, lt-leb}
use Rattle.k_types.specs.declared.names.Heap.TheVariants.{Kernel}
use Rattle.k_types.specs.declared.names.Phase.{Phase}
use Rattle.k_types.specs.Names.{among}
use Rattle.k_types.specs.Trace.{Trace, process_count}
use Rattle.k_types.specs.State.{State}
use Rattle.k_types.specs.Owners.{owner_of, owner_of_segment, owner_of_process, owner_of_shared, user, shared, phase_of, is_absorbed}

pub owner_kernel : (trace : Trace) (st : State) → owner_of trace st 0 ≡ Kernel
unfolding owner_of_segment
owner_kernel trace st = refl

pub segment_of_process : (procs : ℕ) (ended : List ℕ) (phases : List Phase) (p : ℕ) → p < procs → owner_of_segment procs ended phases (p + 1) ≡ owner_of_process ended p
unfolding owner_of_segment
segment_of_process procs ended phases p known =
    rw (ne_eqb (p + 1) 0 (λ e. absurd (omega arith)), le-leb (p + 1) procs (omega arith))
    (ap (owner_of_process ended) (omega arith))

pub segment_of_shared : (procs : ℕ) (ended : List ℕ) (phases : List Phase) (s : ℕ) → owner_of_segment procs ended phases (1 + procs + s) ≡ owner_of_shared phases s
unfolding owner_of_segment
segment_of_shared procs ended phases s =
    rw (ne_eqb (1 + procs + s) 0 (λ e. absurd (omega arith)), lt-leb (1 + procs + s) procs (omega arith))
    (ap (owner_of_shared phases) (omega arith))

pub owner_user : (trace : Trace) (st : State) (p : ℕ) → p < process_count trace → IsFalse (among p st.ended) → owner_of trace st (p + 1) ≡ user p
owner_user trace st p known lives = segment_of_process (process_count trace) st.ended st.phases p known ∙ cond-false (among p st.ended) Kernel (user p) lives

pub owner_shared : (trace : Trace) (st : State) (s : ℕ) → IsFalse (is_absorbed (phase_of st.phases s)) → owner_of trace st (1 + process_count trace + s) ≡ shared s
owner_shared trace st s stands = segment_of_shared (process_count trace) st.ended st.phases s ∙ cond-false (is_absorbed (phase_of st.phases s)) Kernel (shared s) stands

-- a shared heap that owns a segment isn't absorbed
pub owner_stands : (procs : ℕ) (ended : List ℕ) (phases : List Phase) (seg s : ℕ) → owner_of_segment procs ended phases seg ≡ shared s → IsFalse (is_absorbed (phase_of phases s))
unfolding owner_of_segment
owner_stands procs ended phases seg s e = grind arith

-- a process that owns a segment lives
pub owner_lives : (procs : ℕ) (ended : List ℕ) (phases : List Phase) (seg p : ℕ) → owner_of_segment procs ended phases seg ≡ user p → IsFalse (among p ended)
unfolding owner_of_segment
owner_lives procs ended phases seg p e = grind arith
