-- The laws of this crate, one lemma a clause under the law's name, for the crates above to cite.
use Rattle.std.specs.Prelude.{IsFalse, ◌+◌, ◌<◌, ◌≡◌, ℕ, List, ◌++◌, IsTrue, ◌⊎◌}
use Rattle.k_types.specs.Cells.{touches}
use Rattle.k_types.specs.Effects.{step, after_operation}
use Rattle.k_types.specs.Names.{among}
use Rattle.k_types.specs.Owners.{charge_of, user, owner_of, phase_of}
use Rattle.k_types.specs.Replies.{reply_to}
use Rattle.k_types.specs.Sound.{IsSound}
use Rattle.k_types.specs.State.{State, is_scanned}
use Rattle.k_types.specs.Steps.{IsPossible, state_after}
use Rattle.k_types.specs.Trace.{Trace, process_count}
use Rattle.k_types.specs.TraceRules.{AreLimits}
use Rattle.k_types.specs.Updates.{count_done}
use Rattle.k_types.specs.declared.event.Event.{Event}
use Rattle.k_types.specs.declared.event.Event.TheVariants.{Ended, Closing, Done, Absorbed}
use Rattle.k_types.specs.declared.event.Fault.{Fault}
use Rattle.k_types.specs.declared.event.Reply.{Reply}
use Rattle.k_types.specs.declared.event.Reply.TheVariants.{Refused}
use Rattle.k_types.specs.declared.names.Heap.{Heap}
use Rattle.k_types.specs.declared.names.Heap.TheVariants.{Kernel}
use Rattle.k_types.specs.declared.names.Name.{Name}
use Rattle.k_types.specs.declared.names.Phase.TheVariants.{Frozen}
use Rattle.k_types.specs.declared.names.Pid.{Pid}
use Rattle.k_types.specs.declared.op.Op.{Op}
use Rattle.k_types.specs.declared.op.Op.TheVariants.{KCollect}
use Rattle.k_laws.proofs.Answering.{refused_counts, no_orphan_paid, left_alone}
use Rattle.k_laws.proofs.Charging.{charge_kept, credited}
use Rattle.k_laws.proofs.EndNumbers.{numbers_are_right}
use Rattle.k_laws.proofs.FrozenSizes.{stays_frozen}
use Rattle.k_laws.proofs.Owning.{stays_ended, owner_after, stays_kernel}
use Rattle.k_laws.proofs.Serials.{stays_spent, step_gives}
use Rattle.k_laws.specs.Kept.{Credits, bytes_dropped, is_end_of, GoesBy, GivesSerials, IsSpent, HasEndOf, IsPaidFor, KeepsOrGives, StaysFrozen, is_kill_of}
use Rattle.k_laws.specs.Charges.{is_done_by}

-- what a process is charged changes only by its own operations and the ends of its own heap's collections
pub only_its_own_events_change_a_charge : (trace : Trace) (st : State) (event : Event) (q : ℕ) → IsSound trace st → IsPossible trace st event → IsFalse (is_done_by event q) → IsFalse (is_kill_of event q) → IsFalse (is_end_of event q) → charge_of trace (step trace st event) q ≡ charge_of trace st q
only_its_own_events_change_a_charge = λ trace st event q sound may other killed own. charge_kept trace st sound event q may other killed own

-- the end of the collection of a process's heap credits exactly the bytes freed and the bytes of the shared heaps whose shares it drops, on the path of the process's limit, and nothing else
pub ended_collections_credit_what_goes : (trace : Trace) (st : State) (p objects bytes exits shares : ℕ) → AreLimits trace → IsSound trace st → p < process_count trace → IsPossible trace st (Ended (user p) objects bytes exits shares) → Credits trace st (step trace st (Ended (user p) objects bytes exits shares)) p (bytes + bytes_dropped trace st (step trace st (Ended (user p) objects bytes exits shares)) p)
unfolding step
ended_collections_credit_what_goes = λ trace st p objects bytes exits shares limits sound known may. credited trace st sound limits p objects bytes exits shares known may

-- the end of a collection tells exactly what goes: by its four numbers fall the objects, the bytes of the heap, the exit items and the shares
pub ended_collections_tell_what_goes : (trace : Trace) (st : State) (h : Heap) (objects bytes exits shares : ℕ) → IsPossible trace st (Ended h objects bytes exits shares) → GoesBy trace st (step trace st (Ended h objects bytes exits shares)) h objects bytes exits shares
ended_collections_tell_what_goes = numbers_are_right

-- serials are never given again: a new object has a serial above all that its segment gave before, so an object that is gone does not come back
pub serials_are_never_given_again-step : (trace : Trace) (st : State) (event : Event) → GivesSerials st (step trace st event)
serials_are_never_given_again-step = step_gives

pub serials_are_never_given_again-gone : (trace : Trace) (known rest : List Event) (n : Name) → IsSpent (state_after trace known) n → IsSpent (state_after trace (known ++ rest)) n
serials_are_never_given_again-gone = stays_spent

-- a refused operation changes the count of operations done and nothing else
pub refused_operations_only_count : (trace : Trace) (st : State) (p : ℕ) (op : Op) (fault : Fault) → reply_to trace st p op ≡ Refused fault → after_operation trace p op st ≡ count_done p st
refused_operations_only_count = refused_counts

-- before a collection of the kernel begins, by an operation or as the last one, no shared heap is an orphan: each that was made and is not absorbed has a process that pays for it
pub kernel_collections_wait_for_orphans-operation : (trace : Trace) (st : State) (pid : Pid) (said : Reply) (s : ℕ) → IsPossible trace st (Done pid KCollect said) → s < trace.shared_heaps → IsPaidFor st s
kernel_collections_wait_for_orphans-operation = λ trace st pid said s may inside. no_orphan_paid trace st s may.orphans inside

pub kernel_collections_wait_for_orphans-closing : (trace : Trace) (st : State) (s : ℕ) → IsPossible trace st Closing → s < trace.shared_heaps → IsPaidFor st s
kernel_collections_wait_for_orphans-closing = λ trace st s may inside. no_orphan_paid trace st s may.orphans inside

-- nothing touches a heap whose collection is open but the end of that collection
pub scanned_heaps_are_left_alone : (trace : Trace) (st : State) (event : Event) (h : Heap) → IsSound trace st → IsPossible trace st event → IsTrue (is_scanned st.scans h) → IsTrue (touches trace st event h) → HasEndOf h event
scanned_heaps_are_left_alone = left_alone

-- a process that has ended stays ended
pub ended_processes_stay_ended : (trace : Trace) (known rest : List Event) (p : ℕ) → IsTrue (among p (state_after trace known).ended) → IsTrue (among p (state_after trace (known ++ rest)).ended)
ended_processes_stay_ended = stays_ended

-- a segment's owner changes at most once, to the kernel: an event leaves it or gives the segment to the kernel, and what the kernel owns it keeps
pub owners_change_once-step : (trace : Trace) (st : State) (event : Event) (seg : ℕ) → KeepsOrGives trace st (step trace st event) seg
owners_change_once-step = owner_after

pub owners_change_once-kernel : (trace : Trace) (known rest : List Event) (seg : ℕ) → owner_of trace (state_after trace known) seg ≡ Kernel → owner_of trace (state_after trace (known ++ rest)) seg ≡ Kernel
owners_change_once-kernel = stays_kernel

-- a frozen heap keeps its phase and its bytes until it is absorbed
pub frozen_heaps_keep_their_size : (trace : Trace) (st : State) (event : Event) (s : ℕ) (root : Name) → IsSound trace st → IsPossible trace st event → phase_of st.phases s ≡ Frozen root → StaysFrozen trace st (step trace st event) s ⊎ (event ≡ Absorbed (record { 0 = s }))
frozen_heaps_keep_their_size = stays_frozen
