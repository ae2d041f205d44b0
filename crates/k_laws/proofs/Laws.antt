-- The laws of this crate, one lemma a clause under the law's name, for the crates above to cite.
use Rattle.std.proofs.Common.{◌≡◌, ℕ, ◌+◌, ◌*◌, ◌==◌, sym, ap, ◌∙◌, length, arith, ◌∷◌}
use Rattle.std.specs.Prelude.{IsFalse, List, if◌then◌else◌, ◌<◌, ◌≤◌, IsTrue, ◌++◌, Some, nat_lt, ◌||◌, ◌↔◌, ◌⊎◌, ◌≢◌}
use Rattle.k_types.specs.Cells.{entries, pins, book_part, use_shown}
use Rattle.k_types.specs.Effects.{step, after_end_of}
use Rattle.k_types.specs.declared.setup.LimitRow.{LimitRow}
use Rattle.k_types.specs.Limits.{limits_in, max_of, path_of, use_of, use_within, full_limit, is_above}
use Rattle.k_types.specs.Local.{is_own}
use Rattle.k_types.specs.Names.{among}
use Rattle.k_types.specs.Owners.{charge_of, objects_of, owner_of, user, bytes_of, phase_of}
use Rattle.k_types.specs.Reach.{live_everywhere, is_entered, reach_among, reach_in}
use Rattle.k_types.specs.Replies.{ends_other, is_populating, reply_to}
use Rattle.k_types.specs.Sound.{IsSound}
use Rattle.k_types.specs.State.{State, has, opening, scan_of, has_exit}
use Rattle.k_types.specs.Steps.{IsLegalHistory, IsPossible, state_after}
use Rattle.k_types.specs.Totals.{total}
use Rattle.k_types.specs.Trace.{Trace, limit_of, process_count, size_of_type}
use Rattle.k_types.specs.TraceRules.{AreLimits, IsTree, ends_a_process, is_resize}
use Rattle.k_types.specs.Updates.{count_done}
use Rattle.k_types.specs.declared.event.Event.{Event}
use Rattle.k_types.specs.declared.event.Event.TheVariants.{Done, Ended}
use Rattle.k_types.specs.declared.event.Fault.{Fault}
use Rattle.k_types.specs.declared.event.Fault.TheVariants.{KernelFull, LimitFull, NotPopulating}
use Rattle.k_types.specs.declared.event.Reply.{Reply}
use Rattle.k_types.specs.declared.event.Reply.TheVariants.{Refused, Done as DoneReply}
use Rattle.k_types.specs.declared.names.Heap.{Heap}
use Rattle.k_types.specs.declared.names.Heap.TheVariants.{Kernel}
use Rattle.k_types.specs.declared.names.LimitId.{LimitId}
use Rattle.k_types.specs.declared.names.Name.{Name}
use Rattle.k_types.specs.declared.names.Pid.{Pid}
use Rattle.k_types.specs.declared.names.Reg.{Reg}
use Rattle.k_types.specs.declared.names.SharedId.{SharedId}
use Rattle.k_types.specs.declared.names.TypeId.{TypeId}
use Rattle.k_types.specs.declared.op.Op.{Op}
use Rattle.k_types.specs.declared.op.Op.TheVariants.{KNew, New, SNew, Store, Exit, Kill, Resize}
use Rattle.k_types.proofs.Charges.{use_added}
use Rattle.k_types.proofs.Maxima.{tree_in}
use Rattle.k_types.proofs.Objects.{some_is}
use Rattle.k_laws.proofs.Exact.{counted_exact}
use Rattle.k_laws.proofs.Histories.{legal_front, legal_rest}
use Rattle.k_laws.proofs.Charged.{operation_charges, operation_uses}
use Rattle.k_laws.proofs.Ending.{others_never_raise, credits, exit_credits, exit_event, kill_credits, kill_event, idle_kill_event, leaves_rest, may_end_other}
use Rattle.k_laws.proofs.Resizing.{resize_event}
use Rattle.k_laws.proofs.Entered.{entered_counted}
use Rattle.k_laws.proofs.Entries.{entries_are}
use Rattle.k_laws.proofs.Means.{reach_is, own_is, is_own_if, exit_from, exit_comes}
use Rattle.k_laws.proofs.PartsTell.{parts_tell}
use Rattle.k_laws.proofs.Refusing.{store_refused, new_refused, knew_refused, snew_refused}
use Rattle.k_laws.proofs.Safe.{end_keeps_used}
use Rattle.k_laws.proofs.SoundOpening.{opening_sound}
use Rattle.k_laws.proofs.SoundSteps.{legal_sound, step_sound}
use Rattle.k_laws.proofs.Surviving.{survivors}
use Rattle.k_laws.proofs.UseShown.{use_is_shown}
use Rattle.k_laws.proofs.UsesRaised.{times}
use Rattle.k_laws.specs.Charges.{bytes_added, is_done_by}
use Rattle.k_laws.specs.Meaning.{heaps_of}
use Rattle.k_laws.specs.Parts.{SameParts, SameState}
use Rattle.k_laws.specs.Refusals.{is_fault_of_store}
use Rattle.k_laws.specs.Resizing.{MovesTheReservation}
use Rattle.k_laws.specs.Survivors.{KeepsTheSurvivors}
use Rattle.k_laws.specs.Termination.{CreditsTheCharge, LeavesTheRest, StaysOrPasses}
use Rattle.k_types.proofs.Ancestors.{above_another}
use Rattle.k_laws.specs.Changes.{MayExit}

-- a charge of n bytes at a limit raises the use of each limit on its path by n, and no other
pub charges_go_up_the_path-raised : (rows : List LimitRow) (d e : ℕ → ℕ) (n m : ℕ) → IsTree rows → m < length rows → ((q : ℕ) → e q ≡ d q + (if q == m then n else 0)) → (q : ℕ) → use_within rows e (length rows) q ≡ use_within rows d (length rows) q + (if among q (path_of rows m) then n else 0)
charges_go_up_the_path-raised = λ rows d e n m tree known more q.
    use_added rows m d e n (λ k. more k ∙ ap (λ x. d k + x) (sym (times (k == m) n))) (length rows) q
    ∙ ap (λ k. use_within rows d (length rows) q + n * k) (counted_exact rows tree m known (length rows) q (omega arith))
    ∙ ap (λ x. use_within rows d (length rows) q + x) (times (among q (path_of rows m)) n)

pub charges_go_up_the_path-limits : (trace : Trace) (st : State) → AreLimits trace → IsTree (limits_in trace st)
charges_go_up_the_path-limits = λ trace st limits. tree_in trace.limits st.maxima limits.tree

-- an operation charges its own process alone: an allocation in its heap or in the shared heap that it populates by the bytes of the object, an attach to a heap that it does not share yet by all bytes of that heap, and anything else, as whatever is refused, by nothing
pub operations_charge_their_process-charged : (trace : Trace) (st : State) (pid : Pid) (op : Op) (said : Reply) → IsSound trace st → IsPossible trace st (Done pid op said) → IsFalse (ends_a_process op) → (q : ℕ) → charge_of trace (step trace st (Done pid op said)) q ≡ charge_of trace st q + (if q == pid.0 then bytes_added trace st pid.0 op else 0)
unfolding step
operations_charge_their_process-charged = λ trace st pid op said sound may other q.
    operation_charges trace st pid.0 sound may.known may.lives op other q ∙ ap (λ k. charge_of trace st q + k) (times (q == pid.0) (bytes_added trace st pid.0 op))

pub operations_charge_their_process-uses : (trace : Trace) (st : State) (pid : Pid) (op : Op) (said : Reply) → AreLimits trace → IsSound trace st → IsPossible trace st (Done pid op said) → IsFalse (ends_a_process op) → IsFalse (is_resize op) → (m : ℕ) → use_of trace (step trace st (Done pid op said)) m ≡ use_of trace st m + (if among m (path_of (limits_in trace st) (limit_of trace pid.0)) then bytes_added trace st pid.0 op else 0)
operations_charge_their_process-uses = λ trace st pid op said limits sound may other fixed m. operation_uses trace limits st pid op said sound may other fixed m

-- a resize that isn't refused moves the reservation of a hard limit, and nothing else
pub resizes_move_the_reservation : (trace : Trace) (st : State) (pid : Pid) (limit : LimitId) (max : ℕ) → AreLimits trace → IsSound trace st → IsPossible trace st (Done pid (Resize limit max) DoneReply) → MovesTheReservation trace st limit.0 max (step trace st (Done pid (Resize limit max) DoneReply))
resizes_move_the_reservation = resize_event

-- no event raises what another process is charged: not its operations, its end or its shares, and no collection, absorption or closing
pub nobody_raises_the_charge_of_another : (trace : Trace) (st : State) (event : Event) (q : ℕ) → IsSound trace st → IsPossible trace st event → IsFalse (is_done_by event q) → charge_of trace (step trace st event) q ≤ charge_of trace st q
nobody_raises_the_charge_of_another = others_never_raise

-- after a legal history the use of each limit is at most its maximum
pub uses_fit : (trace : Trace) (history : List Event) (m : ℕ) → AreLimits trace → IsLegalHistory trace history → m < length trace.limits → use_of trace (state_after trace history) m ≤ max_of (limits_in trace (state_after trace history)) m
uses_fit = λ trace history m keeps legal known. (legal_sound trace history keeps legal).uses m known

-- no collection frees a live object: wherever a collection ends in a legal history, each object that can still be used just before its end is there after it, whatever happened since the collection began
pub collections_free_nothing_live : (trace : Trace) (before rest : List Event) (h : Heap) (objects bytes exits shares : ℕ) → AreLimits trace → IsLegalHistory trace (before ++ Ended h objects bytes exits shares ∷ rest) → (n : Name) → IsTrue (has (live_everywhere trace (state_after trace before)) n) → IsTrue (has (step trace (state_after trace before) (Ended h objects bytes exits shares)).objects n)
collections_free_nothing_live = λ trace before rest h objects bytes exits shares limits legal n live.
    let sound = legal_sound trace before limits (legal_front trace (opening trace) before (Ended h objects bytes exits shares ∷ rest) legal) in
    let may = legal_rest trace (opening trace) before (Ended h objects bytes exits shares ∷ rest) legal in
    end_keeps_used trace (state_after trace before) h objects bytes exits shares sound may.0.scanned n live

-- exact survivors: the end of a collection of a heap frees exactly the objects of the heap that the recorded roots do not reach inside it
pub collections_keep_exactly_the_survivors : (trace : Trace) (st : State) (h : Heap) (objects bytes exits shares : ℕ) → IsSound trace st → IsPossible trace st (Ended h objects bytes exits shares) → KeepsTheSurvivors trace st h (step trace st (Ended h objects bytes exits shares))
unfolding step
collections_keep_exactly_the_survivors = λ trace st h objects bytes exits shares sound may.
    let scan = some_is (scan_of st.scans h) may.scanned in
    survivors trace st sound h scan.0 scan.1

-- a collection reaches what it reaches among its heap's own objects, in as many folds as these are
pub a_collection_reaches_within_its_heap : (trace : Trace) (st : State) (h : Heap) (rs : List Name) → reach_in trace st h rs ≡ reach_among (objects_of (owner_of trace st) h st.objects) rs
a_collection_reaches_within_its_heap = reach_is

-- the entries of an object are the heaps with an exit item to it, and an object is entered exactly where its entries or its pins are above 0
pub entered_objects_are_counted-entries : (trace : Trace) (st : State) (n : Name) → IsSound trace st → entries st n ≡ total (λ h. if has_exit st.exits h n then 1 else 0) (heaps_of trace)
entered_objects_are_counted-entries = entries_are

pub entered_objects_are_counted-entered : (trace : Trace) (st : State) (n : Name) → IsSound trace st → is_entered trace st n ≡ (nat_lt 0 (entries st n) || nat_lt 0 (pins trace st n))
entered_objects_are_counted-entered = entered_counted

-- the heap of a living process owns the process's segment and no other
pub a_living_process_owns_its_segment_alone : (trace : Trace) (st : State) (p : ℕ) (n : Name) → p < process_count trace → IsFalse (among p st.ended) → (IsTrue (is_own p (Some n)) ↔ (owner_of trace st n.seg.0 ≡ user p))
a_living_process_owns_its_segment_alone = λ trace st p n known lives. (own_is trace st p n known lives, is_own_if trace st p n)

-- the book's part tells the uses
pub parts_determine_the_state-uses : (trace : Trace) (st : State) (m : ℕ) → m < length trace.limits → use_shown trace (book_part trace st) m ≡ use_of trace st m
parts_determine_the_state-uses = use_is_shown

pub parts_determine_the_state-all : (trace : Trace) (st su : State) → IsSound trace st → IsSound trace su → SameParts trace st su → SameState st su
parts_determine_the_state-all = parts_tell

-- no hidden refusals
pub no_hidden_refusals-store : (trace : Trace) (st : State) (p : ℕ) (base value : Reg) (i : ℕ) (fault : Fault) → reply_to trace st p (Store base i value) ≡ Refused fault → IsTrue (is_fault_of_store fault)
no_hidden_refusals-store = λ trace st p base value i fault e. store_refused trace st p base value i fault e

pub no_hidden_refusals-new : (trace : Trace) (st : State) (p : ℕ) (r : Reg) (ty : TypeId) (fault : Fault) → reply_to trace st p (New r ty) ≡ Refused fault → (m : LimitId) × (full_limit trace st (limit_of trace p) (size_of_type trace ty) ≡ Some m.0) × (fault ≡ LimitFull m)
no_hidden_refusals-new = λ trace st p r ty fault e. new_refused trace st p r ty fault e

pub no_hidden_refusals-in_kernel : (trace : Trace) (st : State) (p : ℕ) (r : Reg) (ty : TypeId) (fault : Fault) → reply_to trace st p (KNew r ty) ≡ Refused fault → (trace.ceiling < bytes_of trace st Kernel + size_of_type trace ty) × (fault ≡ KernelFull)
no_hidden_refusals-in_kernel = λ trace st p r ty fault e. knew_refused trace st p r ty fault e

pub no_hidden_refusals-in_shared : (trace : Trace) (st : State) (p : ℕ) (r : Reg) (s : SharedId) (ty : TypeId) (fault : Fault) → reply_to trace st p (SNew r s ty) ≡ Refused fault → (IsFalse (is_populating (phase_of st.phases s.0) p) × (fault ≡ NotPopulating s)) ⊎ ((m : LimitId) × (full_limit trace st (limit_of trace p) (size_of_type trace ty) ≡ Some m.0) × (fault ≡ LimitFull m))
no_hidden_refusals-in_shared = λ trace st p r s ty fault e. snew_refused trace st p r s ty fault e

-- the opening state of a trace is sound
pub opening_is_sound : (trace : Trace) → AreLimits trace → IsSound trace (opening trace)
opening_is_sound = opening_sound

-- each step from a sound state leads to a sound state, whatever the event
pub steps_are_sound : (trace : Trace) → AreLimits trace → (st : State) → IsSound trace st → (event : Event) → IsPossible trace st event → IsSound trace (step trace st event)
steps_are_sound = λ trace limits st sound event may. step_sound trace limits st sound event may

-- every state of a legal history is sound
pub states_are_sound : (trace : Trace) (history : List Event) → AreLimits trace → IsLegalHistory trace history → IsSound trace (state_after trace history)
states_are_sound = legal_sound

-- the end of a process, so its `exit`, credits its whole charge: the use of each limit on the path of its limit falls by what the process was charged before, and every other limit's use, and what every other process is charged, stays
pub termination_credits_the_whole_charge-end : (trace : Trace) (st : State) (p : ℕ) → AreLimits trace → p < process_count trace → CreditsTheCharge trace st p (after_end_of trace p st)
termination_credits_the_whole_charge-end = credits

pub termination_credits_the_whole_charge-exit : (trace : Trace) (st : State) (pid : Pid) (said : Reply) → AreLimits trace → IsPossible trace st (Done pid Exit said) → CreditsTheCharge trace st pid.0 (step trace st (Done pid Exit said))
termination_credits_the_whole_charge-exit = exit_credits

pub termination_credits_the_whole_charge-kill : (trace : Trace) (st : State) (pid target : Pid) (said : Reply) → AreLimits trace → IsPossible trace st (Done pid (Kill target) said) → IsTrue (ends_other trace st pid.0 target.0) → CreditsTheCharge trace st target.0 (step trace st (Done pid (Kill target) said))
termination_credits_the_whole_charge-kill = kill_credits

pub termination_credits_the_whole_charge-may : (trace : Trace) (st : State) (pid target : Pid) (said : Reply) → IsPossible trace st (Done pid (Kill target) said) → IsTrue (ends_other trace st pid.0 target.0) → MayExit trace st target.0
termination_credits_the_whole_charge-may = may_end_other

pub termination_credits_the_whole_charge-another : (trace : Trace) (p q : ℕ) → AreLimits trace → q < process_count trace → IsTrue (is_above trace p q) → p ≢ q
termination_credits_the_whole_charge-another = λ trace p q limits known above. above_another trace limits p q known above

-- the end of a process takes nothing from others: every object and field stays, as do the registers and shares of all other processes
pub termination_leaves_the_rest-rest : (trace : Trace) (st : State) (p : ℕ) → IsSound trace st → p < process_count trace → LeavesTheRest st p (after_end_of trace p st)
termination_leaves_the_rest-rest = λ trace st p sound known. leaves_rest trace st p (rw sound.shape.sized.registers known)

pub termination_leaves_the_rest-exit : (trace : Trace) (st : State) (pid : Pid) (said : Reply) → step trace st (Done pid Exit said) ≡ count_done pid.0 (after_end_of trace pid.0 st)
termination_leaves_the_rest-exit = exit_event

pub termination_leaves_the_rest-kill : (trace : Trace) (st : State) (pid target : Pid) (said : Reply) → IsTrue (ends_other trace st pid.0 target.0) → step trace st (Done pid (Kill target) said) ≡ count_done pid.0 (after_end_of trace target.0 st)
termination_leaves_the_rest-kill = kill_event

pub termination_leaves_the_rest-again : (trace : Trace) (st : State) (pid target : Pid) (said : Reply) → IsTrue (among target.0 st.ended) → step trace st (Done pid (Kill target) said) ≡ count_done pid.0 st
termination_leaves_the_rest-again = idle_kill_event

pub termination_leaves_the_rest-exits : (trace : Trace) (st : State) (p : ℕ) (h : Heap) (n : Name) → IsSound trace st → (IsTrue (has_exit (after_end_of trace p st).exits h n) ↔ StaysOrPasses trace st p h n)
termination_leaves_the_rest-exits = λ trace st p h n sound. (exit_from trace st p sound h n, exit_comes trace st p sound h n)
