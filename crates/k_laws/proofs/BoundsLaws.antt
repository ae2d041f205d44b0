-- The laws of this crate, one lemma a clause under the law's name, for the crates above to cite.
use Rattle.std.specs.Prelude.{List, if◌then◌else◌, length, slice_index_or, ◌*◌, ◌+◌, ◌==◌, ◌≡◌, ◌≤◌, ◌⊎◌, ℕ, ◌↔◌}
use Rattle.k_types.specs.Cells.{entries, pins}
use Rattle.k_types.specs.Complete.{IsPrefixOf}
use Rattle.k_types.specs.Following.{FollowsOwn}
use Rattle.k_types.specs.Names.{heap_eq, name_among}
use Rattle.k_types.specs.Numbers.{numbers_below}
use Rattle.k_types.specs.Owners.{shared, user}
use Rattle.k_types.specs.Sound.{AreDistinctExits}
use Rattle.k_types.specs.State.{ExitItem, has_exit}
use Rattle.k_types.specs.Steps.{IsLegalHistory, done_by, state_after}
use Rattle.k_types.specs.Totals.{total}
use Rattle.k_types.specs.Trace.{Trace, process_count, operations_of}
use Rattle.k_types.specs.TraceRules.{AreLimits}
use Rattle.k_types.specs.declared.event.Event.{Event}
use Rattle.k_types.specs.declared.names.Heap.{Heap}
use Rattle.k_types.specs.declared.names.Name.{Name}
use Rattle.k_types.specs.declared.op.Op.{Op}
use Rattle.k_laws.proofs.AbsorbedCounts.{absorbed_at_most, closings}
use Rattle.k_laws.proofs.AllExits.{exits_at_most_stores}
use Rattle.k_laws.proofs.ByProcess.{stores_by_process, operations_by_process, allocations_by_process, prefix_less, follows_own, first_of}
use Rattle.k_laws.proofs.Distinct.{pins_few, entries_few, targets_sum}
use Rattle.k_laws.proofs.Dones.{length_at_most, done_count}
use Rattle.k_laws.proofs.ExitBounds.{user_exits}
use Rattle.k_laws.proofs.ObjectBounds.{objects_at_most_allocations}
use Rattle.k_laws.proofs.ScanCounts.{collections_balance}
use Rattle.k_laws.proofs.SerialBounds.{serials_at_most_allocations}
use Rattle.k_laws.proofs.SharedBounds.{shared_exits}
use Rattle.k_laws.specs.Counts.{MadeBy, absorbed_count, allocation_count, allocations, begun_count, closing_count, ended_count, exit_count, one_if, operation_count, store_count, stores_by, allocates_in}
use Rattle.k_types.specs.Distinct.{AreDistinctNames}
use Rattle.k_laws.proofs.Sizes.{history_sized}

-- all exit items together are at most the stores of the history
pub exit_items_are_at_most_the_stores-all : (trace : Trace) (history : List Event) → length (state_after trace history).exits ≤ store_count history
exit_items_are_at_most_the_stores-all = exits_at_most_stores

pub exit_items_are_at_most_the_stores-user : (trace : Trace) (p : ℕ) (history : List Event) → IsLegalHistory trace history → exit_count (state_after trace history).exits (user p) ≤ stores_by p history
exit_items_are_at_most_the_stores-user = user_exits

pub exit_items_are_at_most_the_stores-shared : (trace : Trace) (s : ℕ) (history : List Event) → AreLimits trace → IsLegalHistory trace history → (exit_count (state_after trace history).exits (shared s) ≡ 0) ⊎ ((p : ℕ) × MadeBy trace s history (exit_count (state_after trace history).exits (shared s)) p)
exit_items_are_at_most_the_stores-shared = λ trace s history keeps legal. shared_exits trace s keeps history legal

-- the serials that a segment has given are at most its allocations, and in the kernel's segment one more for the directory
pub serials_are_at_most_the_allocations : (trace : Trace) (history : List Event) (seg : ℕ) → slice_index_or (state_after trace history).made seg 0 ≤ one_if (seg == 0) + allocation_count trace seg history
serials_are_at_most_the_allocations = serials_at_most_allocations

-- the objects that are there are at most the allocations, and one more for the directory
pub objects_are_at_most_the_allocations : (trace : Trace) (history : List Event) → length (state_after trace history).objects ≤ 1 + allocations history
objects_are_at_most_the_allocations = objects_at_most_allocations

-- of the collections that were begun, by a process or by the closing, each has ended once or is still open
pub collections_end_once : (trace : Trace) (history : List Event) → AreLimits trace → IsLegalHistory trace history → ended_count history + length (state_after trace history).scans ≡ begun_count history
collections_end_once = λ trace history keeps legal. collections_balance trace keeps history legal

-- each shared heap is absorbed at most once, and there is at most one closing
pub heaps_are_absorbed_once-absorbed : (trace : Trace) (history : List Event) → IsLegalHistory trace history → absorbed_count history ≤ trace.shared_heaps
heaps_are_absorbed_once-absorbed = absorbed_at_most

pub heaps_are_absorbed_once-closed : (trace : Trace) (history : List Event) → IsLegalHistory trace history → closing_count history ≡ one_if (state_after trace history).closed
heaps_are_absorbed_once-closed = closings

-- a history has at most two events for each operation, one for each shared heap, and two more
pub histories_are_short : (trace : Trace) (history : List Event) → AreLimits trace → IsLegalHistory trace history → length history ≤ 2 * operation_count history + trace.shared_heaps + 2
histories_are_short = λ trace history keeps legal. length_at_most trace keeps history legal

-- a process has done as many operations as the history has of it
pub operations_done_are_those_of_the_history : (trace : Trace) (p : ℕ) (history : List Event) → IsLegalHistory trace history → slice_index_or (state_after trace history).done p 0 ≡ length (done_by p history)
operations_done_are_those_of_the_history = done_count

-- the pins of distinct objects are together at most 16 for each process, and their entries at most the exit items
pub pins_are_at_most_the_registers-pins : (trace : Trace) (history : List Event) (names : List Name) → AreDistinctNames names → total (pins trace (state_after trace history)) names ≤ 16 * process_count trace
pins_are_at_most_the_registers-pins = λ trace history names distinct. pins_few trace (state_after trace history) (history_sized trace history) names distinct

pub pins_are_at_most_the_registers-entries : (trace : Trace) (history : List Event) (names : List Name) → AreDistinctNames names → total (entries (state_after trace history)) names ≤ length (state_after trace history).exits
pins_are_at_most_the_registers-entries = λ trace history names distinct. entries_few (state_after trace history) names distinct

-- what a legal history counts is the sum of what the operations of each process count: its stores, its operations, and its allocations in a segment
pub histories_count_by_process-stores : (trace : Trace) (history : List Event) → IsLegalHistory trace history → store_count history ≡ total (λ p. stores_by p history) (numbers_below (process_count trace))
histories_count_by_process-stores = stores_by_process

pub histories_count_by_process-operations : (trace : Trace) (history : List Event) → IsLegalHistory trace history → operation_count history ≡ total (λ p. length (done_by p history)) (numbers_below (process_count trace))
histories_count_by_process-operations = operations_by_process

pub histories_count_by_process-allocations : (trace : Trace) (seg : ℕ) (history : List Event) → IsLegalHistory trace history → allocation_count trace seg history ≡ total (λ p. total (λ op. one_if (allocates_in trace seg p op)) (done_by p history)) (numbers_below (process_count trace))
histories_count_by_process-allocations = allocations_by_process

-- of the first operations of a list no more is counted than of all
pub first_operations_count_less : (f : Op → ℕ) (first all : List Op) → IsPrefixOf first all → total f first ≤ total f all
first_operations_count_less = prefix_less

-- the operations that a legal history has done for a process stand first among the trace's exactly where they are the trace's up to the number done
pub first_operations_are_those_up_to_done : (trace : Trace) (p : ℕ) (history : List Event) → IsLegalHistory trace history → IsPrefixOf (done_by p history) (operations_of trace p) ↔ FollowsOwn trace p history
first_operations_are_those_up_to_done = λ trace p history legal. (follows_own trace p history legal, first_of trace p history)

-- distinct names that are the targets of a heap's exit items, in whatever order, give the same sums as the items: the same length, the same number that pass a test
pub targets_sum_as_the_items : (f : Name → ℕ) (h : Heap) (exits : List ExitItem) (names : List Name) → AreDistinctExits exits → AreDistinctNames names → ((n : Name) → name_among n names ≡ has_exit exits h n) → total f names ≡ total (λ e. if heap_eq e.heap h then f e.target else 0) exits
targets_sum_as_the_items = targets_sum
