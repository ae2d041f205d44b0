-- The laws of this crate, one lemma a clause under the law's name, for the crates above to cite.
use Rattle.std.specs.Prelude.{List, Some, ◌++◌, ◌∷◌, ◌≡◌, ℕ, length, ◌≤◌, ◌<◌}
use Rattle.k_types.specs.Local.{AreLocal}
use Rattle.k_types.specs.Numbers.{numbers_below}
use Rattle.k_types.specs.State.{Object, object_at, State}
use Rattle.k_types.specs.Steps.{IsLegalHistory, state_after, done_by}
use Rattle.k_types.specs.Totals.{total}
use Rattle.k_types.specs.Trace.{Trace, operations_of, process_count}
use Rattle.k_types.specs.TraceRules.{AreLimits, AreOperations}
use Rattle.k_types.specs.declared.event.Event.{Event}
use Rattle.k_types.specs.declared.event.Event.TheVariants.{Ended}
use Rattle.k_types.specs.declared.names.Heap.{Heap}
use Rattle.k_types.specs.declared.names.Name.{Name}
use Rattle.k_laws.specs.Counts.{operation_count}
use Rattle.k_laws.proofs.Bounded.{end_bounded}
use Rattle.k_laws.proofs.KnownCounted.{all_ordered, operations_bounded}
use Rattle.k_laws.proofs.Fields.{history_fits}
use Rattle.k_laws.proofs.Fitting.{object_fits, objects_bounded}
use Rattle.k_laws.proofs.KnownEvents.{history_known}
use Rattle.k_laws.specs.Fits.{AreAtMostTheSerials, AreEndNumbers, FitsItsType, HasFewFields, AreKnownEvents, DoesOperationsOf, NumbersFit}
use Rattle.k_laws.proofs.Tails.{tail_length}
use Rattle.std.specs.List.{AllByRecursion}
use Rattle.k_types.specs.Bounds.{maximum_below}
use Rattle.k_laws.proofs.KnownMaxima.{maxima_small}

-- each object has the fields of its type, and few
pub objects_fit_their_types : (trace : Trace) (history : List Event) (n : Name) (o : Object) → AreLimits trace → HasFewFields trace → IsLegalHistory trace history → object_at (state_after trace history).objects n ≡ Some o → FitsItsType trace o
objects_fit_their_types = object_fits

-- the objects are at most the serials given, and take at most 144 bytes for each
pub objects_are_at_most_the_serials : (trace : Trace) (history : List Event) → AreLimits trace → HasFewFields trace → IsLegalHistory trace history → AreAtMostTheSerials (state_after trace history)
objects_are_at_most_the_serials = objects_bounded

-- the four numbers of the end of a collection are bounded by what the history has done before: objects and bytes by the serials given, exit items by the stores, shares by the operations
pub ended_collections_are_bounded : (trace : Trace) (before rest : List Event) (h : Heap) (objects bytes exits shares : ℕ) → AreLimits trace → HasFewFields trace → IsLegalHistory trace (before ++ Ended h objects bytes exits shares ∷ rest) → AreEndNumbers before (state_after trace before) objects bytes exits shares
ended_collections_are_bounded = end_bounded

-- each event of a legal history names what the trace declares: its process, the heaps, types and registers of its operation, the object, heap or limit of its reply, and the heap of a collection or of an absorption
pub events_are_known : (trace : Trace) (history : List Event) → AreLimits trace → IsLegalHistory trace history → AreKnownEvents trace history
events_are_known = history_known

-- a tail of a process is as long as the operations in it
pub tails_are_operations_alone : (trace : Trace) (p : ℕ) (st : State) (tail : List Event) → AreLocal trace p st tail → length tail ≡ length (done_by p tail)
tails_are_operations_alone = tail_length

-- the operations of all processes of a trace are together those of the order of its file
pub operations_are_ordered : (trace : Trace) → AreOperations trace → total (λ p. length (operations_of trace p)) (numbers_below (process_count trace)) ≡ length trace.order
operations_are_ordered = all_ordered

-- a legal history that does first operations of a trace does at most as many as the trace has
pub histories_do_the_operations_of_the_trace : (trace : Trace) (history : List Event) → AreOperations trace → IsLegalHistory trace history → DoesOperationsOf trace history → operation_count history ≤ length trace.order
histories_do_the_operations_of_the_trace = operations_bounded

-- the numbers of such a history fit: fields and numbers as in the lines of a trace, counts and serials far below 2^32, and the number in each field below 2^64
pub numbers_fit : (trace : Trace) (history : List Event) → AreOperations trace → IsLegalHistory trace history → DoesOperationsOf trace history → NumbersFit history (state_after trace history)
numbers_fit = history_fits

-- each maximum after a legal history is below 2^40: the trace gives it, or a resize has set it
pub maxima_fit : (trace : Trace) (history : List Event) → AreLimits trace → IsLegalHistory trace history → AllByRecursion (λ max. max < maximum_below) (state_after trace history).maxima
maxima_fit = maxima_small
