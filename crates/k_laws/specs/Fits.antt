-- When what a history names is the trace's, and when its numbers fit.
use Rattle.std.specs.Prelude.{◌<◌, ◌≤◌, ℕ, ◌+◌, ◌*◌, ◌^◌, IsTrue, List, length, slice_index_or}
use Rattle.std.specs.List.{AllByRecursion}
use Rattle.k_types.specs.declared.names.Name.{Name}
use Rattle.k_types.specs.declared.event.Event.{Event}
use Rattle.k_types.specs.declared.event.Event.TheVariants.{Done, Ended, Absorbed, Closing}
use Rattle.k_types.specs.Bounds.{most_fields, most_operations}
use Rattle.k_types.specs.Totals.{total}
use Rattle.k_types.specs.Types.{HaveFewFields, object_size}
use Rattle.k_types.specs.Trace.{Trace, operations_of, process_count}
use Rattle.k_types.specs.TraceRules.{is_spelled}
use Rattle.k_types.specs.State.{Object, State}
use Rattle.k_types.specs.Owners.{object_bytes}
use Rattle.k_types.specs.Replies.{field_at, number_in}
use Rattle.k_types.specs.Known.{IsKnownEvent}
use Rattle.k_types.specs.Complete.{IsPrefixOf}
use Rattle.k_types.specs.Steps.{done_by}
use Rattle.k_types.specs.Sound.{IsTyped}
use Rattle.k_laws.specs.Counts.{operation_count, store_count}

-- each event names what the trace declares
abbrev pub AreKnownEvents : Trace → List Event → Type 0
AreKnownEvents trace history = AllByRecursion (IsKnownEvent trace) history

-- no type of the trace, and not the directory, has more fields than a trace may give an object
pub record HasFewFields (trace : Trace) : Type 0 where
  pub types : HaveFewFields trace.types
  pub directory : trace.dir_fields ≤ most_fields

-- the object has a type of the trace, or is the directory and has none; it has the fields of its type, and few
pub record FitsItsType (trace : Trace) (o : Object) : Type 0 where
  pub typed : IsTyped trace o
  pub few : length o.fields ≤ most_fields

-- the serials that all segments together have given
abbrev pub serials_given : State → ℕ
serials_given st = total (λ given. given) st.made

-- the objects are at most the serials given, and take at most the bytes of as many objects of the most fields
pub record AreAtMostTheSerials (st : State) : Type 0 where
  pub objects : length st.objects ≤ serials_given st
  pub bytes : total object_bytes st.objects ≤ object_size most_fields * length st.objects

-- what goes at the end of a collection is at most what was there: objects by the serials given, bytes by as many of the most
-- fields, exit items by the stores done and shares by the operations done before
pub record AreEndNumbers (before : List Event) (st : State) (objects bytes exits shares : ℕ) : Type 0 where
  pub objects_fit : objects ≤ serials_given st
  pub bytes_fit : bytes ≤ object_size most_fields * serials_given st
  pub exits_fit : exits ≤ store_count before
  pub shares_fit : shares ≤ operation_count before

-- the history has the first operations of each process of the trace, in order
abbrev pub DoesOperationsOf : Trace → List Event → Type 0
DoesOperationsOf trace history = (p : ℕ) → p < process_count trace → IsPrefixOf (done_by p history) (operations_of trace p)

-- an operation has fields and numbers such as a line can have
abbrev pub IsSpelledEvent : Event → Type 0
IsSpelledEvent (Done pid op said) = IsTrue (is_spelled op)
IsSpelledEvent (Ended h objects bytes exits shares) = Unit {0}
IsSpelledEvent (Absorbed s) = Unit {0}
IsSpelledEvent Closing = Unit {0}

-- the operations done are at most those that a trace may have, the serials of a segment one more, and each number that a field
-- holds has 64 bits
pub record NumbersFit (history : List Event) (st : State) : Type 0 where
  pub spelled : AllByRecursion IsSpelledEvent history
  pub operations : operation_count history ≤ most_operations
  pub serials : (seg : ℕ) → slice_index_or st.made seg 0 ≤ 1 + most_operations
  pub numbers : (x : Name) (i : ℕ) → number_in (field_at st x i) < 2 ^ 64
