-- Which event began a collection, told by the states, and who asked for it, told by that event alone.
use Rattle.std.specs.Prelude.{◌≡◌, ℕ, not, Bool, false, IsTrue, IsFalse, List, [], ◌∷◌, ◌++◌, Option, Some, None}
use Rattle.std.specs.List.{list_all}
use Rattle.k_types.specs.declared.event.Event.{Event}
use Rattle.k_types.specs.declared.event.Event.TheVariants.{Done, Ended, Absorbed, Closing}
use Rattle.k_types.specs.declared.names.Heap.{Heap}
use Rattle.k_types.specs.Names.{heap_eq}
use Rattle.k_types.specs.State.{is_scanned}
use Rattle.k_types.specs.Steps.{state_after}
use Rattle.k_types.specs.Trace.{Trace}
use Rattle.k_work.specs.Credits.{Credit, credits, work_in}

-- the event is the end of a collection of the heap
abbrev pub is_end_of : Heap → Event → Bool
is_end_of h (Done pid op reply) = false
is_end_of h (Ended g objects bytes exits shares) = heap_eq g h
is_end_of h (Absorbed s) = false
is_end_of h Closing = false

-- the event that began the collection of the heap that is open after the history: none is open before the event, one is open after
-- it, and no event since is the end of one
pub record Beginning (trace : Trace) (history : List Event) (h : Heap) : Type 0 where
  pub before : List Event
  pub event : Event
  pub since : List Event
  pub place : history ≡ before ++ event ∷ since
  pub idle : IsFalse (is_scanned (state_after trace before).scans h)
  pub scanned : IsTrue (is_scanned (state_after trace (before ++ event ∷ [])).scans h)
  pub unended : IsTrue (list_all (λ e. not (is_end_of h e)) since)

-- who asks for a collection by the event: its process, or, as none, the closing; nobody by the other events
abbrev pub IsAskedBy : Event → Option ℕ → Type 0
IsAskedBy (Done pid op reply) who = who ≡ Some pid.0
IsAskedBy Closing who = who ≡ None
IsAskedBy (Ended h objects bytes exits shares) who = ⊥
IsAskedBy (Absorbed s) who = ⊥

-- the end of the heap's collection comes after the known events, and its credit after theirs: to that process, or, as none, to the closing
pub record IsCredited (trace : Trace) (known : List Event) (end : Event) (rest : List Event) (h : Heap) (who : Option ℕ) : Type 0 where
  pub later : List Credit
  pub next : credits trace (known ++ end ∷ rest) ≡ credits trace known ++ record { to = who; work = work_in trace (state_after trace (known ++ end ∷ [])) h } ∷ later
