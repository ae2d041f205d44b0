-- Histories that are begun, and whether lines can spell them.
use Rattle.std.specs.Prelude.{◌<◌, ℕ, List}
use Rattle.std.specs.List.{AllByRecursion, join_with_byte}
use Rattle.k_types.specs.declared.event.Event.{Event}
use Rattle.k_types.specs.Trace.{Trace, process_count, operations_of}
use Rattle.k_types.specs.Steps.{IsLegalHistory, done_by}
use Rattle.k_types.specs.Complete.{IsPrefixOf}
use Rattle.k_words.specs.Words.{Text}
use Rattle.k_trace.specs.Named.{DeclaredNames, NamedTrace}
use Rattle.k_text.specs.EventLines.{event_words}
use Rattle.k_reports.specs.Spelled.{IsSpelledEvent}

-- The line of an event.
abbrev pub event_line : DeclaredNames → Event → Text
event_line names e = join_with_byte 32 (event_words names e)

-- The events are possible in turn, and of each process they do the first operations in their order.
pub record IsBegun (trace : Trace) (history : List Event) : Type 0 where
  pub legal : IsLegalHistory trace history
  pub in_order : (p : ℕ) → p < process_count trace → IsPrefixOf (done_by p history) (operations_of trace p)

-- Each event of a history that is begun is one that a line can spell.
abbrev pub AreAllSpelled : NamedTrace → Type 0
AreAllSpelled t = (history : List Event) → IsBegun t.trace history → AllByRecursion (IsSpelledEvent t.names) history
