-- What is printed of a journal, and when it can't be.
use Rattle.std.specs.Prelude.{◌≡◌, ℕ, ◌+◌, ◌<◌, ◌≤◌, IsFalse, IsTrue, List, [], length}
use Rattle.std.specs.List.{list_all}
use Rattle.k_types.specs.declared.event.Event.{Event}
use Rattle.k_types.specs.declared.op.Op.{Op}
use Rattle.k_types.specs.declared.setup.Setup.{Setup}
use Rattle.k_types.specs.Bounds.{most_check_bytes, most_operations, most_trace_bytes}
use Rattle.k_types.specs.Complete.{all_ended}
use Rattle.k_types.specs.Steps.{IsLegalHistory, state_after}
use Rattle.k_types.specs.Trace.{Trace, trace_of}
use Rattle.k_words.specs.Words.{Text}
use Rattle.k_trace.specs.Named.{DeclaredNames, NamedTrace}
use Rattle.k_trace.specs.Rules.{IsTrace, Spells}
use Rattle.k_trace.specs.Spelling.{text}
use Rattle.k_history.specs.Verdicts.{IsAccepted}
use Rattle.k_text.specs.Report.{report_text}
use Rattle.k_spell.specs.Spelled.{AreSpelled, is_spelled_event}
use Rattle.k_state.specs.Setups.{setup_of}
use Rattle.k_solo.specs.Runs.{Run}
use Rattle.k_print.specs.declared.texts.Texts.{Texts}
use Rattle.k_print.specs.declared.errors.PrintError.{PrintError}
use Rattle.k_print.specs.declared.errors.PrintError.TheVariants.{NoMemory, Unspelled, TooMany, TooLong, Open, Over}
use Rattle.k_print.specs.Done.{order_of, trace_done}

-- what is declared, with its names, and the events of a journal
pub record Journal : Type 0 where
  pub names : DeclaredNames
  pub trace : Trace
  pub history : List Event

-- the journal of these names, of what the setup declares, with these events
abbrev pub journal_of : DeclaredNames → Setup → List Event → Journal
journal_of names setup history = record { names = names; trace = trace_of setup [] []; history = history }

-- the trace that has exactly the operations of the journal, with its names
abbrev pub named_done : Journal → NamedTrace
named_done j = record { names = j.names; trace = trace_done j.trace j.history }

-- the machine's report of the journal
abbrev pub report_of : Journal → Text
report_of j = report_text j.names j.trace j.history

-- a trace of the second version declares so, and the events are a legal history
pub record IsJournal (j : Journal) : Type 0 where
  pub operations : List (List Op)
  pub order : List ℕ
  pub is_trace : IsTrace (record { names = j.names; trace = record j.trace { operations = operations; order = order } })
  pub second : j.trace.version ≡ 2
  pub legal : IsLegalHistory j.trace j.history

-- a trace can have each operation of the journal, and all of them
pub record CanBeTraced (j : Journal) : Type 0 where
  pub spelled : AreSpelled j.history
  pub few : length (order_of j.history) ≤ most_operations

-- no collection is open, and some process lives
pub record GoesOn (j : Journal) : Type 0 where
  pub quiet : (state_after j.trace j.history).scans ≡ []
  pub some_lives : IsFalse (all_ended j.trace (state_after j.trace j.history))

-- the machine's state after the journal is shown, with its events, and all is so that both can be printed
pub record IsShown (j : Journal) (end : Run) : Type 0 where
  pub setup : end.machine.setup ≡ setup_of j.trace
  pub state : end.machine.state ≡ state_after j.trace j.history
  pub events : end.events ≡ j.history
  pub is_journal : IsJournal j
  pub can : CanBeTraced j
  pub goes_on : GoesOn j

-- a text of a trace is short enough to be read, and so are both together
abbrev pub AreFew : Text → Text → Type 0
AreFew trace report = (length trace ≤ most_trace_bytes) × (length trace + length report ≤ most_check_bytes)

-- the bytes of the trace spell it, and those of the report are accepted for it; a check reads both
pub record AreTexts (j : Journal) (texts : Texts) : Type 0 where
  pub trace : texts.trace.items ≡ text (named_done j)
  pub report : texts.report.items ≡ report_of j
  pub spelled : Spells texts.trace.items (named_done j)
  pub accepted : IsAccepted (named_done j) texts.report.items
  pub few : AreFew texts.trace.items texts.report.items

-- nothing is printed of the journal: memory ran out, no line can have an operation, a trace can't have so many, the texts would be too
-- long, a collection is open, or every process has ended
abbrev pub IsNotPrinted : Journal → PrintError → Type 0
IsNotPrinted j (NoMemory refused) = Unit {0}
IsNotPrinted j Unspelled = IsFalse (list_all is_spelled_event j.history)
IsNotPrinted j TooMany = most_operations < length (order_of j.history)
IsNotPrinted j TooLong = ¬ (AreFew (text (named_done j)) (report_of j))
IsNotPrinted j Open = ¬ ((state_after j.trace j.history).scans ≡ [])
IsNotPrinted j Over = IsTrue (all_ended j.trace (state_after j.trace j.history))
