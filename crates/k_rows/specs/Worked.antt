-- What is claimed of a worked history.
use Rattle.std.specs.Prelude.{◌≡◌, List}
use Rattle.k_types.specs.declared.event.Event.{Event}
use Rattle.k_types.specs.Complete.{IsComplete}
use Rattle.k_types.specs.FileOrder.{file_order}
use Rattle.k_types.specs.Steps.{IsLegalHistory, IsPossible, state_after}
use Rattle.k_types.specs.TraceRules.{KeepsRules}
use Rattle.k_rows.specs.Words.{Header, Undone, trace_asking, trace_doing}
use Rattle.k_rows.specs.Lefts.{Left, left_by}

-- the trace of the history's operations keeps the rules; the history is legal and complete for it and the one in the order of
-- the file; and it leaves that
pub record IsWorked (header : Header) (history : List Event) (left : Left) : Type 0 where
  pub rules : KeepsRules (trace_doing header history)
  pub legal : IsLegalHistory (trace_doing header history) history
  pub complete : IsComplete (trace_doing header history) history
  pub filed : file_order (trace_doing header history) ≡ history
  pub leaves : left_by (trace_doing header history) history ≡ left

-- the same of a trace with these lines behind, which give no event
pub record IsCut (header : Header) (history : List Event) (undone : List Undone) (left : Left) : Type 0 where
  pub rules : KeepsRules (trace_asking header history undone)
  pub legal : IsLegalHistory (trace_asking header history undone) history
  pub complete : IsComplete (trace_asking header history undone) history
  pub filed : file_order (trace_asking header history undone) ≡ history
  pub leaves : left_by (trace_asking header history undone) history ≡ left

-- the same of a history that is not in the order of the file, and may have an open collection
pub record IsInterleaved (header : Header) (history : List Event) (left : Left) : Type 0 where
  pub rules : KeepsRules (trace_doing header history)
  pub legal : IsLegalHistory (trace_doing header history) history
  pub leaves : left_by (trace_doing header history) history ≡ left

-- the history is legal for the trace of its operations, and the event is not possible after it
pub record IsImpossibleAfter (header : Header) (history : List Event) (event : Event) : Type 0 where
  pub legal : IsLegalHistory (trace_doing header history) history
  pub not : IsPossible (trace_doing header history) (state_after (trace_doing header history) history) event → ⊥
