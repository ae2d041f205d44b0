-- The pen of a watched run.
use Rattle.std.proofs.Common.{◌≡◌, List, Option, Some, None, refl}
use Rattle.atomic_table.specs.Seated.{TableId}
use Rattle.k_types.specs.declared.event.Event.{Event}
use Rattle.k_types.specs.Trace.{Trace}
use Rattle.k_opening.specs.k_locks.k_watch.Shown.{WasShown}
use Rattle.k_opening.specs.k_locks.k_watch.Values.{PenValue}

-- where there is a cell there is a pen
pub has_pen : (cell : TableId) (trace : Trace) (history : List Event) (pen : Option PenValue) → WasShown (Some cell) trace history pen → ((p : PenValue) → pen ≡ Some p → ⊥) → ⊥
has_pen cell trace history None shown none = shown
has_pen cell trace history (Some p) shown none = none p refl
