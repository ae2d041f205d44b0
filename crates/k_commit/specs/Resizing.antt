-- Limits that stand below a process's, and another maximum of one.
use Rattle.std.specs.Prelude.{◌≡◌, ◌<◌, ℕ, length}
use Rattle.k_types.specs.declared.event.Fault.TheVariants.{InUse, LimitFull}
use Rattle.k_types.specs.declared.event.Reply.{Reply}
use Rattle.k_types.specs.declared.event.Reply.TheVariants.{Refused}
use Rattle.k_types.specs.declared.names.LimitId.{LimitId}
use Rattle.k_types.specs.declared.names.Pid.{Pid}
use Rattle.k_types.specs.declared.op.Op.TheVariants.{Resize}
use Rattle.k_types.specs.Agree.{book_shown_by}
use Rattle.k_types.specs.Bounds.{maximum_below}
use Rattle.k_types.specs.Cells.{Cell, CellPart}
use Rattle.k_types.specs.Trace.{Trace, process_count}
use Rattle.k_book.specs.Books.{BookRecord}
use Rattle.k_book.specs.Machine.{IsBookOf}
use Rattle.k_book.specs.k_laws.BookChanges.{with_max}
use Rattle.k_limits.specs.declared.error.ResizeRefusal.{ResizeRefusal}
use Rattle.k_limits.specs.declared.error.ResizeRefusal.TheVariants.{InUse as UsedUp, Full}
use Rattle.k_agree.specs.Answers.{reply_in}
use Rattle.k_agree.specs.CellAfter.{unless_refused}
use Rattle.k_commit.specs.Standing.{BookStands}

-- the book is of the trace, of which the process and the limit are
pub record CanCompare (trace : Trace) (book : BookRecord) (p m : ℕ) : Type 0 where
  pub of_trace : IsBookOf trace book
  pub known : p < process_count trace
  pub limit : m < length trace.limits

-- the book stands, the process and the limit are of its trace, and a limit may have that maximum
pub record CanResize (trace : Trace) (book : BookRecord) (p m max : ℕ) : Type 0 where
  pub stands : BookStands trace book
  pub known : p < process_count trace
  pub limit : m < length trace.limits
  pub small : max < maximum_below

-- what the operation is answered where the tree keeps the maximum
abbrev pub refused_by : LimitId → ResizeRefusal → Reply
refused_by limit UsedUp = Refused (InUse limit)
refused_by limit (Full full) = Refused (LimitFull full)

-- the operation is answered as the machine answers it, whatever the cells; the limit has the maximum unless it is refused, and nothing
-- else has changed
pub record HasResized (trace : Trace) (old new : BookRecord) (pid : Pid) (limit : LimitId) (max : ℕ) (said : Reply) : Type 0 where
  pub book_is : new ≡ record old { value = record old.value { maxima = new.value.maxima } }
  pub answered : (parts : Cell → CellPart) → said ≡ reply_in trace (book_shown_by old.value) parts pid.0 (Resize limit max)
  pub changed : book_shown_by new.value ≡ unless_refused said (with_max limit.0 max (book_shown_by old.value)) (book_shown_by old.value)
