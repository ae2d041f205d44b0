-- What is known of a process's next operation while its cell is held, whatever the events of others.
use Rattle.std.specs.Prelude.{◌≡◌, Bool, true, false, IsFalse, []}
use Rattle.k_types.specs.declared.op.Op.{Op}
use Rattle.k_types.specs.declared.op.Op.TheVariants.{Collect, Exit, KCollect}
use Rattle.k_types.specs.Trace.{Trace}
use Rattle.k_process.specs.k_heap.Heaps.{HeapRecord}
use Rattle.k_agree.specs.Shown.{idle_part}
use Rattle.k_laws.specs.Locals.{is_local_in}
use Rattle.k_process.specs.BetweenSteps.{ComesNext}

-- the operation begins a collection, or ends its process: it is done by calls of its own, all others are done by a step
abbrev pub begins_or_ends : Op → Bool
begins_or_ends Collect = true
begins_or_ends KCollect = true
begins_or_ends Exit = true
begins_or_ends _ = false

-- the operation comes next, and is not local
pub record IsOutside (trace : Trace) (c : HeapRecord) (op : Op) : Type 0 where
  pub next : ComesNext trace c op
  pub outside : IsFalse (is_local_in (idle_part c.value) c.pid.0 op)

-- so it is unless it was done
abbrev pub IsOutsideUnless : Bool → Trace → HeapRecord → Op → Type 0
IsOutsideUnless done trace c op = IsFalse done → IsOutside trace c op

-- the operation comes next, needs another cell or the book, and nothing is unpublished
pub record IsReady (trace : Trace) (c : HeapRecord) (op : Op) : Type 0 where
  pub next : ComesNext trace c op
  pub outside : IsFalse (is_local_in (idle_part c.value) c.pid.0 op)
  pub settled : c.value.tail ≡ []
