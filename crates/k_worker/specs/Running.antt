-- What is known of a process between two locks, and what is done under them.
use Rattle.std.specs.Prelude.{◌≡◌, ◌≢◌, Bool, IsFalse, IsTrue, [], ◌∷◌, ◌++◌, Option, None, Some}
use Rattle.k_types.specs.declared.event.Event.TheVariants.{Absorbed}
use Rattle.k_types.specs.declared.names.CellPhase.TheVariants.{Begun}
use Rattle.k_types.specs.declared.names.SharedId.{SharedId}
use Rattle.k_types.specs.declared.op.Op.{Op}
use Rattle.k_types.specs.declared.op.Op.TheVariants.{Exit, KCollect, Kill}
use Rattle.k_types.specs.Agree.{book_shown_by}
use Rattle.k_types.specs.Cells.{Cell}
use Rattle.k_types.specs.Trace.{Trace}
use Rattle.k_laws.specs.Touches.{other_cells_in}
use Rattle.k_agree.specs.Shown.{idle_part}
use Rattle.k_shares.specs.Sharers.{lowest_orphan}
use Rattle.k_locks.specs.k_process.k_book.Books.{BookRecord}
use Rattle.k_locks.specs.k_process.k_heap.Heaps.{HeapRecord}
use Rattle.k_locks.specs.k_process.k_cell.Holdings.{HoldingsValue}
use Rattle.k_locks.specs.k_process.Keeping.{BookKeeps, KernelKeeps}
use Rattle.k_operate.specs.Reach.{Reach}
use Rattle.k_operate.specs.Reach.TheVariants.{Own, Kernel, Shared, End}
use Rattle.k_worker.specs.declared.turns.Turn.{Turn}
use Rattle.k_worker.specs.declared.turns.Turn.TheVariants.{Done, Over, Kills}
use Rattle.k_operate.specs.Readiness.{IsOutside, IsReady}
use Rattle.k_operate.specs.Collecting.{HasSameLeft, KernelCollects}
use Rattle.k_locks.specs.k_process.BetweenSteps.{ComesNext, HasDone}
use Rattle.k_locks.specs.k_process.Worlds.{WorldValue}

-- the process has done the operation where the answer is yes; where it is no, nothing changed and the operation is not local
pub record HasDoneUnless (trace : Trace) (op : Op) (old new : HeapRecord) (answer : Bool) : Type 0 where
  pub done : IsTrue answer → HasDone trace op old new
  pub same : IsFalse answer → new ≡ old
  pub outside : IsFalse answer → IsOutside trace new op

-- the operation still comes next, does not end its process, and touches another cell than the own one, as the cell told and a book of the run
-- whose whole journal the cell's note knows
pub record IsLeft (world : WorldValue) (c : HeapRecord) (op : Op) : Type 0 where
  pub next : ComesNext world.trace c op
  pub stays : op ≢ Exit
  pub book : BookRecord
  pub keeps : BookKeeps world.trace world.table book
  pub met : c.note.list ≡ book.journal.list
  pub touches : other_cells_in world.trace (book_shown_by book.value) (idle_part c.value) c.pid.0 op ≢ []

-- the process has done an operation; or none comes next, or the one that does is left; or what comes next is the kill of that process
abbrev pub HasTakenTurn : WorldValue → HeapRecord → HeapRecord → Turn → Type 0
HasTakenTurn world old new Done = (op : Op) × HasDone world.trace op old new
HasTakenTurn world old new Over = (op : Op) → ComesNext world.trace old op → IsLeft world new op
HasTakenTurn world old new (Kills q) = ComesNext world.trace old (Kill q) × IsLeft world new (Kill q)

-- the events before the operation are published, and it is ready for a step with the other cell that it touches
pub record IsReadyBeside (world : WorldValue) (op : Op) (old new : HeapRecord) : Type 0 where
  pub ready : IsReady world.trace new op
  pub same : HasSameLeft world.trace old new
  pub left : IsLeft world new op

-- the operation was done where it reaches no other cell; else it is ready, and where it reaches the end of a process, it is its kill
abbrev pub IsReadyFor : Reach → WorldValue → Op → HeapRecord → HeapRecord → Type 0
IsReadyFor Own world op old new = HasDone world.trace op old new
IsReadyFor Kernel world op old new = IsReadyBeside world op old new
IsReadyFor (Shared id) world op old new = IsReadyBeside world op old new
IsReadyFor (End q) world op old new = IsReadyBeside world op old new × (op ≡ Kill q)

-- the process has done the operation where the answer is yes; where it is no, nothing changed, and the operation does not touch just that
-- cell beside the own one, as cell and book told
pub record HasDoneBeside (trace : Trace) (op : Op) (beside : Cell) (old new : HeapRecord) (book : BookRecord) (answer : Bool) : Type 0 where
  pub done : IsTrue answer → HasDone trace op old new
  pub same : IsFalse answer → new ≡ old
  pub elsewhere : IsFalse answer → other_cells_in trace (book_shown_by book.value) (idle_part old.value) old.pid.0 op ≢ beside ∷ []

-- `kcollect` still comes next of the process, which has done nothing
pub record WaitsToCollect (world : WorldValue) (old new : HeapRecord) : Type 0 where
  pub left : IsLeft world new KCollect
  pub same : HasSameLeft world.trace old new

-- an orphan is in the way, the kernel's cell keeps what its lock asks, and `kcollect` still comes next; else the process has done it, and
-- the collection of the kernel's heap has begun
abbrev pub HasBegunUnless : Option SharedId → WorldValue → HeapRecord → HeapRecord → HoldingsValue → Type 0
HasBegunUnless (Some orphan) world old new kernel = WaitsToCollect world old new × KernelKeeps world.trace world.table kernel
HasBegunUnless None world old new kernel = HasDone world.trace KCollect old new × KernelCollects world Begun kernel

-- an orphan was in the way, and `kcollect` still comes next; else the process has done it
abbrev pub HasCollectedUnless : Option SharedId → WorldValue → HeapRecord → HeapRecord → Type 0
HasCollectedUnless (Some orphan) world old new = WaitsToCollect world old new
HasCollectedUnless None world old new = HasDone world.trace KCollect old new

-- where the shared heap was the first orphan, its absorption is the newest event of the book's journal
abbrev pub IsAbsorbedIfFirst : SharedId → BookRecord → BookRecord → Type 0
IsAbsorbedIfFirst id old new = lowest_orphan old.value.phases old.value.shares ≡ Some id.0 → new.journal.list ≡ old.journal.list ++ Absorbed id ∷ []

-- the process has done the kill of the other, which has done nothing, where the answer is yes; where it is no, neither changed, and that kill
-- does not come next
pub record HasKilledUnless (trace : Trace) (old new target new_target : HeapRecord) (answer : Bool) : Type 0 where
  pub done : IsTrue answer → HasDone trace (Kill target.pid) old new
  pub spared : HasSameLeft trace target new_target
  pub same : IsFalse answer → new ≡ old
  pub target_same : IsFalse answer → new_target ≡ target
  pub none : IsFalse answer → ComesNext trace old (Kill target.pid) → ⊥
