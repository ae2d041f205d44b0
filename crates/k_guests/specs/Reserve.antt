-- What an event may add to the exit items of the kernel's heap, where as many are kept back for the end of each process.
use Rattle.std.specs.Prelude.{ℕ, ◌+◌, ◌*◌, ◌<◌, ◌≤◌, IsFalse, IsTrue}
use Rattle.k_types.specs.declared.event.Event.{Event}
use Rattle.k_types.specs.declared.event.Event.TheVariants.{Done, Ended, Absorbed, Closing}
use Rattle.k_types.specs.declared.names.Heap.TheVariants.{Kernel}
use Rattle.k_types.specs.declared.op.Op.{Op}
use Rattle.k_types.specs.declared.op.Op.TheVariants.{New, KNew, SNew, Store, Load, Move, Clear, Dir, Put, Get, Collect, KCollect, Share, Freeze, Attach, Exit, Kill, Resize}
use Rattle.k_types.specs.Cells.{touches}
use Rattle.k_types.specs.Names.{among}
use Rattle.k_types.specs.Owners.{user}
use Rattle.k_types.specs.State.{State}
use Rattle.k_types.specs.Trace.{Trace, process_count}
use Rattle.k_laws.specs.Counts.{exit_count}
use Rattle.k_shares.specs.Sharers.{living_of}

-- the exit items of the kernel's heap, and so many for each process that lives
abbrev pub kept_for : Trace → ℕ → State → ℕ
kept_for trace each st = exit_count st.exits Kernel + each * living_of st.ended (process_count trace)

-- the operation of the process is no store that touches the kernel's cell where all is kept back, and ends no process that has more exit items than are
-- kept back for it
abbrev pub SparesByOp : Trace → ℕ → ℕ → State → ℕ → Op → Event → Type 0
SparesByOp trace each all st p (Store base i value) event = IsTrue (touches trace st event Kernel) → kept_for trace each st < all
SparesByOp trace each all st p Exit event = exit_count st.exits (user p) ≤ each
SparesByOp trace each all st p (Kill q) event = IsFalse (among q.0 st.ended) → exit_count st.exits (user q.0) ≤ each
SparesByOp trace each all st p (New r ty) event = Unit {0}
SparesByOp trace each all st p (KNew r ty) event = Unit {0}
SparesByOp trace each all st p (SNew r s ty) event = Unit {0}
SparesByOp trace each all st p (Load r base i) event = Unit {0}
SparesByOp trace each all st p (Move r from) event = Unit {0}
SparesByOp trace each all st p (Clear r) event = Unit {0}
SparesByOp trace each all st p (Dir r) event = Unit {0}
SparesByOp trace each all st p (Put base i number) event = Unit {0}
SparesByOp trace each all st p (Get base i) event = Unit {0}
SparesByOp trace each all st p Collect event = Unit {0}
SparesByOp trace each all st p KCollect event = Unit {0}
SparesByOp trace each all st p (Share s) event = Unit {0}
SparesByOp trace each all st p (Freeze s root) event = Unit {0}
SparesByOp trace each all st p (Attach r s) event = Unit {0}
SparesByOp trace each all st p (Resize m max) event = Unit {0}

-- the event takes no exit item of the kernel's heap that is kept back for another end
abbrev pub Spares : Trace → ℕ → ℕ → State → Event → Type 0
Spares trace each all st (Done pid op said) = SparesByOp trace each all st pid.0 op (Done pid op said)
Spares trace each all st (Ended h objects bytes exits shares) = Unit {0}
Spares trace each all st (Absorbed s) = Unit {0}
Spares trace each all st Closing = Unit {0}
