-- What operations charge.
use Rattle.std.specs.Prelude.{ℕ, Bool, false, ◌==◌, Option, Some, None, if◌then◌else◌}
use Rattle.k_types.specs.declared.names.Heap.TheVariants.{Shared}
use Rattle.k_types.specs.declared.op.Op.{Op}
use Rattle.k_types.specs.declared.op.Op.TheVariants.{New, KNew, SNew, Store, Load, Move, Clear, Dir, Put, Get, Collect, KCollect, Share, Freeze, Attach, Exit, Kill, Resize}
use Rattle.k_types.specs.declared.event.Fault.{Fault}
use Rattle.k_types.specs.declared.event.Event.{Event}
use Rattle.k_types.specs.declared.event.Event.TheVariants.{Done}
use Rattle.k_types.specs.Trace.{Trace, size_of_type}
use Rattle.k_types.specs.State.{State, has_share}
use Rattle.k_types.specs.Owners.{bytes_of}
use Rattle.k_types.specs.Replies.{faults, first_fault}

-- the bytes that the operation adds to what its process is charged, where it isn't refused
abbrev pub bytes_charged : Trace → State → ℕ → Op → ℕ
bytes_charged trace st p (New r ty) = size_of_type trace ty
bytes_charged trace st p (KNew r ty) = 0
bytes_charged trace st p (SNew r s ty) = size_of_type trace ty
bytes_charged trace st p (Store base i value) = 0
bytes_charged trace st p (Load r base i) = 0
bytes_charged trace st p (Move r from) = 0
bytes_charged trace st p (Clear r) = 0
bytes_charged trace st p (Dir r) = 0
bytes_charged trace st p (Put base i number) = 0
bytes_charged trace st p (Get base i) = 0
bytes_charged trace st p Collect = 0
bytes_charged trace st p KCollect = 0
bytes_charged trace st p (Share s) = 0
bytes_charged trace st p (Freeze s root) = 0
bytes_charged trace st p (Attach r s) = if has_share st.shares p s.0 then 0 else bytes_of trace st (Shared s)
bytes_charged trace st p Exit = 0
bytes_charged trace st p (Kill q) = 0
bytes_charged trace st p (Resize m max) = 0

-- a refused operation adds nothing
abbrev pub charged_unless : Option Fault → ℕ → ℕ
charged_unless None bytes = bytes
charged_unless (Some fault) bytes = 0

-- the bytes that the operation adds to what its process is charged
abbrev pub bytes_added : Trace → State → ℕ → Op → ℕ
bytes_added trace st p op = charged_unless (first_fault (faults trace st p op)) (bytes_charged trace st p op)

-- the event is an operation of the process
abbrev pub is_done_by : Event → ℕ → Bool
is_done_by (Done pid op said) q = pid.0 == q
is_done_by _ q = false
