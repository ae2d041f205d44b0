-- Whose collections they are, and what work each is.
use Rattle.std.specs.Prelude.{ℕ, ◌+◌, List, [], ◌∷◌, ◌++◌, Option, Some, None, length}
use Rattle.k_types.specs.declared.event.Event.{Event}
use Rattle.k_types.specs.declared.event.Event.TheVariants.{Done, Ended, Closing}
use Rattle.k_types.specs.declared.names.Heap.{Heap}
use Rattle.k_types.specs.declared.names.Heap.TheVariants.{Kernel, User, Shared}
use Rattle.k_types.specs.declared.op.Op.TheVariants.{KCollect}
use Rattle.k_types.specs.Effects.{step}
use Rattle.k_types.specs.State.{State, opening}
use Rattle.k_types.specs.Totals.{total}
use Rattle.k_types.specs.Trace.{Trace}
use Rattle.k_plain.specs.Owned.{objects_owned, references_in}

-- the work of a collection of the heap that leaves the state: the heap's objects, and their reference fields
abbrev pub work_in : Trace → State → Heap → ℕ
work_in trace st h = length (objects_owned trace st h) + total references_in (objects_owned trace st h)

-- who asked for the kernel's last collection, after the event: a process, or, as none, the closing
abbrev pub kernel_asker : Event → Option ℕ → Option ℕ
kernel_asker (Done pid KCollect reply) before = Some pid.0
kernel_asker Closing before = None
kernel_asker _ before = before

-- who asked for the heap's last collection, where this one did for the kernel's: a process alone asks for one of its own heap, and a shared
-- heap has none
abbrev pub asker_of : Option ℕ → Heap → Option ℕ
asker_of kernel Kernel = kernel
asker_of kernel (User p) = Some p.0
asker_of kernel (Shared s) = None

-- the end of a collection: who is credited, and with what work
pub record Credit : Type 0 where
  pub to : Option ℕ
  pub work : ℕ

-- what is credited for the event, which left the state: nothing but the end of a collection
abbrev pub credit_of : Trace → State → Option ℕ → Event → List Credit
credit_of trace after kernel (Ended h objects bytes exits shares) = record { to = asker_of kernel h; work = work_in trace after h } ∷ []
credit_of trace after kernel _ = []

-- the credits of the events from the state on, in order
abbrev pub credits_from : Trace → State → Option ℕ → List Event → List Credit
credits_from trace st kernel [] = []
credits_from trace st kernel (event ∷ events) =
    credit_of trace (step trace st event) kernel event ++ credits_from trace (step trace st event) (kernel_asker event kernel) events

-- the credits of a history, one for each end of a collection
abbrev pub credits : Trace → List Event → List Credit
credits trace history = credits_from trace (opening trace) None history
