-- What an operation asks and leaves where the cells that it touches are lent one by one.
use Rattle.std.specs.Prelude.{◌≡◌, ◌⊎◌, IsFalse, IsTrue, List, [], ◌∷◌}
use Rattle.k_types.specs.declared.event.Event.{Event}
use Rattle.k_types.specs.declared.event.Event.TheVariants.{Done}
use Rattle.k_types.specs.declared.event.Reply.{Reply}
use Rattle.k_types.specs.declared.names.CellPhase.TheVariants.{Idle}
use Rattle.k_types.specs.declared.names.Heap.TheVariants.{Kernel, Shared}
use Rattle.k_types.specs.declared.op.Op.{Op}
use Rattle.k_types.specs.Cells.{Cell}
use Rattle.k_laws.specs.Locals.{is_local_in}
use Rattle.k_agree.specs.Shown.{idle_part}
use Rattle.k_book.specs.Books.{BookRecord}
use Rattle.k_cell.specs.Holdings.{HoldingsValue}
use Rattle.k_operate.specs.Reaching.{cells_of}
use Rattle.k_operate.specs.Reach.{Reach}
use Rattle.k_shared.specs.SharedHeaps.{SharedRecord}
use Rattle.k_guests.specs.declared.guest.Guest.{Guest}
use Rattle.k_guests.specs.Serving.{Basis, KeepsPair, KernelServes, SharedServes}
use Rattle.k_calls.specs.declared.came.Came.{Came}
use Rattle.k_calls.specs.declared.came.Came.TheVariants.{Did, Needs}
use Rattle.k_calls.specs.declared.errors.HostError.{HostError}
use Rattle.k_calls.specs.declared.errors.HostError.TheVariants.{Full}
use Rattle.k_calls.specs.Adding.{HasSharedRoom}
use Rattle.k_calls.specs.Doing.{HasDoneAlone, HasDoneInside, HasEventsLeft, IsDue, IsPublishedWhereFull, provided_for, touched_by}
use Rattle.k_calls.specs.Refusals.{IsKernelBarred, IsNotReady, IsOwnBarred, Lacks, LacksRoom}

-- the operation needs the process's heap alone and was done inside it. All that is unpublished then is published where no event more can
-- be unpublished, and else the book has not changed
pub record IsDoneInside (basis : Basis) (op : Op) (old g : Guest) (old_b b : BookRecord) (event : Event) : Type 0 where
  pub own : IsTrue (is_local_in (idle_part old.cell.value) old.cell.pid.0 op)
  pub said : Reply
  pub event_is : event ≡ Done old.cell.pid op said
  pub mid : Guest
  pub inside : HasDoneInside basis op old mid said
  pub published : IsPublishedWhereFull basis mid g old_b b
  pub keeps : KeepsPair basis old g old_b b

-- the operation is due with the cells that are told, and nothing has changed
pub record IsLeft (basis : Basis) (op : Op) (old g : Guest) (old_b b : BookRecord) (reached : Reach) : Type 0 where
  pub due : IsDue basis old old_b op (cells_of reached)
  pub guest_is : g ≡ old
  pub book_is : b ≡ old_b

-- the operation was done where it needs the process's heap alone, and else it is told what it touches
abbrev pub HasTriedInside : Basis → Op → Guest → Guest → BookRecord → BookRecord → Came → Type 0
HasTriedInside basis op old g old_b b (Did event) = IsDoneInside basis op old g old_b b event
HasTriedInside basis op old g old_b b (Needs reached) = IsLeft basis op old g old_b b reached

-- the operation does not need the process's heap alone and touches these cells beside the own. Its event is appended behind what the
-- process had unpublished, and an allocation has taken a body of its type from the supply if one was there
pub record IsRecordedWith (basis : Basis) (op : Op) (cells : List Cell) (old g : Guest) (old_b b : BookRecord) (event : Event) : Type 0 where
  pub outside : IsFalse (is_local_in (idle_part old.cell.value) old.cell.pid.0 op)
  pub touches : touched_by basis old old_b op ≡ cells
  pub alone : HasDoneAlone basis op (provided_for basis op old) g old_b b event

-- the same with the kernel's cell, which serves still and whose heap is not collected
pub record IsRecordedWithKernel (basis : Basis) (op : Op) (old g : Guest) (k : HoldingsValue) (old_b b : BookRecord) (event : Event) : Type 0 where
  pub recorded : IsRecordedWith basis op (Kernel ∷ []) old g old_b b event
  pub kernel : KernelServes basis b.journal.table k
  pub idle : k.value.collection ≡ Idle

-- the same with the cell of a shared heap, which serves still
pub record IsRecordedWithShared (basis : Basis) (op : Op) (old g : Guest) (old_s s : SharedRecord) (old_b b : BookRecord) (event : Event) : Type 0 where
  pub recorded : IsRecordedWith basis op (Shared old_s.id ∷ []) old g old_b b event
  pub shared : SharedServes basis b.journal.table s
  pub same : s.id ≡ old_s.id

-- other cells are touched than those that are lent: nothing has changed
pub record IsLeftTo (basis : Basis) (op : Op) (lent : List Cell) (old g : Guest) (old_b b : BookRecord) (reached : Reach) : Type 0 where
  pub left : IsLeft basis op old g old_b b reached
  pub others : ¬ (cells_of reached ≡ lent)

-- what comes of an operation that is lent the process and the book alone
abbrev pub HasComeAlone : Basis → Op → Guest → Guest → BookRecord → BookRecord → Came → Type 0
HasComeAlone basis op old g old_b b (Did event) = IsDoneInside basis op old g old_b b event ⊎ IsRecordedWith basis op [] old g old_b b event
HasComeAlone basis op old g old_b b (Needs reached) = IsLeftTo basis op [] old g old_b b reached

-- what comes of one that is lent the kernel's cell too
abbrev pub HasComeWithKernel : Basis → Op → Guest → Guest → HoldingsValue → HoldingsValue → BookRecord → BookRecord → Came → Type 0
HasComeWithKernel basis op old g old_k k old_b b (Did event) =
    (IsDoneInside basis op old g old_b b event × (k ≡ old_k)) ⊎ IsRecordedWithKernel basis op old g k old_b b event
HasComeWithKernel basis op old g old_k k old_b b (Needs reached) = IsLeftTo basis op (Kernel ∷ []) old g old_b b reached × (k ≡ old_k)

-- what comes of one that is lent the cell of a shared heap too
abbrev pub HasComeWithShared : Basis → Op → Guest → Guest → SharedRecord → SharedRecord → BookRecord → BookRecord → Came → Type 0
HasComeWithShared basis op old g old_s s old_b b (Did event) =
    (IsDoneInside basis op old g old_b b event × (s ≡ old_s)) ⊎ IsRecordedWithShared basis op old g old_s s old_b b event
HasComeWithShared basis op old g old_s s old_b b (Needs reached) = IsLeftTo basis op (Shared old_s.id ∷ []) old g old_b b reached × (s ≡ old_s)

-- the operation touches this shared heap, which has no room for what it adds
pub record IsHeapBarred (basis : Basis) (g : Guest) (s : SharedRecord) (b : BookRecord) (op : Op) (why : HostError) : Type 0 where
  pub touches : touched_by basis g b op ≡ Shared s.id ∷ []
  pub barred : LacksRoom op (HasSharedRoom basis s b op) why

-- the process can't do any operation: it is not ready, or the journal is full
abbrev pub CanNotTry : Basis → BookRecord → Op → Guest → HostError → Type 0
CanNotTry basis b op g why = IsNotReady basis g op why ⊎ Lacks Full (HasEventsLeft basis g b) why

-- the process can't do one that touches its own cell alone, the kernel's, or that of this shared heap
abbrev pub CanNotDoAlone : Basis → BookRecord → Op → Guest → HostError → Type 0
CanNotDoAlone basis b op g why = CanNotTry basis b op g why ⊎ IsOwnBarred basis g b op why

abbrev pub CanNotDoWithKernel : Basis → HoldingsValue → BookRecord → Op → Guest → HostError → Type 0
CanNotDoWithKernel basis k b op g why = CanNotTry basis b op g why ⊎ IsKernelBarred basis g k b op why

abbrev pub CanNotDoWithShared : Basis → SharedRecord → BookRecord → Op → Guest → HostError → Type 0
CanNotDoWithShared basis s b op g why = CanNotTry basis b op g why ⊎ IsHeapBarred basis g s b op why
