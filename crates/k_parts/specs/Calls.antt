-- What the calls over parts answer, and when they are refused.
use Rattle.std.specs.Prelude.{◌≡◌, ℕ, ◌+◌, ◌≤◌, IfErr, IfNone, IfOk, IfSome, OnErr, OnOk, Option, Some, Result, Ok, Err, is_some, length, slice_get}
use Rattle.std.specs.Bool.{⊤}
use Rattle.k_types.specs.declared.event.Event.{Event}
use Rattle.k_types.specs.declared.event.Reply.{Reply}
use Rattle.k_types.specs.declared.op.Op.{Op}
use Rattle.k_types.specs.declared.op.Op.TheVariants.{Kill}
use Rattle.k_agree.specs.Shown.{idle_part}
use Rattle.k_laws.specs.Locals.{is_local_in}
use Rattle.k_ends.specs.Apart.{CanNotDoAlone, CanNotDoWithKernel, CanNotDoWithShared, HasComeAlone, HasComeWithKernel, HasComeWithShared}
use Rattle.k_ends.specs.CallsRefusals.{CanNotDoInside, CanNotPublish}
use Rattle.k_ends.specs.Came.{Came}
use Rattle.k_ends.specs.Collecting.{HasAbsorbedNow, HasExitedNow}
use Rattle.k_ends.specs.Doing.{HasDoneInside, HasPublishedAll}
use Rattle.k_ends.specs.HostError.{HostError}
use Rattle.k_ends.specs.Killing.{CanNotKill, HasTriedToKill}
use Rattle.k_ends.specs.Refusals.{CanNotAbsorb, CanNotExit}
use Rattle.k_ends.specs.Whole.{AreFreedLast, CanNotCollect, CanNotCollectKernel, HasCollected, HasCollectedKernel}
use Rattle.k_ends.specs.k_guests.Objects.{objects_after}
use Rattle.k_host.specs.declared.taking.Taken.{Taken}
use Rattle.k_parts.specs.declared.errors.PartError.{PartError}
use Rattle.k_parts.specs.declared.errors.PartError.TheVariants.{Host, Mixed}
use Rattle.k_parts.specs.Parts.{BookPartValue, GuestPartValue, Home, KernelPartValue, SharedPartValue}
use Rattle.k_parts.specs.Told.{next_event}

-- what comes of a call, where its parts are of one host
abbrev pub hosted : {T : Type 0} → Result T HostError → Result T PartError
hosted (Ok value) = Ok value
hosted (Err why) = Err (Host why)

-- two parts have one number
abbrev pub AreOne : Home → Home → Type 0
AreOne a b = a.number ≡ b.number

-- a call is refused: its parts have not all one number; or they have, and it is refused for one of these reasons
abbrev pub MayRefuse : Type 0 → (HostError → Type 0) → PartError → Type 0
MayRefuse one reason (Host why) = one × reason why
MayRefuse one reason Mixed = ¬ one

-- nothing has changed in the book's part but the book
abbrev pub HasChangedBook : BookPartValue → BookPartValue → Type 0
HasChangedBook old new = new ≡ record old { book = new.book }

-- nor but the book and the names of what was freed
abbrev pub HasCollectedOnBook : BookPartValue → BookPartValue → Type 0
HasCollectedOnBook old new = new ≡ record old { book = new.book; freed = new.freed }

-- the next event is taken out, which can still be read, and nothing else has changed
pub record HasTaken (old new : BookPartValue) (number : ℕ) (event : Event) : Type 0 where
  pub there : slice_get old.book.journal.list number ≡ Some event
  pub next : number ≡ next_event old
  pub rest : new ≡ record old { taken = number + 1 }

-- no event is there to be taken out, and nothing has changed
pub record HasTakenNone (old new : BookPartValue) : Type 0 where
  pub none : length old.book.journal.list ≤ next_event old
  pub same : new ≡ old

-- what comes of taking the next event out
pub record IsTakenOut (old new : BookPartValue) (came : Option Taken) : Type 0 where
  pub taken : IfSome came (λ t. HasTaken old new t.number t.event)
  pub none : IfNone came (HasTakenNone old new)

-- a call is lent a part, and the book's: it is done, or refused, and then nothing has changed
pub record ComesOfTwo {T A : Type 0} (home_of : A → Home) (Done : T → Type 0) (reason : HostError → Type 0) (Rest : BookPartValue → BookPartValue → Type 0) (old new : A) (old_b b : BookPartValue) (came : Result T PartError) : Type 0 where
  pub done : IfOk came Done
  pub home : home_of new ≡ home_of old
  pub rest : Rest old_b b
  pub same : OnErr came ((new ≡ old) × (b ≡ old_b))
  pub why : IfErr came (MayRefuse (AreOne (home_of old) old_b.home) reason)

-- it is lent another one besides
pub record ComesOfThree {T A C : Type 0} (home_of : A → Home) (other_home_of : C → Home) (Done : T → Type 0) (reason : HostError → Type 0) (Rest : BookPartValue → BookPartValue → Type 0) (old new : A) (old_x x : C) (old_b b : BookPartValue) (came : Result T PartError) : Type 0 where
  pub done : IfOk came Done
  pub home : home_of new ≡ home_of old
  pub other_home : other_home_of x ≡ other_home_of old_x
  pub rest : Rest old_b b
  pub same : OnErr came ((new ≡ old) × (x ≡ old_x) × (b ≡ old_b))
  pub why : IfErr came (MayRefuse (AreOne (home_of old) (other_home_of old_x) × AreOne (home_of old) old_b.home) reason)

abbrev pub home_of_guest : GuestPartValue → Home
home_of_guest p = p.home

abbrev pub home_of_kernel : KernelPartValue → Home
home_of_kernel p = p.home

abbrev pub home_of_shared : SharedPartValue → Home
home_of_shared p = p.home

-- the operation was done inside the process's heap exactly where it needs that heap alone, and else nothing has changed
pub record IsTriedInside (op : Op) (old new : GuestPartValue) (came : Result (Option Reply) HostError) : Type 0 where
  pub done : IfOk came (λ answer. IfSome answer (λ said. HasDoneInside old.home.basis op old.guest new.guest said))
  pub none : IfOk came (λ answer. IfNone answer (new ≡ old))
  pub told : IfOk came (λ answer. is_some answer ≡ is_local_in (idle_part old.guest.cell.value) old.guest.cell.pid.0 op)
  pub home : new.home ≡ old.home
  pub same : OnErr came (new ≡ old)
  pub why : IfErr came (λ why. CanNotDoInside old.home.basis op old.guest why)

-- what the process had unpublished was published
abbrev pub IsPublished : GuestPartValue → GuestPartValue → BookPartValue → BookPartValue → Result ⊤ PartError → Type 0
IsPublished old new old_b b =
    ComesOfTwo home_of_guest (λ _. HasPublishedAll old.home.basis old.guest new.guest old_b.book b.book) (CanNotPublish old.home.basis old_b.book old.guest) HasChangedBook old new old_b b

-- the operation was done, or told to touch another cell
abbrev pub IsOperated : Op → GuestPartValue → GuestPartValue → BookPartValue → BookPartValue → Result Came PartError → Type 0
IsOperated op old new old_b b =
    ComesOfTwo home_of_guest (HasComeAlone old.home.basis op old.guest new.guest old_b.book b.book) (CanNotDoAlone old.home.basis old_b.book op old.guest) HasChangedBook old new old_b b

abbrev pub IsOperatedWithKernel : Op → GuestPartValue → GuestPartValue → KernelPartValue → KernelPartValue → BookPartValue → BookPartValue → Result Came PartError → Type 0
IsOperatedWithKernel op old new old_k k old_b b =
    ComesOfThree home_of_guest home_of_kernel (HasComeWithKernel old.home.basis op old.guest new.guest old_k.kernel k.kernel old_b.book b.book) (CanNotDoWithKernel old.home.basis old_k.kernel old_b.book op old.guest) HasChangedBook old new old_k k old_b b

abbrev pub IsOperatedWithShared : Op → GuestPartValue → GuestPartValue → SharedPartValue → SharedPartValue → BookPartValue → BookPartValue → Result Came PartError → Type 0
IsOperatedWithShared op old new old_s s old_b b =
    ComesOfThree home_of_guest home_of_shared (HasComeWithShared old.home.basis op old.guest new.guest old_s.heap s.heap old_b.book b.book) (CanNotDoWithShared old.home.basis old_s.heap old_b.book op old.guest) HasChangedBook old new old_s s old_b b

-- the names of what the last collection freed are in the book's part, where that has room for as many as there were objects
abbrev pub AreNamesKept : {T : Type 0} → Home → BookPartValue → BookPartValue → Result T PartError → Type 0
AreNamesKept home old_b b came = objects_after home.basis.trace old_b.book.journal.list ≤ old_b.room → OnOk came (AreFreedLast home.basis.trace b.book.journal.list b.freed)

-- the process's heap was collected, or the kernel's
abbrev pub IsCollected : GuestPartValue → GuestPartValue → BookPartValue → BookPartValue → Result Event PartError → Type 0
IsCollected old new old_b b =
    ComesOfTwo home_of_guest (HasCollected old.home.basis old.guest new.guest old_b.book b.book) (CanNotCollect old.home.basis old_b.book old.guest) HasCollectedOnBook old new old_b b

abbrev pub IsCollectedKernel : GuestPartValue → GuestPartValue → KernelPartValue → KernelPartValue → BookPartValue → BookPartValue → Result Event PartError → Type 0
IsCollectedKernel old new old_k k old_b b =
    ComesOfThree home_of_guest home_of_kernel (HasCollectedKernel old.home.basis old.guest new.guest k.kernel old_b.book b.book) (CanNotCollectKernel old.home.basis old_k.kernel old_b.book old.guest) HasCollectedOnBook old new old_k k old_b b

-- the process has ended
abbrev pub IsExited : GuestPartValue → GuestPartValue → KernelPartValue → KernelPartValue → BookPartValue → BookPartValue → Result Event PartError → Type 0
IsExited old new old_k k old_b b =
    ComesOfThree home_of_guest home_of_kernel (HasExitedNow old.home.basis old.guest new.guest k.kernel old_b.book b.book) (CanNotExit old.home.basis old_k.kernel old_b.book old.guest) HasChangedBook old new old_k k old_b b

-- the shared heap was absorbed
abbrev pub IsAbsorbed : SharedPartValue → SharedPartValue → KernelPartValue → KernelPartValue → BookPartValue → BookPartValue → Result Event PartError → Type 0
IsAbsorbed old new old_k k old_b b =
    ComesOfThree home_of_shared home_of_kernel (HasAbsorbedNow old.home.basis old.heap new.heap k.kernel old_b.book b.book) (CanNotAbsorb old.home.basis old_k.kernel old_b.book old.heap.id) HasChangedBook old new old_k k old_b b

-- the process's kill of the target was done
pub record IsKilled (old new old_t t : GuestPartValue) (old_k k : KernelPartValue) (old_b b : BookPartValue) (came : Result Event PartError) : Type 0 where
  pub done : IfOk came (HasTriedToKill old.home.basis (Kill old_t.guest.cell.pid) old.guest new.guest old_t.guest t.guest old_k.kernel k.kernel old_b.book b.book)
  pub home : new.home ≡ old.home
  pub target_home : t.home ≡ old_t.home
  pub kernel_home : k.home ≡ old_k.home
  pub rest : HasChangedBook old_b b
  pub same : OnErr came ((new ≡ old) × (t ≡ old_t) × (k ≡ old_k) × (b ≡ old_b))
  pub why : IfErr came (MayRefuse (AreOne old.home old_t.home × AreOne old.home old_k.home × AreOne old.home old_b.home) (CanNotKill old.home.basis old_k.kernel old_b.book (Kill old_t.guest.cell.pid) old_t.guest old.guest))
