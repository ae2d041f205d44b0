-- What the calls on a host leave of it.
use Rattle.std.specs.Prelude.{◌≡◌, ◌≢◌, ◌⊎◌, IsFalse, IsTrue, Some, slice_get, slice_set}
use Rattle.k_types.specs.declared.event.Event.{Event}
use Rattle.k_types.specs.declared.event.Reply.{Reply}
use Rattle.k_types.specs.declared.names.Pid.{Pid}
use Rattle.k_types.specs.declared.names.SharedId.{SharedId}
use Rattle.k_types.specs.declared.op.Op.{Op}
use Rattle.k_types.specs.declared.op.Op.TheVariants.{Kill}
use Rattle.k_agree.specs.Meeting.{Fits, met_note}
use Rattle.k_book.specs.Books.{BookRecord}
use Rattle.k_cell.specs.Holdings.{HoldingsValue}
use Rattle.k_agree.specs.Shown.{idle_part}
use Rattle.k_shared.specs.SharedHeaps.{SharedRecord}
use Rattle.k_laws.specs.Locals.{is_local_in}
use Rattle.k_ends.specs.k_guests.declared.guest.Guest.{Guest}
use Rattle.k_ends.specs.Collecting.{HasAbsorbedNow, HasBegun, HasBegunKernel, HasEnded, HasExitedNow, HasMarkedGuest, HasMarkedKernel, HasSettled, HasSettledKernel, KernelHasEnded}
use Rattle.k_ends.specs.Killing.{HasKilledNow}
use Rattle.k_ends.specs.Whole.{HasCollected, HasCollectedKernel}
use Rattle.k_ends.specs.Doing.{HasDoneInside, HasOperated, HasPublishedAll}
use Rattle.k_host.specs.Hosts.{HostValue}

-- the process of that number has changed in this way, the kernel and the book are these now, and nothing else has changed
pub record HasChanged (old new : HostValue) (pid : Pid) (kernel : HoldingsValue) (book : BookRecord) (Way : Guest → Guest → Type 0) : Type 0 where
  pub before : Guest
  pub after : Guest
  pub there : slice_get old.guests pid.0 ≡ Some before
  pub named : before.cell.pid ≡ pid
  pub host_is : new ≡ record old { guests = slice_set old.guests pid.0 after; kernel = kernel; book = book }
  pub way : Way before after

-- the process of that number did the operation, and nothing else has changed than it, the book, and the heap that the operation touches
pub record HasOperatedAs (old new : HostValue) (pid : Pid) (op : Op) (event : Event) : Type 0 where
  pub before : Guest
  pub after : Guest
  pub there : slice_get old.guests pid.0 ≡ Some before
  pub named : before.cell.pid ≡ pid
  pub host_is : new ≡ record old { guests = slice_set old.guests pid.0 after; kernel = new.kernel; shared = new.shared; book = new.book }
  pub way : HasOperated old.basis op before after old.kernel new.kernel old.shared new.shared old.book new.book event

-- the process of that number killed another one, which has ended, and nothing else has changed than the two, the kernel and the book
pub record HasKilledIn (old new : HostValue) (pid : Pid) (op : Op) (event : Event) : Type 0 where
  pub target : Pid
  pub before : Guest
  pub after : Guest
  pub target_before : Guest
  pub target_after : Guest
  pub there : slice_get old.guests pid.0 ≡ Some before
  pub named : before.cell.pid ≡ pid
  pub target_there : slice_get old.guests target.0 ≡ Some target_before
  pub target_named : target_before.cell.pid ≡ target
  pub two : target.0 ≢ pid.0
  pub asks : op ≡ Kill target
  pub host_is : new ≡ record old { guests = slice_set (slice_set old.guests pid.0 after) target.0 target_after; kernel = new.kernel; book = new.book }
  pub way : HasKilledNow old.basis op before after target_before target_after new.kernel old.book new.book event

-- the process of that number did the operation, by which it may have ended another one
abbrev pub HasOperatedIn : HostValue → HostValue → Pid → Op → Event → Type 0
HasOperatedIn old new pid op event = HasOperatedAs old new pid op event ⊎ HasKilledIn old new pid op event

-- the process did the operation inside its heap, with that reply, and nothing else has changed
abbrev pub HasDoneInsideIn : HostValue → HostValue → Pid → Op → Reply → Type 0
HasDoneInsideIn old new pid op said =
    HasChanged old new pid old.kernel old.book (λ g h. IsTrue (is_local_in (idle_part g.cell.value) pid.0 op) × HasDoneInside old.basis op g h said)

-- the operation is not done inside the process's heap, and nothing has changed
pub record HasLeftOutside (old new : HostValue) (pid : Pid) (op : Op) : Type 0 where
  pub guest : Guest
  pub there : slice_get old.guests pid.0 ≡ Some guest
  pub outside : IsFalse (is_local_in (idle_part guest.cell.value) pid.0 op)
  pub same : new ≡ old

-- the note of the process's cell fitted the journal, since no event had touched the cell unseen, and has the whole journal now
pub record HasMetTheJournal (b : BookRecord) (old g : Guest) : Type 0 where
  pub fitted : Fits b.journal old.cell.note
  pub guest_is : g ≡ record old { cell = record old.cell { note = met_note b.journal old.cell.note } }
  pub fits : Fits b.journal g.cell.note

-- the cell of the process has met the journal, and nothing else has changed
abbrev pub HasMetIn : HostValue → HostValue → Pid → Type 0
HasMetIn old new pid = HasChanged old new pid old.kernel old.book (HasMetTheJournal old.book)

-- what the process had unpublished is in the journal, and nothing else has changed
abbrev pub HasPublishedIn : HostValue → HostValue → Pid → Type 0
HasPublishedIn old new pid = HasChanged old new pid old.kernel new.book (λ g h. HasPublishedAll old.basis g h old.book new.book)

-- the collection of the process's heap has begun, and nothing else than the process and the book has changed
abbrev pub HasBegunIn : HostValue → HostValue → Pid → Event → Type 0
HasBegunIn old new pid event = HasChanged old new pid old.kernel new.book (λ g h. HasBegun old.basis g h old.book new.book event)

-- the process's heap is marked, and nothing else has changed
abbrev pub HasMarkedIn : HostValue → HostValue → Pid → Type 0
HasMarkedIn old new pid = HasChanged old new pid old.kernel old.book (λ g h. HasMarkedGuest old.basis g h)

-- the collection of the process's heap has ended, and nothing else than the process and the book has changed
abbrev pub HasEndedIn : HostValue → HostValue → Pid → Event → Type 0
HasEndedIn old new pid event = HasChanged old new pid old.kernel new.book (λ g h. HasEnded old.basis g h old.book new.book event)

-- what was open of the process's heap is settled, and nothing else than the process and the book has changed
abbrev pub HasSettledIn : HostValue → HostValue → Pid → Type 0
HasSettledIn old new pid = HasChanged old new pid old.kernel new.book (λ g h. HasSettled old.basis g h old.book new.book)

-- the collection of the kernel's heap has begun for the process, and nothing else than the process, the kernel and the book has changed
abbrev pub HasBegunKernelIn : HostValue → HostValue → Pid → Event → Type 0
HasBegunKernelIn old new pid event = HasChanged old new pid new.kernel new.book (λ g h. HasBegunKernel old.basis g h new.kernel old.book new.book event)

-- the process's heap was collected, and nothing else than the process and the book has changed
abbrev pub HasCollectedIn : HostValue → HostValue → Pid → Event → Type 0
HasCollectedIn old new pid event = HasChanged old new pid old.kernel new.book (λ g h. HasCollected old.basis g h old.book new.book event)

-- the kernel's heap was collected as the process, and nothing else than the process, the kernel and the book has changed
abbrev pub HasCollectedKernelIn : HostValue → HostValue → Pid → Event → Type 0
HasCollectedKernelIn old new pid event = HasChanged old new pid new.kernel new.book (λ g h. HasCollectedKernel old.basis g h new.kernel old.book new.book event)

-- the process has ended, and nothing else than the process, the kernel and the book has changed
abbrev pub HasExitedIn : HostValue → HostValue → Pid → Event → Type 0
HasExitedIn old new pid event = HasChanged old new pid new.kernel new.book (λ g h. HasExitedNow old.basis g h new.kernel old.book new.book event)

-- the shared heap of that number is absorbed, and nothing else than it, the kernel and the book has changed
pub record HasAbsorbedIn (old new : HostValue) (id : SharedId) (event : Event) : Type 0 where
  pub before : SharedRecord
  pub after : SharedRecord
  pub there : slice_get old.shared id.0 ≡ Some before
  pub named : before.id ≡ id
  pub host_is : new ≡ record old { shared = slice_set old.shared id.0 after; kernel = new.kernel; book = new.book }
  pub has_absorbed : HasAbsorbedNow old.basis before after new.kernel old.book new.book event

-- the kernel's heap is marked, and nothing else has changed
pub record HasMarkedKernelIn (old new : HostValue) : Type 0 where
  pub host_is : new ≡ record old { kernel = new.kernel }
  pub has_marked : HasMarkedKernel old.basis old.kernel new.kernel

-- the collection of the kernel's heap has ended, and nothing else than the kernel and the book has changed
pub record HasEndedKernelIn (old new : HostValue) (event : Event) : Type 0 where
  pub host_is : new ≡ record old { kernel = new.kernel; book = new.book }
  pub has_ended : KernelHasEnded old.basis new.kernel old.book new.book event

-- what was open of the kernel's heap is settled, and nothing else than the kernel and the book has changed
pub record HasSettledKernelIn (old new : HostValue) : Type 0 where
  pub host_is : new ≡ record old { kernel = new.kernel; book = new.book }
  pub has_settled : HasSettledKernel old.basis old.kernel new.kernel old.book new.book
