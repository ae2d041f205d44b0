-- What a call of a host is answered, in numbers.
use Rattle.std.specs.Global.{Global}
use Rattle.std.specs.Prelude.{◌≡◌, ℕ, ◌==◌, nat_lt, if◌then◌else◌, IsFalse, IsTrue, List, Option, Some, None, IfNone, IfSome, MatchOption, length, option_map, slice_get, Result, IfErr, IfOk, OnErr, OnOk}
use Rattle.k_types.specs.declared.event.Event.{Event}
use Rattle.k_types.specs.declared.names.Pid.{Pid}
use Rattle.k_types.specs.declared.names.TypeId.{TypeId}
use Rattle.k_types.specs.declared.op.Op.{Op}
use Rattle.k_types.specs.Bounds.{register_count}
use Rattle.k_types.specs.Limits.{max_of}
use Rattle.k_types.specs.Owners.{object_bytes}
use Rattle.k_types.specs.Totals.{total}
use Rattle.k_chronicle.specs.k_keeper.k_host.Hosts.{event_of}
use Rattle.k_chronicle.specs.k_keeper.HostError.{HostError}
use Rattle.k_chronicle.specs.k_keeper.Guest.{Guest}
use Rattle.k_chronicle.specs.k_keeper.OpenError.{OpenError}
use Rattle.k_chronicle.specs.k_keeper.Words.{Text}
use Rattle.k_chronicle.specs.k_keeper.Limits.{use_at}
use Rattle.k_chronicle.specs.k_keeper.Books.{book_limits}
use Rattle.k_chronicle.specs.k_keeper.Sharers.{lowest_orphan}
use Rattle.k_chronicle.specs.k_keeper.Asked.{charge_told, done_by, has_ended_of, heap_bytes_of, held_by}
use Rattle.k_chronicle.specs.k_keeper.Calls.{HasAbsorbedIn, HasCollectedIn, HasExitedIn, HasOperatedIn}
use Rattle.k_chronicle.specs.k_keeper.Whole.{AreFreedLast}
use Rattle.k_chronicle.specs.k_keeper.Keeping.{KeeperValue}
use Rattle.k_chronicle.specs.k_keeper.k_host.declared.taking.Taken.{Taken}
use Rattle.k_chronicle.specs.k_keeper.Kept.{HasCollectedAll, HasOpened, HasTaken, HasTakenNone, IsGone, IsNotOpened, MayRefuseCollection, MayRefuseKernel, MayRefuseOperation, MayRefuseToAbsorb}
use Rattle.k_embed.specs.declared.doing.Whole.{Whole}
use Rattle.k_embed.specs.declared.doing.Whole.TheVariants.{Absorb, Collect, CollectKernel, Kill}
use Rattle.k_embed.specs.declared.messages.Answer.{Answer}
use Rattle.k_embed.specs.declared.messages.Request.{Request}
use Rattle.k_embed.specs.declared.serving.Slot.{Slot}
use Rattle.k_embed.specs.declared.messages.Rooms.{Rooms}
use Rattle.k_embed.specs.Asked.{is_print, is_publish, is_take, operation_of, pid_of, rooms_of, whole_of}
use Rattle.k_embed.specs.Codes.{line_of, of_event, of_found, of_held, of_listed, of_no_host, of_number, of_result, of_told, reason_of}
use Rattle.k_embed.specs.Events.{asked_of, of_seen, of_taken}
use Rattle.k_embed.specs.Texts.{IsCopied, IsPrinted, IsPublished, bytes_of}
use Rattle.k_chronicle.specs.Texts.{Texts}

-- the answer is that of the machine's event, with its reply, or of what is lacking; and then nothing has changed
pub record IsActed (old new : KeeperValue) (pid : Pid) (op : Op) (answer : Answer) : Type 0 where
  pub came : Result Event HostError
  pub shown : answer ≡ of_result came
  pub done : IfOk came (λ event. HasOperatedIn old.host new.host pid op event)
  pub freed : new.freed ≡ old.freed
  pub same : OnErr came (new ≡ old)
  pub why : IfErr came (λ e. MayRefuseOperation old pid op e)

-- what the whole call leaves of the host, where it is done
abbrev pub HasDoneWhole : KeeperValue → KeeperValue → Pid → Whole → Event → Type 0
HasDoneWhole old new pid Collect event = HasCollectedIn old.host new.host pid event
HasDoneWhole old new pid CollectKernel event = HasCollectedAll old new pid event
HasDoneWhole old new pid Kill event = HasExitedIn old.host new.host pid event
HasDoneWhole old new pid (Absorb s) event = HasAbsorbedIn old.host new.host s event

-- what the whole call leaves of the names of what was freed: after a collection they are those of what it freed, and else they stay
abbrev pub LeavesNames : KeeperValue → KeeperValue → Whole → Type 0
LeavesNames old new Collect = AreFreedLast new.host.basis.trace new.host.book.journal.list new.freed
LeavesNames old new CollectKernel = AreFreedLast new.host.basis.trace new.host.book.journal.list new.freed
LeavesNames old new Kill = new.freed ≡ old.freed
LeavesNames old new (Absorb s) = new.freed ≡ old.freed

-- why it is refused: an end for no other reason than that there is no such process or that it has ended
abbrev pub MayRefuseWhole : KeeperValue → Pid → Whole → HostError → Type 0
MayRefuseWhole old pid Collect e = MayRefuseCollection old pid e
MayRefuseWhole old pid CollectKernel e = MayRefuseKernel old pid e
MayRefuseWhole old pid Kill e = IsGone old.host pid e
MayRefuseWhole old pid (Absorb s) e = MayRefuseToAbsorb old s e

-- what came of a whole call: it is done, or nothing has changed and what is lacking is named
pub record HasCome (old new : KeeperValue) (pid : Pid) (whole : Whole) (came : Result Event HostError) : Type 0 where
  pub done : IfOk came (λ event. HasDoneWhole old new pid whole event)
  pub freed : OnOk came (LeavesNames old new whole)
  pub same : OnErr came (new ≡ old)
  pub why : IfErr came (λ e. MayRefuseWhole old pid whole e)

-- the answer is that of what came of it
pub record IsDoneWhole (old new : KeeperValue) (pid : Pid) (whole : Whole) (answer : Answer) : Type 0 where
  pub came : Result Event HostError
  pub shown : answer ≡ of_result came
  pub has_come : HasCome old new pid whole came

-- whether the process lives, as a number
abbrev pub lives_of : Guest → ℕ
lives_of g = if has_ended_of g then 0 else 1

-- what is told of the process of that number, where there is one
abbrev pub told_of_process : KeeperValue → ℕ → (Guest → ℕ) → Answer
told_of_process k p told = of_found (option_map told (slice_get k.host.guests p))

-- what is told of the limit of that number, where there is one
abbrev pub told_of_limit : KeeperValue → ℕ → ℕ → Option ℕ
told_of_limit k m told = if nat_lt m (length k.host.book.rows) then Some told else None

-- what the register of the process holds, where there are both
abbrev pub told_of_register : KeeperValue → ℕ → ℕ → Answer
told_of_register k p r = of_held (if nat_lt r register_count then option_map (held_by r) (slice_get k.host.guests p) else None)

-- what is told to each question, and none to what is no question. Of a process: whether it lives, the bytes of its heap, what it is
-- charged, what a register holds, how many operations are done, and how many bodies are left. Of a limit: its use and its maximum. And how
-- many events there are, the bytes of the kernel's heap, the first orphan, and how many events are left. Of the
-- names of what the last collection freed: how many there are, and the one at that place, counted from 0. And of the event of that number,
-- where it can be read: what was asked for, and what came of it
abbrev pub told_of : KeeperValue → Request → Option Answer
told_of k q =
    if q.call == 32 then Some (told_of_process k q.pid lives_of)
    else if q.call == 33 then Some (told_of_process k q.pid heap_bytes_of)
    else if q.call == 34 then Some (told_of_process k q.pid (charge_told k.host))
    else if q.call == 35 then Some (of_found (told_of_limit k q.at (use_at (book_limits k.host.book) q.at)))
    else if q.call == 36 then Some (of_found (told_of_limit k q.at (max_of (book_limits k.host.book).rows q.at)))
    else if q.call == 37 then Some (told_of_register k q.pid q.reg)
    else if q.call == 38 then Some (told_of_process k q.pid done_by)
    else if q.call == 39 then Some (of_number (length k.host.book.journal.list))
    else if q.call == 40 then Some (told_of_process k q.pid (λ g. g.bodies))
    else if q.call == 41 then Some (of_number (total object_bytes k.host.kernel.value.objects))
    else if q.call == 42 then Some (of_found (lowest_orphan k.host.book.value.phases k.host.book.value.shares))
    else if q.call == 43 then Some (of_number k.left)
    else if q.call == 44 then Some (of_number (length k.freed))
    else if q.call == 45 then Some (of_listed (slice_get k.freed q.at))
    else if q.call == 46 then Some (of_seen asked_of (event_of k.host q.number))
    else if q.call == 47 then Some (of_seen of_event (event_of k.host q.number))
    else None

-- the next event is taken out, and the answer is its number; or there is none, with nothing to tell
pub record IsTaken (old new : KeeperValue) (answer : Answer) : Type 0 where
  pub came : Option Taken
  pub shown : answer ≡ of_taken came
  pub taken : IfSome came (λ t. HasTaken old new t.number t.event)
  pub none : IfNone came (HasTakenNone old new)

-- nothing has changed, and the answer is what is told, or that there is no such call
pub record IsAnswered (old new : KeeperValue) (q : Request) (answer : Answer) : Type 0 where
  pub same : new ≡ old
  pub told : answer ≡ of_told (told_of old q)

-- where the request takes the next event out or publishes, that is what was done, and else it is answered
pub record IsServedRest (old new : KeeperValue) (q : Request) (answer : Answer) : Type 0 where
  pub taken : IsTrue (is_take q) → IsTaken old new answer
  pub published : IsTrue (is_publish q) → IsPublished old new answer
  pub answered : IsFalse (is_take q) → IsFalse (is_publish q) → IsAnswered old new q answer

-- where the request asks for a collection, an end or an absorption, that is what was done on the host
abbrev pub IsServedElse : KeeperValue → KeeperValue → Request → Answer → Type 0
IsServedElse old new q answer = MatchOption (whole_of q) (IsServedRest old new q answer) (λ whole. IsDoneWhole old new (pid_of q) whole answer)

-- where the request asks for an operation, that is what was done on the host
abbrev pub IsServedOn : KeeperValue → KeeperValue → Request → Answer → Type 0
IsServedOn old new q answer = MatchOption (operation_of q) (IsServedElse old new q answer) (λ op. IsActed old new (pid_of q) op answer)

-- where the request prints the host, that is what was done, and the host is as it was; and else the texts are as they were
pub record IsServedWith (old new : KeeperValue) (kept now : Option Texts) (q : Request) (answer : Answer) : Type 0 where
  pub printed : IsTrue (is_print q) → (new ≡ old) × IsPrinted old.host kept now answer
  pub served : IsFalse (is_print q) → (now ≡ kept) × IsServedOn old new q answer

-- there is a host in the place still, on which the request was served
pub record IsServedIn (old : KeeperValue) (kept : Option Texts) (place : Slot) (q : Request) (answer : Answer) : Type 0 where
  pub now : KeeperValue
  pub there : place.host ≡ Some now
  pub served : IsServedWith old now kept place.texts q answer

-- there is no host in the place: nothing has changed, and the answer is the line and the reason
pub record IsServedWithout (old new : Slot) (answer : Answer) : Type 0 where
  pub same : new ≡ old
  pub shown : answer ≡ of_no_host old.line old.reason

-- the request was served on the host in the place, or there is none
abbrev pub IsServed : Slot → Slot → Request → Answer → Type 0
IsServed old new q answer = MatchOption old.host (IsServedWithout old new answer) (λ h. IsServedIn h old.texts new q answer)

-- bytes of a text that was printed in the place stand at the front of the array now, so many as the answer says
abbrev pub IsRead : Slot → ℕ → ℕ → List ℕ → List ℕ → ℕ → Type 0
IsRead place which from = IsCopied (bytes_of place.texts which) from

-- a place without a host, for that cause
abbrev pub empty_for : Global → OpenError → Slot
empty_for alloc why = record { alloc = alloc; host = None; line = line_of why; reason = reason_of why; texts = None }

-- no host of what the bytes declare is made, and line and reason are those of the cause
pub record HasNoHost (bytes : Text) (ty : TypeId) (bodies : ℕ) (rooms : Rooms) (line reason : ℕ) : Type 0 where
  pub why : OpenError
  pub cause : IsNotOpened bytes ty bodies (rooms_of rooms) why
  pub line_is : line ≡ line_of why
  pub reason_is : reason ≡ reason_of why

-- in the place there is a host of what the bytes declare, before its first event, or the line and the reason why there is none; and nothing
-- was printed there
pub record IsOpened (bytes : Text) (ty bodies : ℕ) (rooms : Rooms) (place : Slot) : Type 0 where
  pub host :
      MatchOption place.host (HasNoHost bytes (record { 0 = ty }) bodies rooms place.line place.reason) (λ h. HasOpened bytes (record { 0 = ty }) bodies (rooms_of rooms) h)
  pub unprinted : place.texts ≡ None
