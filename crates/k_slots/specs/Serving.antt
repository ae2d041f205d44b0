-- What a request does over the parts that are lent, and what it is answered.
use Rattle.std.specs.Prelude.{◌≡◌, ◌==◌, nat_lt, if◌then◌else◌, length, slice_get, ℕ, Bool, IsFalse, IsTrue, Option, Some, None, MatchOption}
use Rattle.k_types.specs.Bounds.{register_count}
use Rattle.k_types.specs.Limits.{max_of}
use Rattle.k_types.specs.Owners.{object_bytes}
use Rattle.k_types.specs.Totals.{total}
use Rattle.k_embed.specs.declared.messages.Answer.{Answer}
use Rattle.k_embed.specs.declared.messages.Request.{Request}
use Rattle.k_embed.specs.Asked.{is_take, operation_of}
use Rattle.k_embed.specs.Books.{book_limits}
use Rattle.k_embed.specs.Codes.{of_event, of_found, of_held, of_listed, of_no_host, of_number, of_told, plain}
use Rattle.k_embed.specs.Events.{asked_of, of_seen, of_taken}
use Rattle.k_embed.specs.Limits.{use_at}
use Rattle.k_embed.specs.Served.{lives_of}
use Rattle.k_embed.specs.Sharers.{lowest_orphan}
use Rattle.k_parts.specs.Asked.{done_by, heap_bytes_of, held_by}
use Rattle.k_parts.specs.Calls.{AreNamesKept, IsAbsorbed, IsCollected, IsCollectedKernel, IsExited, IsKilled, IsOperated, IsOperatedWithKernel, IsOperatedWithShared, IsPublished, IsTakenOut, IsTriedInside}
use Rattle.k_parts.specs.Parts.{BookPartValue, GuestPartValue, KernelPartValue, SharedPartValue}
use Rattle.k_parts.specs.Told.{charge_in, event_in}
use Rattle.k_slots.specs.declared.slots.Part.{Part}
use Rattle.k_slots.specs.declared.slots.Part.TheVariants.{Book, Empty, Guest, Kernel, Lacking, Row as InRow, Shared}
use Rattle.k_slots.specs.declared.slots.PartSlot.{PartSlot}
use Rattle.k_slots.specs.Codes.{of_charge, of_done, of_happened, of_mixed, of_operated, of_tried}
use Rattle.k_slots.specs.Lending.{book_of, guest_of, kernel_of, shared_of}

-- the answer is that of what came of the call
pub record IsShown {T : Type 0} (told : T → Answer) (Comes : T → Type 0) (answer : Answer) : Type 0 where
  pub came : T
  pub shown : answer ≡ told came
  pub comes : Comes came

-- nothing has changed, and this is the answer
pub record IsAnswered {A : Type 0} (said : Answer) (old new : A) (answer : Answer) : Type 0 where
  pub same : new ≡ old
  pub shown : answer ≡ said

-- what the limit of that number has, where there is one
abbrev pub told_of_limit : BookPartValue → ℕ → ℕ → Option ℕ
told_of_limit b m told = if nat_lt m (length b.book.rows) then Some told else None

-- what a process's part tells to a question: whether the process lives, the bytes of its heap, what a register holds, how many operations
-- are done, and how many bodies are left
abbrev pub told_of_guest : GuestPartValue → Request → Option Answer
told_of_guest p q =
    if q.call == 32 then Some (of_number (lives_of p.guest))
    else if q.call == 33 then Some (of_number (heap_bytes_of p.guest))
    else if q.call == 37 then Some (of_held (if nat_lt q.reg register_count then Some (held_by q.reg p.guest) else None))
    else if q.call == 38 then Some (of_number (done_by p.guest))
    else if q.call == 40 then Some (of_number p.guest.bodies)
    else None

-- the kernel's part: the bytes of its heap
abbrev pub told_of_kernel : KernelPartValue → Request → Option Answer
told_of_kernel p q = if q.call == 41 then Some (of_number (total object_bytes p.kernel.value.objects)) else None

-- the part of a shared heap: the bytes of the heap
abbrev pub told_of_shared : SharedPartValue → Request → Option Answer
told_of_shared p q = if q.call == 33 then Some (of_number (total object_bytes p.heap.value.objects)) else None

-- the book's part. Of a limit: its use and its maximum. How many events there are, the first orphan; of the names of what the last
-- collection freed how many there are, and the one at that place; and of the event of that number what was asked for, and what came of it
abbrev pub told_of_book : BookPartValue → Request → Option Answer
told_of_book p q =
    if q.call == 35 then Some (of_found (told_of_limit p q.at (use_at (book_limits p.book) q.at)))
    else if q.call == 36 then Some (of_found (told_of_limit p q.at (max_of (book_limits p.book).rows q.at)))
    else if q.call == 39 then Some (of_number (length p.book.journal.list))
    else if q.call == 42 then Some (of_found (lowest_orphan p.book.value.phases p.book.value.shares))
    else if q.call == 44 then Some (of_number (length p.freed))
    else if q.call == 45 then Some (of_listed (slice_get p.freed q.at))
    else if q.call == 46 then Some (of_seen asked_of (event_in p q.number))
    else if q.call == 47 then Some (of_seen of_event (event_in p q.number))
    else None

-- a process's part and the book's: what the process is charged
abbrev pub told_of_both : GuestPartValue → BookPartValue → Request → Option Answer
told_of_both p b q = if q.call == 34 then Some (of_charge (charge_in p b)) else None

-- a process's part: an operation is done inside its heap, or a question is answered
abbrev pub IsServedGuest : GuestPartValue → GuestPartValue → Request → Answer → Type 0
IsServedGuest old new q answer =
    MatchOption (operation_of q) (IsAnswered (of_told (told_of_guest old q)) old new answer) (λ op. IsShown of_tried (IsTriedInside op old new) answer)

-- a part of this kind is in its place, and this holds of it
pub record IsThere {A : Type 0} (at_place : A → Part) (place : Part) (Holds : A → Type 0) : Type 0 where
  pub now : A
  pub there : place ≡ at_place now
  pub holds : Holds now

-- where it was asked for that is what was done, and else the other
pub record IsEither (asked : Bool) (Done Else : Type 0) : Type 0 where
  pub done : IsTrue asked → Done
  pub other : IsFalse asked → Else

-- the book's part: the next event is taken out, and the answer is its number; or a question is answered
abbrev pub IsServedBook : BookPartValue → BookPartValue → Request → Answer → Type 0
IsServedBook old new q answer = IsEither (is_take q) (IsShown of_taken (IsTakenOut old new) answer) (IsAnswered (of_told (told_of_book old q)) old new answer)

-- what lies in the place is lent alone. Each part answers its questions; where there is none, the line and the reason are the answer
abbrev pub IsServedAlone : Part → Part → Request → Answer → Type 0
IsServedAlone (Guest p) new q answer = IsThere Guest new (λ now. IsServedGuest p now q answer)
IsServedAlone (Kernel p) new q answer = IsAnswered (of_told (told_of_kernel p q)) (Kernel p) new answer
IsServedAlone (Shared p) new q answer = IsAnswered (of_told (told_of_shared p q)) (Shared p) new answer
IsServedAlone (Book p) new q answer = IsThere Book new (λ now. IsServedBook p now q answer)
IsServedAlone (Lacking line reason) new q answer = IsAnswered (of_no_host line reason) (Lacking line reason) new answer
IsServedAlone (InRow row) new q answer = IsAnswered of_mixed (InRow row) new answer
IsServedAlone Empty new q answer = IsAnswered of_mixed Empty new answer

abbrev pub IsServedByOne : PartSlot → PartSlot → Request → Answer → Type 0
IsServedByOne old new q answer = IsServedAlone old.part new.part q answer

-- a part of this kind and the book's are in their places, and this holds of them
pub record AreThere {A : Type 0} (at_place : A → Part) (place place_b : Part) (Holds : A → BookPartValue → Type 0) : Type 0 where
  pub now : A
  pub book : BookPartValue
  pub there : place ≡ at_place now
  pub book_there : place_b ≡ Book book
  pub holds : Holds now book

-- a process and the book: an operation, the collection of the process's heap (16), the publishing of what is unpublished (21), and a question
abbrev pub IsServedWithBook : GuestPartValue → GuestPartValue → BookPartValue → BookPartValue → Request → Answer → Type 0
IsServedWithBook old new old_b b q answer =
    MatchOption (operation_of q) (
    IsEither (q.call == 16) (IsShown of_happened (λ came. IsCollected old new old_b b came × AreNamesKept old.home old_b b came) answer)
    (IsEither (q.call == 21) (IsShown of_done (IsPublished old new old_b b) answer) (IsAnswered {A = GuestPartValue × BookPartValue} (of_told (told_of_both old old_b q)) (old, old_b) (new, b) answer))
    ) (λ op. IsShown of_operated (IsOperated op old new old_b b) answer)

-- a process's part is in the place beside the book, and the request was served on them; or it is not, and nothing has changed
abbrev pub IsServedOverBook : Part → Part → BookPartValue → BookPartValue → Request → Answer → Type 0
IsServedOverBook old_a a old_b b q answer =
    MatchOption (guest_of old_a) (IsAnswered {A = Part × BookPartValue} of_mixed (old_a, old_b) (a, b) answer) (λ p. IsThere Guest a (λ now. IsServedWithBook p now old_b b q answer))

abbrev pub IsServedByTwo : PartSlot → PartSlot → PartSlot → PartSlot → Request → Answer → Type 0
IsServedByTwo old_a a old_b b q answer =
    MatchOption (book_of old_b.part) (IsAnswered {A = PartSlot × PartSlot} of_mixed (old_a, old_b) (a, b) answer) (λ m. IsThere Book b.part (λ book. IsServedOverBook old_a.part a.part m book q answer))

-- a process, the kernel and the book: an operation, the collection of the kernel's heap (17), and the end of the process (18)
abbrev pub IsServedWithKernel : GuestPartValue → GuestPartValue → KernelPartValue → KernelPartValue → BookPartValue → BookPartValue → Request → Answer → Type 0
IsServedWithKernel old new old_k k old_b b q answer =
    MatchOption (operation_of q) (
    IsEither (q.call == 17) (IsShown of_happened (λ came. IsCollectedKernel old new old_k k old_b b came × AreNamesKept old.home old_b b came) answer)
    (IsEither (q.call == 18) (IsShown of_happened (IsExited old new old_k k old_b b) answer) (IsAnswered {A = GuestPartValue × KernelPartValue × BookPartValue} (plain 8 0 0) (old, old_k, old_b) (new, k, b) answer))
    ) (λ op. IsShown of_operated (IsOperatedWithKernel op old new old_k k old_b b) answer)

-- a process, a shared heap and the book: an operation
abbrev pub IsServedWithShared : GuestPartValue → GuestPartValue → SharedPartValue → SharedPartValue → BookPartValue → BookPartValue → Request → Answer → Type 0
IsServedWithShared old new old_s s old_b b q answer =
    MatchOption (operation_of q) (IsAnswered {A = GuestPartValue × SharedPartValue × BookPartValue} (plain 8 0 0) (old, old_s, old_b) (new, s, b) answer) (λ op. IsShown of_operated (IsOperatedWithShared op old new old_s s old_b b) answer)

-- a shared heap, the kernel and the book: the shared heap is absorbed (19)
abbrev pub IsServedAbsorbing : SharedPartValue → SharedPartValue → KernelPartValue → KernelPartValue → BookPartValue → BookPartValue → Request → Answer → Type 0
IsServedAbsorbing old new old_k k old_b b q answer =
    IsEither (q.call == 19) (IsShown of_happened (IsAbsorbed old new old_k k old_b b) answer) (IsAnswered {A = SharedPartValue × KernelPartValue × BookPartValue} (plain 8 0 0) (old, old_k, old_b) (new, k, b) answer)

-- a process's part or that of a shared heap is in the place beside the kernel and the book, and the request was served on them; or neither is, and
-- nothing has changed
abbrev pub IsServedOverKernel : Part → Part → KernelPartValue → KernelPartValue → BookPartValue → BookPartValue → Request → Answer → Type 0
IsServedOverKernel old_a a old_k k old_b b q answer =
    MatchOption (guest_of old_a) (
    MatchOption (shared_of old_a) (IsAnswered {A = Part × KernelPartValue × BookPartValue} of_mixed (old_a, old_k, old_b) (a, k, b) answer) (λ s. IsThere Shared a (λ now. IsServedAbsorbing s now old_k k old_b b q answer))
    ) (λ p. IsThere Guest a (λ now. IsServedWithKernel p now old_k k old_b b q answer))

-- the same beside a shared heap and the book, where it must be a process's
abbrev pub IsServedOverShared : Part → Part → SharedPartValue → SharedPartValue → BookPartValue → BookPartValue → Request → Answer → Type 0
IsServedOverShared old_a a old_s s old_b b q answer =
    MatchOption (guest_of old_a) (IsAnswered {A = Part × SharedPartValue × BookPartValue} of_mixed (old_a, old_s, old_b) (a, s, b) answer) (λ p. IsThere Guest a (λ now. IsServedWithShared p now old_s s old_b b q answer))

-- beside the book the kernel's part or that of a shared heap is lent; or neither is, and nothing has changed
abbrev pub IsServedByThree : PartSlot → PartSlot → PartSlot → PartSlot → PartSlot → PartSlot → Request → Answer → Type 0
IsServedByThree old_a a old_c c old_b b q answer =
    MatchOption (book_of old_b.part) (IsAnswered {A = PartSlot × PartSlot × PartSlot} of_mixed (old_a, old_c, old_b) (a, c, b) answer) (λ m.
    MatchOption (kernel_of old_c.part) (
    MatchOption (shared_of old_c.part) (IsAnswered {A = PartSlot × PartSlot × PartSlot} of_mixed (old_a, old_c, old_b) (a, c, b) answer) (λ s.
    AreThere Shared c.part b.part (λ heap book. IsServedOverShared old_a.part a.part s heap m book q answer))
    ) (λ k. AreThere Kernel c.part b.part (λ kernel book. IsServedOverKernel old_a.part a.part k kernel m book q answer)))

-- a process, another one, the kernel and the book: the first kills the second (13)
abbrev pub IsServedKilling : GuestPartValue → GuestPartValue → GuestPartValue → GuestPartValue → KernelPartValue → KernelPartValue → BookPartValue → BookPartValue → Request → Answer → Type 0
IsServedKilling old new old_t t old_k k old_b b q answer =
    IsEither (q.call == 13) (IsShown of_happened (IsKilled old new old_t t old_k k old_b b) answer)
    (IsAnswered {A = GuestPartValue × GuestPartValue × KernelPartValue × BookPartValue} (plain 8 0 0) (old, old_t, old_k, old_b) (new, t, k, b) answer)

-- two processes' parts are in their places, and this holds of them
pub record AreGuestsThere (place place_t : Part) (Holds : GuestPartValue → GuestPartValue → Type 0) : Type 0 where
  pub now : GuestPartValue
  pub target : GuestPartValue
  pub there : place ≡ Guest now
  pub target_there : place_t ≡ Guest target
  pub holds : Holds now target

-- two processes' parts are in the places beside the kernel and the book, and the request was served on them; or they are not, and nothing has changed
abbrev pub IsServedOverBoth : Part → Part → Part → Part → KernelPartValue → KernelPartValue → BookPartValue → BookPartValue → Request → Answer → Type 0
IsServedOverBoth old_a a old_t t old_k k old_b b q answer =
    MatchOption (guest_of old_a) (IsAnswered {A = Part × Part × KernelPartValue × BookPartValue} of_mixed (old_a, old_t, old_k, old_b) (a, t, k, b) answer) (λ p.
    MatchOption (guest_of old_t) (IsAnswered {A = Part × Part × KernelPartValue × BookPartValue} of_mixed (old_a, old_t, old_k, old_b) (a, t, k, b) answer) (λ o.
    AreGuestsThere a t (λ now target. IsServedKilling p now o target old_k k old_b b q answer)))

abbrev pub IsServedByFour : PartSlot → PartSlot → PartSlot → PartSlot → PartSlot → PartSlot → PartSlot → PartSlot → Request → Answer → Type 0
IsServedByFour old_a a old_t t old_k k old_b b q answer =
    MatchOption (book_of old_b.part) (IsAnswered {A = PartSlot × PartSlot × PartSlot × PartSlot} of_mixed (old_a, old_t, old_k, old_b) (a, t, k, b) answer) (λ n.
    MatchOption (kernel_of old_k.part) (IsAnswered {A = PartSlot × PartSlot × PartSlot × PartSlot} of_mixed (old_a, old_t, old_k, old_b) (a, t, k, b) answer) (λ m.
    AreThere Kernel k.part b.part (λ kernel book. IsServedOverBoth old_a.part a.part old_t.part t.part m kernel n book q answer)))
