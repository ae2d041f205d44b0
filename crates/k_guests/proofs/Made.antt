-- What is made serves.
use Rattle.std.proofs.Common.{◌≡◌, ℕ, zero, suc, ◌+◌, ◌*◌, ◌<◌, ◌≤◌, ◌==◌, cond, refl, sym, ap, ◌∙◌, subst, List, [], ◌∷◌, ◌++◌, map, length, replicate, Some, None, arith, eq-eqb}
use Rattle.std.proofs.lemmas.List.{length-append, length-map, length-replicate}
use Rattle.atomic_table.specs.Seated.{TableId}
use Rattle.k_types.specs.declared.names.CellPhase.TheVariants.{Idle}
use Rattle.k_types.specs.declared.names.Heap.TheVariants.{Kernel, Shared, User}
use Rattle.k_types.specs.declared.names.Phase.TheVariants.{Unmade}
use Rattle.k_types.specs.declared.names.Pid.{Pid}
use Rattle.k_types.specs.declared.names.SharedId.{SharedId}
use Rattle.k_types.specs.Numbers.{numbers_below, numbers_from}
use Rattle.k_types.specs.Steps.{state_after}
use Rattle.k_types.specs.Trace.{Trace, process_count, segment_count, segment_of}
use Rattle.k_types.proofs.Lists.{numbers_length, at_number}
use Rattle.k_types.proofs.Sums.{ones}
use Rattle.k_tie.specs.Values.{JournalValue, NoteValue, blank_note, empty_journal}
use Rattle.k_agree.proofs.Openings.{opened_cell}
use Rattle.k_book.specs.Books.{BookRecord, opened}
use Rattle.k_book.specs.Objects.{objects_after}
use Rattle.k_book.proofs.Telling.{opened_agrees, opened_of}
use Rattle.k_cell.specs.Holdings.{HoldingsValue}
use Rattle.k_heap.specs.declared.heap.CellRooms.{CellRooms}
use Rattle.k_heap.specs.Heaps.{HeapRecord, opened_heap, own_segment}
use Rattle.k_kernel.specs.Kernels.{opened_kernel}
use Rattle.k_shared.specs.SharedHeaps.{SharedRecord, opened_shared}
use Rattle.k_shares.specs.Sharers.{living_of}
use Rattle.k_space.specs.Objects.{BodyValue, new_body}
use Rattle.k_process.proofs.Lists.{each_pushed}
use Rattle.k_guests.specs.declared.guest.Guest.{Guest}
use Rattle.k_guests.specs.declared.terms.Terms.{Terms}
use Rattle.k_guests.specs.Making.{AreGuestsSoFar, AreHeapsSoFar, AreNotes, CanMake, CanMakeGuest, CanMakeShared, HasMadeBook, HaveMadeGuests, IsFirstGuest}
use Rattle.k_guests.specs.Serving.{Basis, BookServes, GuestServes, HasReserveAt, HasSegment, HeapsServe, KernelServes, SharedServes, basis_of, open_trace}

-- notes that are left, of which one is taken
pub first_note : (tie : TableId) (first left : ℕ) (notes rest : List NoteValue) (note : NoteValue) → AreNotes tie first left notes → notes ≡ note ∷ rest →
    (note ≡ blank_note tie first) × (more : ℕ) × (left ≡ more + 1) × AreNotes tie (first + 1) more rest
first_note tie first zero notes rest note are taken = let none : note ∷ rest ≡ [] = sym taken ∙ are in absurd (cc)
first_note tie first (suc more) notes rest note are taken =
    let both : note ∷ rest ≡ blank_note tie first ∷ map (blank_note tie) (numbers_from (suc first) more) = sym taken ∙ are in
    (cc, more, omega arith, let tail : rest ≡ map (blank_note tie) (numbers_from (suc first) more) = cc in tail ∙ ap (λ k. map (blank_note tie) (numbers_from k more)) (omega arith))

pub notes_many : (tie : TableId) (first left : ℕ) (notes : List NoteValue) → AreNotes tie first left notes → length notes ≡ left
notes_many tie first left notes are = ap length are ∙ length-map (numbers_from first left) (blank_note tie) ∙ numbers_length first left

-- the notes of all cells, when the kernel's is taken
module _ (tie table : TableId) (same : table ≡ tie) (n procs heaps : ℕ) (count : n ≡ 1 + procs + heaps) (notes : List NoteValue) (is : notes ≡ map (blank_note tie) (numbers_below n)) where
  all_notes : AreNotes tie 0 (procs + heaps + 1) notes
  all_notes = is ∙ ap (λ k. map (blank_note tie) (numbers_from 0 k)) (omega (arith, count))

  pub some_note : 0 < length notes
  some_note = let many = notes_many tie 0 (procs + heaps + 1) notes all_notes in omega (arith, many)

  module _ (note : NoteValue) (rest : List NoteValue) (taken : notes ≡ note ∷ rest) where
    abbrev first : (note ≡ blank_note tie 0) × (more : ℕ) × (procs + heaps + 1 ≡ more + 1) × AreNotes tie (0 + 1) more rest
    first = first_note tie 0 (procs + heaps + 1) notes rest note all_notes taken

    pub kernel_blank : note ≡ blank_note note.table 0
    kernel_blank = first.0 ∙ ap (λ (x : NoteValue). blank_note x.table 0) (sym first.0)

    pub kernel_table : note.table ≡ table
    kernel_table = ap (λ (x : NoteValue). x.table) first.0 ∙ sym same

    pub others_left : AreNotes table 1 (procs + heaps) rest
    others_left =
        first.3 ∙ ap (λ k. map (blank_note tie) (numbers_from 1 k)) (let fewer = first.2 in omega (arith, fewer))
        ∙ ap (λ t. map (blank_note t) (numbers_from 1 (procs + heaps))) (sym same)

-- where none has ended, all live
all_live : (n : ℕ) → living_of [] n ≡ n
all_live n = ones (numbers_below n) ∙ numbers_length 0 n

-- the directory is there before the first event
first_object : (trace : Trace) → objects_after trace [] ≡ 1
first_object trace = refl

module _ (terms : Terms) (can : CanMake terms) where
  abbrev trace : Trace
  trace = open_trace terms.setup

  abbrev basis : Basis
  basis = basis_of terms

  -- the one segment with which a cell begins is there
  begins_with : (seg : ℕ) → seg < segment_count trace → HasSegment terms.rooms.objects (map (λ number. cond (number == seg) (Some terms.rooms.objects) None) (numbers_below (segment_count trace))) seg
  begins_with seg inside =
      at_number (λ number. cond (number == seg) (Some terms.rooms.objects) None) 0 (segment_count trace) seg None inside
      ∙ ap (λ t. cond t (Some terms.rooms.objects) None) (eq-eqb (0 + seg) seg (omega arith))

  -- no exit item is there, and all processes live
  reserve_at_first : HasReserveAt basis (state_after trace [])
  reserve_at_first =
      let kept : terms.rooms.exits * living_of [] (process_count trace) ≤ terms.rooms.kernel_exits =
      subst (λ n. terms.rooms.exits * n ≤ terms.rooms.kernel_exits) (sym (all_live (process_count trace))) can.fit.enough.reserve in
      omega (arith, kept)

  -- the rooms of a process's cell
  abbrev rooms_for : CellRooms
  rooms_for = record { objects = terms.rooms.objects; exits = terms.rooms.exits; tail = terms.rooms.tail }

  opened_serves : (table : TableId) (pid : Pid) → pid.0 < length terms.setup.procs.items → (bodies : List BodyValue) (n : ℕ) → bodies ≡ replicate n (new_body terms.setup.types terms.ty) →
      GuestServes basis table (record { cell = opened_heap terms.setup pid bodies rooms_for (blank_note table (own_segment pid)); bodies = n })
  opened_serves table pid known bodies n stock = record {
    rules = can.rules;
    agrees = opened_cell trace table (User pid) known;
    table = refl;
    stock = stock;
    exits = refl;
    serials = λ lives. begins_with (own_segment pid) (omega (arith, known));
    tail = omega arith;
  }

  pub guest_made : (pid : Pid) (note : NoteValue) (bodies : List BodyValue) (cell : HeapRecord) → CanMakeGuest terms pid note → bodies ≡ replicate terms.bodies (new_body terms.setup.types terms.ty) →
      cell ≡ opened_heap terms.setup pid bodies rooms_for note → GuestServes basis note.table (record { cell = cell; bodies = terms.bodies }) × (cell.pid ≡ pid) × IsFirstGuest terms.bodies (record { cell = cell; bodies = terms.bodies })
  guest_made pid note bodies cell make stock is = (
    subst (λ (c : HeapRecord). GuestServes basis note.table (record { cell = c; bodies = terms.bodies })) (sym is)
        (subst (λ (n : NoteValue). GuestServes basis note.table (record { cell = opened_heap terms.setup pid bodies rooms_for n; bodies = terms.bodies })) (sym make.blank)
        (opened_serves note.table pid make.known bodies terms.bodies stock)),
    ap (λ (c : HeapRecord). c.pid) is,
    subst (λ (c : HeapRecord). IsFirstGuest terms.bodies (record { cell = c; bodies = terms.bodies })) (sym is) (record { all_left = refl; settled = refl; idle = refl }),
  )

  pub kernel_made : (note : NoteValue) (k : HoldingsValue) → note ≡ blank_note note.table 0 → k ≡ opened_kernel terms.setup terms.rooms.objects terms.rooms.kernel_exits note → KernelServes basis note.table k × (k.value.collection ≡ Idle)
  kernel_made note k blank is = (
    subst (λ (x : HoldingsValue). KernelServes basis note.table x) (sym is)
        (subst (λ (n : NoteValue). KernelServes basis note.table (opened_kernel terms.setup terms.rooms.objects terms.rooms.kernel_exits n)) (sym blank)
        (record {
          rules = can.rules;
          agrees = opened_cell trace note.table Kernel tt;
          table = refl;
          exits = refl;
          serials = begins_with 0 (omega arith);
          numbers = omega arith;
        })),
    ap (λ (x : HoldingsValue). x.value.collection) is,
  )

  pub heap_made : (id : SharedId) (note : NoteValue) (s : SharedRecord) → CanMakeShared terms id note → s ≡ opened_shared terms.setup id terms.rooms.objects terms.rooms.exits note →
      SharedServes basis note.table s × (s.id ≡ id)
  heap_made id note s make is = (
    subst (λ (x : SharedRecord). SharedServes basis note.table x) (sym is)
        (subst (λ (n : NoteValue). SharedServes basis note.table (opened_shared terms.setup id terms.rooms.objects terms.rooms.exits n)) (sym make.blank)
        (record {
          agrees = opened_cell trace note.table (Shared id) make.known;
          table = refl;
          segment = refl;
          idle = refl;
          exits = refl;
          serials = λ stands. begins_with (segment_of trace (Shared id)) (let known = make.known in omega (arith, known));
        })),
    ap (λ (x : SharedRecord). x.id) is,
  )

  pub book_made : (b : BookRecord) (seat : JournalValue) (table : TableId) → seat ≡ empty_journal table → b ≡ opened terms.setup terms.rooms.entries terms.rooms.events terms.rooms.kept seat → HasMadeBook terms seat b
  book_made b seat table empty is = record {
    can = can;
    serves =
        subst (λ (x : BookRecord). BookServes basis x) (sym is)
        (subst (λ (j : JournalValue). BookServes basis (opened terms.setup terms.rooms.entries terms.rooms.events terms.rooms.kept j)) (sym empty)
        (record {
          stands = record {
            keeps = can.rules;
            of_trace = opened_of terms.setup trace.operations trace.order terms.rooms.entries terms.rooms.events terms.rooms.kept table;
            agrees = opened_agrees terms.setup trace.operations trace.order terms.rooms.entries terms.rooms.events terms.rooms.kept table;
            pins = omega arith;
          };
          events = refl;
          few = omega (arith, first_object trace);
          kept = refl;
          entries = refl;
          reserve = reserve_at_first;
        }));
    journal = ap (λ (x : BookRecord). x.journal) is;
    procs = ap (λ (x : BookRecord). length x.procs) is;
    heaps = ap (λ (x : BookRecord). length x.value.phases) is ∙ length-replicate terms.setup.shared Unmade;
  }

  module _ (tie : TableId) where
    pub no_guests_yet : (notes : List NoteValue) → AreNotes tie 1 (length terms.setup.procs.items + terms.setup.shared) notes → AreGuestsSoFar terms tie 0 [] notes
    no_guests_yet notes are = record {
      left = length terms.setup.procs.items + terms.setup.shared;
      all = omega arith;
      notes_left = are ∙ ap (λ k. map (blank_note tie) (numbers_from k (length terms.setup.procs.items + terms.setup.shared))) (omega arith);
      count = refl;
      each = λ k g found. absurd (cc);
    }

    pub some_left : (p : ℕ) (guests : List Guest) (notes : List NoteValue) → AreGuestsSoFar terms tie p guests notes → p < length terms.setup.procs.items → 0 < length notes
    some_left p guests notes so_far below = let many = notes_many tie (p + 1) so_far.left notes so_far.notes_left in let all = so_far.all in omega (arith, many, all, below)

    pub one_guest_more : (pid : Pid) (guests : List Guest) (notes rest : List NoteValue) (note : NoteValue) (g : Guest) → AreGuestsSoFar terms tie pid.0 guests notes → notes ≡ note ∷ rest →
        GuestServes basis note.table g → g.cell.pid ≡ pid → IsFirstGuest terms.bodies g → AreGuestsSoFar terms tie (pid.0 + 1) (guests ++ g ∷ []) rest
    one_guest_more pid guests notes rest note g so_far taken serves same is_first =
        let first = first_note tie (pid.0 + 1) so_far.left notes rest note so_far.notes_left taken in
        let count = so_far.count in
        record {
          left = first.1;
          all = let all = so_far.all in let fewer = first.2 in omega (arith, all, fewer);
          notes_left = first.3;
          count = length-append guests (g ∷ []) ∙ ap (λ n. n + 1) count;
          each = each_pushed (λ k (x : Guest). GuestServes basis tie x × (x.cell.pid.0 ≡ k) × IsFirstGuest terms.bodies x) guests g so_far.each
              (subst (λ (n : NoteValue). GuestServes basis n.table g) first.0 serves, ap (λ (p : Pid). p.0) same ∙ sym count, is_first);
        }

    pub guests_made : (p : ℕ) (guests : List Guest) (notes : List NoteValue) → p ≡ length terms.setup.procs.items → AreGuestsSoFar terms tie p guests notes → HaveMadeGuests terms tie guests notes
    guests_made p guests notes all so_far = record {
      serve = record {
        count = so_far.count ∙ all;
        each = λ k g found. (so_far.each k g found).0;
        placed = λ k g found. (so_far.each k g found).1;
      };
      first = λ k g found. (so_far.each k g found).2;
      notes_left =
          let sum = so_far.all in
          let same : so_far.left ≡ terms.setup.shared = omega (arith, sum, all) in
          so_far.notes_left ∙ ap (λ k. map (blank_note tie) (numbers_from (k + 1) so_far.left)) all ∙ ap (λ n. map (blank_note tie) (numbers_from (length terms.setup.procs.items + 1) n)) same;
    }

    pub no_heaps_yet : (notes : List NoteValue) → AreNotes tie (length terms.setup.procs.items + 1) terms.setup.shared notes → AreHeapsSoFar terms tie 0 [] notes
    no_heaps_yet notes are = record {
      left = terms.setup.shared;
      all = omega arith;
      notes_left = are ∙ ap (λ k. map (blank_note tie) (numbers_from k terms.setup.shared)) (omega arith);
      count = refl;
      each = λ k s found. absurd (cc);
    }

    pub some_heap_left : (n : ℕ) (shared : List SharedRecord) (notes : List NoteValue) → AreHeapsSoFar terms tie n shared notes → n < terms.setup.shared → 0 < length notes
    some_heap_left n shared notes so_far below =
        let many = notes_many tie (1 + length terms.setup.procs.items + n) so_far.left notes so_far.notes_left in let all = so_far.all in omega (arith, many, all, below)

    pub one_heap_more : (id : SharedId) (shared : List SharedRecord) (notes rest : List NoteValue) (note : NoteValue) (s : SharedRecord) → AreHeapsSoFar terms tie id.0 shared notes → notes ≡ note ∷ rest →
        SharedServes basis note.table s → s.id ≡ id → AreHeapsSoFar terms tie (id.0 + 1) (shared ++ s ∷ []) rest
    one_heap_more id shared notes rest note s so_far taken serves same =
        let first = first_note tie (1 + length terms.setup.procs.items + id.0) so_far.left notes rest note so_far.notes_left taken in
        let count = so_far.count in
        record {
          left = first.1;
          all = let all = so_far.all in let fewer = first.2 in omega (arith, all, fewer);
          notes_left = first.3 ∙ ap (λ k. map (blank_note tie) (numbers_from k first.1)) (omega arith);
          count = length-append shared (s ∷ []) ∙ ap (λ n. n + 1) count;
          each = each_pushed (λ k (x : SharedRecord). SharedServes basis tie x × (x.id.0 ≡ k)) shared s so_far.each
              (subst (λ (n : NoteValue). SharedServes basis n.table s) first.0 serves, ap (λ (i : SharedId). i.0) same ∙ sym count);
        }

    pub heaps_made : (n : ℕ) (shared : List SharedRecord) (notes : List NoteValue) → n ≡ terms.setup.shared → AreHeapsSoFar terms tie n shared notes → HeapsServe basis tie shared
    heaps_made n shared notes all so_far = record {
      count = so_far.count ∙ all;
      each = λ k s found. (so_far.each k s found).0;
      placed = λ k s found. (so_far.each k s found).1;
    }

    -- the note that is taken first for a process, and for a shared heap
    pub blank_for_guest : (pid : Pid) (guests : List Guest) (notes rest : List NoteValue) (note : NoteValue) → AreGuestsSoFar terms tie pid.0 guests notes → notes ≡ note ∷ rest →
        pid.0 < length terms.setup.procs.items → CanMakeGuest terms pid note
    blank_for_guest pid guests notes rest note so_far taken known = record {
      can = can;
      known = known;
      blank = let is = (first_note tie (pid.0 + 1) so_far.left notes rest note so_far.notes_left taken).0 in is ∙ ap (λ (n : NoteValue). blank_note n.table (own_segment pid)) (sym is);
    }

    pub blank_for_heap : (id : SharedId) (shared : List SharedRecord) (notes rest : List NoteValue) (note : NoteValue) → AreHeapsSoFar terms tie id.0 shared notes → notes ≡ note ∷ rest →
        id.0 < terms.setup.shared → CanMakeShared terms id note
    blank_for_heap id shared notes rest note so_far taken known = record {
      can = can;
      known = known;
      blank =
          let is = (first_note tie (1 + length terms.setup.procs.items + id.0) so_far.left notes rest note so_far.notes_left taken).0 in
          is ∙ ap (λ (n : NoteValue). blank_note n.table (segment_of trace (Shared id))) (sym is);
    }
