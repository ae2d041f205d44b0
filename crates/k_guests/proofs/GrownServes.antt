-- The parts of a host serve with larger rooms.
use Rattle.std.proofs.Common.{◌≡◌, ℕ, ◌+◌, ◌*◌, ◌-◌, ◌≤◌, Bool, true, false, cond, refl, sym, ap, ◌∙◌, subst, List, map, Option, IsFalse, arith}
use Rattle.std.proofs.lemmas.Bool.{false≢true}
use Rattle.std.proofs.lemmas.List.{length-map}
use Rattle.atomic_table.specs.Seated.{TableId}
use Rattle.k_types.specs.declared.names.Heap.TheVariants.{Kernel}
use Rattle.k_types.specs.Names.{among}
use Rattle.k_types.specs.Numbers.{numbers_below}
use Rattle.k_types.specs.State.{State}
use Rattle.k_types.specs.Steps.{state_after}
use Rattle.k_types.specs.Trace.{process_count}
use Rattle.k_types.proofs.Lists.{numbers_length}
use Rattle.k_types.proofs.Sums.{ones, total_at_most}
use Rattle.k_laws.specs.Counts.{exit_count}
use Rattle.k_book.specs.Books.{BookRecord}
use Rattle.k_cell.specs.Holdings.{HoldingsValue}
use Rattle.k_heap.specs.Heaps.{has_ended_in, own_segment}
use Rattle.k_shared.specs.SharedHeaps.{SharedRecord}
use Rattle.k_shares.specs.Sharers.{living_of}
use Rattle.k_process.specs.Keeping.{is_absorbed_in}
use Rattle.k_guests.specs.declared.guest.Guest.{Guest}
use Rattle.k_guests.specs.declared.rooms.Rooms.{Rooms}
use Rattle.k_guests.specs.Growing.{AreLarger, OfEach, basis_with_rooms, book_with_rooms, guest_with_rooms, heap_with_rooms, kernel_with_rooms, with_object_room}
use Rattle.k_guests.specs.Serving.{Basis, BookServes, GuestServes, GuestsServe, HasReserveAt, HasSegment, HasTailRoom, HeapsServe, KernelServes, RestServes, SharedServes}
use Rattle.k_guests.proofs.Changed.{mapped_each}
use Rattle.k_guests.proofs.SegmentRooms.{has_room}

-- no more processes live than there are
few_live : (ended : List ℕ) (n : ℕ) → living_of ended n ≤ n
few_live ended n =
    let most = total_at_most (λ p. cond (among p ended) 0 1) (λ p. 1) (λ p. one_at_most (among p ended)) (numbers_below n) in
    let all = ones (numbers_below n) ∙ numbers_length 0 n in
    omega (arith, most, all)
  where
    one_at_most : (b : Bool) → cond b 0 1 ≤ 1
    one_at_most true = omega arith
    one_at_most false = omega arith

-- what is kept back for those that live is enough with the larger rooms, where it is for all
reserve_grows : (taken old new old_all all living procs : ℕ) → living ≤ procs → old ≤ new → new * procs + old_all ≤ all + old * procs → taken + old * living ≤ old_all → taken + new * living ≤ all
reserve_grows taken old new old_all all living procs few more grown kept =
    let those : new * living ≡ (new - old) * living + old * living = ap (λ n. n * living) (omega (arith, more)) ∙ distributes (new - old) old living in
    let of_all : new * procs ≡ (new - old) * procs + old * procs = ap (λ n. n * procs) (omega (arith, more)) ∙ distributes (new - old) old procs in
    let parts : (new - old) * procs ≡ (new - old) * living + (new - old) * (procs - living) = ap (λ n. (new - old) * n) (omega (arith, few)) ∙ spreads (new - old) living (procs - living) in
    omega (arith, those, of_all, parts, grown, kept)
  where
    distributes : (a b c : ℕ) → (a + b) * c ≡ a * c + b * c
    distributes a b c = omega arith

    spreads : (a b c : ℕ) → a * (b + c) ≡ a * b + a * c
    spreads a b c = omega arith

-- the own segment of what lives has the new room
room_there : (old new : ℕ) (rooms : List (Option ℕ)) (seg : ℕ) (gone : Bool) → (IsFalse gone → HasSegment old rooms seg) → IsFalse gone → HasSegment new (with_object_room gone seg new rooms) seg
room_there old new rooms seg true there lives = absurd (false≢true (sym lives))
room_there old new rooms seg false there lives = has_room rooms seg old (there refl) new

module _ (basis : Basis) (rooms : Rooms) (kept : ℕ) (larger : AreLarger (process_count basis.trace) basis.rooms rooms) where
  abbrev grown : Basis
  grown = basis_with_rooms basis rooms kept

  pub guest_serves : (tie : TableId) (g : Guest) → GuestServes basis tie g → GuestServes grown tie (guest_with_rooms rooms g)
  guest_serves tie g serves = record {
    rules = serves.rules;
    agrees = serves.agrees;
    table = serves.table;
    stock = serves.stock;
    exits = refl;
    serials = room_there basis.rooms.objects rooms.objects g.cell.serial_rooms (own_segment g.cell.pid) (has_ended_in g.cell.value.process) serves.serials;
    tail = omega arith;
  }

  pub kernel_serves : (tie : TableId) (k : HoldingsValue) → KernelServes basis tie k → KernelServes grown tie (kernel_with_rooms rooms k)
  kernel_serves tie k serves = record {
    rules = serves.rules;
    agrees = serves.agrees;
    table = serves.table;
    exits = refl;
    serials = has_room k.serial_rooms 0 basis.rooms.objects serves.serials rooms.objects;
    numbers = serves.numbers;
  }

  pub heap_serves : (tie : TableId) (s : SharedRecord) → SharedServes basis tie s → SharedServes grown tie (heap_with_rooms rooms s)
  heap_serves tie s serves = record {
    agrees = serves.agrees;
    table = serves.table;
    segment = serves.segment;
    idle = serves.idle;
    exits = refl;
    serials = room_there basis.rooms.objects rooms.objects s.serial_rooms s.seg.0 (is_absorbed_in s.value.phase) serves.serials;
  }

  reserve_stays : (st : State) → HasReserveAt basis st → HasReserveAt grown st
  reserve_stays st enough =
      reserve_grows (exit_count st.exits Kernel) basis.rooms.exits rooms.exits basis.rooms.kernel_exits rooms.kernel_exits (living_of st.ended (process_count basis.trace)) (process_count basis.trace)
      (few_live st.ended (process_count basis.trace)) larger.no_less.exits larger.reserve enough

  pub book_serves : (b : BookRecord) → BookServes basis b → BookServes grown (book_with_rooms rooms kept b)
  book_serves b serves = record {
    stands = record {
      keeps = serves.stands.keeps;
      of_trace = record { rows = serves.stands.of_trace.rows; procs = serves.stands.of_trace.procs; ceiling = serves.stands.of_trace.ceiling; maxima = serves.stands.of_trace.maxima };
      agrees = serves.stands.agrees;
      pins = serves.stands.pins;
    };
    events = refl;
    few = serves.few;
    kept = refl;
    entries = refl;
    reserve = reserve_stays (state_after basis.trace b.journal.list) serves.reserve;
  }

  pub guests_serve : (tie : TableId) (gs : List Guest) → GuestsServe basis tie gs → GuestsServe grown tie (map (guest_with_rooms rooms) gs)
  guests_serve tie gs serve = record {
    count = length-map gs (guest_with_rooms rooms) ∙ serve.count;
    each = λ k g at. let e = mapped_each (guest_with_rooms rooms) k gs g at in subst (GuestServes grown tie) (sym e.2) (guest_serves tie e.0 (serve.each k e.0 e.1));
    placed = λ k g at. let e = mapped_each (guest_with_rooms rooms) k gs g at in ap (λ (x : Guest). x.cell.pid.0) e.2 ∙ serve.placed k e.0 e.1;
  }

  pub heaps_serve : (tie : TableId) (ss : List SharedRecord) → HeapsServe basis tie ss → HeapsServe grown tie (map (heap_with_rooms rooms) ss)
  heaps_serve tie ss serve = record {
    count = length-map ss (heap_with_rooms rooms) ∙ serve.count;
    each = λ k s at. let e = mapped_each (heap_with_rooms rooms) k ss s at in subst (SharedServes grown tie) (sym e.2) (heap_serves tie e.0 (serve.each k e.0 e.1));
    placed = λ k s at. let e = mapped_each (heap_with_rooms rooms) k ss s at in ap (λ (x : SharedRecord). x.id.0) e.2 ∙ serve.placed k e.0 e.1;
  }

  pub rest_serves : (k : HoldingsValue) (ss : List SharedRecord) (b : BookRecord) → RestServes basis k ss b → RestServes grown (kernel_with_rooms rooms k) (map (heap_with_rooms rooms) ss) (book_with_rooms rooms kept b)
  rest_serves k ss b serve = record {
    kernel = kernel_serves b.journal.table k serve.kernel;
    heaps = heaps_serve b.journal.table ss serve.heaps;
    book = book_serves b serve.book;
  }

  -- one event more of each process can be unpublished
  pub tails_fit : (gs : List Guest) → OfEach (HasTailRoom basis) gs → OfEach (HasTailRoom grown) (map (guest_with_rooms rooms) gs)
  tails_fit gs fit k g at =
      let e = mapped_each (guest_with_rooms rooms) k gs g at in
      let few = fit k e.0 e.1 in
      let more = larger.no_less.tail in
      subst (HasTailRoom grown) (sym e.2) (omega (arith, few, more))
