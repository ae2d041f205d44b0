-- The absorption of orphans keeps what the locks ask.
use Rattle.std.proofs.Common.{◌≡◌, ◌≢◌, ◌<◌, ◌≤◌, ◌-◌, ℕ, ◌++◌, refl, sym, ap, ◌∙◌, subst, List, [], ◌∷◌, length, set, append-nil, append_assoc, find, arith, Option, Some, None, is_some, slice_get}
use Rattle.std.proofs.lemmas.Bool.{false≢true}
use Rattle.std.proofs.lemmas.List.{length-append}
use Rattle.k_types.specs.declared.event.Event.{Event}
use Rattle.k_types.specs.declared.event.Event.TheVariants.{Absorbed}
use Rattle.k_types.specs.declared.names.Heap.TheVariants.{Kernel, Shared}
use Rattle.k_types.specs.declared.names.SharedId.{SharedId}
use Rattle.k_types.specs.FileOrder.{absorptions}
use Rattle.k_types.specs.Numbers.{numbers_below}
use Rattle.k_types.specs.Sound.{IsSound}
use Rattle.k_types.specs.State.{State}
use Rattle.k_types.specs.Steps.{IsPossible, is_orphan, state_after}
use Rattle.k_types.specs.Trace.{Trace, segment_count, segment_of}
use Rattle.k_laws.proofs.Histories.{state_next}
use Rattle.k_agree.specs.Meeting.{Fits}
use Rattle.k_agree.specs.Rooms.{event_room, exit_room}
use Rattle.k_agree.proofs.AtTheEnd.{book_sound}
use Rattle.k_agree.proofs.Meetings.{meeting}
use Rattle.k_agree.proofs.WithinRooms.{fits_rooms}
use Rattle.k_agree.proofs.Idle.{not_open}
use Rattle.k_process.specs.k_book.Books.{BookRecord}
use Rattle.k_process.proofs.Telling.{tells}
use Rattle.k_process.specs.k_cell.Holdings.{HoldingsValue}
use Rattle.k_process.specs.k_shared.SharedHeaps.{SharedRecord}
use Rattle.k_shares.specs.Sharers.{is_orphan_by, lowest_orphan}
use Rattle.k_collect.specs.Begun.{HasAppended}
use Rattle.k_own.specs.Absorbing.{CanAbsorb, HasAbsorbedHeap}
use Rattle.k_process.specs.Standing.{BookStands}
use Rattle.k_process.specs.Keeping.{BookKeeps, CanGive, KernelKeeps, SharedKeeps, is_absorbed_in}
use Rattle.k_process.specs.Rooms.{shared_exit_room}
use Rattle.k_process.specs.BetweenSteps.{RestStands}
use Rattle.k_process.specs.Worlds.{WorldValue}
use Rattle.k_process.proofs.MeetingKeeps.{shared_set}
use Rattle.k_operate.specs.Absorbing.{CanAbsorbOrphan, HasAbsorbedOrphan}
use Rattle.k_process.proofs.Lists.{found_passes}
use Rattle.k_operate.proofs.AbsorbOrphans.{absorptions_next, found_below, none_to_absorb}
use Rattle.k_operate.proofs.Appended.{book_keeps_on, gives_else, room_for}

-- what a book that stands tells of orphans
module _ (trace : Trace) (b : BookRecord) (stands : BookStands trace b) where
  abbrev at_last : State
  at_last = state_after trace b.journal.list

  pub sound_at_last : IsSound trace at_last
  sound_at_last = book_sound trace b.journal b.value stands.keeps.limits stands.agrees

  pub first_is : lowest_orphan b.value.phases b.value.shares ≡ find (is_orphan at_last) (numbers_below trace.shared_heaps)
  first_is = (tells trace at_last b stands.agrees.shows).orphan sound_at_last.shape.sized.phases

  pub first_told : (s : Option ℕ) → lowest_orphan b.value.phases b.value.shares ≡ s → find (is_orphan at_last) (numbers_below trace.shared_heaps) ≡ s
  first_told s first = sym first_is ∙ first

  pub heap_known : (s : SharedId) → lowest_orphan b.value.phases b.value.shares ≡ Some s.0 → s.0 < trace.shared_heaps
  heap_known s first = let low = found_below (is_orphan at_last) s.0 0 trace.shared_heaps (first_told (Some s.0) first) in omega (arith, low)

module _ (world : WorldValue) (s : SharedRecord) (k : HoldingsValue) (b : BookRecord) (can : CanAbsorbOrphan world s k b) where
  abbrev now : State
  now = state_after world.trace b.journal.list

  possible : Fits b.journal k.note → IsPossible world.trace now (Absorbed s.id)
  possible fits =
      let told = meeting world.trace b.journal b.value Kernel k.note k.value can.kernel.agrees can.book.stands.agrees fits in
      record {
        known = can.shared.agrees.there;
        orphan = found_passes (is_orphan now) (numbers_below world.trace.shared_heaps) s.id.0 (first_told world.trace b can.book.stands (Some s.id.0) can.orphan);
        idle = ap is_some (not_open world.trace now Kernel k.value (record { shows = told.shows can.kernel.agrees.tail; idle = can.kernel.idle }));
      }

  pub can_absorb : CanAbsorb world.trace s k b
  can_absorb = record {
    book_stands = can.book.stands;
    shared_stands = record { agrees = can.shared.agrees; table = can.shared.table ∙ sym can.book.table; segment = can.shared.segment; idle = can.shared.idle };
    kernel_stands = record { agrees = can.kernel.agrees; table = can.kernel.table ∙ sym can.book.table; segment = refl; idle = can.kernel.idle };
    orphan = found_passes (is_orphan_by b.value.phases b.value.shares) (numbers_below (length b.value.phases)) s.id.0 can.orphan;
    numbers = can.kernel.numbers;
    room = λ fits kernel_fits. room_for world.trace b (Absorbed s.id) can.book.stands can.book.follows.operations can.book.events (possible kernel_fits) tt;
  }

  module _ (t : SharedRecord) (x : HoldingsValue) (l : BookRecord) (event : Event) (a : HasAbsorbedHeap world.trace s t k x b l event) where
    appended : HasAppended world.trace b l (Absorbed s.id)
    appended =
        subst (HasAppended world.trace b l) a.event_is
        (record { possible = a.possible; lawful = a.lawful; journal = a.journal; same_table = a.same_table; book_is = a.book_is; agrees = a.book_agrees })

    book_then : BookKeeps world.trace world.table l
    book_then = book_keeps_on world.trace world.table b l (Absorbed s.id) can.book appended tt refl

    same_heap : t.id ≡ s.id
    same_heap = ap (λ (y : SharedRecord). y.id) a.shared_is

    shared_then : SharedKeeps world.trace world.table t
    shared_then = record {
      rules = can.shared.rules;
      agrees = a.agrees;
      table = a.table ∙ book_then.table;
      segment = ap (λ (y : SharedRecord). y.seg.0) a.shared_is ∙ can.shared.segment ∙ ap (λ (i : SharedId). segment_of world.trace (Shared i)) (sym same_heap);
      idle = a.idle;
      exits = subst (λ (y : SharedRecord). shared_exit_room world.trace y.id.0 ≤ y.exit_room) (sym a.shared_is) can.shared.exits;
      serials = λ stands. absurd (false≢true (sym stands ∙ ap is_absorbed_in a.phase));
    }

    not_first : s.seg.0 ≢ 0
    not_first e = let same = can.shared.segment in omega (arith, same, e)

    kernel_then : KernelKeeps world.trace world.table x
    kernel_then = record {
      rules = can.kernel.rules;
      agrees = a.kernel_agrees;
      table = a.kernel_table ∙ book_then.table;
      idle = a.kernel_idle;
      exits = subst (λ (y : HoldingsValue). exit_room world.trace ≤ y.exit_room) (sym a.kernel_is) can.kernel.exits;
      serials = subst (λ (y : HoldingsValue). CanGive world.trace y.serial_rooms 0) (sym a.kernel_is) (gives_else world.trace k.serial_rooms s.seg.0 _ not_first can.kernel.serials);
      numbers = subst (λ (y : HoldingsValue). segment_count world.trace ≤ y.bound) (sym a.kernel_is) can.kernel.numbers;
    }

    pub absorbed : HasAbsorbedOrphan world s t x b l
    absorbed = record { shared = shared_then; same = same_heap; kernel = kernel_then; book = book_then; journal = appended.journal }

-- each absorption takes room of the journal
pub less_room : (world : WorldValue) (old_b b : BookRecord) (s : SharedId) → BookKeeps world.trace world.table b → b.journal.list ≡ old_b.journal.list ++ Absorbed s ∷ [] →
    event_room world.trace - length b.journal.list < event_room world.trace - length old_b.journal.list
less_room world old_b b s k journal =
    let most = (fits_rooms world.trace b.journal.list k.stands.keeps k.stands.agrees.legal k.follows.operations).events in
    let more = ap length journal in
    let one = length-append old_b.journal.list (Absorbed s ∷ []) in
    omega (arith, most, more, one)

-- the orphans, one after the other
module _ (world : WorldValue) (k : HoldingsValue) (ss : List SharedRecord) (b : BookRecord) (rest : RestStands world k ss b) where
  pub none_absorbed : lowest_orphan b.value.phases b.value.shares ≡ None → (events : List Event) → b.journal.list ++ absorptions world.trace (state_after world.trace b.journal.list) ≡ events → b.journal.list ≡ events
  none_absorbed none events is =
      sym (append-nil b.journal.list)
      ∙ ap (λ es. b.journal.list ++ es) (sym (none_to_absorb world.trace (state_after world.trace b.journal.list) (first_told world.trace b rest.book.stands None none)))
      ∙ is

  module _ (id : SharedId) (first : lowest_orphan b.value.phases b.value.shares ≡ Some id.0) where
    pub heap_there : id.0 < length ss
    heap_there = subst (λ n. id.0 < n) (sym rest.shared.count) (heap_known world.trace b rest.book.stands id first)

    module _ (heap : SharedRecord) (at : slice_get ss id.0 ≡ Some heap) where
      pub can_absorb_first : CanAbsorbOrphan world heap k b
      can_absorb_first = record {
        shared = rest.shared.each id.0 heap at;
        kernel = rest.kernel;
        book = rest.book;
        orphan = first ∙ ap (λ n. Some n) (sym (rest.shared.placed id.0 heap at));
      }

      module _ (t : SharedRecord) (x : HoldingsValue) (l : BookRecord) (a : HasAbsorbedOrphan world heap t x b l) where
        pub rest_absorbed : RestStands world x (set ss id.0 t) l
        rest_absorbed = record {
          kernel = a.kernel;
          shared = shared_set world ss id.0 heap t rest.shared at a.shared a.same;
          book = a.book;
        }

        others_left : absorptions world.trace (state_after world.trace b.journal.list) ≡ Absorbed heap.id ∷ absorptions world.trace (state_after world.trace l.journal.list)
        others_left =
            absorptions_next world.trace (state_after world.trace b.journal.list) heap.id
            (let sized = (sound_at_last world.trace b rest.book.stands).shape.sized.phases in
            let known = (rest.shared.each id.0 heap at).agrees.there in
            omega (arith, sized, known))
            (first_told world.trace b rest.book.stands (Some heap.id.0) can_absorb_first.orphan)
            ∙ ap (λ (st : State). Absorbed heap.id ∷ absorptions world.trace st) (sym (ap (state_after world.trace) a.journal ∙ state_next world.trace b.journal.list (Absorbed heap.id)))

        pub absorbing_goes_on : (events : List Event) → b.journal.list ++ absorptions world.trace (state_after world.trace b.journal.list) ≡ events →
            l.journal.list ++ absorptions world.trace (state_after world.trace l.journal.list) ≡ events
        absorbing_goes_on events is =
            ap (λ es. es ++ absorptions world.trace (state_after world.trace l.journal.list)) a.journal
            ∙ append_assoc b.journal.list (Absorbed heap.id ∷ []) (absorptions world.trace (state_after world.trace l.journal.list))
            ∙ ap (λ es. b.journal.list ++ es) (sym others_left)
            ∙ is
