-- The end of a process by another's operation can be done by what serves, which serves afterwards.
use Rattle.std.proofs.Common.{◌≡◌, ◌+◌, ◌<◌, refl, sym, ap, ◌∙◌, subst, [], ◌∷◌, ◌++◌, length, get_or, arith, None, IsFalse, Bool, true, false, cond, ◌≤◌}
use Rattle.std.proofs.lemmas.Bool.{and_parts, false≢true, not-true}
use Rattle.std.proofs.lemmas.List.{get_or-set_other}
use Rattle.k_types.specs.declared.event.Event.{Event}
use Rattle.k_types.specs.declared.names.Heap.TheVariants.{Kernel, User}
use Rattle.k_types.specs.declared.names.Pid.{Pid}
use Rattle.k_types.specs.declared.op.Op.{Op}
use Rattle.k_types.specs.declared.op.Op.TheVariants.{Kill}
use Rattle.k_types.specs.Agree.{book_shown_by}
use Rattle.k_types.specs.Cells.{BookPart, Cell, book_part}
use Rattle.k_types.specs.Limits.{is_above}
use Rattle.k_types.specs.Names.{among}
use Rattle.k_types.specs.Steps.{IsPossible, state_after}
use Rattle.k_types.specs.Trace.{segment_count}
use Rattle.k_laws.specs.Touches.{ends_other_in, other_cells_in}
use Rattle.k_agree.specs.Shown.{idle_part}
use Rattle.k_agree.proofs.Killing.{ends_by, never_one}
use Rattle.k_book.specs.Books.{BookRecord}
use Rattle.k_book.specs.Objects.{made_by}
use Rattle.k_cell.specs.Holdings.{HoldingsValue}
use Rattle.k_heap.specs.Heaps.{HeapRecord, has_ended_in, own_segment}
use Rattle.k_calls.specs.k_commit.Changed.{bodies_after}
use Rattle.k_calls.specs.k_commit.Published.{CanPublish, HasPublished}
use Rattle.k_calls.specs.k_commit.Standing.{HeapStands}
use Rattle.k_calls.specs.DepartKilling.{CanKill, HasKilled, ReachesEnd, kill_of}
use Rattle.k_calls.specs.Reaching.{CanReach}
use Rattle.k_calls.specs.k_guests.declared.guest.Guest.{Guest}
use Rattle.k_calls.specs.k_guests.Serving.{Basis, BookServes, HasSegment, GuestServes, GuestServesWith, KernelServes}
use Rattle.k_calls.specs.Doing.{HasEventsLeft, IsDueWith, IsReady, bodies_for, touched_by}
use Rattle.k_calls.proofs.Due.{book_published, can_publish, guest_published, longer_published}
use Rattle.k_calls.proofs.Going.{guest_goes_on}
use Rattle.k_calls.specs.k_guests.Reserve.{Spares}
use Rattle.k_calls.proofs.TestedRooms.{event_left}
use Rattle.k_laws.specs.Locals.{is_local_in}
use Rattle.k_types.specs.Distinct.{AreDistinctNames}
use Rattle.k_ends.proofs.Handed.{book_appended, exits_fit, own_few}
use Rattle.k_ends.specs.Killing.{CanKillNow, EndsThis, HasKilledNow}

ends_so : (ends : Bool) (q : Pid) → cond ends (User q ∷ Kernel ∷ []) [] ≡ User q ∷ Kernel ∷ [] → ends ≡ true
ends_so true q e = refl
ends_so false q e = absurd (cc e)

module _ (basis : Basis) (g t : Guest) (k : HoldingsValue) (b : BookRecord) (op : Op) (n : CanKillNow basis g t k b op) where
  pub publishes_own : CanPublish basis.trace g.cell b
  publishes_own = let room = n.can.room in can_publish basis g b n.guest n.book (omega (arith, room))

  -- once the process has published
  module _ (w : HeapRecord) (l : BookRecord) (s : HasPublished basis.trace g.cell.value.tail g.cell w b l) where
    guest_then : GuestServes basis l.journal.table (record g { cell = w })
    guest_then = guest_published basis g b n.guest n.book w l s

    book_then : BookServes basis l
    book_then = book_published basis g b n.guest n.book w l s

    target_then : GuestServes basis l.journal.table t
    target_then = subst (λ tie. GuestServes basis tie t) (sym s.same_table) n.target

    longer_then : length l.journal.list ≡ length b.journal.list + length g.cell.value.tail
    longer_then = longer_published basis g b n.guest n.book w l s

    pub publishes_target : CanPublish basis.trace t.cell l
    publishes_target = let room = n.can.room in let longer = longer_then in can_publish basis t l target_then book_then (omega (arith, room, longer))

    -- and the target too
    module _ (u : HeapRecord) (m : BookRecord) (r : HasPublished basis.trace t.cell.value.tail t.cell u l m) where
      guest_now : GuestServes basis m.journal.table (record g { cell = w })
      guest_now = subst (λ tie. GuestServes basis tie (record g { cell = w })) (sym r.same_table) guest_then

      target_now : GuestServes basis m.journal.table (record t { cell = u })
      target_now = guest_published basis t l target_then book_then u m r

      book_now : BookServes basis m
      book_now = book_published basis t l target_then book_then u m r

      left_now : length m.journal.list < basis.rooms.events
      left_now = let room = n.can.room in let first = longer_then in let second = longer_published basis t l target_then book_then u m r in omega (arith, room, first, second)

      same_target : u.pid ≡ t.cell.pid
      same_target = ap (λ (x : HeapRecord). x.pid) r.cell_is

      lives_now : IsFalse (has_ended_in w.value.process)
      lives_now = ap (λ (c : HeapRecord). has_ended_in c.value.process) s.cell_is ∙ n.ready.awake.lives

      heap_stands : HeapStands basis.trace w m
      heap_stands = record {
        agrees = guest_now.agrees;
        table = guest_now.table;
        settled = ap (λ (c : HeapRecord). c.value.tail) s.cell_is;
        idle = ap (λ (c : HeapRecord). c.value.collection) s.cell_is ∙ n.ready.awake.idle;
        lives = lives_now;
      }

      reaches_now : ReachesEnd basis.trace w u.pid m op
      reaches_now =
          ap (λ (x : BookRecord). other_cells_in basis.trace (book_shown_by x.value) (idle_part w.value) w.pid.0 op) r.book_is
          ∙ ap (λ (x : BookRecord). other_cells_in basis.trace (book_shown_by x.value) (idle_part w.value) w.pid.0 op) s.book_is
          ∙ ap (λ (c : HeapRecord). other_cells_in basis.trace (book_shown_by b.value) (idle_part c.value) c.pid.0 op) s.cell_is
          ∙ n.touches ∙ ap (λ (q : Pid). User q ∷ Kernel ∷ []) (sym same_target)

      -- the target lives, since the operation ends it
      target_lives : IsFalse (among u.pid.0 (state_after basis.trace m.journal.list).ended)
      unfolding other_cells_in book_part
      target_lives =
          let reached : other_cells_in basis.trace (book_shown_by m.value) (idle_part w.value) w.pid.0 (Kill u.pid) ≡ User u.pid ∷ Kernel ∷ [] =
          subst (λ (o : Op). other_cells_in basis.trace (book_shown_by m.value) (idle_part w.value) w.pid.0 o ≡ User u.pid ∷ Kernel ∷ []) (n.asks ∙ ap Kill (sym same_target)) reaches_now in
          let ends = ends_so (ends_other_in basis.trace (book_shown_by m.value) w.pid.0 u.pid.0) u.pid reached in
          sym (ap (λ (p : BookPart). p.ended u.pid.0) book_now.stands.agrees.shows.part) ∙ not-true _ (and_parts (is_above basis.trace w.pid.0 u.pid.0) _ ends).1

      pub can_kill : length u.value.exits ≤ u.exit_room → AreDistinctNames k.value.exits → CanKill basis.trace w u k m op
      can_kill few kernel_distinct = record {
        book_stands = book_now.stands;
        heap_stands = heap_stands;
        target_stands = record {
          agrees = target_now.agrees;
          table = target_now.table;
          settled = ap (λ (c : HeapRecord). c.value.tail) r.cell_is;
          idle = ap (λ (c : HeapRecord). c.value.collection) r.cell_is ∙ n.can.idle;
        };
        kernel_stands = record { agrees = n.kernel.agrees; table = n.kernel.table ∙ sym s.same_table ∙ sym r.same_table; segment = refl; idle = n.can.kernel_idle };
        numbers = n.kernel.numbers;
        asks = n.asks ∙ ap Kill (sym same_target);
        reaches = reaches_now;
        room = λ fits target_fits kernel_fits. record {
          events = event_left basis m m book_now refl left_now;
          exits = exits_fit basis m book_now u k target_now.agrees.there target_lives few target_now.exits n.kernel.agrees n.kernel.exits kernel_distinct kernel_fits;
        };
      }

      -- what the end of the target leaves
      module _ (distinct : AreDistinctNames u.value.exits) (few : length u.value.exits ≤ u.exit_room) (v x : HeapRecord) (y : HoldingsValue) (e : BookRecord) (event : Event) (d : HasKilled basis.trace w v u x k y m e op event) where
        guest_after : GuestServes basis e.journal.table (record g { cell = v })
        guest_after =
            guest_goes_on basis m.journal.table e.journal.table (record g { cell = w }) v g.bodies guest_now
            (d.own.cell_is ∙ ap (λ (c : HeapRecord). record w { note = v.note; value = v.value; bodies = c.bodies }) (sym d.own.cell_is))
            d.own.agrees d.own.table
            (ap (λ (c : HeapRecord). c.bodies) d.own.cell_is ∙ ap (λ (o : Op). bodies_after o w.bodies) n.asks ∙ guest_now.stock)
            (λ lives. lives_now)

        target_after : GuestServes basis e.journal.table (record t { cell = x })
        target_after = record {
          rules = target_now.rules;
          agrees = d.ends.agrees;
          table = d.ends.table;
          stock = ap (λ (c : HeapRecord). c.bodies) d.ends.cell_is ∙ target_now.stock;
          exits = ap (λ (c : HeapRecord). c.exit_room) d.ends.cell_is ∙ target_now.exits;
          serials = λ lives. absurd (false≢true (sym lives ∙ d.ends.ended));
          tail = subst (λ (c : HeapRecord). basis.rooms.tail ≤ c.tail_room) (sym d.ends.cell_is) target_now.tail;
        }

        kernel_after : KernelServes basis e.journal.table y
        kernel_after = record {
          rules = n.kernel.rules;
          agrees = d.ends.kernel_agrees;
          table = d.ends.kernel_table;
          exits = ap (λ (z : HoldingsValue). z.exit_room) d.ends.kernel_is ∙ n.kernel.exits;
          serials = subst (λ (z : HoldingsValue). HasSegment basis.rooms.objects z.serial_rooms 0) (sym d.ends.kernel_is)
              (get_or-set_other k.serial_rooms (own_segment u.pid) 0 (get_or u.serial_rooms (own_segment u.pid) None) None (λ i. omega (arith, i)) ∙ n.kernel.serials);
          numbers = subst (λ (z : HoldingsValue). segment_count basis.trace ≤ z.bound) (sym d.ends.kernel_is) n.kernel.numbers;
        }

        book_after : BookServes basis e
        book_after =
            book_appended basis m book_now e event d.own.book_is d.own.book_agrees d.own.journal d.own.possible
            (subst (λ (f : Event). Spares basis.trace basis.rooms.exits basis.rooms.kernel_exits (state_after basis.trace m.journal.list) f) (sym d.answered)
            (λ lives. own_few basis m book_now u target_now.agrees (ap (λ (c : HeapRecord). c.value.tail) r.cell_is) d.ends.fits distinct few target_now.exits))
            (ap made_by d.answered)

        same_table : e.journal.table ≡ b.journal.table
        same_table = d.own.same_table ∙ r.same_table ∙ s.same_table

        known : m.journal.list ≡ (b.journal.list ++ g.cell.value.tail) ++ t.cell.value.tail
        known = r.journal ∙ ap (λ events. events ++ t.cell.value.tail) s.journal

        pub has_killed : HasKilledNow basis op g (record g { cell = v }) t (record t { cell = x }) y b e event
        has_killed = record {
          touches = n.touches;
          keeps = record {
            guest = guest_after;
            book = book_after;
            same_table = same_table;
            pid = ap (λ (c : HeapRecord). c.pid) d.own.cell_is ∙ ap (λ (c : HeapRecord). c.pid) s.cell_is;
            bodies = refl;
          };
          target = record { guest = target_after; book = book_after; same_table = same_table; pid = ap (λ (c : HeapRecord). c.pid) d.ends.cell_is ∙ same_target; bodies = refl };
          kernel = kernel_after;
          event_is = d.answered ∙ ap (λ (c : HeapRecord). kill_of c.pid u.pid) s.cell_is ∙ ap (kill_of g.cell.pid) same_target;
          journal = d.own.journal ∙ ap (λ events. events ++ event ∷ []) known;
          possible = subst (λ events. IsPossible basis.trace (state_after basis.trace events) event) known d.own.possible;
          settled = d.own.settled;
          target_settled = d.ends.settled;
          idle = d.own.idle;
          kernel_idle = d.ends.kernel_idle;
          ended = d.ends.ended;
        }

-- any kill of the process, by what it reaches
module _ (basis : Basis) (g t : Guest) (b : BookRecord) (op : Op) (guest : GuestServes basis b.journal.table g) (book : BookServes basis b) (ready : IsReady basis g op) (room : HasEventsLeft basis g b)
    (asks : op ≡ Kill t.cell.pid) where
  pub reach_can : CanReach basis.trace g.cell b op
  reach_can = record { book_stands = book.stands; agrees = guest.agrees; in_range = ready.in_range }

  outside : is_local_in (idle_part g.cell.value) g.cell.pid.0 op ≡ false
  unfolding is_local_in
  outside = ap (is_local_in (idle_part g.cell.value) g.cell.pid.0) asks

  pub due_alone : touched_by basis g b op ≡ [] → IsDueWith basis g b op []
  due_alone touches = record {
    guest = subst (λ (o : Op). GuestServesWith basis b.journal.table (bodies_for basis o g.bodies) g) (sym asks) guest;
    book = book;
    ready = ready;
    outside = outside;
    room = room;
    touches = touches;
  }

  -- a kill does not reach one cell
  pub never_one_now : (cell : Cell) → touched_by basis g b op ≡ cell ∷ [] → ⊥
  unfolding other_cells_in
  never_one_now cell reached =
      never_one (ends_other_in basis.trace (book_shown_by b.value) g.cell.pid.0 t.cell.pid.0) t.cell.pid cell
      (ap (other_cells_in basis.trace (book_shown_by b.value) (idle_part g.cell.value) g.cell.pid.0) (sym asks) ∙ reached)

  -- the process that it ends is the target
  pub ends_this : (q : Pid) → touched_by basis g b op ≡ User q ∷ Kernel ∷ [] → EndsThis basis g t b op
  ends_this q reached =
      let by = ends_by basis.trace (book_shown_by b.value) g.cell.pid.0 q (idle_part g.cell.value) op reached in
      let kill : Kill q ≡ Kill t.cell.pid = sym by.0 ∙ asks in
      let same : q ≡ t.cell.pid = cc kill in
      reached ∙ ap (λ (r : Pid). User r ∷ Kernel ∷ []) same
