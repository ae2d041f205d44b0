-- An operation whose cells are lent one by one.
use Rattle.std.proofs.lemmas.List.{length-append}
use Rattle.std.proofs.Common.{◌≡◌, ◌+◌, refl, sym, ap, ◌∙◌, subst, List, [], ◌∷◌, length, IsFalse, IsTrue, inl, inr, arith}
use Rattle.k_types.specs.declared.event.Event.{Event}
use Rattle.k_types.specs.declared.event.Event.TheVariants.{Done}
use Rattle.k_types.specs.declared.event.Reply.{Reply}
use Rattle.k_types.specs.declared.names.Heap.TheVariants.{Kernel, Shared}
use Rattle.k_types.specs.declared.names.Pid.{Pid}
use Rattle.k_types.specs.declared.op.Op.{Op}
use Rattle.k_types.specs.declared.op.Op.TheVariants.{New, Store}
use Rattle.k_types.specs.Agree.{book_shown_by}
use Rattle.k_types.specs.Cells.{Cell}
use Rattle.k_laws.specs.Locals.{is_local_in}
use Rattle.k_laws.specs.Touches.{other_cells_in}
use Rattle.k_agree.specs.Shown.{idle_part}
use Rattle.k_book.specs.Books.{BookRecord}
use Rattle.k_cell.specs.Holdings.{HoldingsValue}
use Rattle.k_shared.specs.SharedHeaps.{SharedRecord}
use Rattle.k_operate.specs.Reach.{Reach}
use Rattle.k_operate.specs.Reaching.{CanReach, cells_of}
use Rattle.k_guests.specs.declared.guest.Guest.{Guest}
use Rattle.k_guests.specs.Serving.{Basis, BookServes, GuestServes, GuestServesWith, HasTailRoom, KeepsPair, KernelServes, SharedServes}
use Rattle.k_calls.specs.declared.came.Came.{Came}
use Rattle.k_calls.specs.declared.came.Came.TheVariants.{Did, Needs}
use Rattle.k_calls.specs.Adding.{HasOwnRoom, HasSharedRoom}
use Rattle.k_calls.specs.Apart.{HasTriedInside, IsDoneInside, IsLeft, IsRecordedWith, IsRecordedWithKernel, IsRecordedWithShared}
use Rattle.k_calls.specs.Doing.{CanDoInside, CanDoWithKernel, CanDoWithShared, HasDoneAlone, HasDoneInside, HasDoneWithKernel, HasDoneWithShared, HasEventsLeft, HasRoomToPublish, IsDue, IsDueWith, IsKernelReady, IsPublishedWhereFull, IsReady, bodies_for, left_after, provided_for, touched_by}

-- what an operation touches, where trying it inside has changed nothing
touched_before : (basis : Basis) (g h : Guest) (b : BookRecord) (op : Op) → h ≡ g → (cells : List Cell) → other_cells_in basis.trace (book_shown_by b.value) (idle_part h.cell.value) h.cell.pid.0 op ≡ cells →
    other_cells_in basis.trace (book_shown_by b.value) (idle_part g.cell.value) g.cell.pid.0 op ≡ cells
touched_before basis g h b op same cells touches = ap (λ (x : Guest). other_cells_in basis.trace (book_shown_by b.value) (idle_part x.cell.value) x.cell.pid.0 op) (sym same) ∙ touches

-- the body that is provided takes no room from the tables
provided_left : (basis : Basis) (g : Guest) (b : BookRecord) (op : Op) → HasOwnRoom basis g b op → HasOwnRoom basis (provided_for basis op g) b op
provided_left basis g b (New r ty) left = left
provided_left basis g b (Store base i value) left = left
provided_left basis g b _ left = tt

module _ (basis : Basis) (g : Guest) (b : BookRecord) (op : Op) (guest : GuestServes basis b.journal.table g) (book : BookServes basis b) (ready : IsReady basis g op) (room : HasEventsLeft basis g b) (few : HasTailRoom basis g) where
  pub can_inside : CanDoInside basis g op
  can_inside = record {
    serves = subst (λ t. GuestServes basis t g) (sym guest.table) guest;
    in_range = ready.in_range;
    awake = ready.awake;
    room = ready.room;
    tail = few;
  }

  -- an operation that is done inside, where what is unpublished then is published if it is full
  module _ (h : Guest) (said : Reply) (own : IsTrue (is_local_in (idle_part g.cell.value) g.cell.pid.0 op)) (d : HasDoneInside basis op g h said) where
    same_process : h.cell.pid ≡ g.cell.pid
    same_process = ap (λ (x : Guest). x.cell.pid) d.guest_is

    same_bodies : h.bodies ≡ g.bodies
    same_bodies = ap (λ (x : Guest). x.bodies) d.guest_is

    pub serves_inside : GuestServes basis b.journal.table h
    serves_inside = subst (λ t. GuestServes basis t h) guest.table d.serves

    pub room_inside : HasRoomToPublish basis h b
    room_inside =
        let longer : length h.cell.value.tail ≡ length g.cell.value.tail + 1 =
        ap (λ (x : Guest). length x.cell.value.tail) d.guest_is ∙ length-append g.cell.value.tail (Done g.cell.pid op said ∷ []) in
        omega (arith, room, longer)

    keeps_inside : (e : Guest) (l : BookRecord) → IsPublishedWhereFull basis h e b l → KeepsPair basis g e b l
    keeps_inside e l (inl stays) =
        subst (λ (x : BookRecord). KeepsPair basis g e b x) (sym stays.2)
        (subst (λ (x : Guest). KeepsPair basis g x b b) (sym stays.1) (record { guest = serves_inside; book = book; same_table = refl; pid = same_process; bodies = same_bodies }))
    keeps_inside e l (inr full) = record {
      guest = full.1.keeps.guest;
      book = full.1.keeps.book;
      same_table = full.1.keeps.same_table;
      pid = full.1.keeps.pid ∙ same_process;
      bodies = full.1.keeps.bodies ∙ same_bodies;
    }

    pub done_here : (e : Guest) (l : BookRecord) (pid : Pid) → pid ≡ h.cell.pid → IsPublishedWhereFull basis h e b l → IsDoneInside basis op g e b l (Done pid op said)
    done_here e l pid is published = record {
      own = own;
      said = said;
      event_is = ap (λ (p : Pid). Done p op said) (is ∙ same_process);
      mid = h;
      inside = d;
      published = published;
      keeps = keeps_inside e l published;
    }

  -- an operation that is not done inside
  module _ (h : Guest) (same : h ≡ g) (outside : IsFalse (is_local_in (idle_part g.cell.value) g.cell.pid.0 op)) where
    pub reach_can : CanReach basis.trace h.cell b op
    reach_can = subst (λ (x : Guest). CanReach basis.trace x.cell b op) (sym same) (record { book_stands = book.stands; agrees = guest.agrees; in_range = ready.in_range })

    pub left_here : (reached : Reach) → cells_of reached ≡ touched_by basis h b op → IsLeft basis op g h b b reached
    left_here reached told = record {
      due = record {
        guest = guest;
        book = book;
        ready = ready;
        outside = outside;
        room = room;
        touches = touched_before basis g h b op same (cells_of reached) (sym told);
      };
      guest_is = same;
      book_is = refl;
    }

-- an operation that is due
module _ (basis : Basis) (g : Guest) (b : BookRecord) (op : Op) (cells : List Cell) (due : IsDue basis g b op cells) where
  -- the process that is provided with its body serves
  serves_provided : GuestServesWith basis b.journal.table (bodies_for basis op (left_after basis op g.bodies)) (provided_for basis op g)
  serves_provided = record {
    rules = due.guest.rules;
    agrees = due.guest.agrees;
    table = due.guest.table;
    stock = refl;
    exits = due.guest.exits;
    serials = due.guest.serials;
    tail = due.guest.tail;
  }

  ready_provided : IsReady basis (provided_for basis op g) op
  ready_provided = record {
    in_range = due.ready.in_range;
    no_collection = due.ready.no_collection;
    goes_on = due.ready.goes_on;
    awake = record { lives = due.ready.awake.lives; idle = due.ready.awake.idle };
    room = due.ready.room;
  }

  -- where its process is provided with its body
  module _ (p : Guest) (is : p ≡ provided_for basis op g) where
    pub due_provided : IsDueWith basis p b op cells
    due_provided =
        subst (λ (x : Guest). IsDueWith basis x b op cells) (sym is)
        (record { guest = serves_provided; book = due.book; ready = ready_provided; outside = due.outside; room = due.room; touches = due.touches })

    pub own_left : HasOwnRoom basis g b op → HasOwnRoom basis p b op
    own_left left = subst (λ (x : Guest). HasOwnRoom basis x b op) (sym is) (provided_left basis g b op left)

    pub recorded : (e : Guest) (l : BookRecord) (event : Event) → HasDoneAlone basis op p e b l event → IsRecordedWith basis op cells g e b l event
    recorded e l event d = record { outside = due.outside; touches = due.touches; alone = subst (λ (x : Guest). HasDoneAlone basis op x e b l event) is d }

pub can_kernel : (basis : Basis) (g : Guest) (b : BookRecord) (op : Op) → IsDue basis g b op (Kernel ∷ []) → (p : Guest) → p ≡ provided_for basis op g → (k : HoldingsValue) → KernelServes basis b.journal.table k →
    IsKernelReady basis k b op → CanDoWithKernel basis p k b op
can_kernel basis g b op due p is k serves ready = record { due = due_provided basis g b op (Kernel ∷ []) due p is; kernel = serves; ready = ready }

pub recorded_kernel : (basis : Basis) (g : Guest) (b : BookRecord) (op : Op) → IsDue basis g b op (Kernel ∷ []) → (p : Guest) → p ≡ provided_for basis op g → (e : Guest) (x : HoldingsValue) (l : BookRecord) (event : Event) →
    HasDoneWithKernel basis op p e x b l event → IsRecordedWithKernel basis op g e x b l event
recorded_kernel basis g b op due p is e x l event d = record { recorded = recorded basis g b op (Kernel ∷ []) due p is e l event d.own; kernel = d.kernel; idle = d.idle }

pub can_shared : (basis : Basis) (g : Guest) (b : BookRecord) (op : Op) (s : SharedRecord) → IsDue basis g b op (Shared s.id ∷ []) → (p : Guest) → p ≡ provided_for basis op g → SharedServes basis b.journal.table s →
    HasSharedRoom basis s b op → CanDoWithShared basis p s b op
can_shared basis g b op s due p is serves room = record { due = due_provided basis g b op (Shared s.id ∷ []) due p is; shared = serves; room = room }

pub recorded_shared : (basis : Basis) (g : Guest) (b : BookRecord) (op : Op) (s : SharedRecord) → IsDue basis g b op (Shared s.id ∷ []) → (p : Guest) → p ≡ provided_for basis op g → (e : Guest) (t : SharedRecord) (l : BookRecord) (event : Event) →
    HasDoneWithShared basis op p e s t b l event → IsRecordedWithShared basis op g e s t b l event
recorded_shared basis g b op s due p is e t l event d = record { recorded = recorded basis g b op (Shared s.id ∷ []) due p is e l event d.own; shared = d.shared; same = d.same }

-- where nothing has changed, what holds of process and book holds of them as they were, and the other way round
module _ (basis : Basis) (op : Op) (g h : Guest) (b m : BookRecord) (reached : Reach) (left : IsLeft basis op g h b m reached) (P : Guest → BookRecord → Type 0) where
  pub as_before : P h m → P g b
  as_before holds = subst (λ (x : BookRecord). P g x) left.book_is (subst (λ (x : Guest). P x m) left.guest_is holds)

  pub as_now : P g b → P h m
  as_now holds = subst (λ (x : Guest). P x m) (sym left.guest_is) (subst (λ (x : BookRecord). P g x) (sym left.book_is) holds)

pub due_now : (basis : Basis) (op : Op) (g h : Guest) (b m : BookRecord) (reached : Reach) → IsLeft basis op g h b m reached → (cells : List Cell) → cells_of reached ≡ cells → IsDue basis h m op cells
due_now basis op g h b m reached left cells is =
    subst (λ (cs : List Cell). IsDue basis h m op cs) is (as_now basis op g h b m reached left (λ (x : Guest) (y : BookRecord). IsDue basis x y op (cells_of reached)) left.due)

-- what trying it inside told
module _ (basis : Basis) (op : Op) (g h : Guest) (b m : BookRecord) (came : Came) (tried : HasTriedInside basis op g h b m came) where
  pub tried_done : (event : Event) → came ≡ Did event → IsDoneInside basis op g h b m event
  tried_done event is = subst (HasTriedInside basis op g h b m) is tried

  pub tried_left : (reached : Reach) → came ≡ Needs reached → IsLeft basis op g h b m reached
  tried_left reached is = subst (HasTriedInside basis op g h b m) is tried
