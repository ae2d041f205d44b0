-- An operation with whatever it touches.
use Rattle.std.proofs.Common.{◌≡◌, ◌<◌, refl, sym, ap, ◌∙◌, subst, List, [], ◌∷◌, length, get_or, set, Some, slice_get, Result, Ok, Err, inl, inr, arith}
use Rattle.std.specs.Prelude.{IfErr, IfOk}
use Rattle.std.proofs.lemmas.List.{set-get_or}
use Rattle.k_types.specs.declared.event.Event.{Event}
use Rattle.k_types.specs.declared.names.Heap.TheVariants.{Kernel, Shared}
use Rattle.k_types.specs.declared.names.SharedId.{SharedId}
use Rattle.k_types.specs.declared.op.Op.{Op}
use Rattle.k_types.specs.Cells.{Cell}
use Rattle.k_agree.specs.Shown.{idle_part}
use Rattle.k_book.specs.Books.{BookRecord}
use Rattle.k_cell.specs.Holdings.{HoldingsValue}
use Rattle.k_shared.specs.SharedHeaps.{SharedRecord}
use Rattle.k_operate.proofs.HeapsReached.{heap_reached}
use Rattle.k_operate.specs.Reach.{Reach}
use Rattle.k_operate.specs.Reach.TheVariants.{Shared as SharedReach}
use Rattle.k_operate.specs.Reaching.{cells_of}
use Rattle.k_guests.specs.declared.guest.Guest.{Guest}
use Rattle.k_guests.specs.Serving.{Basis, HasTailRoom, HeapsServe, KernelServes, SharedServes}
use Rattle.k_calls.specs.declared.errors.HostError.{HostError}
use Rattle.k_calls.specs.Apart.{CanNotDoAlone, CanNotDoWithKernel, CanNotDoWithShared, CanNotTry, IsDoneInside, IsLeft, IsRecordedWith, IsRecordedWithKernel, IsRecordedWithShared}
use Rattle.k_calls.specs.Doing.{CanOperate, HasDoneInside, HasOperated, IsDue, LeavesOthers, touched_by}
use Rattle.k_calls.specs.Refusals.{CanNotOperateAlone}
use Rattle.k_calls.proofs.Lent.{as_before, due_now}
use Rattle.k_calls.proofs.Staying.{heaps_set, heaps_stay, kernel_stays}

module _ (basis : Basis) (g : Guest) (k : HoldingsValue) (ss : List SharedRecord) (b : BookRecord) (op : Op) (can : CanOperate basis g k ss b) where
  -- a refusal of an operation whose cells are lent one by one is one of an operation that is lent all
  pub try_barred : (why : HostError) → CanNotTry basis b op g why → CanNotOperateAlone basis k ss b op g why
  try_barred why (inl ready) = inl (inl ready)
  try_barred why (inr room) = inl (inr (inl room))

  pub alone_barred : (why : HostError) → CanNotDoAlone basis b op g why → CanNotOperateAlone basis k ss b op g why
  alone_barred why (inl none) = try_barred why none
  alone_barred why (inr own) = inl (inr (inr (inl own)))

  pub kernel_barred : (why : HostError) → CanNotDoWithKernel basis k b op g why → CanNotOperateAlone basis k ss b op g why
  kernel_barred why (inl none) = try_barred why none
  kernel_barred why (inr kernel) = inl (inr (inr (inr (inl kernel))))

  pub inside_operated : (e : Guest) (l : BookRecord) (event : Event) → IsDoneInside basis op g e b l event → HasOperated basis op g e k k ss ss b l event
  inside_operated e l event d = record {
    can = record {
      guest = d.keeps.guest;
      rest = record {
        kernel = kernel_stays basis b.journal.table l.journal.table d.keeps.same_table k can.rest.kernel;
        heaps = heaps_stay basis b.journal.table l.journal.table d.keeps.same_table ss can.rest.heaps;
        book = d.keeps.book;
      };
    };
    same_table = d.keeps.same_table;
    pid = d.keeps.pid;
    said = d.said;
    event_is = d.event_is;
    done = elim d.published [
      | inl stays ↦ inl (record {
        own = d.own;
        inside = subst (λ (x : Guest). HasDoneInside basis op g x d.said) (sym stays.1) d.inside;
        few = subst (HasTailRoom basis) (sym stays.1) stays.0;
        kernel_is = refl;
        shared_is = refl;
        book_is = stays.2;
      })
      | inr full ↦ inr (inl (record { own = d.own; mid = d.mid; inside = d.inside; full = full.0; published = full.1; kernel_is = refl; shared_is = refl }))
    ];
  }

  operated : (cells : List Cell) (e : Guest) (x : HoldingsValue) (ts : List SharedRecord) (l : BookRecord) (event : Event) → KernelServes basis l.journal.table x → HeapsServe basis l.journal.table ts →
      IsRecordedWith basis op cells g e b l event → LeavesOthers (touched_by basis g b op) k x ss ts → HasOperated basis op g e k x ss ts b l event
  operated cells e x ts l event kernel heaps d others = record {
    can = record { guest = d.alone.guest; rest = record { kernel = kernel; heaps = heaps; book = d.alone.book } };
    same_table = d.alone.same_table;
    pid = d.alone.pid;
    said = d.alone.said;
    event_is = d.alone.event_is;
    done = inr (inr (record {
      outside = d.outside;
      appended = record { journal = d.alone.appended.journal; possible = d.alone.appended.possible };
      settled = d.alone.settled;
      idle = d.alone.idle;
      bodies = d.alone.bodies;
      others = others;
    }));
  }

  pub alone_operated : (e : Guest) (l : BookRecord) (event : Event) → IsRecordedWith basis op [] g e b l event → HasOperated basis op g e k k ss ss b l event
  alone_operated e l event d =
      operated [] e k ss l event (kernel_stays basis b.journal.table l.journal.table d.alone.same_table k can.rest.kernel) (heaps_stay basis b.journal.table l.journal.table d.alone.same_table ss can.rest.heaps) d
      (inl (record { touches = d.touches; kernel_is = refl; shared_is = refl }))

  pub kernel_operated : (e : Guest) (x : HoldingsValue) (l : BookRecord) (event : Event) → IsRecordedWithKernel basis op g e x b l event → HasOperated basis op g e k x ss ss b l event
  kernel_operated e x l event d =
      operated (Kernel ∷ []) e x ss l event d.kernel (heaps_stay basis b.journal.table l.journal.table d.recorded.alone.same_table ss can.rest.heaps) d.recorded
      (inr (inl (record { touches = d.recorded.touches; idle = d.idle; shared_is = refl })))

  pub heap_there : (id : SharedId) → IsDue basis g b op (Shared id ∷ []) → id.0 < length ss
  heap_there id due =
      let known = heap_reached basis.trace b can.rest.book.stands g.cell.pid.0 id (idle_part g.cell.value) op due.ready.in_range due.touches in
      let count = can.rest.heaps.count in
      omega (arith, known, count)

  module _ (id : SharedId) (s : SharedRecord) (at : slice_get ss id.0 ≡ Some s) where
    pub named : s.id ≡ id
    named = ap (λ n. record { 0 = n }) (can.rest.heaps.placed id.0 s at)

    told : touched_by basis g b op ≡ Shared s.id ∷ [] → touched_by basis g b op ≡ Shared id ∷ []
    told touches = touches ∙ ap (λ (i : SharedId). Shared i ∷ []) named

    pub shared_serves : SharedServes basis b.journal.table s
    shared_serves = can.rest.heaps.each id.0 s at

    pub shared_operated : (e : Guest) (t : SharedRecord) (l : BookRecord) (event : Event) → IsRecordedWithShared basis op g e s t b l event → HasOperated basis op g e k k ss (set ss id.0 t) b l event
    shared_operated e t l event d =
        operated (Shared s.id ∷ []) e k (set ss id.0 t) l event (kernel_stays basis b.journal.table l.journal.table d.recorded.alone.same_table k can.rest.kernel)
        (heaps_set basis b.journal.table l.journal.table d.recorded.alone.same_table ss id.0 s t can.rest.heaps at d.shared d.same) d.recorded
        (inr (inr (record { id = id; after = t; touches = told d.recorded.touches; kernel_is = refl; shared_is = refl })))

    pub shared_barred : (why : HostError) → CanNotDoWithShared basis s b op g why → CanNotOperateAlone basis k ss b op g why
    shared_barred why (inl none) = try_barred why none
    shared_barred why (inr heap) = inl (inr (inr (inr (inr (record { id = id; heap = s; there = at; touches = told heap.touches; barred = heap.barred })))))

-- an operation whose cells are told by a try inside that has changed nothing
module _ (basis : Basis) (g : Guest) (k : HoldingsValue) (ss : List SharedRecord) (b : BookRecord) (op : Op) (can : CanOperate basis g k ss b) (h : Guest) (m : BookRecord) (reached : Reach) (left : IsLeft basis op g h b m reached) where
  before : (P : Guest → BookRecord → Type 0) → P h m → P g b
  before P holds = as_before basis op g h b m reached left P holds

  pub alone_done : (r : Result Event HostError) (e : Guest) (l : BookRecord) → IfOk r (λ event. IsRecordedWith basis op [] h e m l event) → IfOk r (λ event. HasOperated basis op g e k k ss ss b l event)
  alone_done (Ok event) e l done = alone_operated basis g k ss b op can e l event (before (λ (x : Guest) (y : BookRecord). IsRecordedWith basis op [] x e y l event) done)
  alone_done (Err why) e l done = tt

  pub alone_same : (r : Result Event HostError) (e : Guest) (l : BookRecord) → IfErr r (λ why. (e ≡ h) × (l ≡ m)) → IfErr r (λ why. (e ≡ g) × (k ≡ k) × (ss ≡ ss) × (l ≡ b))
  alone_same (Ok event) e l same = tt
  alone_same (Err why) e l same = (same.0 ∙ left.guest_is, refl, refl, same.1 ∙ left.book_is)

  pub alone_why : (r : Result Event HostError) → IfErr r (λ why. CanNotDoAlone basis m op h why) → IfErr r (λ why. CanNotOperateAlone basis k ss b op g why)
  alone_why (Ok event) lacks = tt
  alone_why (Err why) lacks = alone_barred basis g k ss b op can why (before (λ (x : Guest) (y : BookRecord). CanNotDoAlone basis y op x why) lacks)

  pub kernel_there : KernelServes basis m.journal.table k
  kernel_there = subst (λ (y : BookRecord). KernelServes basis y.journal.table k) (sym left.book_is) can.rest.kernel

  pub kernel_done : (r : Result Event HostError) (e : Guest) (x : HoldingsValue) (l : BookRecord) → IfOk r (λ event. IsRecordedWithKernel basis op h e x m l event) → IfOk r (λ event. HasOperated basis op g e k x ss ss b l event)
  kernel_done (Ok event) e x l done = kernel_operated basis g k ss b op can e x l event (before (λ (y : Guest) (z : BookRecord). IsRecordedWithKernel basis op y e x z l event) done)
  kernel_done (Err why) e x l done = tt

  pub kernel_same : (r : Result Event HostError) (e : Guest) (x : HoldingsValue) (l : BookRecord) → IfErr r (λ why. (e ≡ h) × (x ≡ k) × (l ≡ m)) → IfErr r (λ why. (e ≡ g) × (x ≡ k) × (ss ≡ ss) × (l ≡ b))
  kernel_same (Ok event) e x l same = tt
  kernel_same (Err why) e x l same = (same.0 ∙ left.guest_is, same.1, refl, same.2 ∙ left.book_is)

  pub kernel_why : (r : Result Event HostError) → IfErr r (λ why. CanNotDoWithKernel basis k m op h why) → IfErr r (λ why. CanNotOperateAlone basis k ss b op g why)
  kernel_why (Ok event) lacks = tt
  kernel_why (Err why) lacks = kernel_barred basis g k ss b op can why (before (λ (x : Guest) (y : BookRecord). CanNotDoWithKernel basis k y op x why) lacks)

  module _ (id : SharedId) (is : reached ≡ SharedReach id) where
    pub place_there : id.0 < length ss
    place_there = heap_there basis g k ss b op can id (subst (λ (r : Reach). IsDue basis g b op (cells_of r)) is left.due)

    module _ (s : SharedRecord) (at : slice_get ss id.0 ≡ Some s) where
      pub heap_due : IsDue basis h m op (Shared s.id ∷ [])
      heap_due = due_now basis op g h b m reached left (Shared s.id ∷ []) (ap cells_of is ∙ ap (λ (i : SharedId). Shared i ∷ []) (sym (named basis g k ss b op can id s at)))

      pub heap_serves : SharedServes basis m.journal.table s
      heap_serves = subst (λ (y : BookRecord). SharedServes basis y.journal.table s) (sym left.book_is) (shared_serves basis g k ss b op can id s at)

      pub heap_done : (r : Result Event HostError) (e : Guest) (t : SharedRecord) (l : BookRecord) → IfOk r (λ event. IsRecordedWithShared basis op h e s t m l event) → IfOk r (λ event. HasOperated basis op g e k k ss (set ss id.0 t) b l event)
      heap_done (Ok event) e t l done = shared_operated basis g k ss b op can id s at e t l event (before (λ (y : Guest) (z : BookRecord). IsRecordedWithShared basis op y e s t z l event) done)
      heap_done (Err why) e t l done = tt

      pub heap_same : (r : Result Event HostError) (e : Guest) (t : SharedRecord) (l : BookRecord) → IfErr r (λ why. (e ≡ h) × (t ≡ s) × (l ≡ m)) → s ≡ get_or ss id.0 s → IfErr r (λ why. (e ≡ g) × (k ≡ k) × (set ss id.0 t ≡ ss) × (l ≡ b))
      heap_same (Ok event) e t l same read = tt
      heap_same (Err why) e t l same read = (same.0 ∙ left.guest_is, refl, ap (set ss id.0) (same.1 ∙ read) ∙ set-get_or ss id.0 s, same.2 ∙ left.book_is)

      pub heap_why : (r : Result Event HostError) → IfErr r (λ why. CanNotDoWithShared basis s m op h why) → IfErr r (λ why. CanNotOperateAlone basis k ss b op g why)
      heap_why (Ok event) lacks = tt
      heap_why (Err why) lacks = shared_barred basis g k ss b op can id s at why (before (λ (x : Guest) (y : BookRecord). CanNotDoWithShared basis s y op x why) lacks)
