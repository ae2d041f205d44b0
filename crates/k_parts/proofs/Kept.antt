-- What a call leaves of the parts that it is lent: they serve together still.
use Rattle.std.proofs.Common.{◌≡◌, ◌∙◌, sym, ap, subst, [], length, arith, inl, inr, IfSome, Option, Some, None, Result, Ok, Err}
use Rattle.std.specs.Prelude.{IfErr, IfOk, IfNone}
use Rattle.std.specs.Bool.{⊤}
use Rattle.atomic_table.specs.Seated.{TableId}
use Rattle.k_types.specs.declared.event.Event.{Event}
use Rattle.k_types.specs.declared.event.Reply.{Reply}
use Rattle.k_types.specs.declared.op.Op.{Op}
use Rattle.k_book.specs.Books.{BookRecord}
use Rattle.k_cell.specs.Holdings.{HoldingsValue}
use Rattle.k_shared.specs.SharedHeaps.{SharedRecord}
use Rattle.k_ends.specs.HostError.{HostError}
use Rattle.k_ends.specs.Came.{Came}
use Rattle.k_ends.specs.Came.TheVariants.{Did, Needs}
use Rattle.k_ends.specs.Apart.{HasComeAlone, HasComeWithKernel, HasComeWithShared, IsDoneInside}
use Rattle.k_ends.specs.Collecting.{HasAbsorbedNow, HasExitedNow}
use Rattle.k_ends.specs.Doing.{HasDoneAlone, HasDoneInside, HasPublishedAll, IsPublishedWhereFull, provided_for}
use Rattle.k_ends.specs.Killing.{HasTriedToKill}
use Rattle.k_ends.specs.Whole.{HasCollected, HasCollectedKernel}
use Rattle.k_ends.specs.k_guests.declared.guest.Guest.{Guest}
use Rattle.k_ends.specs.k_guests.Serving.{Basis, BookServes, GuestServes, HasTailRoom, KeepsPair, KernelServes, SharedServes}
use Rattle.k_parts.specs.declared.head.Head.{Head}
use Rattle.k_parts.specs.Parts.{BookServesApart, GuestPartValue, GuestServesApart, guest_seen}

-- process and book serve together
pub record ServeTogether (basis : Basis) (table : TableId) (g : Guest) (b : BookRecord) : Type 0 where
  pub guest : GuestServesApart basis table g
  pub book : BookServesApart basis table b

-- nothing of it is unpublished, so there is room for one more
few_if_settled : (basis : Basis) (g h : Guest) → HasTailRoom basis g → h.cell.value.tail ≡ [] → HasTailRoom basis h
few_if_settled basis g h few settled = let none = ap length settled in omega (arith, none, few)

-- a process and the book were lent
module _ {basis : Basis} {table : TableId} {g : Guest} {b : BookRecord} (guest : GuestServesApart basis table g) (book : BookServesApart basis table b) (h : Guest) (l : BookRecord) where
  unchanged : h ≡ g → l ≡ b → ServeTogether basis table h l
  unchanged same same_book = record { guest = subst (GuestServesApart basis table) (sym same) guest; book = subst (BookServesApart basis table) (sym same_book) book }

  of_pair : GuestServes basis l.journal.table h → HasTailRoom basis h → BookServes basis l → l.journal.table ≡ b.journal.table → ServeTogether basis table h l
  of_pair serves few book_serves same = record {
    guest = record { serves = subst (λ (n : TableId). GuestServes basis n h) (same ∙ book.table_is) serves; few = few };
    book = record { serves = book_serves; table_is = same ∙ book.table_is };
  }

  settled_pair : KeepsPair basis g h b l → h.cell.value.tail ≡ [] → ServeTogether basis table h l
  settled_pair keeps settled = of_pair keeps.guest (few_if_settled basis g h guest.few settled) keeps.book keeps.same_table

  kept_few : (mid : Guest) → IsPublishedWhereFull basis mid h b l → HasTailRoom basis h
  kept_few mid (inl stays) = subst (HasTailRoom basis) (sym stays.1) stays.0
  kept_few mid (inr full) = few_if_settled basis g h guest.few (ap (λ (x : Guest). x.cell.value.tail) full.1.guest_is)

  done_inside : (op : Op) (event : Event) → IsDoneInside basis op g h b l event → ServeTogether basis table h l
  done_inside op event d = of_pair d.keeps.guest (kept_few d.mid d.published) d.keeps.book d.keeps.same_table

  done_alone : (op : Op) (p : Guest) (event : Event) → HasDoneAlone basis op p h b l event → ServeTogether basis table h l
  done_alone op p event d = of_pair d.guest (few_if_settled basis g h guest.few d.settled) d.book d.same_table

  pub published : (r : Result ⊤ HostError) → IfOk r (λ _. HasPublishedAll basis g h b l) → IfErr r (λ why. (h ≡ g) × (l ≡ b)) → ServeTogether basis table h l
  published (Ok done) d same = settled_pair d.keeps (ap (λ (x : Guest). x.cell.value.tail) d.guest_is)
  published (Err why) d same = unchanged same.0 same.1

  pub came_alone : (op : Op) (r : Result Came HostError) → IfOk r (λ came. HasComeAlone basis op g h b l came) → IfErr r (λ why. (h ≡ g) × (l ≡ b)) → ServeTogether basis table h l
  came_alone op (Ok (Did event)) (inl inside) same = done_inside op event inside
  came_alone op (Ok (Did event)) (inr d) same = done_alone op (provided_for basis op g) event d.alone
  came_alone op (Ok (Needs reached)) d same = unchanged d.left.guest_is d.left.book_is
  came_alone op (Err why) d same = unchanged same.0 same.1

  pub collected : (r : Result Event HostError) → IfOk r (λ event. HasCollected basis g h b l event) → IfErr r (λ why. (h ≡ g) × (l ≡ b)) → ServeTogether basis table h l
  collected (Ok event) d same = settled_pair d.keeps d.settled
  collected (Err why) d same = unchanged same.0 same.1

  -- the kernel's cell was lent too
  module _ {k : HoldingsValue} (kernel : KernelServes basis table k) (x : HoldingsValue) where
    kernel_unchanged : x ≡ k → KernelServes basis table x
    kernel_unchanged same = subst (KernelServes basis table) (sym same) kernel

    kernel_of : l.journal.table ≡ b.journal.table → KernelServes basis l.journal.table x → KernelServes basis table x
    kernel_of same serves = subst (λ (n : TableId). KernelServes basis n x) (same ∙ book.table_is) serves

    pub came_with_kernel : (op : Op) (r : Result Came HostError) → IfOk r (λ came. HasComeWithKernel basis op g h k x b l came) → IfErr r (λ why. (h ≡ g) × (x ≡ k) × (l ≡ b)) → ServeTogether basis table h l × KernelServes basis table x
    came_with_kernel op (Ok (Did event)) (inl inside) same = (done_inside op event inside.0, kernel_unchanged inside.1)
    came_with_kernel op (Ok (Did event)) (inr d) same = (done_alone op (provided_for basis op g) event d.recorded.alone, kernel_of d.recorded.alone.same_table d.kernel)
    came_with_kernel op (Ok (Needs reached)) d same = (unchanged d.0.left.guest_is d.0.left.book_is, kernel_unchanged d.1)
    came_with_kernel op (Err why) d same = (unchanged same.0 same.2, kernel_unchanged same.1)

    pub collected_kernel : (r : Result Event HostError) → IfOk r (λ event. HasCollectedKernel basis g h x b l event) → IfErr r (λ why. (h ≡ g) × (x ≡ k) × (l ≡ b)) → ServeTogether basis table h l × KernelServes basis table x
    collected_kernel (Ok event) d same = (settled_pair d.keeps d.settled, kernel_of d.keeps.same_table d.kernel)
    collected_kernel (Err why) d same = (unchanged same.0 same.2, kernel_unchanged same.1)

    pub exited : (r : Result Event HostError) → IfOk r (λ event. HasExitedNow basis g h x b l event) → IfErr r (λ why. (h ≡ g) × (x ≡ k) × (l ≡ b)) → ServeTogether basis table h l × KernelServes basis table x
    exited (Ok event) d same = (settled_pair d.goes_on.keeps d.goes_on.settled, kernel_of d.goes_on.keeps.same_table d.kernel)
    exited (Err why) d same = (unchanged same.0 same.2, kernel_unchanged same.1)

    -- and the process that is killed
    module _ {t : Guest} (target : GuestServesApart basis table t) (u : Guest) where
      target_unchanged : u ≡ t → GuestServesApart basis table u
      target_unchanged same = subst (GuestServesApart basis table) (sym same) target

      pub killed : (op : Op) (r : Result Event HostError) → IfOk r (λ event. HasTriedToKill basis op g h t u k x b l event) → IfErr r (λ why. (h ≡ g) × (u ≡ t) × (x ≡ k) × (l ≡ b)) →
          ServeTogether basis table h l × KernelServes basis table x × GuestServesApart basis table u
      killed op (Ok event) (inl d) same = (done_alone op g event d.alone, kernel_unchanged d.kernel_is, target_unchanged d.target_is)
      killed op (Ok event) (inr d) same = (
        settled_pair d.keeps d.settled,
        kernel_of d.keeps.same_table d.kernel,
        record { serves = subst (λ (n : TableId). GuestServes basis n u) (d.keeps.same_table ∙ book.table_is) d.target.guest; few = few_if_settled basis t u target.few d.target_settled },
      )
      killed op (Err why) d same = (unchanged same.0 same.3, kernel_unchanged same.2, target_unchanged same.1)

  -- the cell of a shared heap was lent too
  module _ {s : SharedRecord} (shared : SharedServes basis table s) (x : SharedRecord) where
    shared_unchanged : x ≡ s → SharedServes basis table x
    shared_unchanged same = subst (SharedServes basis table) (sym same) shared

    pub came_with_shared : (op : Op) (r : Result Came HostError) → IfOk r (λ came. HasComeWithShared basis op g h s x b l came) → IfErr r (λ why. (h ≡ g) × (x ≡ s) × (l ≡ b)) → ServeTogether basis table h l × SharedServes basis table x
    came_with_shared op (Ok (Did event)) (inl inside) same = (done_inside op event inside.0, shared_unchanged inside.1)
    came_with_shared op (Ok (Did event)) (inr d) same =
        (done_alone op (provided_for basis op g) event d.recorded.alone, subst (λ (n : TableId). SharedServes basis n x) (d.recorded.alone.same_table ∙ book.table_is) d.shared)
    came_with_shared op (Ok (Needs reached)) d same = (unchanged d.0.left.guest_is d.0.left.book_is, shared_unchanged d.1)
    came_with_shared op (Err why) d same = (unchanged same.0 same.2, shared_unchanged same.1)

-- a shared heap, the kernel and the book serve together
pub record ServeInAbsorption (basis : Basis) (table : TableId) (s : SharedRecord) (k : HoldingsValue) (b : BookRecord) : Type 0 where
  pub shared : SharedServes basis table s
  pub kernel : KernelServes basis table k
  pub book : BookServesApart basis table b

pub absorbed : {basis : Basis} {table : TableId} {s : SharedRecord} {k : HoldingsValue} {b : BookRecord} → SharedServes basis table s → KernelServes basis table k → BookServesApart basis table b → (t : SharedRecord) (x : HoldingsValue) (l : BookRecord) →
    (r : Result Event HostError) → IfOk r (λ event. HasAbsorbedNow basis s t x b l event) → IfErr r (λ why. (t ≡ s) × (x ≡ k) × (l ≡ b)) → ServeInAbsorption basis table t x l
absorbed {basis = basis} {table = table} shared kernel book t x l (Ok event) d same =
    let stays = d.own.same_table ∙ book.table_is in
    record {
      shared = subst (λ (n : TableId). SharedServes basis n t) stays d.shared;
      kernel = subst (λ (n : TableId). KernelServes basis n x) stays d.own.kernel;
      book = record { serves = d.own.book; table_is = stays };
    }
absorbed {basis = basis} {table = table} shared kernel book t x l (Err why) d same = record {
  shared = subst (SharedServes basis table) (sym same.0) shared;
  kernel = subst (KernelServes basis table) (sym same.1) kernel;
  book = subst (BookServesApart basis table) (sym same.2) book;
}

-- a process was lent alone
pub came_inside : {basis : Basis} {table : TableId} {g : Guest} (op : Op) → GuestServesApart basis table g → g.cell.note.table ≡ table → (h : Guest) (r : Result (Option Reply) HostError) →
    IfOk r (λ answer. IfSome answer (λ said. HasDoneInside basis op g h said)) → IfOk r (λ answer. IfSome answer (λ said. HasTailRoom basis h)) → IfOk r (λ answer. IfNone answer (h ≡ g)) → IfErr r (λ why. h ≡ g) →
    GuestServesApart basis table h
came_inside {basis = basis} op guest of h (Ok (Some said)) done room none same = record { serves = subst (λ (n : TableId). GuestServes basis n h) of done.serves; few = room }
came_inside {basis = basis} {table = table} op guest of h (Ok None) done room none same = subst (GuestServesApart basis table) (sym none) guest
came_inside {basis = basis} {table = table} op guest of h (Err why) done room none same = subst (GuestServesApart basis table) (sym same) guest

-- where nothing has changed of the process, nothing has of its part
module _ (head : Head) {g : Guest} {old : GuestPartValue} (is : guest_seen head g ≡ old) (h : Guest) where
  unchanged_part : h ≡ g → guest_seen head h ≡ old
  unchanged_part same = ap (guest_seen head) same ∙ is

  pub left_inside : (r : Result (Option Reply) HostError) → IfOk r (λ answer. IfNone answer (h ≡ g)) → IfOk r (λ answer. IfNone answer (guest_seen head h ≡ old))
  left_inside (Ok (Some said)) none = tt
  left_inside (Ok None) none = unchanged_part none
  left_inside (Err why) none = tt

  pub same_inside : (r : Result (Option Reply) HostError) → IfErr r (λ why. h ≡ g) → IfErr r (λ why. guest_seen head h ≡ old)
  same_inside (Ok answer) same = tt
  same_inside (Err why) same = unchanged_part same
