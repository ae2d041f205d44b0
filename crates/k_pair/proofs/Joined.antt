-- A frozen heap that a process comes to share.
use Rattle.std.proofs.Common.{◌≡◌, ◌<◌, ℕ, refl, sym, ap, subst, ◌∙◌, cond, List, Option, Some, None, get_or, slice_index, IsTrue, IsFalse}
use Rattle.k_types.specs.declared.event.Fault.TheVariants.{LimitFull, NotFrozen}
use Rattle.k_types.specs.declared.event.Reply.TheVariants.{Loaded, Refused}
use Rattle.k_types.specs.declared.names.Heap.{Heap}
use Rattle.k_types.specs.declared.names.Heap.TheVariants.{Shared}
use Rattle.k_types.specs.declared.names.LimitId.{LimitId}
use Rattle.k_types.specs.declared.names.Name.{Name}
use Rattle.k_types.specs.declared.names.Phase.TheVariants.{Frozen}
use Rattle.k_types.specs.declared.names.Reg.{Reg}
use Rattle.k_types.specs.declared.names.SharedId.{SharedId}
use Rattle.k_types.specs.declared.op.Op.{Op}
use Rattle.k_types.specs.declared.op.Op.TheVariants.{Attach}
use Rattle.k_types.specs.Agree.{BookValue, book_shown_by}
use Rattle.k_types.specs.Cells.{BookPart}
use Rattle.k_types.specs.Owners.{phase_of}
use Rattle.k_types.specs.Replies.{is_frozen}
use Rattle.k_types.specs.State.{has_share}
use Rattle.k_types.specs.Trace.{Trace, limit_of, segment_count}
use Rattle.k_laws.specs.BookChanges.{owner_in, with_charge, with_pin_moved, with_share}
use Rattle.k_laws.specs.PartUpdates.{held_in, with_done, with_register}
use Rattle.k_laws.specs.Answers.{size_fault_in}
use Rattle.k_laws.specs.BookAfter.{book_attached}
use Rattle.k_commit.specs.k_agree.Moves.{GivesBoth}
use Rattle.k_commit.specs.k_agree.Shown.{idle_part}
use Rattle.k_shares.specs.Sharers.{GainsShare}
use Rattle.k_commit.specs.k_book.Books.{BookRecord}
use Rattle.k_commit.specs.k_book.Calls.{ChangesShares}
use Rattle.k_commit.proofs.OnPart.{shared_on}
use Rattle.k_commit.specs.k_heap.Heaps.{HeapRecord, with_register_in}
use Rattle.k_commit.specs.k_shared.SharedHeaps.{SharedRecord}
use Rattle.k_commit.specs.Changed.{CanSetRegister, HasChangedWith, HasSetRegister}
use Rattle.k_commit.specs.Charging.{HasCharged, IsFullFor}
use Rattle.k_commit.specs.Met.{Before, BeforeWith}
use Rattle.k_commit.specs.Others.{of_shared}
use Rattle.k_pair.specs.Attached.{CannotAttach, HasAttached}
use Rattle.k_pair.specs.Operating.{HaveMetFor, as_they_are}
use Rattle.k_pair.proofs.Changing.{commits, idle, other_idle, other_settled, refused, settled, with_same}
use Rattle.k_pair.proofs.Facts.{root_is_placed}
use Rattle.k_pair.proofs.Given.{attach_full, attach_unfrozen, attached}
use Rattle.k_pair.proofs.Touching.{attach_below, attach_names}

-- a process that shares the heap already, or comes to
module _ (trace : Trace) (b : BookRecord) (p s : ℕ) where
  pub shares_already : IsTrue (has_share b.value.shares p s) → HasAttached trace b b p s
  shares_already there = record {
    book_is = refl;
    attached = ap (λ t. cond t (book_shown_by b.value) (with_charge (limit_of trace p) (get_or b.value.shared_bytes s 0) (with_share p s (book_shown_by b.value)))) (sym there);
    fits = ap (λ t. cond t None (size_fault_in trace (book_shown_by b.value) p (get_or b.value.shared_bytes s 0))) there;
  }

  module _ (apart : IsFalse (has_share b.value.shares p s)) (bytes : ℕ) (all : bytes ≡ slice_index b.value.shared_bytes s) where
    pub shares_now : (k l : BookRecord) → HasCharged trace b k p bytes → GainsShare k.value.shares l.value.shares p s → ChangesShares k l → HasAttached trace b l p s
    shares_now k l charged gains rest = record {
      book_is = book_is;
      attached =
          shared_on k l p s gains rest
          ∙ ap (with_share p s) (charged.charged ∙ ap (λ n. with_charge (limit_of trace p) n (book_shown_by b.value)) all)
          ∙ ap (λ t. cond t (book_shown_by b.value) (with_charge (limit_of trace p) (get_or b.value.shared_bytes s 0) (with_share p s (book_shown_by b.value)))) (sym apart);
      fits =
          ap (λ t. cond t None (size_fault_in trace (book_shown_by b.value) p (get_or b.value.shared_bytes s 0))) apart
          ∙ ap (size_fault_in trace (book_shown_by b.value) p) (sym all)
          ∙ charged.fits;
    }
      where
        direct_is : k.value.direct ≡ l.value.direct
        direct_is = ap (λ (e : BookRecord). e.value.direct) (sym rest)

        book_is : l ≡ record b { value = record b.value { direct = l.value.direct; shares = l.value.shares } }
        book_is =
            rest
            ∙ ap (λ (e : BookRecord). record e { value = record e.value { shares = l.value.shares } }) charged.book_is
            ∙ ap (λ (direct : List ℕ). record b { value = record b.value { direct = direct; shares = l.value.shares } }) direct_is

    pub shares_not : (k : BookRecord) (limit : LimitId) → IsFullFor trace b k p bytes limit → CannotAttach trace b k p s limit
    shares_not k limit full = record {
      book_is = full.book_is;
      apart = apart;
      full = ap (size_fault_in trace (book_shown_by b.value) p) (sym all) ∙ full.full;
    }

module _ (before : BeforeWith) (c : HeapRecord) (s : SharedRecord) (b : BookRecord) (r : Reg) (id : SharedId) (met : HaveMetFor before c (of_shared s) b (Attach r id)) where
  abbrev trace : Trace
  trace = before.own.trace

  abbrev op : Op
  op = Attach r id

  abbrev here : Before
  here = (as_they_are trace c (of_shared s) b).own

  abbrev own : ℕ → Heap
  own = owner_in trace (book_shown_by b.value)

  pub attach_of_unfrozen : IsFalse (is_frozen (phase_of b.value.phases id.0)) → HasChangedWith before c (of_shared s) b op (Refused (NotFrozen id))
  attach_of_unfrozen other =
      refused before c (of_shared s) b op met (NotFrozen id) c.bodies refl refl refl (attach_unfrozen trace (book_shown_by b.value) (idle_part c.value) (idle_part s.value) c.pid id r other)

  module _ (root : Name) (frozen : phase_of b.value.phases id.0 ≡ Frozen root) where
    pub attach_too_large : (k : BookRecord) (limit : LimitId) → CannotAttach trace b k c.pid.0 id.0 limit → HasChangedWith before c (of_shared s) k op (Refused (LimitFull limit))
    attach_too_large k limit cannot =
        subst (λ (e : BookRecord). HasChangedWith before c (of_shared s) e op (Refused (LimitFull limit))) (sym cannot.book_is)
        (refused before c (of_shared s) b op met (LimitFull limit) c.bodies refl refl refl
        (attach_full trace (book_shown_by b.value) (idle_part c.value) (idle_part s.value) c.pid id r root frozen (LimitFull limit) cannot.apart cannot.full))

    module _ (k : BookRecord) (joins : HasAttached trace b k c.pid.0 id.0) where
      pub attach_sets : CanSetRegister before.own c k r.0 (Some root)
      attach_sets =
          subst (λ (bf : BeforeWith). CanSetRegister bf.own c k r.0 (Some root)) met.same
          (subst (λ (e : BookRecord). CanSetRegister here c e r.0 (Some root)) (sym joins.book_is) (record {
            have_met = met.have_met.own;
            pid = refl;
            process = refl;
            pins = refl;
            pin_room = refl;
            owners = record { homes = refl; owners = refl };
            register = (attach_below trace r id met.in_range).0;
            there = λ n is. subst (λ m. m < segment_count trace) (ap seg_of is) (root_is_placed trace b met.have_met.own.book id.0 root frozen);
          }))
        where
          seg_of : Option Name → ℕ
          seg_of None = 0
          seg_of (Some n) = n.seg.0

      module _ (w : HeapRecord) (l : BookRecord) (was_set : HasSetRegister before.own c w k l r.0 (Some root)) where
        set : HasSetRegister here c w k l r.0 (Some root)
        set = subst (λ (bf : BeforeWith). HasSetRegister bf.own c w k l r.0 (Some root)) (sym met.same) was_set

        abbrev book_value : BookValue
        book_value = record b.value { direct = k.value.direct; shares = k.value.shares; pins = l.value.pins }

        book_is : l ≡ record b { value = book_value }
        book_is = set.book_is ∙ ap (λ (e : BookRecord). record e { value = record e.value { pins = l.value.pins } }) joins.book_is

        book_shown : book_shown_by book_value ≡ with_pin_moved own c.pid.0 (held_in c.value.process r.0) (Some root) (book_attached trace c.pid.0 id.0 (book_shown_by b.value))
        book_shown =
            ap (λ (e : BookRecord). book_shown_by e.value) (sym book_is)
            ∙ set.moved
            ∙ ap (with_pin_moved own c.pid.0 (held_in c.value.process r.0) (Some root)) joins.attached

        gives : GivesBoth trace c.pid op (Loaded (Some root)) (Shared s.id) (idle_part c.value) (with_done (idle_part (with_register_in r.0 (Some root) c.value)))
            (idle_part s.value) (idle_part s.value) (book_shown_by b.value) (book_shown_by book_value)
        gives =
            with_same trace c s b op (Loaded (Some root)) (with_register_in r.0 (Some root) c.value) s.value (book_shown_by book_value) id (attach_names trace c b id s.id r met.touches)
            (subst (λ (e : BookPart). GivesBoth trace c.pid op (Loaded (Some root)) (Shared id) (idle_part c.value) (with_done (with_register r.0 (Some root) (idle_part c.value)))
            (idle_part s.value) (idle_part s.value) (book_shown_by b.value) e) (sym book_shown)
            (attached trace (book_shown_by b.value) (idle_part c.value) (idle_part s.value) c.pid id r root frozen joins.fits))

        pub attach_done : HasChangedWith before w (of_shared s) l op (Loaded (Some root))
        attach_done =
            subst (λ (d : HeapRecord). HasChangedWith before d (of_shared s) l op (Loaded (Some root))) (sym set.cell_is)
            (subst (λ (e : BookRecord). HasChangedWith before (record c { value = with_register_in r.0 (Some root) c.value }) (of_shared s) e op (Loaded (Some root))) (sym book_is)
            (commits before c (of_shared s) b op met (Loaded (Some root)) (with_register_in r.0 (Some root) c.value) c.bodies s.value book_value refl refl
            (settled before c (of_shared s) b op met) (idle before c (of_shared s) b op met) (other_settled before c (of_shared s) b op met) (other_idle before c (of_shared s) b op met)
            (record { homes = refl; owners = refl }) gives))
