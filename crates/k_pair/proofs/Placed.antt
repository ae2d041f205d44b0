-- A new object in a shared heap.
use Rattle.std.proofs.Common.{◌≡◌, ◌<◌, ◌+◌, ℕ, refl, sym, ap, subst, ◌∙◌, List, [], ◌∷◌, Option, Some, None, drop, get_or, length, slice_index, slice_set, IsTrue, IsFalse, arith}
use Rattle.std.proofs.lemmas.List.{length-map}
use Rattle.k_types.specs.declared.event.Fault.TheVariants.{LimitFull, NotPopulating}
use Rattle.k_types.specs.declared.event.Reply.TheVariants.{Made, Refused}
use Rattle.k_types.specs.declared.names.Heap.{Heap}
use Rattle.k_types.specs.declared.names.Heap.TheVariants.{Shared}
use Rattle.k_types.specs.declared.names.LimitId.{LimitId}
use Rattle.k_types.specs.declared.names.Name.{Name}
use Rattle.k_types.specs.declared.names.Reg.{Reg}
use Rattle.k_types.specs.declared.names.SharedId.{SharedId}
use Rattle.k_types.specs.declared.names.TypeId.{TypeId}
use Rattle.k_types.specs.declared.op.Op.{Op}
use Rattle.k_types.specs.declared.op.Op.TheVariants.{SNew}
use Rattle.k_types.specs.Agree.{BookValue, CellValue, book_shown_by}
use Rattle.k_types.specs.Cells.{BookPart, CellPart}
use Rattle.k_types.specs.Owners.{phase_of}
use Rattle.k_types.specs.Replies.{is_populating}
use Rattle.k_types.specs.State.{fresh}
use Rattle.k_types.specs.Steps.{state_after}
use Rattle.k_types.specs.Trace.{Trace, kinds_of, limit_of, segment_of, size_of_type}
use Rattle.k_types.specs.Types.{object_size}
use Rattle.k_types.proofs.Lists.{some_inside}
use Rattle.k_space.specs.Objects.{BodyValue, new_body}
use Rattle.k_laws.specs.BookChanges.{owner_in, with_charge, with_pin_moved, with_shared_bytes}
use Rattle.k_laws.specs.CellChanges.{next_name_in, with_created}
use Rattle.k_laws.specs.PartUpdates.{held_in, with_done, with_register}
use Rattle.k_laws.specs.Answers.{size_fault_in}
use Rattle.k_commit.specs.k_agree.Moves.{GivesBoth}
use Rattle.k_commit.specs.k_agree.Shown.{idle_part}
use Rattle.k_commit.proofs.Changed.{new_shown}
use Rattle.k_commit.specs.k_book.Books.{BookRecord}
use Rattle.k_commit.specs.k_cell.Changes.{next_in, with_body}
use Rattle.k_commit.specs.k_cell.Holdings.{HasObjectRoom}
use Rattle.k_commit.specs.k_heap.Heaps.{HeapRecord, with_register_in}
use Rattle.k_commit.specs.k_shared.SharedHeaps.{SharedRecord, holdings_of}
use Rattle.k_commit.specs.Changed.{CanSetRegister, HasChangedWith, HasSetRegister}
use Rattle.k_commit.specs.Charging.{HasCharged, IsFullFor}
use Rattle.k_commit.specs.Met.{Before, BeforeWith}
use Rattle.k_commit.specs.Others.{of_shared, with_value}
use Rattle.k_pair.specs.Operating.{HaveMetFor, as_they_are}
use Rattle.k_pair.proofs.Changing.{commits, idle, other_idle, other_settled, refused, settled, with_same}
use Rattle.k_pair.proofs.Facts.{populated_segment}
use Rattle.k_pair.proofs.Given.{allocated, snew_full, snew_unpopulated}
use Rattle.k_pair.proofs.Touching.{snew_below, snew_names}

module _ (before : BeforeWith) (c : HeapRecord) (s : SharedRecord) (b : BookRecord) (r : Reg) (id : SharedId) (ty : TypeId) (met : HaveMetFor before c (of_shared s) b (SNew r id ty)) where
  abbrev trace : Trace
  trace = before.own.trace

  abbrev op : Op
  op = SNew r id ty

  abbrev here : Before
  here = (as_they_are trace c (of_shared s) b).own

  abbrev own : ℕ → Heap
  own = owner_in trace (book_shown_by b.value)

  abbrev new_name : Name
  new_name = next_in s.seg.0 s.value

  same_heap : id ≡ s.id
  same_heap = snew_names trace c b id s.id r ty met.touches

  segment_is : s.seg.0 ≡ segment_of trace (Shared id)
  segment_is = met.have_met.other.segment ∙ ap (λ (t : SharedId). segment_of trace (Shared t)) (sym same_heap)

  pub body_there : 0 < length c.bodies
  body_there = subst (λ (bodies : List BodyValue). 0 < length bodies) (sym met.room.tables.body.first) (let n = length met.room.tables.body.rest in omega arith)

  module _ (body : BodyValue) (rest : List BodyValue) (split : c.bodies ≡ body ∷ rest) where
    left_is : rest ≡ drop 1 c.bodies
    left_is = ap (drop 1) (sym split)

    first_is : body ≡ new_body trace.types ty
    first_is = ap first (sym split ∙ met.room.tables.body.first)
      where
        first : List BodyValue → BodyValue
        first [] = body
        first (one ∷ more) = one

    pub body_size : object_size (length body.fields) ≡ size_of_type trace ty
    body_size = ap (λ (one : BodyValue). object_size (length one.fields)) first_is ∙ ap object_size (length-map (kinds_of trace ty) fresh)

    pub snew_by_other : IsFalse (is_populating (phase_of b.value.phases id.0) c.pid.0) → HasChangedWith before (record c { bodies = rest }) (of_shared s) b op (Refused (NotPopulating id))
    snew_by_other other =
        refused before c (of_shared s) b op met (NotPopulating id) rest refl refl left_is (snew_unpopulated trace (book_shown_by b.value) (idle_part c.value) (idle_part s.value) c.pid id r ty other)

    module _ (populates : IsTrue (is_populating (phase_of b.value.phases id.0) c.pid.0)) (bytes : ℕ) (size : bytes ≡ object_size (length body.fields)) where
      abbrev serials : ℕ
      serials = get_or (state_after trace b.journal.list).made s.seg.0 0

      segment_there : get_or s.value.made s.seg.0 None ≡ Some serials
      segment_there =
          populated_segment trace c s b met.have_met c.pid.0
          (subst (λ (t : SharedId). IsTrue (is_populating (phase_of b.value.phases t.0) c.pid.0)) same_heap populates)

      pub serial_left : HasObjectRoom (holdings_of s) s.seg.0
      serial_left =
          let left = met.room.tables.serial serials segment_there in
          record { given = left.given; room = left.room; there = left.there; can_give = left.can_give; left = left.left }

      of_type : bytes ≡ size_of_type trace ty
      of_type = size ∙ body_size

      pub snew_too_large : (k : BookRecord) (limit : LimitId) → IsFullFor trace b k c.pid.0 bytes limit → HasChangedWith before (record c { bodies = rest }) (of_shared s) k op (Refused (LimitFull limit))
      snew_too_large k limit full =
          subst (λ (e : BookRecord). HasChangedWith before (record c { bodies = rest }) (of_shared s) e op (Refused (LimitFull limit))) (sym full.book_is)
          (refused before c (of_shared s) b op met (LimitFull limit) rest refl refl left_is
          (snew_full trace (book_shown_by b.value) (idle_part c.value) (idle_part s.value) c.pid id r ty populates (LimitFull limit)
          (ap (size_fault_in trace (book_shown_by b.value) c.pid.0) (sym of_type) ∙ full.full)))

      module _ (k : BookRecord) (charged : HasCharged trace b k c.pid.0 bytes) where
        abbrev grown : BookRecord
        grown = record k { value = record k.value { shared_bytes = slice_set k.value.shared_bytes id.0 (slice_index k.value.shared_bytes id.0 + bytes) } }

        grown_shown : book_shown_by grown.value ≡ with_shared_bytes id.0 (size_of_type trace ty) (with_charge (limit_of trace c.pid.0) (size_of_type trace ty) (book_shown_by b.value))
        grown_shown =
            ap (with_shared_bytes id.0 bytes) charged.charged
            ∙ ap (λ n. with_shared_bytes id.0 n (with_charge (limit_of trace c.pid.0) n (book_shown_by b.value))) of_type

        grown_is : grown ≡ record b { value = record b.value { direct = k.value.direct; shared_bytes = grown.value.shared_bytes } }
        grown_is = ap (λ (e : BookRecord). record e { value = record e.value { shared_bytes = grown.value.shared_bytes } }) charged.book_is

        snew_can_set : CanSetRegister before.own (record c { bodies = rest }) grown r.0 (Some new_name)
        snew_can_set =
            subst (λ (bf : BeforeWith). CanSetRegister bf.own (record c { bodies = rest }) grown r.0 (Some new_name)) met.same
            (subst (λ (e : BookRecord). CanSetRegister here (record c { bodies = rest }) e r.0 (Some new_name)) (sym grown_is) (record {
              have_met = met.have_met.own;
              pid = refl;
              process = refl;
              pins = refl;
              pin_room = refl;
              owners = record { homes = refl; owners = refl };
              register = (snew_below trace r id ty met.in_range).0;
              there = λ n is.
                  let there = (snew_below trace r id ty met.in_range).1 in
                  let seg_is : s.seg.0 ≡ n.seg.0 = ap seg_of is in
                  let at = segment_is in
                  omega (arith, seg_is, at, there);
            }))
          where
            seg_of : Option Name → ℕ
            seg_of None = s.seg.0
            seg_of (Some n) = n.seg.0

        -- the same with the cell, the book and the name as they came
        pub snew_sets : (d : HeapRecord) → d ≡ record c { bodies = rest } → (e : BookRecord) → e ≡ grown → (n : Name) → n ≡ new_name → CanSetRegister before.own d e r.0 (Some n)
        snew_sets d d_is e e_is n n_is =
            subst (λ (x : HeapRecord). CanSetRegister before.own x e r.0 (Some n)) (sym d_is)
            (subst (λ (x : BookRecord). CanSetRegister before.own (record c { bodies = rest }) x r.0 (Some n)) (sym e_is)
            (subst (λ (x : Name). CanSetRegister before.own (record c { bodies = rest }) grown r.0 (Some x)) (sym n_is) snew_can_set))

        module _ (w : HeapRecord) (l : BookRecord) (was_set : HasSetRegister before.own (record c { bodies = rest }) w grown l r.0 (Some new_name)) where
          set : HasSetRegister here (record c { bodies = rest }) w grown l r.0 (Some new_name)
          set = subst (λ (bf : BeforeWith). HasSetRegister bf.own (record c { bodies = rest }) w grown l r.0 (Some new_name)) (sym met.same) was_set

          abbrev book_value : BookValue
          book_value = record b.value { direct = k.value.direct; shared_bytes = grown.value.shared_bytes; pins = l.value.pins }

          book_is : l ≡ record b { value = book_value }
          book_is = set.book_is ∙ ap (λ (e : BookRecord). record e { value = record e.value { pins = l.value.pins } }) grown_is

          book_shown : book_shown_by book_value ≡ with_pin_moved own c.pid.0 (held_in c.value.process r.0) (Some new_name)
              (with_shared_bytes id.0 (size_of_type trace ty) (with_charge (limit_of trace c.pid.0) (size_of_type trace ty) (book_shown_by b.value)))
          book_shown =
              ap (λ (e : BookRecord). book_shown_by e.value) (sym book_is)
              ∙ set.moved
              ∙ ap (with_pin_moved own c.pid.0 (held_in c.value.process r.0) (Some new_name)) grown_shown

          abbrev shared_value : CellValue
          shared_value = with_body s.seg.0 body s.value

          name_is : new_name ≡ next_name_in (segment_of trace (Shared id)) (idle_part s.value)
          name_is = ap (λ seg. next_name_in seg (idle_part s.value)) segment_is

          shared_shown : idle_part shared_value ≡ with_created (segment_of trace (Shared id)) ty (kinds_of trace ty) (idle_part s.value)
          shared_shown =
              ap (λ (one : BodyValue). idle_part (with_body s.seg.0 one s.value)) first_is
              ∙ new_shown s.value s.seg.0 ty (kinds_of trace ty) (some_inside s.value.made s.seg.0 serials segment_there)
              ∙ ap (λ seg. with_created seg ty (kinds_of trace ty) (idle_part s.value)) segment_is

          given : GivesBoth trace c.pid op (Made new_name) (Shared id) (idle_part c.value) (with_done (with_register r.0 (Some new_name) (idle_part c.value)))
              (idle_part s.value) (with_created (segment_of trace (Shared id)) ty (kinds_of trace ty) (idle_part s.value))
              (book_shown_by b.value) (with_pin_moved own c.pid.0 (held_in c.value.process r.0) (Some new_name)
              (with_shared_bytes id.0 (size_of_type trace ty) (with_charge (limit_of trace c.pid.0) (size_of_type trace ty) (book_shown_by b.value))))
          given =
              subst (λ (n : Name). GivesBoth trace c.pid op (Made n) (Shared id) (idle_part c.value) (with_done (with_register r.0 (Some n) (idle_part c.value)))
              (idle_part s.value) (with_created (segment_of trace (Shared id)) ty (kinds_of trace ty) (idle_part s.value))
              (book_shown_by b.value) (with_pin_moved own c.pid.0 (held_in c.value.process r.0) (Some n)
              (with_shared_bytes id.0 (size_of_type trace ty) (with_charge (limit_of trace c.pid.0) (size_of_type trace ty) (book_shown_by b.value))))) (sym name_is)
              (allocated trace (book_shown_by b.value) (idle_part c.value) (idle_part s.value) c.pid id r ty populates
              (ap (size_fault_in trace (book_shown_by b.value) c.pid.0) (sym of_type) ∙ charged.fits))

          gives : GivesBoth trace c.pid op (Made new_name) (Shared s.id) (idle_part c.value) (with_done (idle_part (with_register_in r.0 (Some new_name) c.value)))
              (idle_part s.value) (idle_part shared_value) (book_shown_by b.value) (book_shown_by book_value)
          gives =
              with_same trace c s b op (Made new_name) (with_register_in r.0 (Some new_name) c.value) shared_value (book_shown_by book_value) id same_heap
              (subst (λ (u : CellPart). GivesBoth trace c.pid op (Made new_name) (Shared id) (idle_part c.value) (with_done (with_register r.0 (Some new_name) (idle_part c.value)))
              (idle_part s.value) u (book_shown_by b.value) (book_shown_by book_value)) (sym shared_shown)
              (subst (λ (e : BookPart). GivesBoth trace c.pid op (Made new_name) (Shared id) (idle_part c.value) (with_done (with_register r.0 (Some new_name) (idle_part c.value)))
              (idle_part s.value) (with_created (segment_of trace (Shared id)) ty (kinds_of trace ty) (idle_part s.value)) (book_shown_by b.value) e) (sym book_shown) given))

          snew_changes : HasChangedWith before w (with_value shared_value (of_shared s)) l op (Made new_name)
          snew_changes =
              subst (λ (d : HeapRecord). HasChangedWith before d (with_value shared_value (of_shared s)) l op (Made new_name)) (sym set.cell_is)
              (subst (λ (e : BookRecord). HasChangedWith before (record c { bodies = rest; value = with_register_in r.0 (Some new_name) c.value }) (with_value shared_value (of_shared s)) e op (Made new_name)) (sym book_is)
              (commits before c (of_shared s) b op met (Made new_name) (with_register_in r.0 (Some new_name) c.value) rest shared_value book_value refl left_is
              (settled before c (of_shared s) b op met) (idle before c (of_shared s) b op met) (other_settled before c (of_shared s) b op met) (other_idle before c (of_shared s) b op met)
              (record { homes = refl; owners = refl }) gives))

        pub snew_done : (d : HeapRecord) → d ≡ record c { bodies = rest } → (e : BookRecord) → e ≡ grown → (n : Name) → n ≡ new_name → (w : HeapRecord) (l : BookRecord) →
            HasSetRegister before.own d w e l r.0 (Some n) → HasChangedWith before w (with_value (with_body s.seg.0 body s.value) (of_shared s)) l op (Made n)
        snew_done d d_is e e_is n n_is w l was_set =
            subst (λ (x : Name). HasChangedWith before w (with_value (with_body s.seg.0 body s.value) (of_shared s)) l op (Made x)) (sym n_is)
            (snew_changes w l
            (subst (λ (x : HeapRecord). HasSetRegister before.own x w grown l r.0 (Some new_name)) d_is
            (subst (λ (x : BookRecord). HasSetRegister before.own d w x l r.0 (Some new_name)) e_is
            (subst (λ (x : Name). HasSetRegister before.own d w e l r.0 (Some x)) n_is was_set))))
