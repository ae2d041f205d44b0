-- A new object of the kernel.
use Rattle.std.proofs.Common.{◌≡◌, ◌<◌, ◌+◌, Bool, ℕ, refl, sym, ap, ap₂, subst, ◌∙◌, List, [], ◌∷◌, drop, get_or, length, nat_lt, Option, Some, None, IsTrue, IsFalse, arith}
use Rattle.std.proofs.lemmas.List.{length-map}
use Rattle.k_types.specs.declared.event.Fault.TheVariants.{KernelFull}
use Rattle.k_types.specs.declared.event.Reply.TheVariants.{Made, Refused}
use Rattle.k_types.specs.declared.names.Heap.{Heap}
use Rattle.k_types.specs.declared.names.Heap.TheVariants.{Kernel, User}
use Rattle.k_types.specs.declared.names.Name.{Name}
use Rattle.k_types.specs.declared.names.Pid.{Pid}
use Rattle.k_types.specs.declared.names.Reg.{Reg}
use Rattle.k_types.specs.declared.names.TypeId.{TypeId}
use Rattle.k_types.specs.declared.op.Op.{Op}
use Rattle.k_types.specs.declared.op.Op.TheVariants.{KNew}
use Rattle.k_types.specs.Agree.{BookValue, CellValue, book_shown_by}
use Rattle.k_types.specs.Cells.{BookPart, Cell, CellPart, ShownPart, part}
use Rattle.k_types.specs.Owners.{object_bytes, owner_of_segment}
use Rattle.k_types.specs.Replies.{fault_where, first_fault, refused_or}
use Rattle.k_types.specs.State.{fresh}
use Rattle.k_types.specs.Steps.{state_after}
use Rattle.k_types.specs.Totals.{total}
use Rattle.k_types.specs.Trace.{Trace, kinds_of, size_of_type}
use Rattle.k_types.specs.Types.{object_size}
use Rattle.k_space.specs.Objects.{BodyValue, new_body}
use Rattle.k_laws.specs.BookChanges.{bytes_in, owner_in, with_pin_moved}
use Rattle.k_laws.specs.CellChanges.{next_name_in, with_created}
use Rattle.k_types.proofs.Lists.{some_inside}
use Rattle.k_laws.specs.PartUpdates.{held_in, with_done, with_register}
use Rattle.k_laws.specs.Answers.{answer_in, faults_in, reply_in}
use Rattle.k_laws.specs.BookAfter.{book_after, book_operated}
use Rattle.k_laws.specs.CellAfter.{cell_after, cells_operated}
use Rattle.k_laws.specs.Touches.{other_cells_in}
use Rattle.k_commit.specs.k_agree.Moves.{GivesBoth}
use Rattle.k_commit.specs.k_agree.Shown.{idle_part, two_parts}
use Rattle.k_commit.proofs.Beside.{held_own, own_changed, refused_beside, second_changed}
use Rattle.k_commit.proofs.Changed.{new_shown}
use Rattle.k_commit.specs.k_book.Books.{BookRecord}
use Rattle.k_commit.specs.k_cell.Changes.{next_in, with_body}
use Rattle.k_commit.specs.k_cell.Holdings.{HasObjectRoom, HoldingsValue}
use Rattle.k_commit.specs.k_heap.Heaps.{HeapRecord, with_register_in}
use Rattle.k_commit.specs.Changed.{CanSetRegister, HasChangedWith, HasSetRegister}
use Rattle.k_commit.specs.Met.{BeforeWith}
use Rattle.k_commit.specs.Others.{of_kernel, with_value}
use Rattle.k_pair.specs.Operating.{HaveMetFor, as_they_are}
use Rattle.k_pair.proofs.Changing.{commits, idle, other_idle, other_settled, refused_given, settled}
use Rattle.k_pair.proofs.Touching.{knew_below}

-- what `knew` gives of the parts of both cells and of the book
module _ (trace : Trace) (b : BookPart) (v k : CellPart) (pid : Pid) (r : Reg) (ty : TypeId) where
  abbrev both : Cell → CellPart
  both = two_parts (User pid) v k

  abbrev new_name : Name
  new_name = next_name_in 0 k

  knew_given : IsFalse (nat_lt trace.ceiling (bytes_in k + size_of_type trace ty)) → GivesBoth trace pid (KNew r ty) (Made new_name) Kernel
      v (with_done (with_register r.0 (Some new_name) v)) k (with_created 0 ty (kinds_of trace ty) k)
      b (with_pin_moved (owner_in trace b) pid.0 (held_in v.process r.0) (Some new_name) b)
  unfolding other_cells_in reply_in faults_in first_fault fault_where answer_in cell_after cells_operated book_after book_operated
  knew_given fits = record {
    apart = refl;
    touched = refl;
    answered = ap (λ full. refused_or (first_fault (fault_where full KernelFull ∷ [])) (Made new_name)) (sym fits);
    own = own_changed trace b v k pid Kernel refl (with_created 0 ty (kinds_of trace ty)) (with_register r.0 (Some new_name));
    second = second_changed trace b v k pid Kernel refl (with_created 0 ty (kinds_of trace ty)) (with_register r.0 (Some new_name));
    book = ap (λ (held : Option Name). with_pin_moved (owner_in trace b) pid.0 held (Some new_name) b) (sym (held_own trace b v k pid Kernel refl r.0));
  }

  knew_full : IsTrue (nat_lt trace.ceiling (bytes_in k + size_of_type trace ty)) → GivesBoth trace pid (KNew r ty) (Refused KernelFull) Kernel v (with_done v) k k b b
  unfolding other_cells_in faults_in first_fault fault_where
  knew_full full =
      refused_beside trace b v k pid Kernel refl (KNew r ty) KernelFull refl (ap (λ t. first_fault (fault_where t KernelFull ∷ [])) full)

module _ (before : BeforeWith) (c : HeapRecord) (k : HoldingsValue) (b : BookRecord) (r : Reg) (ty : TypeId) (met : HaveMetFor before c (of_kernel k) b (KNew r ty)) where
  abbrev trace : Trace
  trace = before.own.trace

  abbrev op : Op
  op = KNew r ty

  abbrev own : ℕ → Heap
  own = owner_in trace (book_shown_by b.value)

  pub body_there : 0 < length c.bodies
  body_there = subst (λ (bodies : List BodyValue). 0 < length bodies) (sym met.room.tables.body.first) (let n = length met.room.tables.body.rest in omega arith)

  -- the kernel's own segment is there
  pub given_here : get_or k.value.made 0 None ≡ Some (get_or (state_after trace b.journal.list).made 0 0)
  unfolding part owner_of_segment
  given_here = ap (λ (s : ShownPart). s.made 0) met.have_met.after.shows.part

  pub serial_left : HasObjectRoom k 0
  serial_left = met.room.tables.serial (get_or (state_after trace b.journal.list).made 0 0) given_here

  module _ (body : BodyValue) (rest : List BodyValue) (split : c.bodies ≡ body ∷ rest) where
    pub left_is : rest ≡ drop 1 c.bodies
    left_is = ap (drop 1) (sym split)

    first_is : body ≡ new_body trace.types ty
    first_is = ap first (sym split ∙ met.room.tables.body.first)
      where
        first : List BodyValue → BodyValue
        first [] = body
        first (one ∷ more) = one

    pub body_size : object_size (length body.fields) ≡ size_of_type trace ty
    body_size = ap (λ (one : BodyValue). object_size (length one.fields)) first_is ∙ ap object_size (length-map (kinds_of trace ty) fresh)

    pub full_told : (full : Bool) → full ≡ nat_lt b.ceiling (total object_bytes k.value.objects + object_size (length body.fields)) →
        nat_lt trace.ceiling (total object_bytes k.value.objects + size_of_type trace ty) ≡ full
    full_told full is =
        ap₂ (λ (ceiling size : ℕ). nat_lt ceiling (total object_bytes k.value.objects + size)) (sym met.have_met.own.book.of_trace.ceiling) (sym body_size) ∙ sym is

    pub knew_refused : IsTrue (nat_lt trace.ceiling (total object_bytes k.value.objects + size_of_type trace ty)) →
        HasChangedWith before (record c { bodies = rest }) (of_kernel k) b op (Refused KernelFull)
    knew_refused full =
        refused_given before c (of_kernel k) b op met KernelFull rest refl left_is (knew_full trace (book_shown_by b.value) (idle_part c.value) (idle_part k.value) c.pid r ty full)

    pub knew_sets : CanSetRegister before.own (record c { bodies = rest }) b r.0 (Some (next_in 0 k.value))
    knew_sets = subst (λ (bf : BeforeWith). CanSetRegister bf.own (record c { bodies = rest }) b r.0 (Some (next_in 0 k.value))) met.same (record {
      have_met = met.have_met.own;
      pid = refl;
      process = refl;
      pins = refl;
      pin_room = refl;
      owners = record { homes = refl; owners = refl };
      register = knew_below trace r ty met.in_range;
      there = λ n is. let zero_is : 0 ≡ n.seg.0 = ap seg_of is in omega (arith, zero_is);
    })
      where
        seg_of : Option Name → ℕ
        seg_of None = 0
        seg_of (Some n) = n.seg.0

    module _ (fits : IsFalse (nat_lt trace.ceiling (total object_bytes k.value.objects + size_of_type trace ty))) (w : HeapRecord) (b1 : BookRecord)
        (was_set : HasSetRegister before.own (record c { bodies = rest }) w b b1 r.0 (Some (next_in 0 k.value))) where
      set : HasSetRegister (as_they_are trace c (of_kernel k) b).own (record c { bodies = rest }) w b b1 r.0 (Some (next_in 0 k.value))
      set = subst (λ (bf : BeforeWith). HasSetRegister bf.own (record c { bodies = rest }) w b b1 r.0 (Some (next_in 0 k.value))) (sym met.same) was_set

      abbrev book_value : BookValue
      book_value = record b.value { pins = b1.value.pins }

      abbrev kernel_value : CellValue
      kernel_value = with_body 0 body k.value

      kernel_shown : idle_part kernel_value ≡ with_created 0 ty (kinds_of trace ty) (idle_part k.value)
      kernel_shown =
          ap (λ (one : BodyValue). idle_part (with_body 0 one k.value)) first_is
          ∙ new_shown k.value 0 ty (kinds_of trace ty) (some_inside k.value.made 0 (get_or (state_after trace b.journal.list).made 0 0) given_here)

      book_shown : book_shown_by book_value ≡ with_pin_moved own c.pid.0 (held_in c.value.process r.0) (Some (next_in 0 k.value)) (book_shown_by b.value)
      book_shown = ap (λ (e : BookRecord). book_shown_by e.value) (sym set.book_is) ∙ set.moved

      gives : GivesBoth trace c.pid op (Made (next_in 0 k.value)) Kernel (idle_part c.value) (with_done (idle_part (with_register_in r.0 (Some (next_in 0 k.value)) c.value)))
          (idle_part k.value) (idle_part kernel_value) (book_shown_by b.value) (book_shown_by book_value)
      gives =
          subst (λ (u : CellPart). GivesBoth trace c.pid op (Made (next_in 0 k.value)) Kernel (idle_part c.value) (with_done (idle_part (with_register_in r.0 (Some (next_in 0 k.value)) c.value)))
          (idle_part k.value) u (book_shown_by b.value) (book_shown_by book_value)) (sym kernel_shown)
          (subst (λ (e : BookPart). GivesBoth trace c.pid op (Made (next_in 0 k.value)) Kernel (idle_part c.value) (with_done (idle_part (with_register_in r.0 (Some (next_in 0 k.value)) c.value)))
          (idle_part k.value) (with_created 0 ty (kinds_of trace ty) (idle_part k.value)) (book_shown_by b.value) e) (sym book_shown)
          (knew_given trace (book_shown_by b.value) (idle_part c.value) (idle_part k.value) c.pid r ty fits))

      pub made : HasChangedWith before w (with_value (with_body 0 body k.value) (of_kernel k)) b1 op (Made (next_in 0 k.value))
      made =
          subst (λ (d : HeapRecord). HasChangedWith before d (with_value kernel_value (of_kernel k)) b1 op (Made (next_in 0 k.value))) (sym set.cell_is)
          (subst (λ (e : BookRecord). HasChangedWith before (record c { bodies = rest; value = with_register_in r.0 (Some (next_in 0 k.value)) c.value }) (with_value kernel_value (of_kernel k)) e op (Made (next_in 0 k.value))) (sym set.book_is)
          (commits before c (of_kernel k) b op met (Made (next_in 0 k.value)) (with_register_in r.0 (Some (next_in 0 k.value)) c.value) rest kernel_value book_value refl left_is
          (settled before c (of_kernel k) b op met) (idle before c (of_kernel k) b op met) (other_settled before c (of_kernel k) b op met) (other_idle before c (of_kernel k) b op met)
          (record { homes = refl; owners = refl }) gives))
