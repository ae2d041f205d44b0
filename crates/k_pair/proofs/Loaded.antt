-- A load from an object of another heap.
use Rattle.std.proofs.Common.{◌≡◌, ℕ, refl, sym, ap, subst, ◌∙◌, not, Option, Some, None}
use Rattle.k_types.specs.declared.event.Fault.{Fault}
use Rattle.k_types.specs.declared.event.Reply.TheVariants.{Loaded, Refused}
use Rattle.k_types.specs.declared.names.Heap.{Heap}
use Rattle.k_types.specs.declared.names.Name.{Name}
use Rattle.k_types.specs.declared.names.Reg.{Reg}
use Rattle.k_types.specs.declared.op.Op.{Op}
use Rattle.k_types.specs.declared.op.Op.TheVariants.{Load}
use Rattle.k_types.specs.Agree.{BookValue, book_shown_by}
use Rattle.k_types.specs.Cells.{BookPart}
use Rattle.k_types.specs.Replies.{first_fault, is_ref, reference}
use Rattle.k_types.specs.State.{Refers}
use Rattle.k_types.specs.Steps.{state_after}
use Rattle.k_types.specs.Trace.{Trace}
use Rattle.k_laws.specs.BookChanges.{owner_in, with_pin_moved}
use Rattle.k_laws.specs.PartUpdates.{held_in, with_done, with_register}
use Rattle.k_commit.specs.k_agree.Moves.{GivesBoth}
use Rattle.k_commit.specs.k_agree.Shown.{idle_part}
use Rattle.k_commit.proofs.Beside.{load_refused_beside, loaded_beside}
use Rattle.k_commit.specs.k_book.Books.{BookRecord}
use Rattle.k_commit.specs.k_cell.Looks.{field_among, field_count_among}
use Rattle.k_commit.specs.k_heap.Heaps.{HeapRecord, with_register_in}
use Rattle.k_commit.specs.Changed.{CanSetRegister, HasChangedWith, HasSetRegister}
use Rattle.k_commit.specs.Met.{BeforeWith}
use Rattle.k_commit.specs.Others.{OtherValue}
use Rattle.k_commit.proofs.Placed.{field_is_placed, sound_now}
use Rattle.k_pair.specs.Faults.{field_faults}
use Rattle.k_pair.specs.Operating.{HaveMetFor, as_they_are}
use Rattle.k_pair.proofs.Changing.{commits, idle, refused_given, settled, other_idle, other_settled}
use Rattle.k_pair.proofs.Faulted.{load_faulted}
use Rattle.k_pair.proofs.Touching.{HoldsOther, load_below, load_holds}

module _ (before : BeforeWith) (c : HeapRecord) (o : OtherValue) (b : BookRecord) (r base : Reg) (i : ℕ) (met : HaveMetFor before c o b (Load r base i)) where
  abbrev trace : Trace
  trace = before.own.trace

  abbrev op : Op
  op = Load r base i

  abbrev own : ℕ → Heap
  own = owner_in trace (book_shown_by b.value)

  held : HoldsOther trace c b o.cell base
  held = load_holds trace c b o.cell base r i met.touches

  abbrev faulted : Name → Option Fault
  faulted x = first_fault (field_faults (field_count_among o.held.value.objects x) i (not (is_ref (field_among o.held.value.objects x i))))

  module _ (x : Name) (at_x : held_in c.value.process base.0 ≡ Some x) where
    pub load_refused : (fault : Fault) → faulted x ≡ Some fault → HasChangedWith before c o b op (Refused fault)
    load_refused fault is =
        refused_given before c o b op met fault c.bodies refl refl
        (load_refused_beside trace (book_shown_by b.value) (idle_part c.value) (idle_part o.held.value) c.pid o.cell held.apart base i x at_x (held.owner x at_x) held.beside r fault
        (load_faulted (book_shown_by b.value) (idle_part o.held.value) c.pid.0 i x o.cell held.beside ∙ is))

    module _ (v : Option Name) (content : field_among o.held.value.objects x i ≡ Refers v) where
      pub load_sets : CanSetRegister before.own c b r.0 v
      load_sets = subst (λ (bf : BeforeWith). CanSetRegister bf.own c b r.0 v) met.same (record {
        have_met = met.have_met.own;
        pid = refl;
        process = refl;
        pins = refl;
        pin_room = refl;
        owners = record { homes = refl; owners = refl };
        register = (load_below trace r base i met.in_range).0;
        there = λ n is.
            field_is_placed trace (state_after trace b.journal.list) (sound_now (as_they_are trace c o b).own met.have_met.own) o.cell o.held.value met.have_met.after.shows x n i
            (content ∙ ap (λ (y : Option Name). Refers y) is);
      })

      module _ (fine : faulted x ≡ None) (w : HeapRecord) (b1 : BookRecord) (was_set : HasSetRegister before.own c w b b1 r.0 v) where
        set : HasSetRegister (as_they_are trace c o b).own c w b b1 r.0 v
        set = subst (λ (bf : BeforeWith). HasSetRegister bf.own c w b b1 r.0 v) (sym met.same) was_set

        abbrev book_value : BookValue
        book_value = record b.value { pins = b1.value.pins }

        book_shown : book_shown_by book_value ≡ with_pin_moved own c.pid.0 (held_in c.value.process r.0) v (book_shown_by b.value)
        book_shown = ap (λ (e : BookRecord). book_shown_by e.value) (sym set.book_is) ∙ set.moved

        given : GivesBoth trace c.pid op (Loaded v) o.cell (idle_part c.value) (with_done (with_register r.0 v (idle_part c.value))) (idle_part o.held.value) (idle_part o.held.value)
            (book_shown_by b.value) (with_pin_moved own c.pid.0 (held_in c.value.process r.0) v (book_shown_by b.value))
        given =
            subst (λ (y : Option Name). GivesBoth trace c.pid op (Loaded y) o.cell (idle_part c.value) (with_done (with_register r.0 y (idle_part c.value))) (idle_part o.held.value) (idle_part o.held.value)
            (book_shown_by b.value) (with_pin_moved own c.pid.0 (held_in c.value.process r.0) y (book_shown_by b.value))) (ap reference content)
            (loaded_beside trace (book_shown_by b.value) (idle_part c.value) (idle_part o.held.value) c.pid o.cell held.apart base i x at_x (held.owner x at_x) held.beside r
            (load_faulted (book_shown_by b.value) (idle_part o.held.value) c.pid.0 i x o.cell held.beside ∙ fine))

        gives : GivesBoth trace c.pid op (Loaded v) o.cell (idle_part c.value) (with_done (idle_part (with_register_in r.0 v c.value))) (idle_part o.held.value) (idle_part o.held.value)
            (book_shown_by b.value) (book_shown_by book_value)
        gives =
            subst (λ (e : BookPart). GivesBoth trace c.pid op (Loaded v) o.cell (idle_part c.value) (with_done (with_register r.0 v (idle_part c.value))) (idle_part o.held.value) (idle_part o.held.value)
            (book_shown_by b.value) e) (sym book_shown) given

        pub loaded : HasChangedWith before w o b1 op (Loaded v)
        loaded =
            subst (λ (d : HeapRecord). HasChangedWith before d o b1 op (Loaded v)) (sym set.cell_is)
            (subst (λ (e : BookRecord). HasChangedWith before (record c { value = with_register_in r.0 v c.value }) o e op (Loaded v)) (sym set.book_is)
            (commits before c o b op met (Loaded v) (with_register_in r.0 v c.value) c.bodies o.held.value book_value refl refl
            (settled before c o b op met) (idle before c o b op met) (other_settled before c o b op met) (other_idle before c o b op met)
            (record { homes = refl; owners = refl }) gives))
