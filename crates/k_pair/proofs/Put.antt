-- Numbers that are put into fields of objects of another heap, and got from them.
use Rattle.std.proofs.Common.{◌≡◌, ℕ, refl, ap, subst, ◌∙◌, Option, Some, None}
use Rattle.k_types.specs.declared.event.Fault.{Fault}
use Rattle.k_types.specs.declared.event.Reply.TheVariants.{Done, Refused, Value}
use Rattle.k_types.specs.declared.names.Name.{Name}
use Rattle.k_types.specs.declared.names.Reg.{Reg}
use Rattle.k_types.specs.declared.op.Op.TheVariants.{Get, Put}
use Rattle.k_types.specs.Agree.{book_shown_by}
use Rattle.k_types.specs.Replies.{first_fault, is_ref, number_in}
use Rattle.k_types.specs.State.{Holds}
use Rattle.k_types.specs.Trace.{Trace}
use Rattle.k_laws.specs.PartUpdates.{held_in}
use Rattle.k_commit.specs.k_agree.Shown.{idle_part}
use Rattle.k_commit.proofs.Beside.{get_beside, get_refused_beside, put_beside, put_refused_beside}
use Rattle.k_commit.specs.k_book.Books.{BookRecord}
use Rattle.k_commit.specs.k_cell.Changes.{with_field}
use Rattle.k_commit.specs.k_cell.Looks.{field_among, field_count_among}
use Rattle.k_commit.specs.k_heap.Heaps.{HeapRecord}
use Rattle.k_commit.specs.Changed.{HasChangedWith}
use Rattle.k_commit.specs.Met.{BeforeWith}
use Rattle.k_commit.specs.Others.{OtherValue, with_value}
use Rattle.k_pair.specs.Faults.{field_faults}
use Rattle.k_pair.specs.Operating.{HaveMetFor}
use Rattle.k_pair.proofs.Changing.{commits, idle, refused_given, settled, other_idle, other_settled}
use Rattle.k_pair.proofs.Faulted.{number_faulted}
use Rattle.k_pair.proofs.Touching.{HoldsOther, get_holds, put_holds}

module _ (before : BeforeWith) (c : HeapRecord) (o : OtherValue) (b : BookRecord) (base : Reg) (i : ℕ) (x : Name) (at_x : held_in c.value.process base.0 ≡ Some x) where
  abbrev trace : Trace
  trace = before.own.trace

  abbrev faulted : Option Fault
  faulted = first_fault (field_faults (field_count_among o.held.value.objects x) i (is_ref (field_among o.held.value.objects x i)))

  module _ (number : ℕ) (met : HaveMetFor before c o b (Put base i number)) where
    put_held : HoldsOther trace c b o.cell base
    put_held = put_holds trace c b o.cell base i number met.touches

    pub put_refused : (fault : Fault) → faulted ≡ Some fault → HasChangedWith before c o b (Put base i number) (Refused fault)
    put_refused fault is =
        refused_given before c o b (Put base i number) met fault c.bodies refl refl
        (put_refused_beside trace (book_shown_by b.value) (idle_part c.value) (idle_part o.held.value) c.pid o.cell put_held.apart base i x at_x (put_held.owner x at_x) put_held.beside number fault
        (number_faulted (book_shown_by b.value) (idle_part o.held.value) c.pid.0 i x o.cell put_held.beside ∙ is))

    pub put_done : faulted ≡ None → HasChangedWith before c (with_value (with_field x i (Holds number) o.held.value) o) b (Put base i number) Done
    put_done fine =
        commits before c o b (Put base i number) met Done c.value c.bodies (with_field x i (Holds number) o.held.value) b.value refl refl
        (settled before c o b (Put base i number) met) (idle before c o b (Put base i number) met) (other_settled before c o b (Put base i number) met) (other_idle before c o b (Put base i number) met)
        (record { homes = refl; owners = refl })
        (put_beside trace (book_shown_by b.value) (idle_part c.value) (idle_part o.held.value) c.pid o.cell put_held.apart base i x at_x (put_held.owner x at_x) put_held.beside number
        (number_faulted (book_shown_by b.value) (idle_part o.held.value) c.pid.0 i x o.cell put_held.beside ∙ fine))

  module _ (met : HaveMetFor before c o b (Get base i)) where
    get_held : HoldsOther trace c b o.cell base
    get_held = get_holds trace c b o.cell base i met.touches

    pub get_refused : (fault : Fault) → faulted ≡ Some fault → HasChangedWith before c o b (Get base i) (Refused fault)
    get_refused fault is =
        refused_given before c o b (Get base i) met fault c.bodies refl refl
        (get_refused_beside trace (book_shown_by b.value) (idle_part c.value) (idle_part o.held.value) c.pid o.cell get_held.apart base i x at_x (get_held.owner x at_x) get_held.beside fault
        (number_faulted (book_shown_by b.value) (idle_part o.held.value) c.pid.0 i x o.cell get_held.beside ∙ is))

    pub got : (number : ℕ) → field_among o.held.value.objects x i ≡ Holds number → faulted ≡ None → HasChangedWith before c o b (Get base i) (Value number)
    got number content fine =
        subst (λ (n : ℕ). HasChangedWith before c o b (Get base i) (Value n)) (ap number_in content)
        (commits before c o b (Get base i) met (Value (number_in (field_among o.held.value.objects x i))) c.value c.bodies o.held.value b.value refl refl
        (settled before c o b (Get base i) met) (idle before c o b (Get base i) met) (other_settled before c o b (Get base i) met) (other_idle before c o b (Get base i) met)
        (record { homes = refl; owners = refl })
        (get_beside trace (book_shown_by b.value) (idle_part c.value) (idle_part o.held.value) c.pid o.cell get_held.apart base i x at_x (get_held.owner x at_x) get_held.beside
        (number_faulted (book_shown_by b.value) (idle_part o.held.value) c.pid.0 i x o.cell get_held.beside ∙ fine)))
