-- A store into an object of another heap.
use Rattle.std.proofs.Common.{◌≡◌, ◌<◌, ℕ, refl, sym, ap, subst, ◌∙◌, Option, Some, None}
use Rattle.k_types.specs.declared.event.Fault.{Fault}
use Rattle.k_types.specs.declared.event.Reply.TheVariants.{Done, Refused}
use Rattle.k_types.specs.declared.names.CellPhase.TheVariants.{Idle}
use Rattle.k_types.specs.declared.names.Heap.{Heap}
use Rattle.k_types.specs.declared.names.Name.{Name}
use Rattle.k_types.specs.declared.names.Reg.{Reg}
use Rattle.k_types.specs.declared.op.Op.{Op}
use Rattle.k_types.specs.declared.op.Op.TheVariants.{Store}
use Rattle.k_types.specs.Agree.{BookValue, CellValue, book_shown_by}
use Rattle.k_types.specs.Cells.{BookPart, CellPart}
use Rattle.k_types.specs.Replies.{first_fault}
use Rattle.k_types.specs.State.{Refers}
use Rattle.k_types.specs.Trace.{IsHeap, Trace, segment_count}
use Rattle.k_laws.specs.BookChanges.{owner_in}
use Rattle.k_laws.specs.PartUpdates.{held_in, with_done, with_written}
use Rattle.k_laws.specs.BookAfter.{book_stored}
use Rattle.k_laws.specs.CellAfter.{with_exit_for}
use Rattle.k_commit.specs.k_agree.Moves.{GivesBoth}
use Rattle.k_commit.specs.k_agree.Shown.{idle_part, part_alone}
use Rattle.k_commit.proofs.Beside.{store_refused_beside, stored_beside}
use Rattle.k_commit.specs.k_book.Books.{BookRecord}
use Rattle.k_commit.specs.k_cell.Changes.{with_field}
use Rattle.k_commit.specs.k_cell.Looks.{field_among}
use Rattle.k_commit.specs.k_heap.Heaps.{HeapRecord}
use Rattle.k_commit.specs.Changed.{HasChangedWith}
use Rattle.k_commit.specs.Met.{Before, BeforeWith}
use Rattle.k_commit.specs.Others.{OtherValue, with_value}
use Rattle.k_commit.proofs.Placed.{held_is_placed, home_is_owner, homes_count}
use Rattle.k_commit.proofs.Fitting.{entries_small}
use Rattle.k_pair.specs.Faults.{CanJudge, store_faults_of}
use Rattle.k_pair.specs.Operating.{HaveMetFor, as_they_are}
use Rattle.k_pair.specs.Remembered.{CanRemember, HasRemembered, TellsOwner, owners_of}
use Rattle.k_pair.proofs.Changing.{commits, idle, refused_given, settled, other_idle, other_settled}
use Rattle.k_pair.proofs.Faulted.{store_faulted}
use Rattle.k_pair.proofs.Facts.{phase_there}
use Rattle.k_pair.proofs.Touching.{HoldsOther, store_holds}

module _ (before : BeforeWith) (c : HeapRecord) (o : OtherValue) (b : BookRecord) (base : Reg) (i : ℕ) (value : Reg) (met : HaveMetFor before c o b (Store base i value)) where
  abbrev trace : Trace
  trace = before.own.trace

  abbrev op : Op
  op = Store base i value

  abbrev own : ℕ → Heap
  own = owner_in trace (book_shown_by b.value)

  abbrev here : Before
  here = (as_they_are trace c o b).own

  same_owners : own ≡ owners_of before
  same_owners = ap owners_of met.same

  placed : (y : Option Name) → y ≡ held_in c.value.process value.0 → (n : Name) → y ≡ Some n → n.seg.0 < segment_count trace
  placed y at_y n is = held_is_placed here met.have_met.own value.0 n (sym at_y ∙ is)

  -- the owner of the value is told
  told : (y : Option Name) → y ≡ held_in c.value.process value.0 → TellsOwner own b y
  told y at_y = record {
    homes = λ n is. subst (λ m. n.seg.0 < m) (sym (homes_count here met.have_met.own)) (placed y at_y n is);
    owners = λ n is. home_is_owner here met.have_met.own n.seg.0 (placed y at_y n is);
  }

  pub store_judges : (y : Option Name) → y ≡ held_in c.value.process value.0 → CanJudge (owners_of before) o b y
  store_judges y at_y =
      subst (λ (f : ℕ → Heap). CanJudge f o b y) same_owners
      (record {
        phase = λ id is. phase_there trace b met.have_met.own.book id.0 (subst (IsHeap trace) is met.have_met.other.agrees.there);
        told = told y at_y;
      })

  pub store_remembers : (y : Option Name) → y ≡ held_in c.value.process value.0 → CanRemember (owners_of before) o b y
  store_remembers y at_y =
      subst (λ (f : ℕ → Heap). CanRemember f o b y) same_owners
      (record {
        idle = other_idle before c o b op met;
        told = told y at_y;
        room = met.room.tables;
        counts = entries_small here met.have_met.own;
      })

  module _ (x : Name) (at_x : held_in c.value.process base.0 ≡ Some x) where
    held : HoldsOther trace c b o.cell base
    held = store_holds trace c b o.cell base i value met.touches

    pub store_refused : (y : Option Name) → y ≡ held_in c.value.process value.0 → (fault : Fault) → first_fault (store_faults_of (owners_of before) o b x i y) ≡ Some fault →
        HasChangedWith before c o b op (Refused fault)
    store_refused y at_y fault is =
        refused_given before c o b op met fault c.bodies refl refl
        (store_refused_beside trace (book_shown_by b.value) (idle_part c.value) (idle_part o.held.value) c.pid o.cell held.apart base i x at_x (held.owner x at_x) held.beside value y (sym at_y) fault
        (store_faulted (book_shown_by b.value) (idle_part o.held.value) c.pid.0 i x o.cell held.beside trace y
        ∙ subst (λ (f : ℕ → Heap). first_fault (store_faults_of f o b x i y) ≡ Some fault) (sym same_owners) is))

    module _ (y : Option Name) (at_y : y ≡ held_in c.value.process value.0) (fine_then : first_fault (store_faults_of (owners_of before) o b x i y) ≡ None) (o1 : OtherValue) (b1 : BookRecord)
        (remembered : HasRemembered (owners_of before) o o1 b b1 y) where
      fine : first_fault (store_faults_of own o b x i y) ≡ None
      fine = subst (λ (f : ℕ → Heap). first_fault (store_faults_of f o b x i y) ≡ None) (sym same_owners) fine_then

      r : HasRemembered own o o1 b b1 y
      r = subst (λ (f : ℕ → Heap). HasRemembered f o o1 b b1 y) (sym same_owners) remembered

      -- the field is what it was before the value was remembered, and no collection is open still
      pub same_field : field_among o1.held.value.objects x i ≡ field_among o.held.value.objects x i
      same_field = ap (λ (h : OtherValue). field_among h.held.value.objects x i) r.other_is

      pub still_idle : o1.held.value.collection ≡ Idle
      still_idle = ap (λ (h : OtherValue). h.held.value.collection) r.other_is ∙ other_idle before c o b op met

      abbrev exits_value : CellValue
      exits_value = record o.held.value { exits = o1.held.value.exits }

      abbrev other_value : CellValue
      other_value = with_field x i (Refers y) exits_value

      abbrev book_value : BookValue
      book_value = record b.value { entries = b1.value.entries }

      other_shown : idle_part other_value ≡ with_written x i (Refers y) (with_exit_for own x y (idle_part o.held.value))
      other_shown =
          ap (λ (h : OtherValue). with_written x i (Refers y) (idle_part h.held.value)) (sym r.other_is)
          ∙ ap (with_written x i (Refers y)) (r.exits x (held.owner x at_x))

      book_shown : book_shown_by book_value ≡ book_stored own (Some x) y (part_alone (idle_part o.held.value)) (book_shown_by b.value)
      book_shown = ap (λ (e : BookRecord). book_shown_by e.value) (sym r.book_is) ∙ r.entries x (held.owner x at_x)

      gives : GivesBoth trace c.pid op Done o.cell (idle_part c.value) (with_done (idle_part c.value)) (idle_part o.held.value) (idle_part other_value) (book_shown_by b.value) (book_shown_by book_value)
      gives =
          subst (λ (u : CellPart). GivesBoth trace c.pid op Done o.cell (idle_part c.value) (with_done (idle_part c.value)) (idle_part o.held.value) u (book_shown_by b.value) (book_shown_by book_value)) (sym other_shown)
          (subst (λ (e : BookPart). GivesBoth trace c.pid op Done o.cell (idle_part c.value) (with_done (idle_part c.value)) (idle_part o.held.value) (with_written x i (Refers y) (with_exit_for own x y (idle_part o.held.value))) (book_shown_by b.value) e) (sym book_shown)
          (stored_beside trace (book_shown_by b.value) (idle_part c.value) (idle_part o.held.value) c.pid o.cell held.apart base i x at_x (held.owner x at_x) held.beside value y (sym at_y)
          (store_faulted (book_shown_by b.value) (idle_part o.held.value) c.pid.0 i x o.cell held.beside trace y ∙ fine)))

      pub stored : HasChangedWith before c (with_value (with_field x i (Refers y) o1.held.value) o1) b1 op Done
      stored =
          subst (λ (h : OtherValue). HasChangedWith before c (with_value (with_field x i (Refers y) h.held.value) h) b1 op Done) (sym r.other_is)
          (subst (λ (e : BookRecord). HasChangedWith before c (with_value other_value o) e op Done) (sym r.book_is)
          (commits before c o b op met Done c.value c.bodies other_value book_value refl refl
          (settled before c o b op met) (idle before c o b op met) (other_settled before c o b op met) (other_idle before c o b op met)
          (record { homes = refl; owners = refl }) gives))
