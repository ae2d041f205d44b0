-- Cells and book that are changed as an operation with one more cell asks can be committed.
use Rattle.std.proofs.Common.{◌≡◌, refl, ap, subst, List, [], Some, IsFalse}
use Rattle.k_types.specs.declared.event.Fault.{Fault}
use Rattle.k_types.specs.declared.event.Reply.{Reply}
use Rattle.k_types.specs.declared.event.Reply.TheVariants.{Refused}
use Rattle.k_types.specs.declared.names.CellPhase.TheVariants.{Idle}
use Rattle.k_types.specs.declared.names.Heap.TheVariants.{Shared, User}
use Rattle.k_types.specs.declared.names.SharedId.{SharedId}
use Rattle.k_types.specs.declared.op.Op.{Op}
use Rattle.k_types.specs.Agree.{BookValue, CellValue, book_shown_by}
use Rattle.k_types.specs.Cells.{BookPart}
use Rattle.k_types.specs.Names.{heap_eq}
use Rattle.k_types.specs.Replies.{first_fault}
use Rattle.k_types.specs.Steps.{waits_for_orphans}
use Rattle.k_types.specs.Trace.{Trace}
use Rattle.k_space.specs.Objects.{BodyValue}
use Rattle.k_laws.specs.PartUpdates.{with_done}
use Rattle.k_laws.specs.Answers.{faults_in}
use Rattle.k_commit.specs.k_agree.Moves.{GivesBoth, KeepsOwners}
use Rattle.k_commit.specs.k_agree.Shown.{idle_part, two_parts}
use Rattle.k_commit.proofs.Beside.{refused_beside}
use Rattle.k_commit.specs.k_book.Books.{BookRecord}
use Rattle.k_commit.specs.k_heap.Heaps.{HeapRecord}
use Rattle.k_commit.specs.k_shared.SharedHeaps.{SharedRecord}
use Rattle.k_commit.specs.Changed.{HasChangedWith, bodies_after}
use Rattle.k_commit.specs.Met.{BeforeWith}
use Rattle.k_commit.specs.Others.{OtherValue, with_value}
use Rattle.k_pair.specs.Operating.{HaveMetFor}

module _ (before : BeforeWith) (c : HeapRecord) (o : OtherValue) (b : BookRecord) (op : Op) (met : HaveMetFor before c o b op) where
  abbrev trace : Trace
  trace = before.own.trace

  pub commits : (said : Reply) (w : CellValue) (bodies : List BodyValue) (x : CellValue) (v : BookValue) →
      IsFalse (waits_for_orphans op) → bodies ≡ bodies_after op c.bodies →
      w.tail ≡ [] → w.collection ≡ Idle → x.tail ≡ [] → x.collection ≡ Idle → KeepsOwners trace b.value v →
      GivesBoth trace c.pid op said o.cell (idle_part c.value) (with_done (idle_part w)) (idle_part o.held.value) (idle_part x) (book_shown_by b.value) (book_shown_by v) →
      HasChangedWith before (record c { value = w; bodies = bodies }) (with_value x o) (record b { value = v }) op said
  commits said w bodies x v waits taken settled idle other_settled other_idle owners gives =
      subst (λ (bf : BeforeWith). HasChangedWith bf (record c { value = w; bodies = bodies }) (with_value x o) (record b { value = v }) op said) met.same
      (record {
        have_met = met.have_met;
        may = record { in_range = met.in_range; waits = waits; room = met.room.events };
        values = record {
          cell_is = ap (λ (left : List BodyValue). record c { value = w; bodies = left }) taken;
          book_is = refl;
          settled = settled;
          idle = idle;
          owners = owners;
        };
        other_is = refl;
        other_settled = other_settled;
        other_idle = other_idle;
        gives = gives;
      })

  pub settled : c.value.tail ≡ []
  settled = met.have_met.own.heap.settled

  pub idle : c.value.collection ≡ Idle
  idle = met.have_met.own.heap.idle

  pub other_settled : o.held.value.tail ≡ []
  other_settled = met.have_met.settled

  pub other_idle : o.held.value.collection ≡ Idle
  other_idle = met.have_met.other.idle

  -- a refused operation, of which nothing is left but its count and the body that it took
  pub refused_given : (fault : Fault) (bodies : List BodyValue) → IsFalse (waits_for_orphans op) → bodies ≡ bodies_after op c.bodies →
      GivesBoth trace c.pid op (Refused fault) o.cell (idle_part c.value) (with_done (idle_part c.value)) (idle_part o.held.value) (idle_part o.held.value) (book_shown_by b.value) (book_shown_by b.value) →
      HasChangedWith before (record c { bodies = bodies }) o b op (Refused fault)
  refused_given fault bodies waits taken gives =
      commits (Refused fault) c.value bodies o.held.value b.value waits taken settled idle other_settled other_idle (record { homes = refl; owners = refl }) gives

  pub refused : (fault : Fault) (bodies : List BodyValue) → IsFalse (heap_eq (User c.pid) o.cell) → IsFalse (waits_for_orphans op) → bodies ≡ bodies_after op c.bodies →
      first_fault (faults_in trace (book_shown_by b.value) (two_parts (User c.pid) (idle_part c.value) (idle_part o.held.value)) c.pid.0 op) ≡ Some fault →
      HasChangedWith before (record c { bodies = bodies }) o b op (Refused fault)
  refused fault bodies apart waits taken is =
      refused_given fault bodies waits taken (refused_beside trace (book_shown_by b.value) (idle_part c.value) (idle_part o.held.value) c.pid o.cell apart op fault met.touches is)

-- what is given with the cell of a shared heap is given with that of the same one
pub with_same : (trace : Trace) (c : HeapRecord) (s : SharedRecord) (b : BookRecord) (op : Op) (said : Reply) (w x : CellValue) (k : BookPart) (id : SharedId) → id ≡ s.id →
    GivesBoth trace c.pid op said (Shared id) (idle_part c.value) (with_done (idle_part w)) (idle_part s.value) (idle_part x) (book_shown_by b.value) k →
    GivesBoth trace c.pid op said (Shared s.id) (idle_part c.value) (with_done (idle_part w)) (idle_part s.value) (idle_part x) (book_shown_by b.value) k
with_same trace c s b op said w x k id same gives =
    subst (λ (t : SharedId). GivesBoth trace c.pid op said (Shared t) (idle_part c.value) (with_done (idle_part w)) (idle_part s.value) (idle_part x) (book_shown_by b.value) k) same gives
