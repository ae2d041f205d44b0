-- Accesses to objects that are not the process's own are refused for their owner.
use Rattle.std.proofs.Common.{◌≡◌, ◌==◌, ℕ, Bool, true, false, cond, refl, sym, ap, subst, ◌∙◌, List, [], ◌∷◌, Option, Some, None, IsTrue, IsFalse, is_some, not, eqb-true, eq-eqb}
use Rattle.std.proofs.lemmas.Bool.{false_from_ne_true, false≢true}
use Rattle.k_types.specs.declared.event.Fault.{Fault}
use Rattle.k_types.specs.declared.event.Fault.TheVariants.{Foreign, NotSharer}
use Rattle.k_types.specs.declared.event.Reply.{Reply}
use Rattle.k_types.specs.declared.event.Reply.TheVariants.{Refused}
use Rattle.k_types.specs.declared.names.Heap.{Heap}
use Rattle.k_types.specs.declared.names.Heap.TheVariants.{Kernel, User, Shared}
use Rattle.k_types.specs.declared.names.Name.{Name}
use Rattle.k_types.specs.declared.names.Reg.{Reg}
use Rattle.k_types.specs.declared.op.Op.{Op}
use Rattle.k_types.specs.declared.op.Op.TheVariants.{New, KNew, SNew, Store, Load, Put, Get}
use Rattle.k_types.specs.Agree.{book_shown_by}
use Rattle.k_types.specs.Cells.{BookPart, CellPart}
use Rattle.k_types.specs.Local.{is_own}
use Rattle.k_types.specs.Names.{heap_eq}
use Rattle.k_types.specs.Owners.{user}
use Rattle.k_types.specs.Replies.{at_base, fault_where, first_fault, is_foreign}
use Rattle.k_types.specs.Trace.{Trace}
use Rattle.k_space.specs.Objects.{BodyValue}
use Rattle.k_commit.specs.k_book.Books.{BookRecord}
use Rattle.k_laws.specs.BookChanges.{owner_in}
use Rattle.k_laws.specs.PartUpdates.{held_in, with_done}
use Rattle.k_commit.specs.k_heap.Heaps.{HeapRecord}
use Rattle.k_commit.specs.k_agree.Moves.{GivesAlone}
use Rattle.k_commit.specs.k_agree.Shown.{idle_part, part_alone}
use Rattle.k_commit.proofs.Given.{refused_alone}
use Rattle.k_laws.specs.Answers.{access_faults_in, faults_in, load_faults_in, number_faults_in, sharer_fault_in, store_faults_in}
use Rattle.k_laws.specs.Touches.{access_cell_in, base_cell_in, other_cells_in}
use Rattle.k_commit.specs.Changed.{HasChanged, bodies_after}
use Rattle.k_commit.specs.Met.{Before}
use Rattle.k_commit.proofs.Setting.{own_by_segment}
use Rattle.k_own.specs.Elsewhere.{IsAway, base_of, fault_of_owner}
use Rattle.k_own.proofs.Due.{due_values}
use Rattle.k_own.specs.Own.{IsDue}

-- what is not own is an object
pub some_if_away : (p : ℕ) (held : Option Name) → IsFalse (is_own p held) → IsTrue (is_some held)
some_if_away p None away = absurd (false≢true (sym away))
some_if_away p (Some x) away = refl

-- what is Some is one thing
pub some_is : {A : Type 0} (x y : A) → Some x ≡ Some y → x ≡ y
some_is {A} x y e = ap or_first e
  where
    or_first : Option A → A
    or_first None = x
    or_first (Some z) = z

two_first : (a b : Option Fault) (rest : List (Option Fault)) (fault : Fault) → first_fault (a ∷ b ∷ []) ≡ Some fault → first_fault (a ∷ b ∷ rest) ≡ Some fault
unfolding first_fault
two_first None None rest fault is = absurd (cc is)
two_first None (Some f) rest fault is = is
two_first (Some f) b rest fault is = is

module _ (trace : Trace) (b : BookPart) (v : CellPart) (p : ℕ) (x : Name) where
  abbrev owner : Heap
  owner = owner_in trace b x.seg.0

  reg_is : (r base : Reg) → Some r ≡ Some base → held_in v.process base.0 ≡ Some x → held_in v.process r.0 ≡ Some x
  reg_is r base same held = ap (λ (s : Reg). held_in v.process s.0) (some_is r base same) ∙ held

  pub cells_are : (op : Op) (base : Reg) → base_of op ≡ Some base → held_in v.process base.0 ≡ Some x → other_cells_in trace b v p op ≡ base_cell_in b p owner
  unfolding other_cells_in
  cells_are (Store r i value) base is held = ap (access_cell_in trace b p) (reg_is r base is held)
  cells_are (Load t r i) base is held = ap (access_cell_in trace b p) (reg_is r base is held)
  cells_are (Put r i number) base is held = ap (access_cell_in trace b p) (reg_is r base is held)
  cells_are (Get r i) base is held = ap (access_cell_in trace b p) (reg_is r base is held)
  cells_are _ base is held = absurd (cc is)

  pub faults_begin : (op : Op) (base : Reg) (fault : Fault) → base_of op ≡ Some base → held_in v.process base.0 ≡ Some x →
      first_fault (fault_where (is_foreign owner p) Foreign ∷ sharer_fault_in b owner p ∷ []) ≡ Some fault → first_fault (faults_in trace b (part_alone v) p op) ≡ Some fault
  unfolding faults_in access_faults_in
  faults_begin (Store r i value) base fault is held first =
      ap (λ (h : Option Name). first_fault (at_base h (λ y. store_faults_in trace b (owner_in trace b y.seg.0) v p i (held_in v.process value.0) y))) (reg_is r base is held)
      ∙ two_first (fault_where (is_foreign owner p) Foreign) (sharer_fault_in b owner p) _ fault first
  faults_begin (Load t r i) base fault is held first =
      ap (λ (h : Option Name). first_fault (at_base h (λ y. load_faults_in b (owner_in trace b y.seg.0) v p i y))) (reg_is r base is held)
      ∙ two_first (fault_where (is_foreign owner p) Foreign) (sharer_fault_in b owner p) _ fault first
  faults_begin (Put r i number) base fault is held first =
      ap (λ (h : Option Name). first_fault (at_base h (λ y. number_faults_in b (owner_in trace b y.seg.0) v p i y))) (reg_is r base is held)
      ∙ two_first (fault_where (is_foreign owner p) Foreign) (sharer_fault_in b owner p) _ fault first
  faults_begin (Get r i) base fault is held first =
      ap (λ (h : Option Name). first_fault (at_base h (λ y. number_faults_in b (owner_in trace b y.seg.0) v p i y))) (reg_is r base is held)
      ∙ two_first (fault_where (is_foreign owner p) Foreign) (sharer_fault_in b owner p) _ fault first
  faults_begin _ base fault is held first = absurd (cc is)

  -- an object of another heap than the process's, of which no cell is touched
  pub owner_faults : (h : Heap) → base_cell_in b p h ≡ [] → IsFalse (heap_eq (user p) h) →
      first_fault (fault_where (is_foreign h p) Foreign ∷ sharer_fault_in b h p ∷ []) ≡ Some (fault_of_owner h)
  unfolding first_fault fault_where
  owner_faults Kernel none other = absurd (cc none)
  owner_faults (User q) none other =
      let away : (q.0 == p) ≡ false = false_from_ne_true (q.0 == p) (λ same. false≢true (sym other ∙ eq-eqb p q.0 (sym (eqb-true q.0 p same)))) in
      ap (λ t. first_fault (fault_where (not t) Foreign ∷ None ∷ [])) away
  owner_faults (Shared s) none other = go (b.shares p s.0) refl none
    where
      go : (t : Bool) → b.shares p s.0 ≡ t → cond t (Shared s ∷ []) [] ≡ [] → first_fault (fault_where (not (b.shares p s.0)) (NotSharer s) ∷ []) ≡ Some (NotSharer s)
      go true is refused = absurd (cc refused)
      go false is refused = ap (λ t. first_fault (fault_where (not t) (NotSharer s) ∷ [])) is

module _ (before : Before) (c : HeapRecord) (b : BookRecord) (op : Op) (due : IsDue before c b op) where
  -- an operation that changes nothing but the count of operations done
  pub kept_changed : (said : Reply) → bodies_after op before.cell.bodies ≡ before.cell.bodies →
      GivesAlone before.trace before.cell.pid op said (idle_part before.cell.value) (with_done (idle_part before.cell.value)) (book_shown_by before.book.value) (book_shown_by before.book.value) →
      HasChanged before c b op said
  kept_changed said bodies gives = record {
    have_met = due.have_met;
    may = due.may;
    values = due_values before c b op due bodies;
    gives =
        subst (λ (w : HeapRecord). GivesAlone before.trace before.cell.pid op said (idle_part before.cell.value) (with_done (idle_part w.value)) (book_shown_by before.book.value) (book_shown_by b.value)) (sym due.cell_is)
        (subst (λ (k : BookRecord). GivesAlone before.trace before.cell.pid op said (idle_part before.cell.value) (with_done (idle_part before.cell.value)) (book_shown_by before.book.value) (book_shown_by k.value)) (sym due.book_is) gives);
  }

same_bodies : (op : Op) (base : Reg) → base_of op ≡ Some base → (bodies : List BodyValue) → bodies_after op bodies ≡ bodies
same_bodies (New r ty) base is bodies = absurd (cc is)
same_bodies (KNew r ty) base is bodies = absurd (cc is)
same_bodies (SNew r s ty) base is bodies = absurd (cc is)
same_bodies _ base is bodies = refl

module _ (before : Before) (c : HeapRecord) (b : BookRecord) (op : Op) (base : Reg) (away : IsAway before c b op base) where
  pub base_there : IsTrue (is_some (held_in c.value.process base.0))
  base_there =
      ap (λ (w : HeapRecord). is_some (held_in w.value.process base.0)) away.due.cell_is
      ∙ some_if_away before.cell.pid.0 (held_in before.cell.value.process base.0) away.away

  pub refused_away : (x : Name) → held_in c.value.process base.0 ≡ Some x → (h : Heap) → h ≡ owner_in before.trace (book_shown_by before.book.value) x.seg.0 → HasChanged before c b op (Refused (fault_of_owner h))
  refused_away x held h is =
      let book = book_shown_by before.book.value in
      let part = idle_part before.cell.value in
      let held_then : held_in before.cell.value.process base.0 ≡ Some x = sym (ap (λ (w : HeapRecord). held_in w.value.process base.0) away.due.cell_is) ∙ held in
      let cells = cells_are before.trace book part before.cell.pid.0 x op base away.accesses held_then in
      let other = own_by_segment before away.due.have_met (Some x) x refl ∙ subst (λ (y : Option Name). IsFalse (is_own before.cell.pid.0 y)) held_then away.away in
      let first = owner_faults before.trace book part before.cell.pid.0 x (owner_in before.trace book x.seg.0) (sym cells ∙ away.due.own.alone) other in
      let faulted = faults_begin before.trace book part before.cell.pid.0 x op base (fault_of_owner (owner_in before.trace book x.seg.0)) away.accesses held_then first in
      subst (λ (o : Heap). HasChanged before c b op (Refused (fault_of_owner o))) (sym is)
      (kept_changed before c b op away.due (Refused (fault_of_owner (owner_in before.trace book x.seg.0))) (same_bodies op base away.accesses before.cell.bodies)
      (refused_alone before.trace book part before.cell.pid op (fault_of_owner (owner_in before.trace book x.seg.0)) away.due.own.alone faulted))
