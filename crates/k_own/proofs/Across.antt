-- Stores and loads of references in the process's own objects that lead out of its heap.
use Rattle.std.proofs.Common.{◌≡◌, ◌+◌, ◌==◌, ◌&&◌, ◌||◌, ℕ, Bool, true, false, cond, refl, sym, ap, subst, ◌∙◌, [], ◌∷◌, Option, Some, None, IsFalse, not, nat_le, eq-eqb}
use Rattle.std.proofs.lemmas.Bool.{false≢true}
use Rattle.k_types.specs.declared.event.Fault.{Fault}
use Rattle.k_types.specs.declared.event.Fault.TheVariants.{Segv}
use Rattle.k_types.specs.declared.event.Reply.TheVariants.{Done as DoneReply, Loaded, Refused}
use Rattle.k_types.specs.declared.names.Heap.{Heap}
use Rattle.k_types.specs.declared.names.Heap.TheVariants.{User}
use Rattle.k_types.specs.declared.names.Kind.TheVariants.{User as UserKind}
use Rattle.k_types.specs.declared.names.Name.{Name}
use Rattle.k_types.specs.declared.names.Pid.{Pid}
use Rattle.k_types.specs.declared.names.Reg.{Reg}
use Rattle.k_types.specs.declared.op.Op.TheVariants.{Load, Store}
use Rattle.k_types.specs.Barrier.{legal_store}
use Rattle.k_types.specs.Cells.{BookPart, CellPart}
use Rattle.k_types.specs.Names.{heap_eq, kind_of}
use Rattle.k_types.specs.Replies.{fault_where, first_fault, is_ref, reference, refused_or}
use Rattle.k_types.specs.State.{Refers}
use Rattle.k_types.specs.Trace.{Trace}
use Rattle.k_types.proofs.NameTests.{heap_eq_refl}
use Rattle.k_laws.specs.BookChanges.{owner_in, with_entry, with_pin_moved}
use Rattle.k_laws.specs.CellChanges.{with_exit_to}
use Rattle.k_laws.specs.PartUpdates.{held_in, with_done, with_register, with_written}
use Rattle.k_commit.specs.k_agree.Moves.{GivesAlone}
use Rattle.k_commit.specs.k_agree.Shown.{part_alone}
use Rattle.k_commit.proofs.Given.{own_store, own_store_refused}
use Rattle.k_commit.proofs.Stored.{an_exit}
use Rattle.k_laws.specs.Answers.{access_faults_in, answer_in, faults_in, field_count_in, field_in, load_faults_in, passes_barrier_in, reference_from_in, reply_in, store_faults_in}
use Rattle.k_laws.specs.BookAfter.{book_after, book_operated}
use Rattle.k_laws.specs.CellAfter.{cell_after, cells_operated, with_exit_for}
use Rattle.k_laws.specs.Locals.{is_own_field_in}
use Rattle.k_laws.specs.Touches.{other_cells_in}

-- the parts of a test that fails though the object is own
test_fails : (mine no_field wrong fine : Bool) → (mine && (no_field || wrong || fine)) ≡ false → mine ≡ true → (no_field ≡ false) × (wrong ≡ false) × (fine ≡ false)
test_fails true false false false off here = (refl, refl, refl)
test_fails true false false true off here = absurd (false≢true (sym off))
test_fails true false true fine off here = absurd (false≢true (sym off))
test_fails true true wrong fine off here = absurd (false≢true (sym off))
test_fails false no_field wrong fine off here = absurd (false≢true here)

-- the field of an own object that an access that is not local goes on to
pub record GoesOut (v : CellPart) (x : Name) (i : ℕ) : Type 0 where
  pub there : nat_le (field_count_in v x) i ≡ false
  pub kind : not (is_ref (field_in v x i)) ≡ false

pub goes_out : (v : CellPart) (p : ℕ) (x : Name) (i : ℕ) (fine : Bool) → is_own_field_in v p x i fine ≡ false → (x.seg.0 == p + 1) ≡ true → GoesOut v x i × (fine ≡ false)
goes_out v p x i fine off mine =
    let parts = test_fails (x.seg.0 == p + 1) (nat_le (field_count_in v x) i) (not (is_ref (field_in v x i))) fine off mine in
    (record { there = parts.0; kind = parts.1 }, parts.2)

module _ (trace : Trace) (b : BookPart) (v : CellPart) (pid : Pid) (x : Name) (i : ℕ) (out : GoesOut v x i) where
  self : (pid.0 == pid.0) ≡ true
  self = eq-eqb pid.0 pid.0 refl

  store_goes_on : (y : Option Name) (passes : Bool) → passes_barrier_in (owner_in trace b) (User pid) y ≡ passes →
      first_fault (store_faults_in trace b (User pid) v pid.0 i y x) ≡ first_fault (fault_where (not passes) Segv ∷ [])
  unfolding access_faults_in first_fault fault_where
  store_goes_on y passes is = rw (self, out.there, out.kind, is) refl

  load_goes_on : first_fault (load_faults_in b (User pid) v pid.0 i x) ≡ None
  unfolding access_faults_in first_fault fault_where
  load_goes_on = rw (self, out.there, out.kind) refl

  -- an object of another heap passes by the kind of its owner
  passes_by_kind : (y : Name) (h : Heap) → h ≡ owner_in trace b y.seg.0 → IsFalse (heap_eq (User pid) (owner_in trace b y.seg.0)) →
      passes_barrier_in (owner_in trace b) (User pid) (Some y) ≡ legal_store UserKind (kind_of h) false
  passes_by_kind y h is other = ap (λ t. legal_store UserKind (kind_of (owner_in trace b y.seg.0)) t) other ∙ ap (λ (o : Heap). legal_store UserKind (kind_of o) false) (sym is)

  module _ (base value : Reg) (y : Name) (at_x : held_in v.process base.0 ≡ Some x) (at_y : held_in v.process value.0 ≡ Some y) (mine : owner_in trace b x.seg.0 ≡ User pid)
      (h : Heap) (home : h ≡ owner_in trace b y.seg.0) (other : IsFalse (heap_eq (User pid) (owner_in trace b y.seg.0))) where
    pub store_refused : legal_store UserKind (kind_of h) false ≡ false → GivesAlone trace pid (Store base i value) (Refused Segv) v (with_done v) b b
    unfolding first_fault fault_where
    store_refused refused =
        own_store_refused trace b v pid base i value x (Some y) at_x at_y mine Segv
        (store_goes_on (Some y) false (passes_by_kind y h home other ∙ refused))

    apart : IsFalse (heap_eq (owner_in trace b x.seg.0) (owner_in trace b y.seg.0))
    apart = ap (λ (o : Heap). heap_eq o (owner_in trace b y.seg.0)) mine ∙ other

    pub store_done : legal_store UserKind (kind_of h) false ≡ true → GivesAlone trace pid (Store base i value) DoneReply
        v (with_done (with_written x i (Refers (Some y)) (with_exit_to y v))) b (with_entry (not (v.exits y)) y b)
    unfolding first_fault fault_where
    store_done passed =
        let gives = own_store trace b v pid base i value x (Some y) at_x at_y mine (store_goes_on (Some y) true (passes_by_kind y h home other ∙ passed)) in
        subst (λ (w : CellPart). GivesAlone trace pid (Store base i value) DoneReply v (with_done (with_written x i (Refers (Some y)) w)) b (with_entry (not (v.exits y)) y b))
        (an_exit (owner_in trace b) x y v apart)
        (subst (λ (k : BookPart). GivesAlone trace pid (Store base i value) DoneReply v (with_done (with_written x i (Refers (Some y)) (with_exit_for (owner_in trace b) x (Some y) v))) b k)
        (ap (λ t. cond t b (with_entry (not (v.exits y)) y b)) apart) gives)

  module _ (r base : Reg) (at_x : held_in v.process base.0 ≡ Some x) (mine : owner_in trace b x.seg.0 ≡ User pid) where
    nothing_beside : other_cells_in trace b v pid.0 (Load r base i) ≡ []
    unfolding other_cells_in
    nothing_beside = rw (at_x, mine) refl

    no_fault : first_fault (faults_in trace b (part_alone v) pid.0 (Load r base i)) ≡ None
    unfolding faults_in
    no_fault = rw (at_x, mine) load_goes_on

    loaded : Loaded (reference (field_in v x i)) ≡ answer_in trace b (part_alone v) pid.0 (Load r base i)
    unfolding answer_in
    loaded = ap (λ (h : Option Name). Loaded (reference_from_in trace b (part_alone v) h i)) (sym at_x)

    pub load_done : GivesAlone trace pid (Load r base i) (Loaded (reference (field_in v x i)))
        v (with_done (with_register r.0 (reference (field_in v x i)) v))
        b (with_pin_moved (owner_in trace b) pid.0 (held_in v.process r.0) (reference (field_in v x i)) b)
    unfolding reply_in cell_after cells_operated book_after book_operated
    load_done = record {
      touched = nothing_beside;
      answered = loaded ∙ ap (λ (f : Option Fault). refused_or f (answer_in trace b (part_alone v) pid.0 (Load r base i))) (sym no_fault);
      own = ap (λ t. cond t (with_done (cond t (with_register r.0 (reference (field_in v x i)) v) v)) (cond t (with_register r.0 (reference (field_in v x i)) v) v)) (sym (heap_eq_refl (User pid)));
      book = refl;
    }
