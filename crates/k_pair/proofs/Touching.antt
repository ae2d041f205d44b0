-- Operations that touch one cell beside the process's own: what their registers hold, and which they are.
use Rattle.std.proofs.Common.{◌≡◌, ◌<◌, ◌&&◌, ℕ, Bool, true, false, cond, refl, sym, ap, subst, ◌∙◌, List, [], ◌∷◌, length, Option, Some, None, is_some, IsTrue, IsFalse, nat_lt}
use Rattle.std.proofs.lemmas.Bool.{and_parts, ltb-true}
use Rattle.k_types.specs.declared.names.Heap.{Heap}
use Rattle.k_types.specs.declared.names.Heap.TheVariants.{Kernel, Shared, User}
use Rattle.k_types.specs.declared.names.Name.{Name}
use Rattle.k_types.specs.declared.names.Pid.{Pid}
use Rattle.k_types.specs.declared.names.Reg.{Reg}
use Rattle.k_types.specs.declared.names.SharedId.{SharedId}
use Rattle.k_types.specs.declared.names.TypeId.{TypeId}
use Rattle.k_types.specs.declared.op.Op.{Op}
use Rattle.k_types.specs.declared.op.Op.TheVariants.{KNew, SNew, Store, Load, Put, Get, KCollect, Share, Freeze, Attach, Exit, Kill}
use Rattle.k_types.specs.Agree.{book_shown_by}
use Rattle.k_types.specs.Cells.{BookPart, Cell}
use Rattle.k_types.specs.Names.{heap_eq}
use Rattle.k_types.specs.Steps.{in_range}
use Rattle.k_types.specs.Trace.{Trace}
use Rattle.k_laws.specs.BookChanges.{owner_in}
use Rattle.k_laws.specs.PartUpdates.{held_in}
use Rattle.k_laws.specs.Touches.{access_cell_in, base_cell_in, ends_other_in, other_cells_in}
use Rattle.k_commit.specs.k_book.Books.{BookRecord}
use Rattle.k_commit.specs.k_heap.Heaps.{HeapRecord}
use Rattle.k_commit.proofs.Killing.{never_one}
use Rattle.k_pair.specs.Operating.{TouchesOther, collects_or_exits}

-- the first of the cells, or else that one
abbrev first_or : Cell → List Cell → Cell
first_or d [] = d
first_or d (c ∷ cells) = c

-- an access touches a cell only where the object is of that cell's heap
module _ (b : BookPart) (p : ℕ) (cell : Cell) where
  shared_there : (id : SharedId) (t : Bool) → cond t (Shared id ∷ []) [] ≡ cell ∷ [] → Shared id ≡ cell
  shared_there id true e = ap (first_or cell) e
  shared_there id false e = absurd (cc e)

  is_cell : (h : Heap) → base_cell_in b p h ≡ cell ∷ [] → h ≡ cell
  is_cell Kernel e = ap (first_or cell) e
  is_cell (User q) e = absurd (cc e)
  is_cell (Shared id) e = shared_there id (b.shares p id.0) e

-- such a cell is not the process's own
own_apart : (b : BookPart) (p : ℕ) (pid : Pid) (cell : Cell) → base_cell_in b p cell ≡ cell ∷ [] → IsFalse (heap_eq (User pid) cell)
own_apart b p pid Kernel e = refl
own_apart b p pid (User q) e = absurd (cc e)
own_apart b p pid (Shared id) e = refl

module _ (trace : Trace) (b : BookPart) (p : ℕ) (cell : Cell) where
  is_there : (held : Option Name) → access_cell_in trace b p held ≡ cell ∷ [] → IsTrue (is_some held)
  is_there None e = absurd (cc e)
  is_there (Some x) e = refl

  is_owner : (held : Option Name) → access_cell_in trace b p held ≡ cell ∷ [] → (x : Name) → held ≡ Some x → owner_in trace b x.seg.0 ≡ cell
  is_owner held e x is = is_cell b p cell (owner_in trace b x.seg.0) (ap (access_cell_in trace b p) (sym is) ∙ e)

  is_beside : (held : Option Name) → access_cell_in trace b p held ≡ cell ∷ [] → base_cell_in b p cell ≡ cell ∷ []
  is_beside None e = absurd (cc e)
  is_beside (Some x) e = subst (λ (h : Heap). base_cell_in b p h ≡ cell ∷ []) (is_cell b p cell (owner_in trace b x.seg.0) e) e

-- the base register of an access
module _ (trace : Trace) (c : HeapRecord) (b : BookRecord) (cell : Cell) (base : Reg) where
  -- it holds an object, the cell's heap owns what it holds, and the cell is not the process's own and stands beside it in an access
  pub record HoldsOther : Type 0 where
    pub there : IsTrue (is_some (held_in c.value.process base.0))
    pub owner : (x : Name) → held_in c.value.process base.0 ≡ Some x → owner_in trace (book_shown_by b.value) x.seg.0 ≡ cell
    pub beside : base_cell_in (book_shown_by b.value) c.pid.0 cell ≡ cell ∷ []
    pub apart : IsFalse (heap_eq (User c.pid) cell)

  holds : access_cell_in trace (book_shown_by b.value) c.pid.0 (held_in c.value.process base.0) ≡ cell ∷ [] → HoldsOther
  holds e = record {
    there = is_there trace (book_shown_by b.value) c.pid.0 cell (held_in c.value.process base.0) e;
    owner = is_owner trace (book_shown_by b.value) c.pid.0 cell (held_in c.value.process base.0) e;
    beside = is_beside trace (book_shown_by b.value) c.pid.0 cell (held_in c.value.process base.0) e;
    apart = own_apart (book_shown_by b.value) c.pid.0 c.pid cell (is_beside trace (book_shown_by b.value) c.pid.0 cell (held_in c.value.process base.0) e);
  }

  pub store_holds : (i : ℕ) (value : Reg) → TouchesOther trace c cell b (Store base i value) → HoldsOther
  unfolding other_cells_in
  store_holds i value touches = holds touches

  pub load_holds : (r : Reg) (i : ℕ) → TouchesOther trace c cell b (Load r base i) → HoldsOther
  unfolding other_cells_in
  load_holds r i touches = holds touches

  pub put_holds : (i number : ℕ) → TouchesOther trace c cell b (Put base i number) → HoldsOther
  unfolding other_cells_in
  put_holds i number touches = holds touches

  pub get_holds : (i : ℕ) → TouchesOther trace c cell b (Get base i) → HoldsOther
  unfolding other_cells_in
  get_holds i touches = holds touches

-- one heap alone that is the other
only_one : (s t : SharedId) → Shared s ∷ [] ≡ Shared t ∷ [] → s ≡ t
only_one s t e = cc

-- an operation that names a shared heap touches the cell of that one
module _ (trace : Trace) (c : HeapRecord) (b : BookRecord) (named id : SharedId) where
  pub share_names : TouchesOther trace c (Shared id) b (Share named) → named ≡ id
  unfolding other_cells_in
  share_names touches = only_one named id touches

  pub freeze_names : (root : Reg) → TouchesOther trace c (Shared id) b (Freeze named root) → named ≡ id
  unfolding other_cells_in
  freeze_names root touches = only_one named id touches

  pub attach_names : (r : Reg) → TouchesOther trace c (Shared id) b (Attach r named) → named ≡ id
  unfolding other_cells_in
  attach_names r touches = only_one named id touches

  pub snew_names : (r : Reg) (ty : TypeId) → TouchesOther trace c (Shared id) b (SNew r named ty) → named ≡ id
  unfolding other_cells_in
  snew_names r ty touches = only_one named id touches

-- registers and shared heaps of operations are those that there are
module _ (trace : Trace) where
  both_below : (r s : ℕ) → IsTrue (nat_lt r 16 && nat_lt s 16) → (r < 16) × (s < 16)
  both_below r s small = let both = and_parts (nat_lt r 16) (nat_lt s 16) small in (ltb-true r 16 both.0, ltb-true s 16 both.1)

  pub store_below : (base value : Reg) (i : ℕ) → IsTrue (in_range trace (Store base i value)) → (base.0 < 16) × (value.0 < 16)
  unfolding in_range
  store_below base value i small = both_below base.0 value.0 small

  pub load_below : (r base : Reg) (i : ℕ) → IsTrue (in_range trace (Load r base i)) → (r.0 < 16) × (base.0 < 16)
  unfolding in_range
  load_below r base i small = both_below r.0 base.0 small

  pub put_below : (base : Reg) (i number : ℕ) → IsTrue (in_range trace (Put base i number)) → base.0 < 16
  unfolding in_range
  put_below base i number small = ltb-true base.0 16 small

  pub get_below : (base : Reg) (i : ℕ) → IsTrue (in_range trace (Get base i)) → base.0 < 16
  unfolding in_range
  get_below base i small = ltb-true base.0 16 small

  pub knew_below : (r : Reg) (ty : TypeId) → IsTrue (in_range trace (KNew r ty)) → r.0 < 16
  unfolding in_range
  knew_below r ty small = ltb-true r.0 16 (and_parts (nat_lt r.0 16) _ small).0

  pub share_below : (s : SharedId) → IsTrue (in_range trace (Share s)) → s.0 < trace.shared_heaps
  unfolding in_range
  share_below s small = ltb-true s.0 trace.shared_heaps small

  pub freeze_below : (s : SharedId) (root : Reg) → IsTrue (in_range trace (Freeze s root)) → (s.0 < trace.shared_heaps) × (root.0 < 16)
  unfolding in_range
  freeze_below s root small =
      let both = and_parts (nat_lt s.0 trace.shared_heaps) (nat_lt root.0 16) small in
      (ltb-true s.0 trace.shared_heaps both.0, ltb-true root.0 16 both.1)

  pub attach_below : (r : Reg) (s : SharedId) → IsTrue (in_range trace (Attach r s)) → (r.0 < 16) × (s.0 < trace.shared_heaps)
  unfolding in_range
  attach_below r s small =
      let both = and_parts (nat_lt r.0 16) (nat_lt s.0 trace.shared_heaps) small in
      (ltb-true r.0 16 both.0, ltb-true s.0 trace.shared_heaps both.1)

  pub snew_below : (r : Reg) (s : SharedId) (ty : TypeId) → IsTrue (in_range trace (SNew r s ty)) → (r.0 < 16) × (s.0 < trace.shared_heaps)
  unfolding in_range
  snew_below r s ty small =
      let first = and_parts (nat_lt r.0 16 && nat_lt s.0 trace.shared_heaps) (nat_lt ty.0 (length trace.types)) small in
      let both = and_parts (nat_lt r.0 16) (nat_lt s.0 trace.shared_heaps) first.0 in
      (ltb-true r.0 16 both.0, ltb-true s.0 trace.shared_heaps both.1)

-- an operation that touches the kernel's cell, and neither opens a collection of it nor ends the process, is one of five
pub one_of_five : (trace : Trace) (c : HeapRecord) (b : BookRecord) (op : Op) → TouchesOther trace c Kernel b op → IsFalse (collects_or_exits op) →
    ((r : Reg) (ty : TypeId) → op ≡ KNew r ty → ⊥) → ((base : Reg) (i : ℕ) (value : Reg) → op ≡ Store base i value → ⊥) →
    ((r base : Reg) (i : ℕ) → op ≡ Load r base i → ⊥) → ((base : Reg) (i number : ℕ) → op ≡ Put base i number → ⊥) →
    ((base : Reg) (i : ℕ) → op ≡ Get base i → ⊥) → ⊥
unfolding other_cells_in
one_of_five trace c b (KNew r ty) touches goes_on knew store load put get = knew r ty refl
one_of_five trace c b (Store base i value) touches goes_on knew store load put get = store base i value refl
one_of_five trace c b (Load r base i) touches goes_on knew store load put get = load r base i refl
one_of_five trace c b (Put base i number) touches goes_on knew store load put get = put base i number refl
one_of_five trace c b (Get base i) touches goes_on knew store load put get = get base i refl
one_of_five trace c b KCollect touches goes_on knew store load put get = absurd (cc goes_on)
one_of_five trace c b Exit touches goes_on knew store load put get = absurd (cc goes_on)
one_of_five trace c b (Kill q) touches goes_on knew store load put get = never_one (ends_other_in trace (book_shown_by b.value) c.pid.0 q.0) q Kernel touches
one_of_five trace c b _ touches goes_on knew store load put get = absurd (cc touches)

-- an operation that touches the cell of a shared heap is one of eight
pub one_of_eight : (trace : Trace) (c : HeapRecord) (b : BookRecord) (id : SharedId) (op : Op) → TouchesOther trace c (Shared id) b op →
    ((s : SharedId) → op ≡ Share s → ⊥) → ((s : SharedId) (root : Reg) → op ≡ Freeze s root → ⊥) →
    ((r : Reg) (s : SharedId) → op ≡ Attach r s → ⊥) → ((r : Reg) (s : SharedId) (ty : TypeId) → op ≡ SNew r s ty → ⊥) →
    ((base : Reg) (i : ℕ) (value : Reg) → op ≡ Store base i value → ⊥) → ((r base : Reg) (i : ℕ) → op ≡ Load r base i → ⊥) →
    ((base : Reg) (i number : ℕ) → op ≡ Put base i number → ⊥) → ((base : Reg) (i : ℕ) → op ≡ Get base i → ⊥) → ⊥
unfolding other_cells_in
one_of_eight trace c b id (SNew r s ty) touches share freeze attach snew store load put get = snew r s ty refl
one_of_eight trace c b id (Store base i value) touches share freeze attach snew store load put get = store base i value refl
one_of_eight trace c b id (Load r base i) touches share freeze attach snew store load put get = load r base i refl
one_of_eight trace c b id (Put base i number) touches share freeze attach snew store load put get = put base i number refl
one_of_eight trace c b id (Get base i) touches share freeze attach snew store load put get = get base i refl
one_of_eight trace c b id (Share s) touches share freeze attach snew store load put get = share s refl
one_of_eight trace c b id (Freeze s root) touches share freeze attach snew store load put get = freeze s root refl
one_of_eight trace c b id (Attach r s) touches share freeze attach snew store load put get = attach r s refl
one_of_eight trace c b id (Kill q) touches share freeze attach snew store load put get = never_one (ends_other_in trace (book_shown_by b.value) c.pid.0 q.0) q (Shared id) touches
one_of_eight trace c b id _ touches share freeze attach snew store load put get = absurd (cc touches)
