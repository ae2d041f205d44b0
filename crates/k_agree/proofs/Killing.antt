-- Operations of the second version in the own cell: a kill that ends nobody, and another maximum of a limit.
use Rattle.std.proofs.Common.{◌≡◌, ℕ, ◌&&◌, not, Bool, true, false, cond, refl, sym, ap, ap₂, ◌∙◌, [], ◌∷◌, Option, Some, None}
use Rattle.k_types.specs.declared.event.Event.TheVariants.{Done}
use Rattle.k_types.specs.declared.event.Fault.TheVariants.{ProcNotBelow}
use Rattle.k_types.specs.declared.event.Reply.{Reply}
use Rattle.k_types.specs.declared.event.Reply.TheVariants.{Done as DoneReply, Loaded, Made, Refused, Value}
use Rattle.k_types.specs.declared.names.Heap.{Heap}
use Rattle.k_types.specs.declared.names.Heap.TheVariants.{Kernel, Shared, User}
use Rattle.k_types.specs.declared.names.LimitId.{LimitId}
use Rattle.k_types.specs.declared.names.Name.{Name}
use Rattle.k_types.specs.declared.names.Pid.{Pid}
use Rattle.k_types.specs.declared.op.Op.{Op}
use Rattle.k_types.specs.declared.op.Op.TheVariants.{Get, Kill, Load, Put, Resize, Store}
use Rattle.k_types.specs.Cells.{BookPart, Cell, CellPart}
use Rattle.k_types.specs.Limits.{is_above}
use Rattle.k_types.specs.Owners.{user}
use Rattle.k_types.specs.Replies.{fault_where, first_fault, refused_or}
use Rattle.k_types.specs.Trace.{Trace}
use Rattle.k_tie.proofs.NameTests.{heap_eq_refl}
use Rattle.k_laws.specs.PartUpdates.{held_in, with_done}
use Rattle.k_laws.specs.BookChanges.{owner_in, when_ended, with_max}
use Rattle.k_laws.specs.CellChanges.{at_its_end}
use Rattle.k_laws.specs.Answers.{answer_in, faults_in, reply_in}
use Rattle.k_laws.specs.BookAfter.{book_after, book_operated}
use Rattle.k_laws.specs.CellAfter.{at_cell, cell_after, cells_given, cells_operated, unless_refused}
use Rattle.k_laws.specs.Touches.{access_cell_in, base_cell_in, ends_other_in, other_cells_in}
use Rattle.k_agree.specs.Moves.{GivesAlone}
use Rattle.k_agree.specs.Shown.{part_alone}
use Rattle.k_agree.proofs.Given.{refused_alone}

-- a kill touches two cells beside its process's own, or none
pub never_one : (ends : Bool) (q : Pid) (cell : Cell) → cond ends (User q ∷ Kernel ∷ []) [] ≡ cell ∷ [] → ⊥
never_one true q cell e = absurd (cc e)
never_one false q cell e = absurd (cc e)

module _ (trace : Trace) (b : BookPart) (v : CellPart) (pid q : Pid) where
  touches_none : ends_other_in trace b pid.0 q.0 ≡ false → other_cells_in trace b v pid.0 (Kill q) ≡ []
  unfolding other_cells_in
  touches_none none = ap (λ t. cond t (User q ∷ Kernel ∷ []) []) none

  first_beside : is_above trace pid.0 q.0 ≡ false → first_fault (faults_in trace b (part_alone v) pid.0 (Kill q)) ≡ Some (ProcNotBelow q)
  unfolding faults_in first_fault fault_where
  first_beside beside = ap (λ t. first_fault (fault_where (not t) (ProcNotBelow q) ∷ [])) beside

  pub kill_refused : is_above trace pid.0 q.0 ≡ false → GivesAlone trace pid (Kill q) (Refused (ProcNotBelow q)) v (with_done v) b b
  kill_refused beside = refused_alone trace b v pid (Kill q) (ProcNotBelow q) (touches_none (ap (λ t. t && not (b.ended q.0)) beside)) (first_beside beside)

  idle_answer : is_above trace pid.0 q.0 ≡ true → DoneReply ≡ reply_in trace b (part_alone v) pid.0 (Kill q)
  unfolding reply_in faults_in first_fault fault_where answer_in
  idle_answer above = sym (ap (λ t. refused_or (first_fault (fault_where (not t) (ProcNotBelow q) ∷ [])) DoneReply) above)

  idle_cell : ends_other_in trace b pid.0 q.0 ≡ false → with_done v ≡ cell_after trace b (part_alone v) (Done pid (Kill q) DoneReply) (User pid)
  unfolding cell_after cells_operated
  idle_cell none =
      ap (λ t. cond t (with_done v) v) (sym (heap_eq_refl (User pid)))
      ∙ ap (λ t. at_cell (user pid.0) with_done (cond t (cells_given (owner_in trace b) (User q) at_its_end (part_alone v)) (part_alone v)) (User pid)) (sym none)

  idle_book : ends_other_in trace b pid.0 q.0 ≡ false → b ≡ book_after trace b (part_alone v) (Done pid (Kill q) DoneReply)
  unfolding book_after book_operated
  idle_book none = ap (λ t. cond t (when_ended trace (owner_in trace b) q.0 v v b) b) (sym none)

  pub kill_idle : is_above trace pid.0 q.0 ≡ true → b.ended q.0 ≡ true → GivesAlone trace pid (Kill q) DoneReply v (with_done v) b b
  kill_idle above ended =
      let none : ends_other_in trace b pid.0 q.0 ≡ false = ap₂ (λ s t. s && not t) above ended in
      record { touched = touches_none none; answered = idle_answer above; own = idle_cell none; book = idle_book none }

-- of twice the same it is that
same_unless : {A : Type 0} (said : Reply) (x : A) → unless_refused said x x ≡ x
same_unless DoneReply x = refl
same_unless (Made n) x = refl
same_unless (Loaded value) x = refl
same_unless (Value n) x = refl
same_unless (Refused fault) x = refl

module _ (trace : Trace) (b k : BookPart) (v : CellPart) (pid : Pid) (m : LimitId) (max : ℕ) (said : Reply) where
  pub resize_alone : said ≡ reply_in trace b (part_alone v) pid.0 (Resize m max) → k ≡ unless_refused said (with_max m.0 max b) b → GivesAlone trace pid (Resize m max) said v (with_done v) b k
  unfolding other_cells_in cell_after cells_operated book_after book_operated
  resize_alone answered book = record {
    touched = refl;
    answered = answered;
    own =
        ap (λ t. cond t (with_done v) v) (sym (heap_eq_refl (User pid)))
        ∙ ap (λ (parts : Cell → CellPart). at_cell (user pid.0) with_done parts (User pid)) (sym (same_unless said (part_alone v)));
    book = book;
  }

-- an operation that touches another process's cell and the kernel's is the kill of that process, which it ends
module _ (trace : Trace) (b : BookPart) (p : ℕ) (q : Pid) where
  base_one : (h : Heap) → base_cell_in b p h ≡ User q ∷ Kernel ∷ [] → ⊥
  base_one Kernel e = absurd (cc e)
  base_one (User r) e = absurd (cc e)
  base_one (Shared s) e = go (b.shares p s.0) e
    where
      go : (t : Bool) → cond t (Shared s ∷ []) [] ≡ User q ∷ Kernel ∷ [] → ⊥
      go true f = absurd (cc f)
      go false f = absurd (cc f)

  access_one : (held : Option Name) → access_cell_in trace b p held ≡ User q ∷ Kernel ∷ [] → ⊥
  access_one None e = absurd (cc e)
  access_one (Some x) e = base_one (owner_in trace b x.seg.0) e

  which : (r : Pid) (ends : Bool) → ends_other_in trace b p r.0 ≡ ends → cond ends (User r ∷ Kernel ∷ []) [] ≡ User q ∷ Kernel ∷ [] → (Kill r ≡ Kill q) × (ends_other_in trace b p q.0 ≡ true)
  which r true is e = let same : r ≡ q = cc e in (ap Kill same, ap (λ (k : Pid). ends_other_in trace b p k.0) (sym same) ∙ is)
  which r false is e = absurd (cc e)

  pub ends_by : (own : CellPart) (op : Op) → other_cells_in trace b own p op ≡ User q ∷ Kernel ∷ [] → (op ≡ Kill q) × (ends_other_in trace b p q.0 ≡ true)
  unfolding other_cells_in
  ends_by own (Kill r) e = which r (ends_other_in trace b p r.0) refl e
  ends_by own (Store base i value) e = absurd (access_one (held_in own.process base.0) e)
  ends_by own (Load r base i) e = absurd (access_one (held_in own.process base.0) e)
  ends_by own (Put base i number) e = absurd (access_one (held_in own.process base.0) e)
  ends_by own (Get base i) e = absurd (access_one (held_in own.process base.0) e)
  ends_by own _ e = absurd (cc e)
