-- What operations give of the parts of the touched cells and of the book.
use Rattle.std.proofs.Common.{◌≡◌, ℕ, refl, sym, ap, ap₂, ◌∙◌, [], ◌∷◌, cond, Option, Some, None, true}
use Rattle.k_types.specs.declared.event.Event.TheVariants.{Done}
use Rattle.k_types.specs.declared.event.Fault.{Fault}
use Rattle.k_types.specs.declared.event.Fault.TheVariants.{Null}
use Rattle.k_types.specs.declared.event.Reply.TheVariants.{Done as DoneReply, Loaded, Made, Refused}
use Rattle.k_types.specs.declared.names.Heap.{Heap}
use Rattle.k_types.specs.declared.names.Heap.TheVariants.{User}
use Rattle.k_types.specs.declared.names.Name.{Name}
use Rattle.k_types.specs.declared.names.Pid.{Pid}
use Rattle.k_types.specs.declared.names.Reg.{Reg}
use Rattle.k_types.specs.declared.names.TypeId.{TypeId}
use Rattle.k_types.specs.declared.op.Op.{Op}
use Rattle.k_types.specs.declared.op.Op.TheVariants.{Clear, Dir, Move, New, Store}
use Rattle.k_types.specs.Cells.{BookPart, Cell, CellPart}
use Rattle.k_types.specs.Names.{directory, heap_eq}
use Rattle.k_types.specs.Owners.{user}
use Rattle.k_types.specs.Replies.{first_fault, refused_or}
use Rattle.k_types.specs.State.{Refers}
use Rattle.k_types.specs.Trace.{Trace, kinds_of, limit_of, segment_of, size_of_type}
use Rattle.k_tie.proofs.NameTests.{heap_eq_refl}
use Rattle.k_laws.specs.PartUpdates.{held_in, with_done, with_register, with_written}
use Rattle.k_laws.specs.BookChanges.{owner_in, with_charge, with_pin_moved}
use Rattle.k_laws.specs.CellChanges.{next_name_in, with_created}
use Rattle.k_laws.specs.Answers.{answer_in, faults_in, reply_in, size_fault_in, store_faults_in}
use Rattle.k_laws.specs.BookAfter.{book_after, book_operated, book_stored}
use Rattle.k_laws.specs.CellAfter.{at_cell, cell_after, cells_operated, cells_stored, with_exit_for}
use Rattle.k_laws.specs.Touches.{other_cells_in}
use Rattle.k_agree.specs.Moves.{GivesAlone}
use Rattle.k_agree.specs.Shown.{part_alone}

module _ (trace : Trace) (b : BookPart) (v : CellPart) (pid : Pid) where
  own : heap_eq (User pid) (User pid) ≡ true
  own = heap_eq_refl (User pid)

  abbrev alone : Cell → CellPart
  alone = part_alone v

  not_refused : (op : Op) → first_fault (faults_in trace b alone pid.0 op) ≡ None → answer_in trace b alone pid.0 op ≡ reply_in trace b alone pid.0 op
  unfolding reply_in
  not_refused op fine = ap (λ (fault : Option Fault). refused_or fault (answer_in trace b alone pid.0 op)) (sym fine)

  once : (change : CellPart → CellPart) → with_done (change v) ≡ at_cell (user pid.0) with_done (at_cell (user pid.0) change alone) (User pid)
  once change = ap (λ t. cond t (with_done (cond t (change v) v)) (cond t (change v) v)) (sym own)

  twice : (change then : CellPart → CellPart) →
      with_done (then (change v)) ≡ at_cell (user pid.0) with_done (at_cell (user pid.0) then (at_cell (user pid.0) change alone)) (User pid)
  twice change then = ap (λ t. cond t (with_done (cond t (then (cond t (change v) v)) (cond t (change v) v))) (cond t (then (cond t (change v) v)) (cond t (change v) v))) (sym own)

  pub refused_alone : (op : Op) (fault : Fault) → other_cells_in trace b v pid.0 op ≡ [] → first_fault (faults_in trace b alone pid.0 op) ≡ Some fault →
      GivesAlone trace pid op (Refused fault) v (with_done v) b b
  unfolding reply_in cell_after book_after
  refused_alone op fault touched is = record {
    touched = touched;
    answered = ap (λ (f : Option Fault). refused_or f (answer_in trace b alone pid.0 op)) (sym is);
    own = ap (λ t. cond t (with_done v) v) (sym own);
    book = refl;
  }

  pub move_alone : (r from : Reg) → GivesAlone trace pid (Move r from) DoneReply
      v (with_done (with_register r.0 (held_in v.process from.0) v))
      b (with_pin_moved (owner_in trace b) pid.0 (held_in v.process r.0) (held_in v.process from.0) b)
  unfolding other_cells_in reply_in faults_in first_fault answer_in cell_after cells_operated book_after book_operated
  move_alone r from = record {
    touched = refl;
    answered = refl;
    own = once (with_register r.0 (held_in v.process from.0));
    book = refl;
  }

  pub clear_alone : (r : Reg) → GivesAlone trace pid (Clear r) DoneReply
      v (with_done (with_register r.0 None v))
      b (with_pin_moved (owner_in trace b) pid.0 (held_in v.process r.0) None b)
  unfolding other_cells_in reply_in faults_in first_fault answer_in cell_after cells_operated book_after book_operated
  clear_alone r = record {
    touched = refl;
    answered = refl;
    own = once (with_register r.0 None);
    book = refl;
  }

  pub dir_alone : (r : Reg) → GivesAlone trace pid (Dir r) (Loaded (Some directory))
      v (with_done (with_register r.0 (Some directory) v))
      b (with_pin_moved (owner_in trace b) pid.0 (held_in v.process r.0) (Some directory) b)
  unfolding other_cells_in reply_in faults_in first_fault answer_in cell_after cells_operated book_after book_operated
  dir_alone r = record {
    touched = refl;
    answered = refl;
    own = once (with_register r.0 (Some directory));
    book = refl;
  }

  abbrev new_name : Name
  new_name = next_name_in (segment_of trace (User pid)) v

  pub new_alone : (r : Reg) (ty : TypeId) → size_fault_in trace b pid.0 (size_of_type trace ty) ≡ None → GivesAlone trace pid (New r ty) (Made new_name)
      v (with_done (with_register r.0 (Some new_name) (with_created (segment_of trace (User pid)) ty (kinds_of trace ty) v)))
      b (with_pin_moved (owner_in trace b) pid.0 (held_in v.process r.0) (Some new_name) (with_charge (limit_of trace pid.0) (size_of_type trace ty) b))
  unfolding other_cells_in reply_in faults_in first_fault answer_in cell_after cells_operated book_after book_operated
  new_alone r ty fits = record {
    touched = refl;
    answered = ap (λ (fault : Option Fault). refused_or (first_fault (fault ∷ [])) (Made new_name)) (sym fits);
    own = twice (with_created (segment_of trace (User pid)) ty (kinds_of trace ty)) (with_register r.0 (Some new_name));
    book = refl;
  }

  pub new_refused : (r : Reg) (ty : TypeId) (fault : Fault) → size_fault_in trace b pid.0 (size_of_type trace ty) ≡ Some fault →
      GivesAlone trace pid (New r ty) (Refused fault) v (with_done v) b b
  unfolding other_cells_in faults_in first_fault
  new_refused r ty fault full = refused_alone (New r ty) fault refl (ap (λ (f : Option Fault). first_fault (f ∷ [])) full)

  module _ (base : Reg) (i : ℕ) (value : Reg) (null : held_in v.process base.0 ≡ None) where
    nothing_beside : other_cells_in trace b v pid.0 (Store base i value) ≡ []
    unfolding other_cells_in
    nothing_beside = rw (null) refl

    null_first : first_fault (faults_in trace b alone pid.0 (Store base i value)) ≡ Some Null
    unfolding faults_in first_fault
    null_first = rw (null) refl

    pub null_store : GivesAlone trace pid (Store base i value) (Refused Null) v (with_done v) b b
    null_store = refused_alone (Store base i value) Null nothing_beside null_first

  module _ (base : Reg) (i : ℕ) (value : Reg) (x : Name) (y : Option Name) (at_x : held_in v.process base.0 ≡ Some x) (at_y : held_in v.process value.0 ≡ y) (mine : owner_in trace b x.seg.0 ≡ User pid) where
    none_beside : other_cells_in trace b v pid.0 (Store base i value) ≡ []
    unfolding other_cells_in
    none_beside = rw (at_x, mine) refl

    faults_are : faults_in trace b alone pid.0 (Store base i value) ≡ store_faults_in trace b (User pid) v pid.0 i y x
    unfolding faults_in
    faults_are = rw (at_x, at_y, mine) refl

    pub own_store_refused : (fault : Fault) → first_fault (store_faults_in trace b (User pid) v pid.0 i y x) ≡ Some fault →
        GivesAlone trace pid (Store base i value) (Refused fault) v (with_done v) b b
    own_store_refused fault is = refused_alone (Store base i value) fault none_beside (ap first_fault faults_are ∙ is)

    stored_answer : first_fault (store_faults_in trace b (User pid) v pid.0 i y x) ≡ None → DoneReply ≡ reply_in trace b alone pid.0 (Store base i value)
    unfolding answer_in
    stored_answer fine = not_refused (Store base i value) (ap first_fault faults_are ∙ fine)

    stored_cell : with_done (with_written x i (Refers y) (with_exit_for (owner_in trace b) x y v)) ≡ cell_after trace b alone (Done pid (Store base i value) DoneReply) (User pid)
    unfolding cell_after cells_operated
    stored_cell =
        twice (with_exit_for (owner_in trace b) x y) (with_written x i (Refers y))
        ∙ ap (λ (h : Heap). at_cell (user pid.0) with_done (at_cell h (with_written x i (Refers y)) (at_cell h (with_exit_for (owner_in trace b) x y) alone)) (User pid)) (sym mine)
        ∙ ap₂ (λ (bx vy : Option Name). at_cell (user pid.0) with_done (cells_stored (owner_in trace b) bx i vy alone) (User pid)) (sym at_x) (sym at_y)

    stored_book : book_stored (owner_in trace b) (Some x) y alone b ≡ book_after trace b alone (Done pid (Store base i value) DoneReply)
    unfolding book_after book_operated
    stored_book = ap₂ (λ (bx vy : Option Name). book_stored (owner_in trace b) bx vy alone b) (sym at_x) (sym at_y)

    pub own_store : first_fault (store_faults_in trace b (User pid) v pid.0 i y x) ≡ None → GivesAlone trace pid (Store base i value) DoneReply
        v (with_done (with_written x i (Refers y) (with_exit_for (owner_in trace b) x y v)))
        b (book_stored (owner_in trace b) (Some x) y alone b)
    own_store fine = record { touched = none_beside; answered = stored_answer fine; own = stored_cell; book = stored_book }
