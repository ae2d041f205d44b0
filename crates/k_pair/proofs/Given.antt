-- What sharing, freezing, attaching and allocating in a shared heap give of the parts of both cells and of the book.
use Rattle.std.proofs.Common.{◌≡◌, ◌∙◌, refl, sym, ap, ap₂, not, cond, Bool, true, false, Option, Some, None, [], ◌∷◌, slice_index_or}
use Rattle.k_types.specs.declared.event.Event.TheVariants.{Done}
use Rattle.k_types.specs.declared.event.Fault.{Fault}
use Rattle.k_types.specs.declared.event.Fault.TheVariants.{NotFrozen, NotPopulating, Null, Segv, Taken}
use Rattle.k_types.specs.declared.event.Reply.TheVariants.{Done as DoneReply, Loaded, Made}
use Rattle.k_types.specs.declared.names.Heap.TheVariants.{Shared, User}
use Rattle.k_types.specs.declared.names.Name.{Name}
use Rattle.k_types.specs.declared.names.Phase.{Phase}
use Rattle.k_types.specs.declared.names.Phase.TheVariants.{Frozen, Populating}
use Rattle.k_types.specs.declared.names.Pid.{Pid}
use Rattle.k_types.specs.declared.names.Reg.{Reg}
use Rattle.k_types.specs.declared.names.SharedId.{SharedId}
use Rattle.k_types.specs.declared.names.TypeId.{TypeId}
use Rattle.k_types.specs.declared.op.Op.TheVariants.{Attach, Freeze, Share, SNew}
use Rattle.k_types.specs.Cells.{BookPart, Cell, CellPart}
use Rattle.k_types.specs.Names.{heap_eq}
use Rattle.k_types.specs.Owners.{phase_of}
use Rattle.k_types.specs.Replies.{at_base, fault_where, first_fault, is_frozen, is_populating, is_unmade, root_of}
use Rattle.k_types.specs.Trace.{Trace, kinds_of, limit_of, segment_of, size_of_type}
use Rattle.k_laws.specs.PartUpdates.{held_in, with_done, with_register}
use Rattle.k_laws.specs.BookChanges.{owner_in, with_charge, with_phase, with_pin_moved, with_share, with_shared_bytes}
use Rattle.k_laws.specs.CellChanges.{in_phase, next_name_in, with_created}
use Rattle.k_laws.specs.Answers.{answer_in, faults_in, freeze_faults_in, reply_in, size_fault_in}
use Rattle.k_laws.specs.BookAfter.{book_after, book_attached, book_frozen, book_operated}
use Rattle.k_laws.specs.CellAfter.{at_cell, cell_after, cells_frozen, cells_operated, register_in}
use Rattle.k_laws.specs.Touches.{other_cells_in}
use Rattle.k_commit.specs.k_agree.Moves.{GivesBoth}
use Rattle.k_commit.specs.k_agree.Shown.{two_parts}
use Rattle.k_commit.proofs.Beside.{held_own, not_refused_beside, own_changed, own_counted, own_set, second_changed, second_counted, second_kept}

module _ (trace : Trace) (b : BookPart) (v u : CellPart) (pid : Pid) (s : SharedId) where
  abbrev both : Cell → CellPart
  both = two_parts (User pid) v u

  -- the heap is the process's to populate
  module _ (unmade : is_unmade (phase_of b.phases s.0) ≡ true) where
    share_fine : first_fault (faults_in trace b both pid.0 (Share s)) ≡ None
    unfolding faults_in first_fault fault_where
    share_fine = ap (λ t. first_fault (fault_where (not t) (Taken s) ∷ [])) unmade

    share_answered : DoneReply ≡ reply_in trace b both pid.0 (Share s)
    unfolding answer_in
    share_answered = not_refused_beside trace b v u pid (Shared s) refl (Share s) share_fine

    pub shared : GivesBoth trace pid (Share s) DoneReply (Shared s) v (with_done v) u (in_phase (Populating pid) u) b (with_share pid.0 s.0 (with_phase s.0 (Populating pid) b))
    unfolding other_cells_in cell_after cells_operated book_after book_operated
    shared = record {
      apart = refl;
      touched = refl;
      answered = share_answered;
      own = own_counted trace b v u pid (Shared s) refl (in_phase (Populating pid));
      second = second_counted trace b v u pid (Shared s) refl (in_phase (Populating pid));
      book = refl;
    }

  pub share_refused : is_unmade (phase_of b.phases s.0) ≡ false → first_fault (faults_in trace b both pid.0 (Share s)) ≡ Some (Taken s)
  unfolding faults_in first_fault fault_where
  share_refused taken = ap (λ t. first_fault (fault_where (not t) (Taken s) ∷ [])) taken

  module _ (root : Reg) where
    pub freeze_null : held_in v.process root.0 ≡ None → first_fault (faults_in trace b both pid.0 (Freeze s root)) ≡ Some Null
    unfolding faults_in first_fault
    freeze_null null =
        ap (λ (x : Option Name). first_fault (at_base x (freeze_faults_in trace b pid.0 (Shared s) s))) (held_own trace b v u pid (Shared s) refl root.0 ∙ null)

    module _ (x : Name) (at_x : held_in v.process root.0 ≡ Some x) where
      held_x : register_in both pid.0 root.0 ≡ Some x
      held_x = held_own trace b v u pid (Shared s) refl root.0 ∙ at_x

      freeze_faults : faults_in trace b both pid.0 (Freeze s root) ≡ freeze_faults_in trace b pid.0 (Shared s) s x
      unfolding faults_in
      freeze_faults = ap (λ (y : Option Name). at_base y (freeze_faults_in trace b pid.0 (Shared s) s)) held_x

      pub freeze_elsewhere : heap_eq (owner_in trace b x.seg.0) (Shared s) ≡ false → first_fault (faults_in trace b both pid.0 (Freeze s root)) ≡ Some Segv
      unfolding first_fault fault_where
      freeze_elsewhere other =
          ap first_fault freeze_faults
          ∙ ap (λ t. first_fault (fault_where (not t) Segv ∷ fault_where (not (is_populating (phase_of b.phases s.0) pid.0)) (NotPopulating s) ∷ [])) other

      freeze_tests : (ours populates : Bool) → heap_eq (owner_in trace b x.seg.0) (Shared s) ≡ ours → is_populating (phase_of b.phases s.0) pid.0 ≡ populates →
          first_fault (faults_in trace b both pid.0 (Freeze s root)) ≡ first_fault (fault_where (not ours) Segv ∷ fault_where (not populates) (NotPopulating s) ∷ [])
      freeze_tests ours populates is_ours is_populates =
          ap first_fault freeze_faults
          ∙ ap₂ (λ (t p : Bool). first_fault (fault_where (not t) Segv ∷ fault_where (not p) (NotPopulating s) ∷ [])) is_ours is_populates

      pub freeze_unpopulated : heap_eq (owner_in trace b x.seg.0) (Shared s) ≡ true → is_populating (phase_of b.phases s.0) pid.0 ≡ false →
          first_fault (faults_in trace b both pid.0 (Freeze s root)) ≡ Some (NotPopulating s)
      unfolding first_fault fault_where
      freeze_unpopulated ours other = freeze_tests true false ours other

      module _ (ours : heap_eq (owner_in trace b x.seg.0) (Shared s) ≡ true) (populates : is_populating (phase_of b.phases s.0) pid.0 ≡ true) where
        freeze_fine : first_fault (faults_in trace b both pid.0 (Freeze s root)) ≡ None
        unfolding first_fault fault_where
        freeze_fine = freeze_tests true true ours populates

        freeze_answered : DoneReply ≡ reply_in trace b both pid.0 (Freeze s root)
        unfolding answer_in
        freeze_answered = not_refused_beside trace b v u pid (Shared s) refl (Freeze s root) freeze_fine

        frozen_parts : (c : Cell) → at_cell (User pid) with_done (at_cell (Shared s) (in_phase (Frozen x)) both) c ≡ cell_after trace b both (Done pid (Freeze s root) DoneReply) c
        unfolding cell_after cells_operated
        frozen_parts c = ap (λ (y : Option Name). at_cell (User pid) with_done (cells_frozen (Shared s) y both) c) (sym held_x)

        pub frozen : GivesBoth trace pid (Freeze s root) DoneReply (Shared s) v (with_done v) u (in_phase (Frozen x) u) b (with_phase s.0 (Frozen x) b)
        unfolding other_cells_in book_after book_operated
        frozen = record {
          apart = refl;
          touched = refl;
          answered = freeze_answered;
          own = own_counted trace b v u pid (Shared s) refl (in_phase (Frozen x)) ∙ frozen_parts (User pid);
          second = second_counted trace b v u pid (Shared s) refl (in_phase (Frozen x)) ∙ frozen_parts (Shared s);
          book = ap (λ (y : Option Name). book_frozen s.0 y b) (sym held_x);
        }

  -- what an attachment is charged for, where it is one
  abbrev attach_fault : Bool → Option Fault
  attach_fault is_there = cond is_there None (size_fault_in trace b pid.0 (slice_index_or b.shared_bytes s.0 0))

  module _ (r : Reg) where
    attach_tests : (ready there : Bool) → is_frozen (phase_of b.phases s.0) ≡ ready → b.shares pid.0 s.0 ≡ there →
        first_fault (faults_in trace b both pid.0 (Attach r s)) ≡ first_fault (fault_where (not ready) (NotFrozen s) ∷ attach_fault there ∷ [])
    unfolding faults_in
    attach_tests ready there is_ready is_there =
        ap₂ (λ (f t : Bool). first_fault (fault_where (not f) (NotFrozen s) ∷ attach_fault t ∷ [])) is_ready is_there

    pub attach_unfrozen : is_frozen (phase_of b.phases s.0) ≡ false → first_fault (faults_in trace b both pid.0 (Attach r s)) ≡ Some (NotFrozen s)
    unfolding first_fault fault_where
    attach_unfrozen other = attach_tests false (b.shares pid.0 s.0) other refl

    module _ (root : Name) (phase : phase_of b.phases s.0 ≡ Frozen root) where
      pub attach_full : (fault : Fault) → b.shares pid.0 s.0 ≡ false → size_fault_in trace b pid.0 (slice_index_or b.shared_bytes s.0 0) ≡ Some fault →
          first_fault (faults_in trace b both pid.0 (Attach r s)) ≡ Some fault
      unfolding first_fault fault_where
      attach_full fault new full =
          attach_tests true false (ap is_frozen phase) new
          ∙ ap (λ (f : Option Fault). first_fault (f ∷ [])) full

      module _ (fits : attach_fault (b.shares pid.0 s.0) ≡ None) where
        attach_fine : first_fault (faults_in trace b both pid.0 (Attach r s)) ≡ None
        unfolding first_fault fault_where
        attach_fine =
            attach_tests true (b.shares pid.0 s.0) (ap is_frozen phase) refl
            ∙ ap (λ (f : Option Fault). first_fault (f ∷ [])) fits

        attach_answered : Loaded (Some root) ≡ reply_in trace b both pid.0 (Attach r s)
        unfolding answer_in
        attach_answered = ap (λ (f : Phase). Loaded (root_of f)) (sym phase) ∙ not_refused_beside trace b v u pid (Shared s) refl (Attach r s) attach_fine

        pub attached : GivesBoth trace pid (Attach r s) (Loaded (Some root)) (Shared s) v (with_done (with_register r.0 (Some root) v)) u u
            b (with_pin_moved (owner_in trace b) pid.0 (held_in v.process r.0) (Some root) (book_attached trace pid.0 s.0 b))
        unfolding other_cells_in cell_after cells_operated book_after book_operated
        attached = record {
          apart = refl;
          touched = refl;
          answered = attach_answered;
          own = own_set trace b v u pid (Shared s) refl (with_register r.0 (Some root));
          second = second_kept trace b v u pid (Shared s) refl (with_register r.0 (Some root));
          book = ap (λ (held : Option Name). with_pin_moved (owner_in trace b) pid.0 held (Some root) (book_attached trace pid.0 s.0 b)) (sym (held_own trace b v u pid (Shared s) refl r.0));
        }

  module _ (r : Reg) (ty : TypeId) where
    abbrev new_name : Name
    new_name = next_name_in (segment_of trace (Shared s)) u

    snew_tests : (populates : Bool) (full : Option Fault) → is_populating (phase_of b.phases s.0) pid.0 ≡ populates → size_fault_in trace b pid.0 (size_of_type trace ty) ≡ full →
        first_fault (faults_in trace b both pid.0 (SNew r s ty)) ≡ first_fault (fault_where (not populates) (NotPopulating s) ∷ full ∷ [])
    unfolding faults_in
    snew_tests populates full is_populates is_full =
        ap₂ (λ (t : Bool) (f : Option Fault). first_fault (fault_where (not t) (NotPopulating s) ∷ f ∷ [])) is_populates is_full

    pub snew_unpopulated : is_populating (phase_of b.phases s.0) pid.0 ≡ false → first_fault (faults_in trace b both pid.0 (SNew r s ty)) ≡ Some (NotPopulating s)
    unfolding first_fault fault_where
    snew_unpopulated other = snew_tests false (size_fault_in trace b pid.0 (size_of_type trace ty)) other refl

    module _ (populates : is_populating (phase_of b.phases s.0) pid.0 ≡ true) where
      pub snew_full : (fault : Fault) → size_fault_in trace b pid.0 (size_of_type trace ty) ≡ Some fault → first_fault (faults_in trace b both pid.0 (SNew r s ty)) ≡ Some fault
      unfolding first_fault fault_where
      snew_full fault full = snew_tests true (Some fault) populates full

      module _ (fits : size_fault_in trace b pid.0 (size_of_type trace ty) ≡ None) where
        snew_fine : first_fault (faults_in trace b both pid.0 (SNew r s ty)) ≡ None
        unfolding first_fault fault_where
        snew_fine = snew_tests true None populates fits

        snew_answered : Made new_name ≡ reply_in trace b both pid.0 (SNew r s ty)
        unfolding answer_in
        snew_answered = not_refused_beside trace b v u pid (Shared s) refl (SNew r s ty) snew_fine

        pub allocated : GivesBoth trace pid (SNew r s ty) (Made new_name) (Shared s)
            v (with_done (with_register r.0 (Some new_name) v)) u (with_created (segment_of trace (Shared s)) ty (kinds_of trace ty) u)
            b (with_pin_moved (owner_in trace b) pid.0 (held_in v.process r.0) (Some new_name)
            (with_shared_bytes s.0 (size_of_type trace ty) (with_charge (limit_of trace pid.0) (size_of_type trace ty) b)))
        unfolding other_cells_in cell_after cells_operated book_after book_operated
        allocated = record {
          apart = refl;
          touched = refl;
          answered = snew_answered;
          own = own_changed trace b v u pid (Shared s) refl (with_created (segment_of trace (Shared s)) ty (kinds_of trace ty)) (with_register r.0 (Some new_name));
          second = second_changed trace b v u pid (Shared s) refl (with_created (segment_of trace (Shared s)) ty (kinds_of trace ty)) (with_register r.0 (Some new_name));
          book =
              ap (λ (held : Option Name). with_pin_moved (owner_in trace b) pid.0 held (Some new_name)
              (with_shared_bytes s.0 (size_of_type trace ty) (with_charge (limit_of trace pid.0) (size_of_type trace ty) b))) (sym (held_own trace b v u pid (Shared s) refl r.0));
        }
