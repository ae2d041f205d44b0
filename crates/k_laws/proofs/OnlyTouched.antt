-- The functions of parts read only the parts of touched cells and of the book.
use Rattle.std.proofs.Common.{◌≡◌, ◌⊎◌, ℕ, ◌+◌, ◌==◌, ◌++◌, not, nat_lt, cond, refl, sym, ap, ap₂, ◌∙◌, List, [], ◌∷◌, Option, Some, None, eqb-true, IsTrue, inl, inr, Bool, false, true}
use Rattle.std.specs.List.{list_any}
use Rattle.std.proofs.lemmas.Bool.{or_left, or_right, cases_Bool}
use Rattle.k_types.specs.declared.names.Name.{Name}
use Rattle.k_types.specs.declared.names.TypeId.{TypeId}
use Rattle.k_types.specs.declared.names.Pid.{Pid}
use Rattle.k_types.specs.declared.names.Heap.{Heap}
use Rattle.k_types.specs.declared.names.Heap.TheVariants.{Kernel, User, Shared}
use Rattle.k_types.specs.declared.names.Phase.TheVariants.{Populating, Frozen}
use Rattle.k_types.specs.declared.op.Op.{Op}
use Rattle.k_types.specs.declared.op.Op.TheVariants.{New, KNew, SNew, Store, Load, Move, Clear, Dir, Put, Get, Collect, KCollect, Share, Freeze, Attach, Exit, Kill}
use Rattle.k_types.specs.declared.event.Fault.{Fault}
use Rattle.k_types.specs.declared.event.Fault.TheVariants.{Foreign, NotSharer, WrongKind, Frozen as FrozenFault, Segv, NotPopulating, KernelFull}
use Rattle.k_types.specs.declared.event.Reply.{Reply}
use Rattle.k_types.specs.declared.event.Reply.TheVariants.{Done as DoneReply, Made, Loaded, Value, Refused}
use Rattle.k_types.specs.declared.event.Event.{Event}
use Rattle.k_types.specs.declared.event.Event.TheVariants.{Done, Ended, Absorbed, Closing}
use Rattle.k_types.specs.Names.{heap_eq}
use Rattle.k_types.specs.Trace.{Trace, process_count, size_of_type}
use Rattle.k_types.specs.State.{Refers, Holds}
use Rattle.k_types.specs.Owners.{user, phase_of}
use Rattle.k_types.specs.Replies.{fault_where, first_fault, at_base, refused_or, is_ref, is_populating, reference, number_in}
use Rattle.k_types.specs.Cells.{Cell, CellPart, BookPart}
use Rattle.k_laws.specs.PartUpdates.{held_in, with_done, with_written}
use Rattle.k_types.proofs.NameTests.{heap_eq_refl}
use Rattle.k_laws.specs.CellChanges.{with_scan, taking_in, at_its_end, when_absorbed, in_phase, collected, next_name_in}
use Rattle.k_laws.specs.BookChanges.{owner_in, bytes_in, with_pin_moved, with_entry, without_entries, drops, when_collected, when_ended, when_taken}
use Rattle.k_laws.specs.Roots.{roots_in}
use Rattle.k_laws.specs.CellAfter.{at_cell, register_in, reference_given, unless_refused, cells_with_register, cells_with_new, with_exit_for, cells_stored, cells_put, cells_frozen, cells_scanned, cells_given, cells_operated, cell_after}
use Rattle.k_laws.specs.BookAfter.{book_repinned, book_stored, book_frozen, book_collected, book_operated, book_after}
use Rattle.k_laws.specs.Answers.{field_in, size_fault_in, access_faults_in, is_frozen_in, passes_barrier_in, store_faults_in, load_faults_in, number_faults_in, freeze_faults_in, faults_in, reference_from_in, number_from_in, answer_in, reply_in, IsAnswered}
use Rattle.k_laws.specs.Touches.{base_cell_in, access_cell_in, other_cells_in, ends_other_in}
use Rattle.k_laws.specs.Follows.{AgreeWhereTouched, GiveTheSame}

-- of two choices the same is taken
unless_same : (said : Reply) (f g before other : Cell → CellPart) (c : Cell) → f c ≡ g c → before c ≡ other c → unless_refused said f before c ≡ unless_refused said g other c
unless_same DoneReply f g before other c done same = done
unless_same (Made n) f g before other c done same = done
unless_same (Loaded v) f g before other c done same = done
unless_same (Value n) f g before other c done same = done
unless_same (Refused fault) f g before other c done same = same

-- of a cell that has the same part in both, beside the process's own
module _ (trace : Trace) (b : BookPart) (f g : Cell → CellPart) (c : Cell) (here : f c ≡ g c) where
  scanned_same : (h : Heap) → f h ≡ g h → cells_scanned b h f c ≡ cells_scanned b h g c
  scanned_same h there = ap₂ (λ s q. cond (heap_eq h c) (with_scan (roots_in h b s) q) q) there here

  given_same : (own : ℕ → Heap) (h : Heap) (change : CellPart → CellPart) → f h ≡ g h → cells_given own h change f c ≡ cells_given own h change g c
  given_same own h change there = ap₂ (λ s q. at_cell h change (at_cell Kernel (taking_in own h s) (λ k. q)) c) there here

  register_same : (p r : ℕ) (v : Option Name) → cells_with_register p r v f c ≡ cells_with_register p r v g c
  register_same p r v = ap (λ q. cells_with_register p r v (λ k. q) c) here

  new_same : (p r : ℕ) (v : Option Name) (h : Heap) (ty : TypeId) → cells_with_register p r v (cells_with_new trace h ty f) c ≡ cells_with_register p r v (cells_with_new trace h ty g) c
  new_same p r v h ty = ap (λ q. cells_with_register p r v (cells_with_new trace h ty (λ k. q)) c) here

  stored_same : (own : ℕ → Heap) (x : Option Name) (i : ℕ) (v : Option Name) → cells_stored own x i v f c ≡ cells_stored own x i v g c
  stored_same own None i v = here
  stored_same own (Some x) i v = ap (λ q. at_cell (own x.seg.0) (with_written x i (Refers v)) (at_cell (own x.seg.0) (with_exit_for own x v) (λ k. q)) c) here

  put_same : (own : ℕ → Heap) (x : Option Name) (i n : ℕ) → cells_put own x i n f c ≡ cells_put own x i n g c
  put_same own None i n = here
  put_same own (Some x) i n = ap (λ q. at_cell (own x.seg.0) (with_written x i (Holds n)) (λ k. q) c) here

  frozen_same : (h : Heap) (root : Option Name) → cells_frozen h root f c ≡ cells_frozen h root g c
  frozen_same h None = here
  frozen_same h (Some root) = ap (λ q. at_cell h (in_phase (Frozen root)) (λ k. q) c) here

  module _ (p : ℕ) (own : f (user p) ≡ g (user p)) where
    held : (r : ℕ) → register_in f p r ≡ register_in g p r
    held r = ap (λ (q : CellPart). held_in q.process r) own

    pub operated_same : (op : Op) (said : Reply) → ((k : Cell) → IsTrue (list_any (λ d. heap_eq d k) (other_cells_in trace b (f (user p)) p op)) → f k ≡ g k) → cells_operated trace b f p op said c ≡ cells_operated trace b g p op said c
    unfolding cells_operated other_cells_in
    operated_same (New r ty) said others = new_same p r.0 (reference_given said) (user p) ty
    operated_same (KNew r ty) said others = new_same p r.0 (reference_given said) Kernel ty
    operated_same (SNew r s ty) said others = new_same p r.0 (reference_given said) (Shared s) ty
    operated_same (Store base i value) said others =
        ap₂ (λ x v. cells_stored (owner_in trace b) x i v f c) (held base.0) (held value.0) ∙ stored_same (owner_in trace b) (register_in g p base.0) i (register_in g p value.0)
    operated_same (Load r base i) said others = register_same p r.0 (reference_given said)
    operated_same (Move r from) said others = ap (λ v. cells_with_register p r.0 v f c) (held from.0) ∙ register_same p r.0 (register_in g p from.0)
    operated_same (Clear r) said others = register_same p r.0 None
    operated_same (Dir r) said others = register_same p r.0 (reference_given said)
    operated_same (Put base i n) said others = ap (λ x. cells_put (owner_in trace b) x i n f c) (held base.0) ∙ put_same (owner_in trace b) (register_in g p base.0) i n
    operated_same Collect said others = scanned_same (user p) own
    operated_same KCollect said others = scanned_same Kernel (others Kernel refl)
    operated_same (Share s) said others = ap (λ q. at_cell (Shared s) (in_phase (Populating (record { 0 = p }))) (λ k. q) c) here
    operated_same (Freeze s root) said others = ap (λ v. cells_frozen (Shared s) v f c) (held root.0) ∙ frozen_same (Shared s) (register_in g p root.0)
    operated_same (Attach r s) said others = register_same p r.0 (reference_given said)
    operated_same Exit said others = given_same (owner_in trace b) (user p) at_its_end own
    operated_same (Kill q) said others = kill_same (ends_other_in trace b p q.0) refl
      where
        kill_same : (ends : Bool) → ends_other_in trace b p q.0 ≡ ends → cond ends (cells_given (owner_in trace b) (User q) at_its_end f) f c ≡ cond ends (cells_given (owner_in trace b) (User q) at_its_end g) g c
        kill_same false e = here
        kill_same true e = given_same (owner_in trace b) (User q) at_its_end (others (User q) (ap (λ t. list_any (λ d. heap_eq d (User q)) (cond t (User q ∷ Kernel ∷ []) [])) e ∙ or_left _ _ (heap_eq_refl (User q))))
    operated_same _ said others = here

-- what is accessed through the register of a process whose cell has the same part in both
module _ (trace : Trace) (b : BookPart) (f g : Cell → CellPart) (p : ℕ) (own : f (user p) ≡ g (user p)) where
  held_too : (r : ℕ) → register_in f p r ≡ register_in g p r
  held_too r = ap (λ (q : CellPart). held_in q.process r) own

  -- each cell that an access through this touches has the same part
  abbrev Through : Option Name → Type 0
  Through x = (k : Cell) → IsTrue (list_any (λ d. heap_eq d k) (access_cell_in trace b p x)) → f k ≡ g k

  -- the owner of what is accessed has the same part, or the access is refused for its owner
  seen : (h : Heap) → ((k : Cell) → IsTrue (list_any (λ d. heap_eq d k) (base_cell_in b p h)) → f k ≡ g k) →
      (f h ≡ g h) ⊎ ((fault : Fault) × ((c : CellPart) (x : Name) (i : ℕ) (rest : List (Option Fault)) → first_fault (access_faults_in b h c p x i ++ rest) ≡ Some fault))
  unfolding access_faults_in first_fault fault_where
  seen Kernel cells = inl (cells Kernel refl)
  seen (User q) cells =
      elim (cases_Bool (q.0 == p)) [
        | inl t ↦ let is = eqb-true q.0 p t in inl (ap (λ n. f (user n)) is ∙ own ∙ sym (ap (λ n. g (user n)) is))
        | inr e ↦ inr (Foreign, (λ c x i rest. rw e refl))
      ]
  seen (Shared s) cells =
      elim (cases_Bool (b.shares p s.0)) [
        | inl t ↦ inl (cells (Shared s) (ap (λ e. list_any (λ k. heap_eq k (Shared s)) (cond e (Shared s ∷ []) [])) t ∙ or_left _ _ (heap_eq_refl (Shared s))))
        | inr e ↦ inr (NotSharer s, (λ c x i rest. rw e refl))
      ]

  abbrev home : Name → Heap
  home x = owner_in trace b x.seg.0

  answered_same : (x : Name) (i : ℕ) (rest : CellPart → List (Option Fault)) (answer : CellPart → Reply) → Through (Some x) →
      refused_or (first_fault (access_faults_in b (home x) (f (home x)) p x i ++ rest (f (home x)))) (answer (f (home x)))
      ≡ refused_or (first_fault (access_faults_in b (home x) (g (home x)) p x i ++ rest (g (home x)))) (answer (g (home x)))
  answered_same x i rest answer cells =
      elim (seen (home x) cells) [
        | inl same ↦ ap (λ c. refused_or (first_fault (access_faults_in b (home x) c p x i ++ rest c)) (answer c)) same
        | inr refused ↦
            ap (λ e. refused_or e (answer (f (home x)))) (refused.1 (f (home x)) x i (rest (f (home x))))
            ∙ sym (ap (λ e. refused_or e (answer (g (home x)))) (refused.1 (g (home x)) x i (rest (g (home x)))))
      ]

  store_same : (x : Option Name) (i : ℕ) (v : Option Name) → Through x →
      refused_or (first_fault (at_base x (λ y. store_faults_in trace b (home y) (f (home y)) p i v y))) DoneReply ≡ refused_or (first_fault (at_base x (λ y. store_faults_in trace b (home y) (g (home y)) p i v y))) DoneReply
  store_same None i v cells = refl
  store_same (Some x) i v cells =
      answered_same x i (λ c. fault_where (not (is_ref (field_in c x i))) WrongKind ∷ fault_where (is_frozen_in b (home x)) FrozenFault ∷ fault_where (not (passes_barrier_in (owner_in trace b) (home x) v)) Segv ∷ []) (λ c. DoneReply) cells

  load_same : (x : Option Name) (i : ℕ) → Through x →
      refused_or (first_fault (at_base x (λ y. load_faults_in b (home y) (f (home y)) p i y))) (Loaded (reference_from_in trace b f x i)) ≡ refused_or (first_fault (at_base x (λ y. load_faults_in b (home y) (g (home y)) p i y))) (Loaded (reference_from_in trace b g x i))
  load_same None i cells = refl
  load_same (Some x) i cells = answered_same x i (λ c. fault_where (not (is_ref (field_in c x i))) WrongKind ∷ []) (λ c. Loaded (reference (field_in c x i))) cells

  put_reply_same : (x : Option Name) (i : ℕ) → Through x →
      refused_or (first_fault (at_base x (λ y. number_faults_in b (home y) (f (home y)) p i y))) DoneReply ≡ refused_or (first_fault (at_base x (λ y. number_faults_in b (home y) (g (home y)) p i y))) DoneReply
  put_reply_same None i cells = refl
  put_reply_same (Some x) i cells = answered_same x i (λ c. fault_where (is_ref (field_in c x i)) WrongKind ∷ []) (λ c. DoneReply) cells

  get_same : (x : Option Name) (i : ℕ) → Through x →
      refused_or (first_fault (at_base x (λ y. number_faults_in b (home y) (f (home y)) p i y))) (Value (number_from_in trace b f x i)) ≡ refused_or (first_fault (at_base x (λ y. number_faults_in b (home y) (g (home y)) p i y))) (Value (number_from_in trace b g x i))
  get_same None i cells = refl
  get_same (Some x) i cells = answered_same x i (λ c. fault_where (is_ref (field_in c x i)) WrongKind ∷ []) (λ c. Value (number_in (field_in c x i))) cells

  pub reply_same : (op : Op) → ((k : Cell) → IsTrue (list_any (λ d. heap_eq d k) (other_cells_in trace b (f (user p)) p op)) → f k ≡ g k) → reply_in trace b f p op ≡ reply_in trace b g p op
  unfolding reply_in faults_in answer_in other_cells_in
  reply_same (New r ty) others = ap (λ c. refused_or (first_fault (size_fault_in trace b p (size_of_type trace ty) ∷ [])) (Made (next_name_in (p + 1) c))) own
  reply_same (KNew r ty) others =
      ap (λ c. refused_or (first_fault (fault_where (nat_lt trace.ceiling (bytes_in c + size_of_type trace ty)) KernelFull ∷ [])) (Made (next_name_in 0 c))) (others Kernel refl)
  reply_same (SNew r s ty) others =
      ap (λ c. refused_or (first_fault (fault_where (not (is_populating (phase_of b.phases s.0) p)) (NotPopulating s) ∷ size_fault_in trace b p (size_of_type trace ty) ∷ [])) (Made (next_name_in (1 + process_count trace + s.0) c)))
      (others (Shared s) (or_left _ _ (heap_eq_refl (Shared s))))
  reply_same (Store base i value) others =
      store_same (register_in f p base.0) i (register_in f p value.0) others
      ∙ ap₂ (λ x v. refused_or (first_fault (at_base x (λ y. store_faults_in trace b (home y) (g (home y)) p i v y))) DoneReply) (held_too base.0) (held_too value.0)
  reply_same (Load r base i) others =
      load_same (register_in f p base.0) i others
      ∙ ap (λ x. refused_or (first_fault (at_base x (λ y. load_faults_in b (home y) (g (home y)) p i y))) (Loaded (reference_from_in trace b g x i))) (held_too base.0)
  reply_same (Put base i number) others =
      put_reply_same (register_in f p base.0) i others
      ∙ ap (λ x. refused_or (first_fault (at_base x (λ y. number_faults_in b (home y) (g (home y)) p i y))) DoneReply) (held_too base.0)
  reply_same (Get base i) others =
      get_same (register_in f p base.0) i others
      ∙ ap (λ x. refused_or (first_fault (at_base x (λ y. number_faults_in b (home y) (g (home y)) p i y))) (Value (number_from_in trace b g x i))) (held_too base.0)
  reply_same (Freeze s root) others = ap (λ x. refused_or (first_fault (at_base x (freeze_faults_in trace b p (Shared s) s))) DoneReply) (held_too root.0)
  reply_same _ others = refl

  -- the book after an operation that isn't refused
  book_stored_same : (x : Option Name) (i : ℕ) (w v : Option Name) → Through x → first_fault (at_base x (λ y. store_faults_in trace b (home y) (f (home y)) p i w y)) ≡ None → book_stored (owner_in trace b) x v f b ≡ book_stored (owner_in trace b) x v g b
  book_stored_same None i w v cells fine = refl
  book_stored_same (Some x) i w None cells fine = refl
  book_stored_same (Some x) i w (Some y) cells fine =
      elim (seen (home x) cells) [
        | inl same ↦ ap (λ (c : CellPart). cond (heap_eq (home x) (home y)) b (with_entry (not (c.exits y)) y b)) same
        | inr refused ↦ absurd (cc (refused.1 (f (home x)) x i _, fine))
      ]

  repinned_same : (r : ℕ) (v : Option Name) (after : BookPart) → book_repinned trace b f p r v after ≡ book_repinned trace b g p r v after
  repinned_same r v after = ap (λ was. with_pin_moved (owner_in trace b) p was v after) (held_too r)

  pub book_operated_same : (op : Op) (said : Reply) → first_fault (faults_in trace b f p op) ≡ None → ((k : Cell) → IsTrue (list_any (λ d. heap_eq d k) (other_cells_in trace b (f (user p)) p op)) → f k ≡ g k) →
      book_operated trace b f p op said ≡ book_operated trace b g p op said
  unfolding book_operated other_cells_in faults_in
  book_operated_same (New r ty) said fine others = repinned_same r.0 (reference_given said) _
  book_operated_same (KNew r ty) said fine others = repinned_same r.0 (reference_given said) _
  book_operated_same (SNew r s ty) said fine others = repinned_same r.0 (reference_given said) _
  book_operated_same (Store base i value) said fine others =
      book_stored_same (register_in f p base.0) i (register_in f p value.0) (register_in f p value.0) others fine
      ∙ ap₂ (λ x v. book_stored (owner_in trace b) x v g b) (held_too base.0) (held_too value.0)
  book_operated_same (Load r base i) said fine others = repinned_same r.0 (reference_given said) _
  book_operated_same (Move r from) said fine others = ap (λ v. book_repinned trace b f p r.0 v b) (held_too from.0) ∙ repinned_same r.0 (register_in g p from.0) b
  book_operated_same (Clear r) said fine others = repinned_same r.0 None b
  book_operated_same (Dir r) said fine others = repinned_same r.0 (reference_given said) _
  book_operated_same (Freeze s root) said fine others = ap (λ v. book_frozen s.0 v b) (held_too root.0)
  book_operated_same (Attach r s) said fine others = repinned_same r.0 (reference_given said) _
  book_operated_same Exit said fine others = ap₂ (λ heap kernel. when_ended trace (owner_in trace b) p heap kernel b) own (others Kernel refl)
  book_operated_same (Kill q) said fine others = kill_same (ends_other_in trace b p q.0) refl
    where
      kill_same : (ends : Bool) → ends_other_in trace b p q.0 ≡ ends →
          cond ends (when_ended trace (owner_in trace b) q.0 (f (User q)) (f Kernel) b) b ≡ cond ends (when_ended trace (owner_in trace b) q.0 (g (User q)) (g Kernel) b) b
      kill_same false e = refl
      kill_same true e =
          ap₂ (λ heap kernel. when_ended trace (owner_in trace b) q.0 heap kernel b)
          (others (User q) (ap (λ t. list_any (λ d. heap_eq d (User q)) (cond t (User q ∷ Kernel ∷ []) [])) e ∙ or_left _ _ (heap_eq_refl (User q))))
          (others Kernel (ap (λ t. list_any (λ d. heap_eq d Kernel) (cond t (User q ∷ Kernel ∷ []) [])) e ∙ or_right (heap_eq (User q) Kernel) _ refl))
  book_operated_same _ said fine others = refl

module _ (trace : Trace) (b : BookPart) (f g : Cell → CellPart) where
  own_same : (pid : Pid) (op : Op) (said : Reply) → AgreeWhereTouched trace b f g (Done pid op said) → f (User pid) ≡ g (User pid)
  own_same pid op said agree = agree (User pid) (or_left _ _ (heap_eq_refl (User pid)))

  others_same : (pid : Pid) (op : Op) (said : Reply) → AgreeWhereTouched trace b f g (Done pid op said) → (k : Cell) → IsTrue (list_any (λ d. heap_eq d k) (other_cells_in trace b (f (User pid)) pid.0 op)) → f k ≡ g k
  others_same pid op said agree k t = agree k (or_right (heap_eq (User pid) k) _ t)

  pub replies_same : (pid : Pid) (op : Op) (said : Reply) → AgreeWhereTouched trace b f g (Done pid op said) → reply_in trace b f pid.0 op ≡ reply_in trace b g pid.0 op
  replies_same pid op said agree = reply_same trace b f g pid.0 (own_same pid op said agree) op (others_same pid op said agree)

  cell_same : (event : Event) → AgreeWhereTouched trace b f g event → (c : Cell) → f c ≡ g c → cell_after trace b f event c ≡ cell_after trace b g event c
  unfolding cell_after
  cell_same (Done pid op said) agree c here =
      ap (λ q. cond (heap_eq (User pid) c) (with_done q) q)
      (unless_same said (cells_operated trace b f pid.0 op said) (cells_operated trace b g pid.0 op said) f g c
      (operated_same trace b f g c here pid.0 (own_same pid op said agree) op said (others_same pid op said agree)) here)
  cell_same (Ended h x y z w) agree c here = ap (λ q. at_cell h collected (λ k. q) c) here
  cell_same (Absorbed s) agree c here = given_same trace b f g c here (owner_in trace b) (Shared s) when_absorbed (agree (Shared s) (or_left _ _ (heap_eq_refl (Shared s))))
  cell_same Closing agree c here = scanned_same trace b f g c here Kernel (agree Kernel refl)

  collected_same : (h : Heap) → f h ≡ g h → book_collected trace f h b ≡ book_collected trace g h b
  collected_same Kernel same = ap (λ q. without_entries (drops q) b) same
  collected_same (User p) same = ap (λ q. when_collected trace (owner_in trace b) p.0 q b) same
  collected_same (Shared s) same = refl

  book_same : (event : Event) → AgreeWhereTouched trace b f g event → IsAnswered trace b f event → book_after trace b f event ≡ book_after trace b g event
  unfolding book_after reply_in
  book_same (Done pid op said) agree answered = go (first_fault (faults_in trace b f pid.0 op)) refl answered
    where
      go : (e : Option Fault) → first_fault (faults_in trace b f pid.0 op) ≡ e → said ≡ refused_or e (answer_in trace b f pid.0 op) →
          unless_refused said (book_operated trace b f pid.0 op said) b ≡ unless_refused said (book_operated trace b g pid.0 op said) b
      go None fine is = ap (λ after. unless_refused said after b) (book_operated_same trace b f g pid.0 (own_same pid op said agree) op said fine (others_same pid op said agree))
      go (Some fault) fine is =
          ap (λ s. unless_refused s (book_operated trace b f pid.0 op s) b) is ∙ sym (ap (λ s. unless_refused s (book_operated trace b g pid.0 op s) b) is)
  book_same (Ended h x y z w) agree answered = collected_same h (agree h (or_left _ _ (heap_eq_refl h)))
  book_same (Absorbed s) agree answered =
      ap₂ (λ heap kernel. when_taken (owner_in trace b) s.0 heap kernel b) (agree (Shared s) (or_left _ _ (heap_eq_refl (Shared s)))) (agree Kernel (or_right (heap_eq (Shared s) Kernel) _ refl))
  book_same Closing agree answered = refl

  pub given_the_same : (event : Event) → AgreeWhereTouched trace b f g event → GiveTheSame trace b f g event
  given_the_same event agree = record { for_cells = λ c t. cell_same event agree c (agree c t); for_book = λ answered. book_same event agree answered }
