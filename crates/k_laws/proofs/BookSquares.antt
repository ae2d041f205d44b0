-- What the effect of an operation and the other events make of the book's part.
use Rattle.std.proofs.Common.{◌≡◌, ℕ, zero, suc, ◌+◌, ◌<◌, ◌&&◌, nat_lt, not, Bool, true, false, cond, refl, sym, ap, ap₂, ◌∙◌, List, [], ◌∷◌, length, Option, Some, None, get_or, set, arith, IsTrue, IsFalse, inl, inr}
use Rattle.std.proofs.lemmas.Bool.{ltb-true, and_parts, not-false, cases_Bool, false≢true, false_from_ne_true}
use Rattle.k_types.specs.declared.names.Name.{Name}
use Rattle.k_types.specs.declared.names.Reg.{Reg}
use Rattle.k_types.specs.declared.names.TypeId.{TypeId}
use Rattle.k_types.specs.declared.names.SharedId.{SharedId}
use Rattle.k_types.specs.declared.names.Heap.TheVariants.{Kernel, User}
use Rattle.k_types.specs.declared.names.Phase.TheVariants.{Unmade, Populating, Frozen}
use Rattle.k_types.specs.declared.event.Fault.TheVariants.{Taken}
use Rattle.k_types.specs.declared.op.Op.{Op}
use Rattle.k_types.specs.declared.op.Op.TheVariants.{New, KNew, SNew, Store, Load, Move, Clear, Dir, Put, Get, Collect, KCollect, Share, Freeze, Attach, Exit, Kill, Resize}
use Rattle.k_types.specs.Bounds.{register_count}
use Rattle.k_types.specs.Names.{heap_eq, directory, among}
use Rattle.k_types.specs.Trace.{Trace, process_count, kinds_of, limit_of, size_of_type}
use Rattle.k_types.specs.TraceRules.{AreLimits}
use Rattle.k_types.specs.State.{State, Refers, Holds, register, has_share, has_exit}
use Rattle.k_types.specs.Owners.{owner_of, user, shared, phase_of, is_absorbed}
use Rattle.k_types.specs.Reach.{roots_of}
use Rattle.k_types.specs.Updates.{set_register, create, add_exit, add_share, set_phase, open_scan}
use Rattle.k_types.specs.Replies.{faults, answer, is_unmade}
use Rattle.k_types.specs.Effects.{effect, after_store, after_put, after_freeze, with_exit_of_store, after_end_of, after_absorbed, after_closing}
use Rattle.k_types.specs.Cells.{BookPart, part, book_part}
use Rattle.k_types.specs.Steps.{in_range}
use Rattle.k_types.specs.Sound.{IsSound, IsSized}
use Rattle.k_laws.proofs.FrameSteps.{none_on}
use Rattle.k_laws.specs.Changes.{MayAbsorb, MayExit}
use Rattle.k_laws.proofs.SoundEffects.{Acts, is_unmade_so}
use Rattle.k_laws.proofs.SoundSharing.{bytes_none}
use Rattle.k_laws.specs.BookChanges.{owner_in, with_pin_moved, with_charge, with_shared_bytes, with_share, with_phase, with_entry, when_closed, when_ended, when_taken}
use Rattle.k_laws.proofs.OnBook.{owner_told, open_scan_on_book, close_on_book, write_on_book, add_exit_on_book, set_phase_on_book, add_share_on_book, share_again, set_max_on_book}
use Rattle.k_laws.proofs.PinsOnBook.{set_register_on_book}
use Rattle.k_laws.proofs.MadeOnBook.{new_on_book, new_in_kernel_on_book, new_in_shared_on_book}
use Rattle.k_laws.proofs.EndsOnBook.{end_on_book}
use Rattle.k_laws.proofs.TakenOnBook.{taken_on_book}
use Rattle.k_laws.proofs.ToldBy.{shared_bytes_told}
use Rattle.k_laws.specs.CellAfter.{register_in}
use Rattle.k_laws.specs.BookAfter.{book_repinned, book_stored, book_frozen, book_attached, book_operated}
use Rattle.k_laws.proofs.CellSquares.{told, populates, populating_phase, freezes, may_exit, killed, kills, may_end_other, ends_told}
use Rattle.k_types.proofs.Shares.{sharer_of}
use Rattle.k_laws.proofs.Sizes.{create_sized, share_sized}

-- a number of a list that is set to what it is
set_again : (xs : List ℕ) (k : ℕ) → set xs k (get_or xs k 0 + 0) ≡ xs
set_again [] k = refl
set_again (x ∷ xs) zero = ap (λ y. y ∷ xs) (omega arith)
set_again (x ∷ xs) (suc k) = ap (λ ys. x ∷ ys) (set_again xs k)

charge_none : (m n : ℕ) (b : BookPart) → n ≡ 0 → with_charge m n b ≡ b
charge_none m n b e = ap (λ k. with_charge m k b) e ∙ ap (λ direct. record b { direct = direct }) (set_again b.direct m)

-- the number of the first register that an operation in range names
small_register : (r : Reg) (rest : Bool) → IsTrue (nat_lt r.0 register_count && rest) → r.0 < register_count
small_register r rest t = ltb-true _ _ (and_parts (nat_lt r.0 register_count) rest t).0

module _ (trace : Trace) (st : State) where
  -- a register that is set after a change that leaves the registers, the owners and the lengths of the lists
  repinned : (su : State) (p r : ℕ) (v : Option Name) → IsSized trace su → p < process_count trace → r < register_count → owner_of trace su ≡ owner_of trace st → su.registers ≡ st.registers →
      book_part trace (set_register p r v su) ≡ book_repinned trace (book_part trace st) (part trace st) p r v (book_part trace su)
  repinned su p r v sized known small owners registers =
      set_register_on_book trace su p r v sized known small
      ∙ ap₂ (λ own held. with_pin_moved own p held v (book_part trace su)) (owners ∙ sym (owner_told trace st)) (ap (λ rows. register rows p r) registers ∙ told trace st p r)

  linked_book : (x : Name) (v : Option Name) → book_part trace (with_exit_of_store trace x v st) ≡ book_stored (owner_of trace st) (Some x) v (part trace st) (book_part trace st)
  unfolding with_exit_of_store part
  linked_book x None = refl
  linked_book x (Some y) =
      elim (heap_eq (owner_of trace st x.seg.0) (owner_of trace st y.seg.0)) as (λ b. book_part trace (cond b st (add_exit (owner_of trace st x.seg.0) y st))
      ≡ cond b (book_part trace st) (with_entry (not (has_exit st.exits (owner_of trace st x.seg.0) y)) y (book_part trace st))) [
        | true ↦ refl
        | false ↦ add_exit_on_book trace st (owner_of trace st x.seg.0) y
      ]

  stored_book : (x : Option Name) (i : ℕ) (v : Option Name) → book_part trace (after_store trace x i v st) ≡ book_stored (owner_of trace st) x v (part trace st) (book_part trace st)
  unfolding after_store
  stored_book None i v = refl
  stored_book (Some x) i v = write_on_book trace (with_exit_of_store trace x v st) x i (Refers v) ∙ linked_book x v

  put_book : (x : Option Name) (i n : ℕ) → book_part trace (after_put x i n st) ≡ book_part trace st
  unfolding after_put
  put_book None i n = refl
  put_book (Some x) i n = write_on_book trace st x i (Holds n)

  frozen_book : (s : ℕ) (root : Option Name) → IsFalse (is_absorbed (phase_of st.phases s)) → book_part trace (after_freeze s root st) ≡ book_frozen s root (book_part trace st)
  unfolding after_freeze
  frozen_book s None stands = refl
  frozen_book s (Some root) stands = set_phase_on_book trace st s (Frozen root) (sym stands)

  pub closing_book : book_part trace (after_closing trace st) ≡ when_closed (book_part trace st)
  unfolding after_closing
  closing_book = close_on_book trace (open_scan Kernel (roots_of trace st Kernel) st) ∙ ap when_closed (open_scan_on_book trace st Kernel (roots_of trace st Kernel))

  pub absorbed_book : IsSound trace st → (s : ℕ) → MayAbsorb trace st s →
      book_part trace (after_absorbed trace s st) ≡ when_taken (owner_in trace (book_part trace st)) s (part trace st (shared s)) (part trace st Kernel) (book_part trace st)
  absorbed_book sound s may =
      taken_on_book trace st s sound may
      ∙ ap (λ own. when_taken own s (part trace st (shared s)) (part trace st Kernel) (book_part trace st)) (sym (owner_told trace st))

  module _ (limits : AreLimits trace) (sound : IsSound trace st) (p : ℕ) where
    shared_phase : (s : ℕ) → p < process_count trace → IsFalse (among p st.ended) → s < trace.shared_heaps → phase_of st.phases s ≡ Unmade →
        book_part trace (add_share p s (set_phase s (Populating (record { 0 = p })) st)) ≡ with_share p s (with_phase s (Populating (record { 0 = p })) (book_part trace st))
    unfolding set_phase
    shared_phase s known lives inside unmade =
        let su = set_phase s (Populating (record { 0 = p })) st in
        let new : IsFalse (has_share st.shares p s) = false_from_ne_true _ (λ t. false≢true (sym (sound.phases.unmade_shares s unmade) ∙ sharer_of st.shares p s t)) in
        let none = shared_bytes_told trace st s inside ∙ bytes_none (owner_of trace st) (shared s) st.objects (λ n there. sound.phases.unmade_objects s n unmade there) in
        let phased = set_phase_on_book trace st s (Populating (record { 0 = p })) (sym (ap is_absorbed unmade)) in
        add_share_on_book trace su limits p s known lives inside new
        ∙ ap (λ (b : BookPart). with_charge (limit_of trace p) (get_or b.shared_bytes s 0) (with_share p s b)) phased
        ∙ charge_none (limit_of trace p) (get_or (book_part trace st).shared_bytes s 0) (with_share p s (with_phase s (Populating (record { 0 = p })) (book_part trace st))) none

    attached_book : (s : ℕ) → p < process_count trace → IsFalse (among p st.ended) → s < trace.shared_heaps → book_part trace (add_share p s st) ≡ book_attached trace p s (book_part trace st)
    unfolding book_part
    attached_book s known lives inside =
        elim (cases_Bool (has_share st.shares p s)) [
          | inl t ↦ ap (book_part trace) (share_again st p s t) ∙ sym (ap (λ b. cond b (book_part trace st) (with_charge (limit_of trace p) (get_or (book_part trace st).shared_bytes s 0) (with_share p s (book_part trace st)))) t)
          | inr f ↦ add_share_on_book trace st limits p s known lives inside f
              ∙ sym (ap (λ b. cond b (book_part trace st) (with_charge (limit_of trace p) (get_or (book_part trace st).shared_bytes s 0) (with_share p s (book_part trace st)))) f)
        ]

    new_book : (seg : ℕ) (r : Reg) (ty : TypeId) (v : Option Name) (after : BookPart) → p < process_count trace → r.0 < register_count → book_part trace (create seg ty (kinds_of trace ty) st) ≡ after →
        book_part trace (set_register p r.0 v (create seg ty (kinds_of trace ty) st)) ≡ book_repinned trace (book_part trace st) (part trace st) p r.0 v after
    unfolding create
    new_book seg r ty v after known small made =
        repinned (create seg ty (kinds_of trace ty) st) p r.0 v (create_sized trace st seg ty (kinds_of trace ty) sound.shape.sized) known small refl refl
        ∙ ap (book_repinned trace (book_part trace st) (part trace st) p r.0 v) made

    set_book : (r : Reg) (v : Option Name) → p < process_count trace → r.0 < register_count → book_part trace (set_register p r.0 v st) ≡ book_repinned trace (book_part trace st) (part trace st) p r.0 v (book_part trace st)
    set_book r v known small = repinned st p r.0 v sound.shape.sized known small refl refl

    attach_book : (r : Reg) (s : ℕ) (v : Option Name) → p < process_count trace → IsFalse (among p st.ended) → r.0 < register_count → s < trace.shared_heaps →
        book_part trace (set_register p r.0 v (add_share p s st)) ≡ book_repinned trace (book_part trace st) (part trace st) p r.0 v (book_attached trace p s (book_part trace st))
    unfolding add_share
    attach_book r s v known lives small inside =
        repinned (add_share p s st) p r.0 v (share_sized trace st p s sound.shape.sized) known small refl refl
        ∙ ap (book_repinned trace (book_part trace st) (part trace st) p r.0 v) (attached_book s known lives inside)

    share_book : (s : SharedId) → Acts trace st p (Share s) → book_part trace (add_share p s.0 (set_phase s.0 (Populating (record { 0 = p })) st)) ≡ with_share p s.0 (with_phase s.0 (Populating (record { 0 = p })) (book_part trace st))
    unfolding faults in_range
    share_book s acts =
        let unmade = is_unmade_so (phase_of st.phases s.0) (not-false _ (none_on (not (is_unmade (phase_of st.phases s.0))) (Taken s) [] acts.fine).0) in
        shared_phase s.0 acts.known acts.lives (ltb-true _ _ acts.in_range) unmade

    freeze_book : (s : SharedId) (root : Reg) → Acts trace st p (Freeze s root) → book_part trace (after_freeze s.0 (register st.registers p root.0) st) ≡ book_frozen s.0 (register_in (part trace st) p root.0) (book_part trace st)
    unfolding faults
    freeze_book s root acts =
        frozen_book s.0 (register st.registers p root.0) (freezes trace st p s (register st.registers p root.0) acts.fine)
        ∙ ap (λ v. book_frozen s.0 v (book_part trace st)) (told trace st p root.0)

    snew_book : (r : Reg) (s : SharedId) (ty : TypeId) → Acts trace st p (SNew r s ty) →
        book_part trace (create (1 + process_count trace + s.0) ty (kinds_of trace ty) st) ≡ with_shared_bytes s.0 (size_of_type trace ty) (with_charge (limit_of trace p) (size_of_type trace ty) (book_part trace st))
    unfolding faults in_range
    snew_book r s ty acts =
        let inside = ltb-true _ _ (and_parts (nat_lt r.0 register_count) (nat_lt s.0 trace.shared_heaps) (and_parts (nat_lt r.0 register_count && nat_lt s.0 trace.shared_heaps) (nat_lt ty.0 (length trace.types)) acts.in_range).0).1 in
        new_in_shared_on_book trace st limits sound (record { 0 = p }) s.0 ty acts.known acts.lives inside (populating_phase (phase_of st.phases s.0) p (populates trace st p s _ acts.fine))

    exit_book : (p : ℕ) → MayExit trace st p → book_part trace (after_end_of trace p st) ≡ when_ended trace (owner_in trace (book_part trace st)) p (part trace st (user p)) (part trace st Kernel) (book_part trace st)
    exit_book p may =
        end_on_book trace limits st p sound may
        ∙ ap (λ own. when_ended trace own p (part trace st (user p)) (part trace st Kernel) (book_part trace st)) (sym (owner_told trace st))

    pub effect_book : (op : Op) → Acts trace st p op → book_part trace (effect trace p op st) ≡ book_operated trace (book_part trace st) (part trace st) p op (answer trace st p op)
    unfolding effect book_operated answer in_range
    effect_book (New r ty) acts = new_book (p + 1) r ty _ _ acts.known (small_register r _ acts.in_range) (new_on_book trace st limits sound p ty acts.known acts.lives)
    effect_book (KNew r ty) acts = new_book 0 r ty _ _ acts.known (small_register r _ acts.in_range) (new_in_kernel_on_book trace st ty)
    effect_book (SNew r s ty) acts =
        new_book (1 + process_count trace + s.0) r ty _ _ acts.known
        (small_register r _ (and_parts (nat_lt r.0 register_count && nat_lt s.0 trace.shared_heaps) _ acts.in_range).0) (snew_book r s ty acts)
    effect_book (Store base i value) acts =
        stored_book (register st.registers p base.0) i (register st.registers p value.0)
        ∙ ap₂ (λ x v. book_stored (owner_of trace st) x v (part trace st) (book_part trace st)) (told trace st p base.0) (told trace st p value.0)
        ∙ ap (λ own. book_stored own (register_in (part trace st) p base.0) (register_in (part trace st) p value.0) (part trace st) (book_part trace st)) (sym (owner_told trace st))
    effect_book (Load r base i) acts = set_book r _ acts.known (small_register r _ acts.in_range)
    effect_book (Move r from) acts =
        set_book r (register st.registers p from.0) acts.known (small_register r _ acts.in_range)
        ∙ ap (λ v. book_repinned trace (book_part trace st) (part trace st) p r.0 v (book_part trace st)) (told trace st p from.0)
    effect_book (Clear r) acts = set_book r None acts.known (ltb-true _ _ acts.in_range)
    effect_book (Dir r) acts = set_book r (Some directory) acts.known (ltb-true _ _ acts.in_range)
    effect_book (Put base i n) acts = put_book (register st.registers p base.0) i n
    effect_book (Get base i) acts = refl
    effect_book Collect acts = open_scan_on_book trace st (user p) (roots_of trace st (user p))
    effect_book KCollect acts = open_scan_on_book trace st Kernel (roots_of trace st Kernel)
    effect_book (Share s) acts = share_book s acts
    effect_book (Freeze s root) acts = freeze_book s root acts
    effect_book (Attach r s) acts =
        attach_book r s.0 _ acts.known acts.lives (small_register r _ acts.in_range) (ltb-true _ _ (and_parts (nat_lt r.0 register_count) (nat_lt s.0 trace.shared_heaps) acts.in_range).1)
    effect_book Exit acts = exit_book p (may_exit trace st p acts)
    effect_book (Kill q) acts =
        killed trace st p q (book_part trace) (when_ended trace (owner_in trace (book_part trace st)) q.0 (part trace st (User q)) (part trace st Kernel) (book_part trace st)) (kills trace st p q acts)
        (λ ends. exit_book q.0 (may_end_other trace st p q acts ends))
        ∙ ap (λ b. cond b (when_ended trace (owner_in trace (book_part trace st)) q.0 (part trace st (User q)) (part trace st Kernel) (book_part trace st)) (book_part trace st)) (ends_told trace st p q.0)
    effect_book (Resize m max) acts = set_max_on_book trace st m.0 max
