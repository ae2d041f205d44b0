-- What an operation that isn't refused leaves of a sound state is sound.
use Rattle.std.proofs.Common.{◌≡◌, ℕ, ◌+◌, ◌<◌, ◌&&◌, not, Bool, true, false, cond, refl, sym, ap, ◌∙◌, inl, inr, List, [], ◌∷◌, ◌++◌, Option, Some, None, length, get_or, arith, eqb-true, IsTrue, IsFalse, subst, zero, suc, nat_lt, nat_le, ltb-true, ltb-false}
use Rattle.std.specs.List.{list_all, list_any}
use Rattle.std.proofs.lemmas.Bool.{cases_Bool, false≢true, and_parts, not-true, not-false, or_left, or_right}
use Rattle.k_types.specs.declared.names.Name.{Name}
use Rattle.k_types.specs.declared.names.Pid.{Pid}
use Rattle.k_types.specs.declared.names.Reg.{Reg}
use Rattle.k_types.specs.declared.names.SharedId.{SharedId}
use Rattle.k_types.specs.declared.names.LimitId.{LimitId}
use Rattle.k_types.specs.declared.names.TypeId.{TypeId}
use Rattle.k_types.specs.declared.names.Heap.{Heap}
use Rattle.k_types.specs.declared.names.Heap.TheVariants.{Kernel, User, Shared}
use Rattle.k_types.specs.declared.names.Phase.{Phase}
use Rattle.k_types.specs.declared.names.Phase.TheVariants.{Unmade, Populating, Frozen, Absorbed}
use Rattle.k_types.specs.declared.op.Op.{Op}
use Rattle.k_types.specs.declared.op.Op.TheVariants.{New, KNew, SNew, Store, Load, Move, Clear, Dir, Put, Get, Collect, KCollect, Share, Freeze, Attach, Exit, Kill, Resize}
use Rattle.k_types.specs.declared.event.Fault.TheVariants.{Foreign, NoField, WrongKind, Segv, NotPopulating, NotFrozen, Taken, ProcNotBelow, LimitNotBelow, InUse}
use Rattle.k_types.specs.declared.names.Field.TheVariants.{Int}
use Rattle.k_types.specs.TraceRules.{AreLimits}
use Rattle.k_types.specs.Bounds.{maximum_below}
use Rattle.k_types.specs.Trace.{Trace, process_count, size_of_type, limit_of}
use Rattle.k_types.specs.Names.{heap_eq, among, leads_to, directory}
use Rattle.k_types.specs.State.{State, Content, Refers, Holds, Object, has, has_share, scan_of, is_scanned, register, in_registers, refers, refers_in, object_at, fields_of, field_kind, content_leads_to}
use Rattle.k_types.specs.Owners.{owner_of, user, shared, bytes_of, charge_by, phase_of, is_absorbed}
use Rattle.k_types.specs.Limits.{full_limit, full_for, is_above, use_of}
use Rattle.k_types.specs.Reach.{is_entered, is_held, roots_of}
use Rattle.k_types.specs.Updates.{open_scan, set_register, add_share, set_phase}
use Rattle.k_types.specs.Replies.{first_fault, faults, size_fault, limit_fault, fault_where, at_base, store_faults, load_faults, access_faults, is_foreign, is_populating, is_unmade, is_frozen, root_of, reference, reference_from, field_at, field_count, is_ref, sharer_fault, number_faults, may_resize}
use Rattle.k_types.specs.Effects.{effect, after_new, after_end_of, after_kill, after_store, after_put, after_freeze}
use Rattle.k_types.specs.Cells.{base_cell, access_cell, other_cells}
use Rattle.k_types.specs.Steps.{in_range}
use Rattle.k_types.specs.Sound.{IsSound}
use Rattle.k_types.proofs.NameTests.{name_eq-true, heap_eq-true}
use Rattle.k_laws.proofs.FrameSteps.{none_first, none_on}
use Rattle.k_laws.proofs.OwnerOf.{owner_kernel}
use Rattle.k_laws.proofs.Raised.{raised_fits, charge_sharing}
use Rattle.k_laws.proofs.Safe.{exit_enters}
use Rattle.k_laws.proofs.Shielded.{IsShielded}
use Rattle.k_laws.proofs.SoundNew.{after_new_sound, may_new, may_new_in_kernel, may_new_in_shared}
use Rattle.k_laws.proofs.SoundRegister.{set_register_sound}
use Rattle.k_laws.proofs.SoundStore.{stored_sound, passes, register_holds, held_shielded}
use Rattle.k_laws.proofs.SoundWrite.{write_sound}
use Rattle.k_laws.proofs.SoundScan.{open_scan_sound}
use Rattle.k_laws.proofs.SoundShare.{freeze_sound}
use Rattle.k_laws.proofs.SoundSharing.{sharing_sound, sharing}
use Rattle.k_laws.proofs.SoundPopulating.{populating_sound, no_share}
use Rattle.k_laws.proofs.SoundExited.{exited_sound}
use Rattle.k_laws.proofs.SoundResized.{resized_sound, has_parent}
use Rattle.k_laws.specs.Changes.{MayResize}
use Rattle.k_types.proofs.Lists.{none_is}

none_limit : (o : Option ℕ) → limit_fault o ≡ None → o ≡ None
none_limit None e = refl
none_limit (Some q) e = absurd (cc e)

pub is_populating_by : (phase : Phase) (p : ℕ) → IsTrue (is_populating phase p) → (q : Pid) × (phase ≡ Populating q) × (q.0 ≡ p)
is_populating_by Unmade p t = absurd (false≢true t)
is_populating_by (Populating q) p t = (q, refl, eqb-true q.0 p t)
is_populating_by (Frozen root) p t = absurd (false≢true t)
is_populating_by Absorbed p t = absurd (false≢true t)

pub is_unmade_so : (phase : Phase) → IsTrue (is_unmade phase) → phase ≡ Unmade
is_unmade_so Unmade t = refl
is_unmade_so (Populating q) t = absurd (false≢true t)
is_unmade_so (Frozen root) t = absurd (false≢true t)
is_unmade_so Absorbed t = absurd (false≢true t)

pub is_frozen_so : (phase : Phase) → IsTrue (is_frozen phase) → (root : Name) × (phase ≡ Frozen root)
is_frozen_so Unmade t = absurd (false≢true t)
is_frozen_so (Populating q) t = absurd (false≢true t)
is_frozen_so (Frozen root) t = (root, refl)
is_frozen_so Absorbed t = absurd (false≢true t)

abbrev process_number : Heap → ℕ
process_number Kernel = 0
process_number (User p) = p.0
process_number (Shared s) = s.0

-- a reference that a field of the object holds
leads_from : (content : List Content) (i : ℕ) (y : Name) → IsTrue (leads_to (reference (get_or content i (Holds 0))) y) → IsTrue (list_any (content_leads_to y) content)
leads_from [] i y t = absurd (false≢true t)
leads_from (Refers r ∷ content) zero y t = or_left _ _ t
leads_from (Holds n ∷ content) zero y t = absurd (false≢true t)
leads_from (c ∷ content) (suc i) y t = or_right (content_leads_to y c) _ (leads_from content i y t)

-- an object that is found refers by that name
found_refers : (objects : List Object) (x y : Name) (o : Object) → object_at objects x ≡ Some o → IsTrue (refers o y) → IsTrue (refers_in objects x y)
found_refers [] x y o e t = absurd (cc e)
found_refers (z ∷ objects) x y o e t = grind (arith, found_refers objects x y o)

field_refers : (st : State) (x y : Name) (i : ℕ) → IsTrue (leads_to (reference (field_at st x i)) y) → IsTrue (refers_in st.objects x y)
field_refers st x y i t = go (object_at st.objects x) refl t
  where
    go : (o : Option Object) → object_at st.objects x ≡ o → IsTrue (leads_to (reference (get_or (fields_of o) i (Holds 0))) y) → IsTrue (refers_in st.objects x y)
    go None e t = absurd (false≢true t)
    go (Some o) e t = found_refers st.objects x y o e (leads_from o.fields i y t)

leads_is : (v : Option Name) (n : Name) → IsTrue (leads_to v n) → v ≡ Some n
leads_is None n t = absurd (false≢true t)
leads_is (Some m) n t = ap (λ k. Some k) (name_eq-true m n t)

-- the process that acts, where nothing stands against the operation
pub record Acts (trace : Trace) (st : State) (p : ℕ) (op : Op) : Type 0 where
  pub known : p < process_count trace
  pub lives : IsFalse (among p st.ended)
  pub in_range : IsTrue (in_range trace op)
  pub idle : scan_of st.scans (user p) ≡ None
  pub others : IsTrue (list_all (λ c. not (is_scanned st.scans c)) (other_cells trace st p op))
  pub fine : first_fault (faults trace st p op) ≡ None

module _ (trace : Trace) (rules_hold : AreLimits trace) (st : State) (pid : Pid) (sound : IsSound trace st) where
  abbrev pub p : ℕ
  p = pid.0

  first_idle : (c : Heap) (rest : List Heap) → IsTrue (list_all (λ c. not (is_scanned st.scans c)) (c ∷ rest)) → scan_of st.scans c ≡ None
  first_idle c rest t = none_is _ (not-true _ (and_parts (not (is_scanned st.scans c)) (list_all (λ c. not (is_scanned st.scans c)) rest) t).0)

  -- a register that another register's name is given
  held_sound : (op : Op) (r : ℕ) (v : Option Name) → Acts trace st p op → ((n : Name) → v ≡ Some n → IsTrue (in_registers st.registers p n)) → IsSound trace (set_register p r v st)
  held_sound op r v acts held = set_register_sound trace st p r v sound acts.known acts.lives (record {
    there = λ n t. sound.no_dangling.registers p n (held n (leads_is v n t));
    shielded = λ n t. held_shielded trace st p n sound acts.idle (held n (leads_is v n t));
  })

  directory_sound : (op : Op) (r : ℕ) → Acts trace st p op → IsSound trace (set_register p r (Some directory) st)
  unfolding is_held
  directory_sound op r acts = set_register_sound trace st p r (Some directory) sound acts.known acts.lives (record {
    there = λ n t. subst (λ m. IsTrue (has st.objects m)) (name_eq-true directory n t) sound.no_dangling.directory;
    shielded = λ n t roots opened.
        let is = name_eq-true directory n t in
        let own : owner_of trace st n.seg.0 ≡ Kernel = ap (λ m. owner_of trace st m.seg.0) (sym is) ∙ owner_kernel trace st in
        sound.scans.recorded Kernel roots n (ap (scan_of st.scans) (sym own) ∙ opened) (subst (λ m. IsTrue (has st.objects m)) is sound.no_dangling.directory) own (or_right (is_entered trace st n) _ t);
  })

  -- what a field refers to is shielded where the field's object lies in a heap that isn't scanned
  field_shielded : (x y : Name) → scan_of st.scans (owner_of trace st x.seg.0) ≡ None → IsTrue (refers_in st.objects x y) → IsShielded trace st y
  unfolding is_entered
  field_shielded x y idle refers roots opened =
      elim (cases_Bool (heap_eq (owner_of trace st x.seg.0) (owner_of trace st y.seg.0))) [
        | inl same ↦ let none : scan_of st.scans (owner_of trace st y.seg.0) ≡ None = ap (scan_of st.scans) (sym (heap_eq-true (owner_of trace st x.seg.0) (owner_of trace st y.seg.0) same)) ∙ idle in absurd (cc (none, opened))
        | inr apart ↦
            sound.scans.recorded (owner_of trace st y.seg.0) roots y opened (sound.no_dangling.fields x y refers) refl
            (or_left _ _ (or_left _ _ (exit_enters (owner_of trace st) st.exits (owner_of trace st x.seg.0) y apart (sound.guarded.listed x y refers apart))))
      ]

  -- the heap of an object that is accessed isn't scanned
  base_idle : (h : Heap) → scan_of st.scans (user p) ≡ None → IsFalse (is_foreign h p) → IsTrue (list_all (λ c. not (is_scanned st.scans c)) (base_cell st p h)) → scan_of st.scans h ≡ None
  base_idle Kernel idle own others = first_idle Kernel [] others
  base_idle (User q) idle own others = ap (λ k. scan_of st.scans (user k)) (eqb-true q.0 p (not-false _ own)) ∙ idle
  base_idle (Shared s) idle own others = sound.scans.none_shared s.0

  loaded_sound : (r base : Reg) (i : ℕ) → Acts trace st p (Load r base i) → IsSound trace (set_register p r.0 (reference_from st (register st.registers p base.0) i) st)
  unfolding faults other_cells access_faults first_fault
  loaded_sound r base i acts = go (register st.registers p base.0) refl acts.fine acts.others
    where
      go : (b : Option Name) → register st.registers p base.0 ≡ b → first_fault (at_base b (load_faults trace st p i)) ≡ None → IsTrue (list_all (λ c. not (is_scanned st.scans c)) (access_cell trace st p b)) →
          IsSound trace (set_register p r.0 (reference_from st b i) st)
      go None at e others = absurd (cc e)
      go (Some x) at e others =
          let own = (none_on (is_foreign (owner_of trace st x.seg.0) p) Foreign _ e).0 in
          let idle = base_idle (owner_of trace st x.seg.0) acts.idle own others in
          set_register_sound trace st p r.0 (reference (field_at st x i)) sound acts.known acts.lives (record {
            there = λ y t. sound.no_dangling.fields x y (field_refers st x y i t);
            shielded = λ y t. field_shielded x y idle (field_refers st x y i t);
          })

  written_sound : (base : Reg) (i number : ℕ) → Acts trace st p (Put base i number) → IsSound trace (after_put (register st.registers p base.0) i number st)
  unfolding faults after_put access_faults
  written_sound base i number acts = go (register st.registers p base.0) acts.fine
    where
      int_kind : (c : Content) → IsFalse (is_ref c) → Int ≡ field_kind c
      int_kind (Refers r) t = absurd (false≢true (sym t))
      int_kind (Holds n) t = refl

      go : (b : Option Name) → first_fault (at_base b (number_faults trace st p i)) ≡ None → IsSound trace (after_put b i number st)
      go None e = sound
      go (Some x) e =
          let foreign = none_on (is_foreign (owner_of trace st x.seg.0) p) Foreign _ e in
          let sharer = none_first (sharer_fault st (owner_of trace st x.seg.0) p) _ foreign.1 in
          let field = none_on (nat_le (field_count st x) i) NoField _ sharer.1 in
          let kind = none_on (is_ref (field_at st x i)) WrongKind [] field.1 in
          write_sound trace st x i (Holds number) sound (record {
            kind = int_kind (field_at st x i) kind.0;
            there = λ y t. absurd (false≢true t);
            allowed = λ y t. absurd (false≢true t);
            listed = λ y t. absurd (false≢true t);
          })

  stored_effect : (base value : Reg) (i : ℕ) → Acts trace st p (Store base i value) → IsSound trace (after_store trace (register st.registers p base.0) i (register st.registers p value.0) st)
  unfolding faults after_store
  stored_effect base value i acts = go (register st.registers p base.0) refl acts.fine
    where
      go : (b : Option Name) → register st.registers p base.0 ≡ b → first_fault (at_base b (store_faults trace st p i (register st.registers p value.0))) ≡ None → IsSound trace (after_store trace b i (register st.registers p value.0) st)
      go None at e = sound
      go (Some x) at e =
          stored_sound trace st p x i (register st.registers p value.0) sound acts.lives acts.idle
          (register_holds st.registers p base.0 x at)
          (λ y held. register_holds st.registers p value.0 y held) (passes trace st p x i (register st.registers p value.0) e)

  collect_sound : Acts trace st p Collect → IsSound trace (open_scan (user p) (roots_of trace st (user p)) st)
  collect_sound acts = open_scan_sound trace st (user p) sound (record {
    known = acts.known;
    idle = acts.idle;
    lives = λ q e. ap (λ k. among k st.ended) (sym (user_is p q e)) ∙ acts.lives;
    not_shared = λ s e. absurd (cc e);
  })
    where
      user_is : (p q : ℕ) → user p ≡ user q → p ≡ q
      user_is p q e = ap process_number e

  pub kernel_scan_sound : scan_of st.scans Kernel ≡ None → IsSound trace (open_scan Kernel (roots_of trace st Kernel) st)
  kernel_scan_sound idle = open_scan_sound trace st Kernel sound (record {
    known = tt;
    idle = idle;
    lives = λ q e. absurd (cc e);
    not_shared = λ s e. absurd (cc e);
  })

  share_sound : (s : SharedId) → Acts trace st p (Share s) → IsSound trace (add_share p s.0 (set_phase s.0 (Populating (record { 0 = p })) st))
  unfolding faults add_share set_phase in_range
  share_sound s acts =
      let unmade = is_unmade_so (phase_of st.phases s.0) (not-false _ (none_on (not (is_unmade (phase_of st.phases s.0))) (Taken s) [] acts.fine).0) in
      let absent = no_share trace st pid s.0 sound acts.known acts.lives (ltb-true _ _ acts.in_range) unmade p in
      subst (λ b. IsSound trace (record (set_phase s.0 (Populating (record { 0 = p })) st) { shares = cond b st.shares (st.shares ++ record { process = p; heap = s.0 } ∷ []) })) (sym absent)
      (populating_sound trace st pid s.0 sound acts.known acts.lives (ltb-true _ _ acts.in_range) unmade)

  frozen_sound : (s : SharedId) (root : Reg) → Acts trace st p (Freeze s root) → IsSound trace (after_freeze s.0 (register st.registers p root.0) st)
  unfolding faults after_freeze
  frozen_sound s root acts = go (register st.registers p root.0) refl acts.fine
    where
      go : (b : Option Name) → register st.registers p root.0 ≡ b →
          first_fault (at_base b (λ x. fault_where (not (heap_eq (owner_of trace st x.seg.0) (Shared s))) Segv ∷ fault_where (not (is_populating (phase_of st.phases s.0) p)) (NotPopulating s) ∷ [])) ≡ None →
          IsSound trace (after_freeze s.0 b st)
      go None at e = sound
      go (Some x) at e =
          let inside = none_on (not (heap_eq (owner_of trace st x.seg.0) (Shared s))) Segv _ e in
          let populates = none_on (not (is_populating (phase_of st.phases s.0) p)) (NotPopulating s) [] inside.1 in
          let phase = is_populating_by (phase_of st.phases s.0) p (not-false _ populates.0) in
          freeze_sound trace st s.0 x sound (record {
            there = sound.no_dangling.registers p x (register_holds st.registers p root.0 x at);
            inside = heap_eq-true (owner_of trace st x.seg.0) (Shared s) (not-false _ inside.0);
            stands = ap is_absorbed phase.1;
          })

  -- a frozen heap's root is given to a register
  root_sound : (su : State) (r s : ℕ) (root : Name) → IsSound trace su → p < process_count trace → IsFalse (among p su.ended) → phase_of su.phases s ≡ Frozen root → IsSound trace (set_register p r (Some root) su)
  root_sound su r s root sound' known lives phase = set_register_sound trace su p r (Some root) sound' known lives (record {
    there = λ n t. subst (λ m. IsTrue (has su.objects m)) (name_eq-true root n t) (sound'.no_dangling.frozen s root phase);
    shielded = λ n t roots opened.
        let own : owner_of trace su n.seg.0 ≡ shared s = ap (λ m. owner_of trace su m.seg.0) (sym (name_eq-true root n t)) ∙ sound'.phases.frozen s root phase in
        let none : scan_of su.scans (owner_of trace su n.seg.0) ≡ None = ap (scan_of su.scans) own ∙ sound'.scans.none_shared s in
        absurd (cc (none, opened));
  })

  attach_sound : (r : Reg) (s : SharedId) → Acts trace st p (Attach r s) → IsSound trace (set_register p r.0 (root_of (phase_of st.phases s.0)) (add_share p s.0 st))
  unfolding faults add_share in_range size_fault
  attach_sound r s acts =
      let frozen = none_on (not (is_frozen (phase_of st.phases s.0))) (NotFrozen s) _ acts.fine in
      let root = is_frozen_so (phase_of st.phases s.0) (not-false _ frozen.0) in
      rw (root.1) (go (has_share st.shares p s.0) refl root.0 root.1 (none_first _ [] frozen.1).0)
    where
      go : (b : Bool) → has_share st.shares p s.0 ≡ b → (root : Name) → phase_of st.phases s.0 ≡ Frozen root → cond b None (limit_fault (full_limit trace st (limit_of trace p) (bytes_of trace st (Shared s)))) ≡ None →
          IsSound trace (set_register p r.0 (Some root) (record st { shares = cond b st.shares (st.shares ++ record { process = p; heap = s.0 } ∷ []) }))
      go true there root phase fits = root_sound st r.0 s.0 root sound acts.known acts.lives phase
      go false new root phase fits = root_sound (sharing st p s.0) r.0 s.0 root (sharing_sound trace st p s.0 sound (record {
        known = acts.known;
        heap = ltb-true _ _ (and_parts (nat_lt r.0 16) (nat_lt s.0 trace.shared_heaps) acts.in_range).1;
        lives = acts.lives;
        stands = λ e. cc (phase, e);
        made = λ e. cc (phase, e);
        populates = λ q e. absurd (cc (phase, e));
        new = new;
        fits = raised_fits trace rules_hold st p (bytes_of trace st (shared s.0)) (charge_by (bytes_of trace st) st.ended (st.shares ++ record { process = p; heap = s.0 } ∷ [])) acts.known (none_limit _ fits) sound.uses
            (charge_sharing (bytes_of trace st) st.ended st.shares p s.0 acts.lives);
      })) acts.known acts.lives phase

  snew_sound : (r : Reg) (s : SharedId) (ty : TypeId) → Acts trace st p (SNew r s ty) → IsSound trace (after_new trace p r.0 (1 + process_count trace + s.0) ty st)
  unfolding faults in_range size_fault
  snew_sound r s ty acts =
      let populates = none_on (not (is_populating (phase_of st.phases s.0) p)) (NotPopulating s) _ acts.fine in
      let phase = is_populating_by (phase_of st.phases s.0) p (not-false _ populates.0) in
      let fits = none_limit (full_limit trace st (limit_of trace p) (size_of_type trace ty)) (none_first _ [] populates.1).0 in
      let declared = ltb-true _ _ (and_parts (nat_lt r.0 16 && nat_lt s.0 trace.shared_heaps) (nat_lt ty.0 (length trace.types)) acts.in_range).1 in
      let inside = ltb-true _ _ (and_parts (nat_lt r.0 16) (nat_lt s.0 trace.shared_heaps) (and_parts (nat_lt r.0 16 && nat_lt s.0 trace.shared_heaps) (nat_lt ty.0 (length trace.types)) acts.in_range).0).1 in
      after_new_sound trace st p r.0 (1 + process_count trace + s.0) ty sound acts.known acts.lives
      (may_new_in_shared trace st p ty sound acts.known acts.lives declared rules_hold s.0 phase.0 inside phase.1 phase.2 fits)

  new_sound : (r : Reg) (ty : TypeId) → Acts trace st p (New r ty) → IsSound trace (after_new trace p r.0 (p + 1) ty st)
  unfolding faults size_fault in_range
  new_sound r ty acts =
      after_new_sound trace st p r.0 (p + 1) ty sound acts.known acts.lives
      (may_new trace st p ty sound acts.known acts.lives (ltb-true _ _ (and_parts (nat_lt r.0 16) (nat_lt ty.0 (length trace.types)) acts.in_range).1) rules_hold acts.idle (none_limit (full_limit trace st (limit_of trace p) (size_of_type trace ty)) (none_first _ [] acts.fine).0))

  knew_sound : (r : Reg) (ty : TypeId) → Acts trace st p (KNew r ty) → IsSound trace (after_new trace p r.0 0 ty st)
  unfolding other_cells in_range
  knew_sound r ty acts =
      after_new_sound trace st p r.0 0 ty sound acts.known acts.lives
      (may_new_in_kernel trace st p ty sound acts.known acts.lives (ltb-true _ _ (and_parts (nat_lt r.0 16) (nat_lt ty.0 (length trace.types)) acts.in_range).1) (first_idle Kernel [] acts.others))

  exit_sound : Acts trace st p Exit → IsSound trace (after_end_of trace p st)
  unfolding other_cells
  exit_sound acts = exited_sound trace st p sound (record { known = acts.known; lives = acts.lives; idle = acts.idle; kernel_idle = first_idle Kernel [] acts.others })

  -- whoever ends, nothing of its heap or of the kernel's is scanned where an event that ends it is possible
  kill_sound : (q : Pid) → Acts trace st p (Kill q) → IsSound trace (after_kill trace q.0 st)
  unfolding faults other_cells in_range after_kill
  kill_sound q acts = go (among q.0 st.ended) refl (subst (λ b. IsTrue (list_all (λ c. not (is_scanned st.scans c)) (cond (b && not (among q.0 st.ended)) (User q ∷ Kernel ∷ []) []))) above acts.others)
    where
      above : is_above trace p q.0 ≡ true
      above = not-false _ (none_on (not (is_above trace p q.0)) (ProcNotBelow q) [] acts.fine).0

      go : (b : Bool) → among q.0 st.ended ≡ b → IsTrue (list_all (λ c. not (is_scanned st.scans c)) (cond (not b) (User q ∷ Kernel ∷ []) [])) → IsSound trace (cond b st (after_end_of trace q.0 st))
      go true e idle = sound
      go false lives idle = exited_sound trace st q.0 sound (record {
        known = ltb-true _ _ acts.in_range;
        lives = lives;
        idle = first_idle (User q) (Kernel ∷ []) idle;
        kernel_idle = first_idle Kernel [] (and_parts (not (is_scanned st.scans (User q))) _ idle).1;
      })

  pub may_resize_of : (m : LimitId) (max : ℕ) → Acts trace st p (Resize m max) → MayResize trace st m.0 max
  unfolding faults in_range
  may_resize_of m max acts =
      let rest = none_first _ _ acts.fine in
      let may : may_resize trace p m.0 ≡ true = not-false _ (none_on (not (may_resize trace p m.0)) (LimitNotBelow m) _ rest.1).0 in
      let fits = (none_on (may_resize trace p m.0 && nat_lt max (use_of trace st m.0)) (InUse m) [] (none_on (not (may_resize trace p m.0)) (LimitNotBelow m) _ rest.1).1).0 in
      let parent = has_parent trace.limits (length trace.limits) m.0 (limit_of trace p) may in
      record {
        known = ltb-true _ _ (and_parts (nat_lt m.0 (length trace.limits)) (nat_lt max maximum_below) acts.in_range).0;
        parent = parent.0;
        below = parent.1;
        used = ltb-false _ _ (sym (ap (λ b. b && nat_lt max (use_of trace st m.0)) may) ∙ fits);
        fits = none_limit (full_for trace st m.0 max) (sym (ap (λ b. cond b (limit_fault (full_for trace st m.0 max)) None) may) ∙ rest.0);
      }

  kcollect_sound : Acts trace st p KCollect → IsSound trace (open_scan Kernel (roots_of trace st Kernel) st)
  unfolding other_cells
  kcollect_sound acts = kernel_scan_sound (first_idle Kernel [] acts.others)

  pub effect_sound : (op : Op) → Acts trace st p op → IsSound trace (effect trace p op st)
  unfolding effect
  effect_sound (New r ty) acts = new_sound r ty acts
  effect_sound (KNew r ty) acts = knew_sound r ty acts
  effect_sound (SNew r s ty) acts = snew_sound r s ty acts
  effect_sound (Store base i value) acts = stored_effect base value i acts
  effect_sound (Load r base i) acts = loaded_sound r base i acts
  effect_sound (Move r from) acts = held_sound (Move r from) r.0 (register st.registers p from.0) acts (λ n e. register_holds st.registers p from.0 n e)
  effect_sound (Clear r) acts = held_sound (Clear r) r.0 None acts (λ n e. absurd (cc e))
  effect_sound (Dir r) acts = directory_sound (Dir r) r.0 acts
  effect_sound (Put base i number) acts = written_sound base i number acts
  effect_sound (Get base i) acts = sound
  effect_sound Collect acts = collect_sound acts
  effect_sound KCollect acts = kcollect_sound acts
  effect_sound (Share s) acts = share_sound s acts
  effect_sound (Freeze s root) acts = frozen_sound s root acts
  effect_sound (Attach r s) acts = attach_sound r s acts
  effect_sound Exit acts = exit_sound acts
  effect_sound (Kill q) acts = kill_sound q acts
  effect_sound (Resize m max) acts = resized_sound trace rules_hold st m.0 max sound (may_resize_of m max acts)
