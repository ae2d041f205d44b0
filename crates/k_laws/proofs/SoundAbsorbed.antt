-- A sound state stays sound where a shared heap is absorbed.
use Rattle.std.proofs.Common.{◌≡◌, ℕ, ◌<◌, ◌≤◌, ◌⊎◌, ◌==◌, ◌&&◌, ◌||◌, not, Bool, true, false, cond, refl, sym, ap, ◌∙◌, inl, inr, List, [], ◌∷◌, length, filter, Some, None, arith, set, get_or-set_other, get_or-set_same, length-set, IsTrue, IsFalse, nat_le, ◌-◌, zero-le, eq-eqb, ne_eqb, le_trans}
use Rattle.std.specs.List.{list_any}
use Rattle.std.proofs.lemmas.Bool.{and_parts, and_from, or_left, or_right, or_cases, or_from, and_left, not_from_true, false≢true, cases_Bool, not_from_false, false_from_ne_true, cases_eq}
use Rattle.k_types.specs.declared.names.Name.{Name}
use Rattle.k_types.specs.declared.names.Heap.{Heap}
use Rattle.k_types.specs.declared.names.Heap.TheVariants.{Kernel, User, Shared}
use Rattle.k_types.specs.declared.names.Phase.TheVariants.{Unmade, Absorbed}
use Rattle.k_types.specs.Names.{name_eq, heap_eq, among}
use Rattle.k_types.specs.Trace.{Trace, process_count}
use Rattle.k_types.specs.State.{State, Object, ExitItem, in_registers, has_exit, scan_of}
use Rattle.k_types.specs.Owners.{owner_of, user, shared, bytes_by, bytes_of, object_bytes, phase_of, is_absorbed, owner_of_segment, owner_of_process, owner_of_shared, charge_of, objects_of}
use Rattle.k_types.specs.Numbers.{numbers_below}
use Rattle.k_types.specs.Limits.{limits_in, use_of}
use Rattle.k_types.specs.Reach.{is_root, is_entered, is_held, is_pinned, has_entry}
use Rattle.k_types.specs.Sound.{IsSound, IsLegalStore}
use Rattle.k_types.proofs.NameTests.{heap_eq-true, heap_eq-same, heap_eq_refl, heap_eq-false}
use Rattle.k_types.specs.Totals.{total}
use Rattle.k_types.specs.Updates.{set_phase, keep_exits}
use Rattle.k_types.specs.Effects.{after_absorbed, stays_after_absorb, lies_in}
use Rattle.k_laws.proofs.Shapes.{declared-phase}
use Rattle.k_laws.specs.Changes.{MayAbsorb}
use Rattle.k_types.specs.Steps.{has_sharer}
use Rattle.k_laws.proofs.Merge.{merged, AreMerged, guarded_merged, exits_merged}
use Rattle.k_laws.proofs.Kept.{has_exit-kept, any-fewer, distinct_exits-kept}
use Rattle.k_laws.proofs.Uses.{charged_less, use_by_less}

-- a shared heap refers only to itself and to the kernel
pub shared_to : (s : ℕ) (k : Heap) → IsLegalStore (shared s) k → IsFalse (heap_eq (shared s) k) → k ≡ Kernel
shared_to s Kernel t apart = refl
shared_to s (User p) t apart = absurd (false≢true t)
shared_to s (Shared q) t apart = absurd (false≢true (sym apart ∙ t))

-- fewer objects have fewer bytes
pub bytes_fewer : (own own' : ℕ → Heap) (h : Heap) → ((seg : ℕ) → IsTrue (heap_eq (own' seg) h) → IsTrue (heap_eq (own seg) h)) → (xs : List Object) → bytes_by own' h xs ≤ bytes_by own h xs
unfolding bytes_by
bytes_fewer own own' h less [] = zero-le
bytes_fewer own own' h less (x ∷ xs) =
    let rest = bytes_fewer own own' h less xs in
    fewer_step (heap_eq (own' x.name.seg.0) h) (heap_eq (own x.name.seg.0) h) (less x.name.seg.0) rest
  where
    fewer_step : (a b : Bool) → (IsTrue a → IsTrue b) → total object_bytes (objects_of own' h xs) ≤ total object_bytes (objects_of own h xs) →
        total object_bytes (cond a (x ∷ objects_of own' h xs) (objects_of own' h xs)) ≤ total object_bytes (cond b (x ∷ objects_of own h xs) (objects_of own h xs))
    fewer_step true true l rest = omega arith
    fewer_step true false l rest = absurd (false≢true (l refl))
    fewer_step false true l rest = omega arith
    fewer_step false false l rest = rest

pub merged_fewer : (g h k : Heap) → IsFalse (heap_eq Kernel h) → IsTrue (heap_eq (merged g k) h) → IsTrue (heap_eq k h)
merged_fewer g h k kernel = elim (heap_eq k g) as (λ b. IsTrue (heap_eq (cond b Kernel k) h) → IsTrue (heap_eq k h)) [ true ↦ λ t. absurd (false≢true (sym kernel ∙ t)) | false ↦ λ t. t ]

-- what the shared heap's exit items lead to is the kernel's
pub to_kernel : (trace : Trace) (st : State) (s : ℕ) → IsSound trace st → (n : Name) → IsTrue (has_exit st.exits (shared s) n) → owner_of trace st n.seg.0 ≡ Kernel
to_kernel trace st s sound n e = shared_to s (owner_of trace st n.seg.0) (sound.exits.allowed (shared s) n e) (sound.exits.leave (shared s) n e)

module _ (trace : Trace) (st : State) (s : ℕ) (sound : IsSound trace st) (may : MayAbsorb trace st s) where
  abbrev pub after : State
  after = after_absorbed trace s st

  inside : s < length st.phases
  inside = rw sound.shape.sized.phases may.known

  shared_merged : (q : ℕ) → owner_of_shared (set st.phases s Absorbed) q ≡ merged (shared s) (owner_of_shared st.phases q)
  shared_merged q =
      elim (cases_eq q s) [
        | inl e ↦ ap (λ f. cond (is_absorbed f) Kernel (shared q)) (ap (λ k. phase_of (set st.phases s Absorbed) k) e ∙ get_or-set_same st.phases s Absorbed Unmade inside)
            ∙ sym (elim (is_absorbed (phase_of st.phases q)) as (λ b. merged (shared s) (cond b Kernel (shared q)) ≡ Kernel) [ true ↦ refl | false ↦ rw (eq-eqb q s e) refl ])
        | inr ne ↦ ap (λ f. cond (is_absorbed f) Kernel (shared q)) (get_or-set_other st.phases s q Absorbed Unmade ne)
            ∙ sym (elim (is_absorbed (phase_of st.phases q)) as (λ b. merged (shared s) (cond b Kernel (shared q)) ≡ cond b Kernel (shared q)) [ true ↦ refl | false ↦ rw (ne_eqb q s ne) refl ])
      ]

  process_merged : (p : ℕ) → owner_of_process st.ended p ≡ merged (shared s) (owner_of_process st.ended p)
  process_merged p = elim (among p st.ended) as (λ b. cond b Kernel (user p) ≡ merged (shared s) (cond b Kernel (user p))) [ true ↦ refl | false ↦ refl ]

  pub is_merged : (seg : ℕ) → owner_of trace after seg ≡ merged (shared s) (owner_of trace st seg)
  unfolding after after_absorbed set_phase keep_exits owner_of_segment
  is_merged seg =
      elim (seg == 0) as (λ a. cond a Kernel (cond (nat_le seg (process_count trace)) (owner_of_process st.ended (seg - 1)) (owner_of_shared (set st.phases s Absorbed) (seg - 1 - process_count trace)))
      ≡ merged (shared s) (cond a Kernel (cond (nat_le seg (process_count trace)) (owner_of_process st.ended (seg - 1)) (owner_of_shared st.phases (seg - 1 - process_count trace))))) [
        | true ↦ refl
        | false ↦ elim (nat_le seg (process_count trace)) as (λ b. cond b (owner_of_process st.ended (seg - 1)) (owner_of_shared (set st.phases s Absorbed) (seg - 1 - process_count trace))
            ≡ merged (shared s) (cond b (owner_of_process st.ended (seg - 1)) (owner_of_shared st.phases (seg - 1 - process_count trace)))) [
              | true ↦ process_merged (seg - 1)
              | false ↦ shared_merged (seg - 1 - process_count trace)
            ]
      ]

  exits' : List ExitItem
  exits' = filter (stays_after_absorb trace st s) st.exits

  exit_parts : (h : Heap) (n : Name) → IsTrue (has_exit exits' h n) → IsTrue (has_exit st.exits h n) × IsTrue (stays_after_absorb trace st s (record { heap = h; target = n }))
  unfolding exits'
  exit_parts h n e = and_parts (has_exit st.exits h n) (stays_after_absorb trace st s (record { heap = h; target = n })) (sym (has_exit-kept (stays_after_absorb trace st s) st.exits h n) ∙ e)

  merge : AreMerged (owner_of trace after) (shared s) st.exits exits'
  unfolding exits'
  merge = record {
    stay = λ h n apart e leaves. has_exit-kept (stays_after_absorb trace st s) st.exits h n ∙ and_from _ _ e (stays_if h n apart leaves);
    turn = λ n e apart. absurd (false≢true (sym apart ∙ heap_eq-same Kernel (owner_of trace after n.seg.0) (sym (is_merged n.seg.0 ∙ ap (merged (shared s)) (to_kernel trace st s sound n e)))));
    none = λ n. false_from_ne_true _ (λ e. let parts = exit_parts (shared s) n e in false≢true (sym (goes (shared s) n (or_left _ _ (and_from _ _ (heap_eq_refl (shared s)) (heap_eq-same _ _ (to_kernel trace st s sound n parts.0))))) ∙ parts.1));
    leave = λ h n e. let parts = exit_parts h n e in leaves_still h n parts.0 parts.1;
    come = λ h n e. inl (exit_parts h n e).0;
  }
    where
      goes : (h : Heap) (n : Name) → IsTrue ((heap_eq h (shared s) && heap_eq (owner_of trace st n.seg.0) Kernel) || (heap_eq h Kernel && lies_in trace st s n)) → IsFalse (stays_after_absorb trace st s (record { heap = h; target = n }))
      goes h n t = not_from_true _ t

      stays_if : (h : Heap) (n : Name) → IsFalse (heap_eq h (shared s)) → IsFalse (heap_eq h (owner_of trace after n.seg.0)) → IsTrue (stays_after_absorb trace st s (record { heap = h; target = n }))
      stays_if h n apart leaves = not_from_false _ (or_from _ _ (and_left _ _ apart) (false_from_ne_true _ (λ t.
          let parts = and_parts (heap_eq h Kernel) (lies_in trace st s n) t in
          let now : owner_of trace after n.seg.0 ≡ Kernel = is_merged n.seg.0 ∙ ap (λ b. cond b Kernel (owner_of trace st n.seg.0)) parts.1 in
          false≢true (sym leaves ∙ heap_eq-same h (owner_of trace after n.seg.0) (heap_eq-true h Kernel parts.0 ∙ sym now)))))

      leaves_still : (h : Heap) (n : Name) → IsTrue (has_exit st.exits h n) → IsTrue (stays_after_absorb trace st s (record { heap = h; target = n })) → IsFalse (heap_eq h (owner_of trace after n.seg.0))
      leaves_still h n e t =
          elim (cases_Bool (lies_in trace st s n)) [
            | inl in_heap ↦ false_from_ne_true _ (λ same.
                let now : owner_of trace after n.seg.0 ≡ Kernel = is_merged n.seg.0 ∙ ap (λ b. cond b Kernel (owner_of trace st n.seg.0)) in_heap in
                let kernel : h ≡ Kernel = heap_eq-true h (owner_of trace after n.seg.0) same ∙ now in
                false≢true (sym (goes h n (or_right _ _ (and_from _ _ (heap_eq-same h Kernel kernel) in_heap))) ∙ t))
            | inr out ↦
                ap (heap_eq h) (is_merged n.seg.0 ∙ ap (λ b. cond b Kernel (owner_of trace st n.seg.0)) out) ∙ sound.exits.leave h n e
          ]

  phase_cases : (q : ℕ) → ((phase_of (set st.phases s Absorbed) q ≡ phase_of st.phases q) × (q ≡ s → ⊥)) ⊎ ((q ≡ s) × (phase_of (set st.phases s Absorbed) q ≡ Absorbed))
  phase_cases q =
      elim (cases_eq q s) [
        | inl e ↦ inr (e, ap (λ k. phase_of (set st.phases s Absorbed) k) e ∙ get_or-set_same st.phases s Absorbed Unmade inside)
        | inr ne ↦ inl (get_or-set_other st.phases s q Absorbed Unmade ne, ne)
      ]

  -- a heap that isn't the kernel or the shared heap owns what it owned
  owner_back : (n : Name) (h : Heap) → (h ≡ Kernel → ⊥) → owner_of trace after n.seg.0 ≡ h → owner_of trace st n.seg.0 ≡ owner_of trace after n.seg.0
  owner_back n h apart at =
      elim (cases_Bool (heap_eq (owner_of trace st n.seg.0) (shared s))) [
        | inl same ↦ absurd (apart (sym at ∙ is_merged n.seg.0 ∙ ap (λ b. cond b Kernel (owner_of trace st n.seg.0)) same))
        | inr other ↦ sym (is_merged n.seg.0 ∙ ap (λ b. cond b Kernel (owner_of trace st n.seg.0)) other)
      ]

  scan_apart : (h : Heap) (rs : List Name) → scan_of st.scans h ≡ Some rs → h ≡ Kernel → ⊥
  scan_apart h rs o e = let none : scan_of st.scans h ≡ None = ap (scan_of st.scans) e ∙ may.idle in cc (none, o)

  root_before : (h : Heap) (n : Name) → owner_of trace st n.seg.0 ≡ owner_of trace after n.seg.0 → IsTrue (is_root trace after h n) → IsTrue (is_root trace st h n)
  unfolding is_entered is_held after after_absorbed set_phase keep_exits
  root_before h n same t =
      elim (or_cases (has_entry (owner_of trace after) (filter (stays_after_absorb trace st s) st.exits) n || is_pinned (process_count trace) (owner_of trace after) st.registers n) (is_held st h n) t) [
        | inl entered ↦
            elim (or_cases (has_entry (owner_of trace after) (filter (stays_after_absorb trace st s) st.exits) n) (is_pinned (process_count trace) (owner_of trace after) st.registers n) entered) [
              | inl entry ↦ or_left _ (is_held st h n) (or_left _ (is_pinned (process_count trace) (owner_of trace st) st.registers n)
                  (ap (λ k. list_any (λ e. not (heap_eq e.heap k) && name_eq e.target n) st.exits) same ∙ any-fewer _ (stays_after_absorb trace st s) st.exits entry))
              | inr pinned ↦ or_left _ (is_held st h n) (or_right (has_entry (owner_of trace st) st.exits n) _
                  (ap (λ k. list_any (λ p. not (heap_eq (user p) k) && in_registers st.registers p n) (numbers_below (process_count trace))) same ∙ pinned))
            ]
        | inr held ↦ or_right (is_entered trace st n) _ held
      ]

  uses_less : (m : ℕ) → use_of trace after m ≤ use_of trace st m
  unfolding after after_absorbed set_phase keep_exits
  uses_less m =
      use_by_less trace (limits_in trace st) (charge_of trace after) (charge_of trace st)
      (charged_less (bytes_of trace after) (bytes_of trace st) st.ended st.shares (λ p. fewer (user p) refl) (λ q. fewer (shared q) refl)) m
    where
      fewer : (h : Heap) → IsFalse (heap_eq Kernel h) → bytes_by (owner_of trace after) h st.objects ≤ bytes_by (owner_of trace st) h st.objects
      fewer h kernel = bytes_fewer (owner_of trace st) (owner_of trace after) h (λ seg t. merged_fewer (shared s) h (owner_of trace st seg) kernel (ap (λ k. heap_eq k h) (sym (is_merged seg)) ∙ t)) st.objects

  pub absorbed_sound : IsSound trace (after_absorbed trace s st)
  unfolding after_absorbed set_phase keep_exits after exits'
  absorbed_sound = record {
    shape = record {
      sized = record { made = sound.shape.sized.made; registers = sound.shape.sized.registers; each = sound.shape.sized.each; done = sound.shape.sized.done; phases = length-set st.phases s _ ∙ sound.shape.sized.phases; maxima = sound.shape.sized.maxima };
      distinct_exits = distinct_exits-kept (stays_after_absorb trace st s) st.exits sound.shape.distinct_exits;
      distinct_shares = sound.shape.distinct_shares;
      distinct_scans = sound.shape.distinct_scans;
      placed = sound.shape.placed;
      typed = sound.shape.typed;
      declared = declared-phase trace st.ended st.phases s Absorbed (λ q e. absurd (cc e)) sound.shape.declared;
      known = record {
        referring = λ h n e. sound.shape.known.referring h n (exit_parts h n e).0;
        sharers = sound.shape.known.sharers;
        shared = sound.shape.known.shared;
        scanned = sound.shape.known.scanned;
      };
    };
    names = record {
      ordered = sound.names.ordered;
      numbered = sound.names.numbered;
    };
    no_dangling = record {
      directory = sound.no_dangling.directory;
      fields = sound.no_dangling.fields;
      registers = sound.no_dangling.registers;
      exits = λ h n e. sound.no_dangling.exits h n (exit_parts h n e).0;
      scans = sound.no_dangling.scans;
      frozen = λ q r e. elim (phase_cases q) [ inl kept ↦ sound.no_dangling.frozen q r (sym kept.0 ∙ e) | inr here ↦ absurd (cc (here.1, e)) ];
    };
    guarded = guarded_merged (owner_of trace st) (owner_of trace after) (shared s) is_merged st.objects st.exits exits' sound.guarded sound.exits merge;
    exits = exits_merged (owner_of trace st) (owner_of trace after) (shared s) is_merged st.objects st.exits exits' sound.guarded sound.exits merge;
    gone = record {
      registers = sound.gone.registers;
      shares = sound.gone.shares;
      scans = sound.gone.scans;
      exits = λ p n ended. false_from_ne_true _ (λ e. false≢true (sym (sound.gone.exits p n ended) ∙ (exit_parts (user p) n e).0));
      absorbed_shares = λ q e. elim (phase_cases q) [ inl kept ↦ sound.gone.absorbed_shares q (sym kept.0 ∙ e) | inr here ↦ ap (has_sharer st.shares) here.0 ∙ may.no_sharer ];
      absorbed_exits = λ q n e. elim (phase_cases q) [
        | inl kept ↦ false_from_ne_true _ (λ t. false≢true (sym (sound.gone.absorbed_exits q n (sym kept.0 ∙ e)) ∙ (exit_parts (shared q) n t).0))
        | inr here ↦ ap (λ k. has_exit exits' (shared k) n) here.0 ∙ merge.none n
      ];
    };
    phases = record {
      unmade_shares = λ q e. elim (phase_cases q) [ inl kept ↦ sound.phases.unmade_shares q (sym kept.0 ∙ e) | inr here ↦ absurd (cc (here.1, e)) ];
      unmade_objects = λ q n e there at. elim (phase_cases q) [
        | inl kept ↦ sound.phases.unmade_objects q n (sym kept.0 ∙ e) there (owner_back n (shared q) (λ k. cc k) at ∙ at)
        | inr here ↦ absurd (cc (here.1, e))
      ];
      populating = λ q r k e t. elim (phase_cases q) [ inl kept ↦ sound.phases.populating q r k (sym kept.0 ∙ e) t | inr here ↦ absurd (cc (here.1, e)) ];
      populated = λ q r e lives. elim (phase_cases q) [ inl kept ↦ sound.phases.populated q r (sym kept.0 ∙ e) lives | inr here ↦ absurd (cc (here.1, e)) ];
      frozen = λ q r e. elim (phase_cases q) [
        | inl kept ↦ is_merged r.seg.0 ∙ ap (merged (shared s)) (sound.phases.frozen q r (sym kept.0 ∙ e)) ∙ ap (λ b. cond b Kernel (shared q)) (ne_eqb q s kept.1)
        | inr here ↦ absurd (cc (here.1, e))
      ];
    };
    uses = λ m known. le_trans (uses_less m) (sound.uses m known);
    scans = record {
      own = λ h rs n o t.
          let at = sound.scans.own h rs n o t in
          is_merged n.seg.0 ∙ ap (merged (shared s)) at ∙ ap (λ b. cond b Kernel h) (heap_eq-false h (shared s) (λ e. let none : scan_of st.scans h ≡ None = ap (scan_of st.scans) e ∙ sound.scans.none_shared s in cc (none, o)));
      recorded = λ h rs n o there at root.
          let same = owner_back n h (scan_apart h rs o) at in
          sound.scans.recorded h rs n o there (same ∙ at) (root_before h n same root);
      none_shared = sound.scans.none_shared;
    };
  }
