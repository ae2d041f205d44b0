-- What the end of a process and the absorption of a shared heap change in the parts of the heap's cell and of the kernel's.
use Rattle.std.proofs.Common.{◌≡◌, ℕ, ◌==◌, ◌&&◌, ◌||◌, not, Bool, true, false, cond, refl, sym, ap, ap₂, ◌∙◌, inl, inr, List, [], ◌∷◌, ◌++◌, filter, replicate, Some, None, get_or, set, get_or-set_same, eq-eqb, IsFalse}
use Rattle.std.proofs.Math.Path.{fun_ext}
use Rattle.std.proofs.lemmas.Bool.{false≢true, or_cases, or_left, or_right, and_parts, and_from, false_from_ne_true, not_from_false, not-true}
use Rattle.std.proofs.lemmas.List.Folds.{list_any-append}
use Rattle.k_types.specs.declared.names.Name.{Name}
use Rattle.k_types.specs.declared.names.Heap.{Heap}
use Rattle.k_types.specs.declared.names.Heap.TheVariants.{Kernel}
use Rattle.k_types.specs.declared.names.Phase.TheVariants.{Unmade, Absorbed}
use Rattle.k_types.specs.Names.{heap_eq, among}
use Rattle.k_types.specs.Trace.{Trace}
use Rattle.k_types.specs.State.{State, Object, has_exit}
use Rattle.k_types.specs.Owners.{owner_of, objects_of, user, shared, phase_of}
use Rattle.k_types.specs.Reach.{is_shared_heap}
use Rattle.k_types.specs.Updates.{set_phase, keep_exits, keep_shares, clear_registers, end_process, turn_exits}
use Rattle.k_types.specs.Effects.{after_end_of, after_absorbed, stays_after_absorb}
use Rattle.k_types.specs.Cells.{part, made_of}
use Rattle.k_types.specs.Sound.{IsSound, IsOrdered}
use Rattle.k_laws.specs.CellChanges.{at_its_end, when_absorbed, given_away, taking_in, either_of, with_objects}
use Rattle.k_laws.proofs.Merged.{merged as merged_lists}
use Rattle.k_types.proofs.NameTests.{heap_eq-true, heap_eq_refl, heap_eq_sym}
use Rattle.k_laws.proofs.Kept.{has_exit-kept}
use Rattle.k_laws.specs.Changes.{MayAbsorb, MayExit}
use Rattle.k_laws.specs.Termination.{StaysOrPasses}
use Rattle.k_laws.proofs.Merge.{merged}
use Rattle.k_laws.proofs.Means.{exit_from, exit_comes}
use Rattle.k_laws.proofs.SoundAbsorbed.{is_merged as absorbed_owner, to_kernel}
use Rattle.k_laws.proofs.SoundExited.{is_merged as ended_owner}
use Rattle.k_types.proofs.Tests.{same_test}

module _ (own own' : ℕ → Heap) (g : Heap) (apart : IsFalse (heap_eq Kernel g)) (is : (seg : ℕ) → own' seg ≡ merged g (own seg)) where
  none_left : (seg : ℕ) → heap_eq (own' seg) g ≡ false
  none_left seg = ap (λ h. heap_eq h g) (is seg) ∙ go (heap_eq (own seg) g) refl
    where
      go : (b : Bool) → heap_eq (own seg) g ≡ b → heap_eq (cond b Kernel (own seg)) g ≡ false
      go true e = apart
      go false e = e

  pub nothing_owned : (xs : List Object) → objects_of own' g xs ≡ []
  nothing_owned [] = refl
  nothing_owned (x ∷ xs) = ap (λ b. cond b (x ∷ objects_of own' g xs) (objects_of own' g xs)) (none_left x.name.seg.0) ∙ nothing_owned xs

  pub nothing_made : (made : List ℕ) → made_of own' made g ≡ (λ at. None)
  nothing_made made = fun_ext (λ at. ap (λ b. cond b (Some (get_or made at 0)) None) (none_left at))

  kernel_now : (seg : ℕ) → heap_eq (own' seg) Kernel ≡ (heap_eq (own seg) Kernel || heap_eq (own seg) g)
  kernel_now seg = ap (λ h. heap_eq h Kernel) (is seg) ∙ go (heap_eq (own seg) g) refl
    where
      or_true : (b : Bool) → true ≡ (b || true)
      or_true true = refl
      or_true false = refl

      or_none : (b : Bool) → b ≡ (b || false)
      or_none true = refl
      or_none false = refl

      go : (b : Bool) → heap_eq (own seg) g ≡ b → heap_eq (cond b Kernel (own seg)) Kernel ≡ (heap_eq (own seg) Kernel || b)
      go true e = or_true (heap_eq (own seg) Kernel)
      go false e = or_none (heap_eq (own seg) Kernel)

  not_both : (seg : ℕ) → heap_eq (own seg) g ≡ true → heap_eq (own seg) Kernel ≡ false
  not_both seg t = ap (λ h. heap_eq h Kernel) (heap_eq-true (own seg) g t) ∙ heap_eq_sym g Kernel ∙ apart

  pub kernel_objects : (xs : List Object) → IsOrdered xs → objects_of own' Kernel xs ≡ with_objects (objects_of own g xs) (objects_of own Kernel xs)
  kernel_objects xs ordered =
      filter_same (λ o. heap_eq (own' o.name.seg.0) Kernel) (λ o. heap_eq (own o.name.seg.0) Kernel || heap_eq (own o.name.seg.0) g) (λ o. kernel_now o.name.seg.0) xs
      ∙ merged_lists (λ o. heap_eq (own o.name.seg.0) g) (λ o. heap_eq (own o.name.seg.0) Kernel) xs (λ o t. not_both o.name.seg.0 t) ordered
    where
      filter_same : (p q : Object → Bool) → ((o : Object) → p o ≡ q o) → (xs : List Object) → filter p xs ≡ filter q xs
      filter_same p q same [] = refl
      filter_same p q same (x ∷ xs) = ap₂ (λ b ys. cond b (x ∷ ys) ys) (same x) (filter_same p q same xs)

  pub kernel_made : (made : List ℕ) → made_of own' made Kernel ≡ (λ at. either_of (made_of own made Kernel at) (made_of own made g at))
  kernel_made made = fun_ext (λ at. ap (λ b. cond b (Some (get_or made at 0)) None) (kernel_now at) ∙ go at (heap_eq (own at) Kernel) (heap_eq (own at) g))
    where
      go : (at : ℕ) (a b : Bool) → cond (a || b) (Some (get_or made at 0)) None ≡ either_of (cond a (Some (get_or made at 0)) None) (cond b (Some (get_or made at 0)) None)
      go at true b = refl
      go at false true = refl
      go at false false = refl

module _ (trace : Trace) (st : State) (p : ℕ) (sound : IsSound trace st) (may : MayExit trace st p) where
  user_exits : (n : Name) → has_exit (after_end_of trace p st).exits (user p) n ≡ false
  user_exits n = false_from_ne_true _ (λ t. go (exit_from trace st p sound (user p) n t))
    where
      go : StaysOrPasses trace st p (user p) n → ⊥
      go (inl stays) = false≢true (sym stays.1 ∙ heap_eq_refl (user p))
      go (inr passes) = cc (passes.0)

  kernel_exits : (n : Name) → has_exit (after_end_of trace p st).exits Kernel n
      ≡ ((has_exit st.exits Kernel n && not (heap_eq (owner_of trace st n.seg.0) (user p))) || (has_exit st.exits (user p) n && is_shared_heap (owner_of trace st n.seg.0)))
  kernel_exits n = same_test _ _
      (λ t. elim (exit_from trace st p sound Kernel n t) [
        | inl stays ↦ or_left _ _ (and_from _ _ stays.0 (not_from_false _ stays.2))
        | inr passes ↦ or_right (has_exit st.exits Kernel n && not (heap_eq (owner_of trace st n.seg.0) (user p))) _ (and_from _ _ passes.1 passes.2)
      ])
      (λ t. exit_comes trace st p sound Kernel n (elim (or_cases (has_exit st.exits Kernel n && not (heap_eq (owner_of trace st n.seg.0) (user p))) (has_exit st.exits (user p) n && is_shared_heap (owner_of trace st n.seg.0)) t) [
        | inl stays ↦ let both = and_parts (has_exit st.exits Kernel n) (not (heap_eq (owner_of trace st n.seg.0) (user p))) stays in inl (both.0, refl, not-true _ both.1)
        | inr passes ↦ let both = and_parts (has_exit st.exits (user p) n) (is_shared_heap (owner_of trace st n.seg.0)) passes in inr (refl, both.0, both.1)
      ]))

  has_ended : among p (st.ended ++ p ∷ []) ≡ true
  has_ended = list_any-append (λ m. m == p) st.ended (p ∷ []) ∙ or_right _ _ (or_left (p == p) false (eq-eqb p p refl))

  null_registers : get_or (set st.registers p (replicate 16 None)) p [] ≡ replicate 16 None
  null_registers = get_or-set_same st.registers p (replicate 16 None) [] (rw sound.shape.sized.registers may.known)

  is : (seg : ℕ) → owner_of trace (after_end_of trace p st) seg ≡ merged (user p) (owner_of trace st seg)
  is seg = ended_owner trace st p sound may seg

  pub end_on_cell : part trace (after_end_of trace p st) (user p) ≡ at_its_end (part trace st (user p))
  unfolding part after_end_of end_process clear_registers keep_shares turn_exits
  end_on_cell =
      ap₂ (λ objects made. record (part trace (after_end_of trace p st) (user p)) { objects = objects; made = made })
      (nothing_owned (owner_of trace st) (owner_of trace (after_end_of trace p st)) (user p) refl is (after_end_of trace p st).objects)
      (nothing_made (owner_of trace st) (owner_of trace (after_end_of trace p st)) (user p) refl is (after_end_of trace p st).made)
      ∙ ap (λ exits. record (part trace (after_end_of trace p st) (user p)) { objects = []; made = λ at. None; exits = exits }) (fun_ext user_exits)
      ∙ ap₂ (λ registers ended. record (at_its_end (part trace st (user p))) { process = Some (record { registers = registers; done = get_or st.done p 0; has_ended = ended }) }) null_registers has_ended

  pub end_on_kernel : part trace (after_end_of trace p st) Kernel ≡ taking_in (owner_of trace st) (user p) (part trace st (user p)) (part trace st Kernel)
  unfolding part after_end_of end_process clear_registers keep_shares turn_exits
  end_on_kernel =
      ap₂ (λ objects made. record (part trace (after_end_of trace p st) Kernel) { objects = objects; made = made })
      (kernel_objects (owner_of trace st) (owner_of trace (after_end_of trace p st)) (user p) refl is st.objects sound.names.ordered)
      (kernel_made (owner_of trace st) (owner_of trace (after_end_of trace p st)) (user p) refl is st.made)
      ∙ ap (λ exits. record (taking_in (owner_of trace st) (user p) (part trace st (user p)) (part trace st Kernel)) { exits = exits }) (fun_ext kernel_exits)

module _ (trace : Trace) (st : State) (s : ℕ) (sound : IsSound trace st) (may : MayAbsorb trace st s) where
  gone : (seg : ℕ) → owner_of trace (after_absorbed trace s st) seg ≡ merged (shared s) (owner_of trace st seg)
  gone seg = absorbed_owner trace st s sound may seg

  exits_then : (h : Heap) (n : Name) → has_exit (after_absorbed trace s st).exits h n ≡ (has_exit st.exits h n && stays_after_absorb trace st s (record { heap = h; target = n }))
  unfolding after_absorbed set_phase keep_exits
  exits_then h n = has_exit-kept (stays_after_absorb trace st s) st.exits h n

  shared_exits : (n : Name) → has_exit (after_absorbed trace s st).exits (shared s) n ≡ false
  shared_exits n = exits_then (shared s) n ∙ go (has_exit st.exits (shared s) n) refl
    where
      go : (b : Bool) → has_exit st.exits (shared s) n ≡ b → (b && stays_after_absorb trace st s (record { heap = shared s; target = n })) ≡ false
      go false e = refl
      go true e = ap (λ h. not ((heap_eq (shared s) (shared s) && heap_eq h Kernel) || (heap_eq (shared s) Kernel && heap_eq h (shared s)))) (to_kernel trace st s sound n e)
          ∙ ap (λ b. not ((b && true) || false)) (heap_eq_refl (shared s))

  never_shared : (n : Name) → (has_exit st.exits (shared s) n && is_shared_heap (owner_of trace st n.seg.0)) ≡ false
  never_shared n = go (has_exit st.exits (shared s) n) refl
    where
      go : (b : Bool) → has_exit st.exits (shared s) n ≡ b → (b && is_shared_heap (owner_of trace st n.seg.0)) ≡ false
      go false e = refl
      go true e = ap is_shared_heap (to_kernel trace st s sound n e)

  kernel_then : (n : Name) → has_exit (after_absorbed trace s st).exits Kernel n
      ≡ ((has_exit st.exits Kernel n && not (heap_eq (owner_of trace st n.seg.0) (shared s))) || (has_exit st.exits (shared s) n && is_shared_heap (owner_of trace st n.seg.0)))
  kernel_then n =
      exits_then Kernel n
      ∙ sym (ap (λ b. (has_exit st.exits Kernel n && not (heap_eq (owner_of trace st n.seg.0) (shared s))) || b) (never_shared n) ∙ or_none (has_exit st.exits Kernel n && not (heap_eq (owner_of trace st n.seg.0) (shared s))))
    where
      or_none : (b : Bool) → (b || false) ≡ b
      or_none true = refl
      or_none false = refl

  phase_now : phase_of (set st.phases s Absorbed) s ≡ Absorbed
  phase_now = get_or-set_same st.phases s Absorbed Unmade (rw sound.shape.sized.phases may.known)

  pub absorbed_on_cell : part trace (after_absorbed trace s st) (shared s) ≡ when_absorbed (part trace st (shared s))
  unfolding part after_absorbed set_phase keep_exits
  absorbed_on_cell =
      ap₂ (λ objects made. record (part trace (after_absorbed trace s st) (shared s)) { objects = objects; made = made })
      (nothing_owned (owner_of trace st) (owner_of trace (after_absorbed trace s st)) (shared s) refl gone st.objects)
      (nothing_made (owner_of trace st) (owner_of trace (after_absorbed trace s st)) (shared s) refl gone st.made)
      ∙ ap₂ (λ exits phase. record (given_away (part trace st (shared s))) { exits = exits; phase = Some phase }) (fun_ext shared_exits) phase_now

  pub absorbed_on_kernel : part trace (after_absorbed trace s st) Kernel ≡ taking_in (owner_of trace st) (shared s) (part trace st (shared s)) (part trace st Kernel)
  unfolding part after_absorbed set_phase keep_exits
  absorbed_on_kernel =
      ap₂ (λ objects made. record (part trace (after_absorbed trace s st) Kernel) { objects = objects; made = made })
      (kernel_objects (owner_of trace st) (owner_of trace (after_absorbed trace s st)) (shared s) refl gone st.objects sound.names.ordered)
      (kernel_made (owner_of trace st) (owner_of trace (after_absorbed trace s st)) (shared s) refl gone st.made)
      ∙ ap (λ exits. record (taking_in (owner_of trace st) (shared s) (part trace st (shared s)) (part trace st Kernel)) { exits = exits }) (fun_ext kernel_then)
