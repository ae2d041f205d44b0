-- What changes of owners, and the ends of collections and processes, leave of other cells.
use Rattle.std.proofs.Common.{◌≡◌, ℕ, ◌-◌, ◌==◌, ◌&&◌, ◌||◌, nat_le, cond, Bool, true, false, refl, sym, ap, ap₂, ◌∙◌, List, [], ◌∷◌, ◌++◌, filter, filter_map, replicate, Option, Some, None, arith, get_or, set, get_or-set_other, slice_index_or, eq-eqb, ne_eqb, option_to_list, inl, inr, IsTrue, IsFalse}
use Rattle.std.specs.List.{cons_option}
use Rattle.std.proofs.lemmas.Bool.{or_left, or_right, or_from, and_left, false≢true, cases_eq, false_from_ne_true, cond-false, not_from_false}
use Rattle.std.proofs.lemmas.List.Elements.{filter_agree, filter-append}
use Rattle.std.proofs.lemmas.List.Folds.{list_any-append}
use Rattle.k_types.specs.declared.names.Heap.{Heap}
use Rattle.k_types.specs.declared.names.Heap.TheVariants.{Kernel, User, Shared}
use Rattle.k_types.specs.declared.names.Phase.{Phase}
use Rattle.k_types.specs.declared.names.Phase.TheVariants.{Unmade, Absorbed}
use Rattle.k_types.specs.Names.{heap_eq, among}
use Rattle.k_types.specs.Trace.{Trace, process_count}
use Rattle.k_types.specs.State.{State, Object, ExitItem, scan_of, has_exit}
use Rattle.k_types.specs.Owners.{owner_of, objects_of, user, shared, phase_of, is_absorbed, owner_of_segment, owner_of_process, owner_of_shared}
use Rattle.k_types.specs.Updates.{set_phase, keep_objects, keep_exits, keep_shares, close_scan, clear_registers, end_process, turn_exits}
use Rattle.k_types.specs.Effects.{after_ended, survives, exit_stays, after_end_of, exit_after, after_absorbed, stays_after_absorb}
use Rattle.k_types.specs.Cells.{part, made_of, process_of, phase_shown, Cell}
use Rattle.k_types.proofs.NameTests.{heap_eq-true, heap_eq_sym}
use Rattle.std.proofs.Math.Path.{fun_ext}
use Rattle.k_laws.proofs.Elsewhere.{exits_of, exits_told}
use Rattle.k_laws.proofs.Kept.{scan_closed}
use Rattle.k_types.proofs.Lists.{get_or-set_cases, filter_stronger}

-- owners that agree on a cell give it the same objects and the same serials
pub owned_agree : (own own' : ℕ → Heap) (c : Cell) → ((seg : ℕ) → heap_eq (own' seg) c ≡ heap_eq (own seg) c) → (xs : List Object) → objects_of own' c xs ≡ objects_of own c xs
owned_agree own own' c agree xs = filter_agree _ _ (λ o. agree o.name.seg.0) xs

pub made_agree : (own own' : ℕ → Heap) (c : Cell) → ((seg : ℕ) → heap_eq (own' seg) c ≡ heap_eq (own seg) c) → (made : List ℕ) → made_of own' made c ≡ made_of own made c
made_agree own own' c agree made = fun_ext (λ seg. ap (λ b. cond b (Some (get_or made seg 0)) None) (agree seg))

-- owners change only by the process that ended, or by the shared heap whose phase changed
pub among-push : (ended : List ℕ) (p q : ℕ) → (p ≡ q → ⊥) → among q (ended ++ p ∷ []) ≡ among q ended
among-push ended p q ne =
    list_any-append (λ m. m == q) ended (p ∷ []) ∙ elim (among q ended) as (λ b. (b || ((p == q) || false)) ≡ b) [ true ↦ refl | false ↦ or_from (p == q) false (ne_eqb p q ne) refl ]

process_ended : (ended : List ℕ) (p q : ℕ) (c : Cell) → IsFalse (heap_eq (user p) c) → IsFalse (heap_eq Kernel c) →
    heap_eq (owner_of_process (ended ++ p ∷ []) q) c ≡ heap_eq (owner_of_process ended q) c
process_ended ended p q c apart kernel =
    elim (cases_eq p q) [
      | inl e ↦
          ap (λ b. heap_eq (cond b Kernel (user q)) c) (list_any-append (λ m. m == q) ended (p ∷ []) ∙ or_right (among q ended) _ (or_left (p == q) false (eq-eqb p q e)))
          ∙ kernel
          ∙ sym (elim (among q ended) as (λ b. heap_eq (cond b Kernel (user q)) c ≡ false) [ true ↦ kernel | false ↦ ap (λ k. heap_eq (user k) c) (sym e) ∙ apart ])
      | inr ne ↦ ap (λ b. heap_eq (cond b Kernel (user q)) c) (among-push ended p q ne)
    ]

pub owner_ended : (procs : ℕ) (ended : List ℕ) (phases : List Phase) (p seg : ℕ) (c : Cell) → IsFalse (heap_eq (user p) c) → IsFalse (heap_eq Kernel c) →
    heap_eq (owner_of_segment procs (ended ++ p ∷ []) phases seg) c ≡ heap_eq (owner_of_segment procs ended phases seg) c
unfolding owner_of_segment
owner_ended procs ended phases p seg c apart kernel =
    elim (seg == 0) as (λ a. heap_eq (cond a Kernel (cond (nat_le seg procs) (owner_of_process (ended ++ p ∷ []) (seg - 1)) (owner_of_shared phases (seg - 1 - procs)))) c
    ≡ heap_eq (cond a Kernel (cond (nat_le seg procs) (owner_of_process ended (seg - 1)) (owner_of_shared phases (seg - 1 - procs)))) c) [
      | true ↦ refl
      | false ↦ elim (nat_le seg procs) as (λ b. heap_eq (cond b (owner_of_process (ended ++ p ∷ []) (seg - 1)) (owner_of_shared phases (seg - 1 - procs))) c
          ≡ heap_eq (cond b (owner_of_process ended (seg - 1)) (owner_of_shared phases (seg - 1 - procs))) c) [ true ↦ process_ended ended p (seg - 1) c apart kernel | false ↦ refl ]
    ]

owner_phase : (procs : ℕ) (ended : List ℕ) (phases : List Phase) (s seg : ℕ) (phase : Phase) (c : Cell) →
    ((q : ℕ) → heap_eq (owner_of_shared (set phases s phase) q) c ≡ heap_eq (owner_of_shared phases q) c) →
    heap_eq (owner_of_segment procs ended (set phases s phase) seg) c ≡ heap_eq (owner_of_segment procs ended phases seg) c
unfolding owner_of_segment
owner_phase procs ended phases s seg phase c same =
    elim (seg == 0) as (λ a. heap_eq (cond a Kernel (cond (nat_le seg procs) (owner_of_process ended (seg - 1)) (owner_of_shared (set phases s phase) (seg - 1 - procs)))) c
    ≡ heap_eq (cond a Kernel (cond (nat_le seg procs) (owner_of_process ended (seg - 1)) (owner_of_shared phases (seg - 1 - procs)))) c) [
      | true ↦ refl
      | false ↦ elim (nat_le seg procs) as (λ b. heap_eq (cond b (owner_of_process ended (seg - 1)) (owner_of_shared (set phases s phase) (seg - 1 - procs))) c
          ≡ heap_eq (cond b (owner_of_process ended (seg - 1)) (owner_of_shared phases (seg - 1 - procs))) c) [ true ↦ refl | false ↦ same (seg - 1 - procs) ]
    ]

consed : {A : Type 0} (o : Option A) (ys : List A) → cons_option o ys ≡ option_to_list o ++ ys
consed None ys = refl
consed (Some x) ys = refl

turned_step : (c : Cell) (o : Option ExitItem) (e : ExitItem) (ys xs : List ExitItem) → filter (λ x. heap_eq x.heap c) (option_to_list o) ≡ filter (λ x. heap_eq x.heap c) (e ∷ []) →
    exits_of ys c ≡ exits_of xs c → exits_of (cons_option o ys) c ≡ exits_of (e ∷ xs) c
turned_step c o e ys xs one rest =
    ap (λ zs. exits_of zs c) (consed o ys) ∙ filter-append (λ x. heap_eq x.heap c) (option_to_list o) ys
    ∙ ap₂ (λ front back. front ++ back) one rest ∙ sym (filter-append (λ x. heap_eq x.heap c) (e ∷ []) xs)

turned_cases : (c : Cell) (p : ℕ) (e : ExitItem) (to_kernel into : Bool) → IsFalse (heap_eq (user p) c) → IsFalse (heap_eq Kernel c) →
    (IsTrue (heap_eq e.heap (user p)) → IsFalse (heap_eq e.heap c)) → (IsTrue (heap_eq e.heap Kernel) → IsFalse (heap_eq e.heap c)) →
    filter (λ x. heap_eq x.heap c) (option_to_list (cond (heap_eq e.heap (user p)) (cond to_kernel (Some (record e { heap = Kernel })) None) (cond (heap_eq e.heap Kernel && into) None (Some e))))
    ≡ filter (λ x. heap_eq x.heap c) (e ∷ [])
turned_cases c p e to_kernel into apart kernel a b = grind (arith, apart, kernel, a, b)

module _ (trace : Trace) (st : State) (c : Cell) where
  -- a phase that doesn't change the owner
  shared_same : (s : ℕ) (phase : Phase) → is_absorbed phase ≡ is_absorbed (phase_of st.phases s) → (q : ℕ) → heap_eq (owner_of_shared (set st.phases s phase) q) c ≡ heap_eq (owner_of_shared st.phases q) c
  shared_same s phase same q =
      elim (get_or-set_cases st.phases s q phase Unmade) [
        | inl e ↦ ap (λ f. heap_eq (cond (is_absorbed f) Kernel (shared q)) c) e
        | inr e ↦ ap (λ f. heap_eq (cond f Kernel (shared q)) c) (ap is_absorbed e.1 ∙ same ∙ ap (λ k. is_absorbed (phase_of st.phases k)) (sym e.0))
      ]

  -- and one that makes the shared heap the kernel's
  shared_gone : (s : ℕ) → IsFalse (heap_eq (shared s) c) → IsFalse (heap_eq Kernel c) → (q : ℕ) → heap_eq (owner_of_shared (set st.phases s Absorbed) q) c ≡ heap_eq (owner_of_shared st.phases q) c
  shared_gone s apart kernel q =
      elim (get_or-set_cases st.phases s q Absorbed Unmade) [
        | inl e ↦ ap (λ f. heap_eq (cond (is_absorbed f) Kernel (shared q)) c) e
        | inr e ↦
            ap (λ f. heap_eq (cond (is_absorbed f) Kernel (shared q)) c) e.1 ∙ kernel
            ∙ sym (elim (is_absorbed (phase_of st.phases q)) as (λ b. heap_eq (cond b Kernel (shared q)) c ≡ false) [ true ↦ kernel | false ↦ ap (λ k. heap_eq (shared k) c) e.0 ∙ apart ])
      ]

  shown_elsewhere : (k : Cell) (s : ℕ) (phase : Phase) → IsFalse (heap_eq (shared s) k) → phase_shown (set_phase s phase st) k ≡ phase_shown st k
  unfolding set_phase
  shown_elsewhere Kernel s phase apart = refl
  shown_elsewhere (User p) s phase apart = refl
  shown_elsewhere (Shared q) s phase apart =
      ap (λ f. Some f) (get_or-set_other st.phases s q.0 phase Unmade (λ t. false≢true (sym apart ∙ eq-eqb s q.0 (sym t))))

  process_phase : (k : Cell) (s : ℕ) (phase : Phase) → process_of (set_phase s phase st) k ≡ process_of st k
  unfolding set_phase
  process_phase Kernel s phase = refl
  process_phase (User p) s phase = refl
  process_phase (Shared q) s phase = refl

  set_phase_at : (s : ℕ) (phase : Phase) → IsFalse (heap_eq (shared s) c) → ((q : ℕ) → heap_eq (owner_of_shared (set st.phases s phase) q) c ≡ heap_eq (owner_of_shared st.phases q) c) →
      part trace (set_phase s phase st) c ≡ part trace st c
  unfolding part set_phase
  set_phase_at s phase apart same =
      ap₂ (λ objects made. record (part trace (set_phase s phase st) c) { objects = objects; made = made })
      (owned_agree (owner_of trace st) (owner_of trace (set_phase s phase st)) c (λ seg. owner_phase (process_count trace) st.ended st.phases s seg phase c same) st.objects)
      (made_agree (owner_of trace st) (owner_of trace (set_phase s phase st)) c (λ seg. owner_phase (process_count trace) st.ended st.phases s seg phase c same) st.made)
      ∙ ap₂ (λ process shown. record (part trace st c) { process = process; phase = shown }) (process_phase c s phase) (shown_elsewhere c s phase apart)

  pub set_phase_elsewhere : (s : ℕ) (phase : Phase) → IsFalse (heap_eq (shared s) c) → is_absorbed phase ≡ is_absorbed (phase_of st.phases s) → part trace (set_phase s phase st) c ≡ part trace st c
  set_phase_elsewhere s phase apart same = set_phase_at s phase apart (shared_same s phase same)

  -- a heap that is the cell isn't one that isn't
  other : (h k : Heap) → IsFalse (heap_eq h c) → IsTrue (heap_eq k c) → IsFalse (heap_eq k h)
  other h k apart t = false_from_ne_true _ (λ e. false≢true (sym apart ∙ ap (λ g. heap_eq g c) (sym (heap_eq-true k h e)) ∙ t))

  exits_kept : (q : ExitItem → Bool) → ((e : ExitItem) → IsTrue (heap_eq e.heap c) → IsTrue (q e)) → has_exit (filter q st.exits) c ≡ has_exit st.exits c
  exits_kept q keeps = exits_told c (filter q st.exits) st.exits (filter_stronger (λ e. heap_eq e.heap c) q keeps st.exits)

  pub collected_elsewhere : (h : Heap) → IsFalse (heap_eq h c) → part trace (after_ended trace h st) c ≡ part trace st c
  unfolding part after_ended keep_objects keep_exits keep_shares close_scan survives exit_stays
  collected_elsewhere h apart =
      ap₂ (λ objects exits. record (part trace (after_ended trace h st) c) { objects = objects; exits = exits })
      (filter_stronger (λ o. heap_eq (owner_of trace st o.name.seg.0) c) (λ o. survives trace st h o.name) (λ o t. or_left _ _ (not_from_false _ (other h (owner_of trace st o.name.seg.0) apart t))) st.objects)
      (exits_kept (exit_stays trace st h) (λ e t. or_left _ _ (not_from_false _ (other h e.heap apart t))))
      ∙ ap (λ scan. record (part trace st c) { scan = scan })
      (scan_closed h c st.scans ∙ cond-false (heap_eq c h) None (scan_of st.scans c) (heap_eq_sym c h ∙ apart))

  kept_part : (q : ExitItem → Bool) → ((e : ExitItem) → IsTrue (heap_eq e.heap c) → IsTrue (q e)) → part trace (keep_exits q st) c ≡ part trace st c
  unfolding part keep_exits
  kept_part q keeps = ap (λ exits. record (part trace st c) { exits = exits }) (exits_kept q keeps)

  -- an exit item of the cell stays, and none becomes one of the cell
  turned_one : (p : ℕ) → IsFalse (heap_eq (user p) c) → IsFalse (heap_eq Kernel c) → (e : ExitItem) →
      filter (λ x. heap_eq x.heap c) (option_to_list (exit_after trace st p e)) ≡ filter (λ x. heap_eq x.heap c) (e ∷ [])
  turned_one p apart kernel e =
      turned_cases c p e _ _ apart kernel
      (λ t. ap (λ g. heap_eq g c) (heap_eq-true e.heap (user p) t) ∙ apart)
      (λ t. ap (λ g. heap_eq g c) (heap_eq-true e.heap Kernel t) ∙ kernel)

  turned_elsewhere : (p : ℕ) → IsFalse (heap_eq (user p) c) → IsFalse (heap_eq Kernel c) → (exits : List ExitItem) → exits_of (filter_map (exit_after trace st p) exits) c ≡ exits_of exits c
  turned_elsewhere p apart kernel [] = refl
  turned_elsewhere p apart kernel (e ∷ exits) = turned_step c (exit_after trace st p e) e (filter_map (exit_after trace st p) exits) exits (turned_one p apart kernel e) (turned_elsewhere p apart kernel exits)

  process_exited : (p : ℕ) → IsFalse (heap_eq (user p) c) → (k : Cell) → IsFalse (heap_eq (user p) k) → process_of (after_end_of trace p st) k ≡ process_of st k
  unfolding after_end_of end_process clear_registers keep_shares turn_exits
  process_exited p a Kernel apart = refl
  process_exited p a (Shared s) apart = refl
  process_exited p a (User q) apart =
      let ne : p ≡ q.0 → ⊥ = λ t. false≢true (sym apart ∙ eq-eqb p q.0 t) in
      ap₂ (λ registers ended. Some (record { registers = registers; done = slice_index_or st.done q.0 0; has_ended = ended }))
      (get_or-set_other st.registers p q.0 (replicate 16 None) [] (λ t. ne (sym t)))
      (among-push st.ended p q.0 ne)

  pub exited_elsewhere : (p : ℕ) → IsFalse (heap_eq (user p) c) → IsFalse (heap_eq Kernel c) → part trace (after_end_of trace p st) c ≡ part trace st c
  unfolding part after_end_of end_process clear_registers keep_shares turn_exits
  exited_elsewhere p apart kernel =
      ap₂ (λ objects made. record (part trace (after_end_of trace p st) c) { objects = objects; made = made })
      (owned_agree (owner_of trace st) (owner_of trace (after_end_of trace p st)) c (λ seg. owner_ended (process_count trace) st.ended st.phases p seg c apart kernel) st.objects)
      (made_agree (owner_of trace st) (owner_of trace (after_end_of trace p st)) c (λ seg. owner_ended (process_count trace) st.ended st.phases p seg c apart kernel) st.made)
      ∙ ap₂ (λ exits process. record (part trace st c) { exits = exits; process = process })
      (exits_told c (filter_map (exit_after trace st p) st.exits) st.exits (turned_elsewhere p apart kernel st.exits))
      (process_exited p apart c apart)

pub absorbed_elsewhere : (trace : Trace) (st : State) (c : Cell) (s : ℕ) → IsFalse (heap_eq (shared s) c) → IsFalse (heap_eq Kernel c) → part trace (after_absorbed trace s st) c ≡ part trace st c
unfolding after_absorbed keep_exits
absorbed_elsewhere trace st c s apart kernel =
    set_phase_at trace (keep_exits (stays_after_absorb trace st s) st) c s Absorbed apart (shared_gone trace st c s apart kernel)
    ∙ kept_part trace st c (stays_after_absorb trace st s)
    (λ e t. not_from_false _ (or_from _ _ (and_left _ _ (other trace st c (shared s) e.heap apart t)) (and_left _ _ (other trace st c Kernel e.heap kernel t))))
