-- When every process has ended, and there is no orphan, nothing is left but the kernel's objects.
use Rattle.std.proofs.Common.{◌≡◌, ◌≢◌, ℕ, zero, suc, ◌+◌, ◌<◌, ◌≤◌, ◌==◌, ◌&&◌, ◌||◌, not, Bool, true, false, cond, refl, sym, ap, ap₂, ◌∙◌, inl, inr, List, [], ◌∷◌, length, filter, arith, eq-eqb, IsTrue}
use Rattle.std.proofs.Math.Path.{fun_ext}
use Rattle.std.specs.List.{list_any}
use Rattle.std.proofs.lemmas.Bool.{false≢true, cases_Bool, or_left, or_cases, and_parts, and_from, false_from_ne_true, not-true}
use Rattle.k_types.specs.declared.names.Name.{Name}
use Rattle.k_types.specs.declared.names.Heap.{Heap}
use Rattle.k_types.specs.declared.names.Heap.TheVariants.{Kernel, User, Shared}
use Rattle.k_types.specs.declared.names.Phase.{Phase}
use Rattle.k_types.specs.declared.names.Phase.TheVariants.{Unmade, Populating, Frozen, Absorbed}
use Rattle.k_types.specs.Names.{heap_eq, name_eq, among}
use Rattle.k_types.specs.Totals.{total}
use Rattle.k_types.specs.Numbers.{numbers_below, numbers_from}
use Rattle.k_types.specs.Trace.{Trace, process_count, limit_of, IsHeap}
use Rattle.k_types.specs.State.{State, ExitItem, Sharing, has, has_exit, has_share, in_registers}
use Rattle.k_types.specs.Owners.{owner_of, user, shared, phase_of, is_absorbed, charge_of, bytes_of}
use Rattle.k_types.specs.Limits.{limits_in, use_of, use_within, direct_by}
use Rattle.k_types.specs.Reach.{is_entered, is_pinned, has_entry}
use Rattle.k_types.specs.Steps.{is_live, is_orphan, has_sharer, no_orphan}
use Rattle.k_types.specs.Complete.{all_ended}
use Rattle.k_types.specs.Sound.{IsSound}
use Rattle.k_laws.specs.Counts.{one_if, exit_count}
use Rattle.k_laws.proofs.Exact.{same_below}
use Rattle.k_types.proofs.NameTests.{heap_eq_refl, name_eq_refl}
use Rattle.k_laws.proofs.OwnerOf.{owner_lives, owner_stands}
use Rattle.k_types.proofs.Numbered.{all_at_below}
use Rattle.k_types.proofs.Sums.{zeros}
use Rattle.k_types.proofs.Owners.{owner_known}

none_of_count : (exits : List ExitItem) (h : Heap) (n : Name) → exit_count exits h ≡ 0 → has_exit exits h n ≡ false
none_of_count [] h n e = refl
none_of_count (x ∷ exits) h n e =
    elim (cases_Bool (heap_eq x.heap h)) [
      | inl same ↦ absurd (let one = ap one_if same in omega (arith, e, one))
      | inr apart ↦
          let none = ap one_if apart in
          ap₂ (λ a b. (a && name_eq x.target n) || b) apart (none_of_count exits h n (omega (arith, e, none)))
    ]

no_items : (exits : List ExitItem) → ((h : Heap) (n : Name) → has_exit exits h n ≡ false) → exits ≡ []
no_items [] none = refl
no_items (e ∷ exits) none = absurd (false≢true (sym (none e.heap e.target) ∙ or_left _ _ (and_from _ _ (heap_eq_refl e.heap) (name_eq_refl e.target))))

no_sharings : (shares : List Sharing) → ((p s : ℕ) → has_share shares p s ≡ false) → shares ≡ []
no_sharings [] none = refl
no_sharings (e ∷ shares) none = absurd (false≢true (sym (none e.process e.heap) ∙ or_left _ _ (and_from _ _ (eq-eqb e.process e.process refl) (eq-eqb e.heap e.heap refl))))

not_live : (phase : Phase) → is_live phase ≡ false → phase ≢ Unmade → phase ≡ Absorbed
not_live Unmade e made = absurd (made refl)
not_live (Populating q) e made = absurd (false≢true (sym e))
not_live (Frozen root) e made = absurd (false≢true (sym e))
not_live Absorbed e made = refl

module _ (trace : Trace) (st : State) (sound : IsSound trace st) (over : IsTrue (all_ended trace st)) (orphans : IsTrue (no_orphan trace st))
    (unmade : (s : ℕ) → phase_of st.phases s ≡ Unmade → exit_count st.exits (shared s) ≡ 0) where
  has_ended : (p : ℕ) → p < process_count trace → IsTrue (among p st.ended)
  has_ended p known = all_at_below (λ p. among p st.ended) (process_count trace) p over known

  pub no_shares : st.shares ≡ []
  no_shares = no_sharings st.shares (λ p s. false_from_ne_true _ (λ t. false≢true (sym (sound.gone.shares p s (has_ended p (sound.shape.known.sharers p s t))) ∙ t)))

  nobody : (s : ℕ) → has_sharer st.shares s ≡ false
  nobody s = ap (λ shares. has_sharer shares s) no_shares

  dead : (s : ℕ) → s < trace.shared_heaps → is_live (phase_of st.phases s) ≡ false
  dead s inside = go (is_live (phase_of st.phases s)) refl
    where
      go : (b : Bool) → is_live (phase_of st.phases s) ≡ b → b ≡ false
      go false e = refl
      go true e =
          let none = all_at_below (λ s. not (is_orphan st s)) trace.shared_heaps s orphans inside in
          absurd (false≢true (sym (not-true _ none) ∙ ap₂ (λ a b. a && not b) e (nobody s)))

  -- every object is the kernel's
  pub of_kernel : (n : Name) → IsTrue (has st.objects n) → owner_of trace st n.seg.0 ≡ Kernel
  of_kernel n there =
      go (owner_of trace st n.seg.0) refl (owner_known trace st n.seg.0 (sound.shape.placed n there).1)
    where
      go : (h : Heap) → owner_of trace st n.seg.0 ≡ h → IsHeap trace h → owner_of trace st n.seg.0 ≡ Kernel
      go Kernel e known = e
      go (User q) e known = absurd (false≢true (sym (owner_lives (process_count trace) st.ended st.phases n.seg.0 q.0 e) ∙ has_ended q.0 known))
      go (Shared s) e known =
          let made : phase_of st.phases s.0 ≢ Unmade = λ u. sound.phases.unmade_objects s.0 n u there e in
          let absorbed = not_live (phase_of st.phases s.0) (dead s.0 known) made in
          absurd (false≢true (sym (owner_stands (process_count trace) st.ended st.phases n.seg.0 s.0 e) ∙ ap is_absorbed absorbed))

  no_exit : (h : Heap) (n : Name) → has_exit st.exits h n ≡ false
  no_exit h n = false_from_ne_true _ (λ t. go h t (sound.shape.known.referring h n t))
    where
      go : (h : Heap) → IsTrue (has_exit st.exits h n) → IsHeap trace h → ⊥
      go Kernel t known = false≢true (sym (sound.exits.leave Kernel n t) ∙ ap (heap_eq Kernel) (of_kernel n (sound.no_dangling.exits Kernel n t)))
      go (User p) t known = false≢true (sym (sound.gone.exits p.0 n (has_ended p.0 known)) ∙ t)
      go (Shared s) t known = shared_none (phase_of st.phases s.0) refl
        where
          shared_none : (phase : Phase) → phase_of st.phases s.0 ≡ phase → ⊥
          shared_none Unmade e = false≢true (sym (none_of_count st.exits (Shared s) n (unmade s.0 e)) ∙ t)
          shared_none (Populating q) e = false≢true (sym (dead s.0 known) ∙ ap is_live e)
          shared_none (Frozen root) e = false≢true (sym (dead s.0 known) ∙ ap is_live e)
          shared_none Absorbed e = false≢true (sym (sound.gone.absorbed_exits s.0 n e) ∙ t)

  pub no_exits : st.exits ≡ []
  no_exits = no_items st.exits no_exit

  -- nothing is entered
  pub not_entered : (n : Name) → is_entered trace st n ≡ false
  unfolding is_entered
  not_entered n = ap₂ (λ exits b. has_entry (owner_of trace st) exits n || b) no_exits not_pinned
    where
      not_pinned : is_pinned (process_count trace) (owner_of trace st) st.registers n ≡ false
      not_pinned = false_from_ne_true _ (λ t. pinned_by 0 (process_count trace) (omega arith) t)
        where
          pinned_by : (first k : ℕ) → first + k ≤ process_count trace → IsTrue (list_any (λ p. not (heap_eq (user p) (owner_of trace st n.seg.0)) && in_registers st.registers p n) (numbers_from first k)) → ⊥
          pinned_by first zero low t = false≢true t
          pinned_by first (suc k) low t = elim (or_cases (not (heap_eq (user first) (owner_of trace st n.seg.0)) && in_registers st.registers first n) (list_any (λ p. not (heap_eq (user p) (owner_of trace st n.seg.0)) && in_registers st.registers p n) (numbers_from (suc first) k)) t) [
            | inl here ↦ false≢true (sym (sound.gone.registers first n (has_ended first (omega (arith, low)))) ∙ (and_parts (not (heap_eq (user first) (owner_of trace st n.seg.0))) (in_registers st.registers first n) here).1)
            | inr there ↦ pinned_by (suc first) k (omega (arith, low)) there
          ]

  no_charge : (p : ℕ) → p < process_count trace → charge_of trace st p ≡ 0
  no_charge p known = ap (λ b. cond b 0 (bytes_of trace st (user p) + total (λ (e : Sharing). bytes_of trace st (shared e.heap)) (filter (λ e. e.process == p) st.shares))) (has_ended p known)

  no_direct : (m : ℕ) → direct_by trace (charge_of trace st) m ≡ 0
  no_direct m =
      same_below (λ p. limit_of trace p == m) (charge_of trace st) (λ p. 0) 0 (process_count trace) (λ p inside t. no_charge p (omega (arith, inside)))
      ∙ zeros (filter (λ p. limit_of trace p == m) (numbers_below (process_count trace)))

  pub bare_uses : (m : ℕ) → use_of trace st m ≡ use_within (limits_in trace st) (λ q. 0) (length (limits_in trace st)) m
  bare_uses m = ap (λ direct. use_within (limits_in trace st) direct (length (limits_in trace st)) m) (fun_ext no_direct)
