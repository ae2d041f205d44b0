-- A kill of a child: the same in both machines where it is there, and no change but of who has ended where it did nothing.
use Rattle.std.proofs.Common.{◌≡◌, ◌∙◌, ℕ, ◌==◌, ◌&&◌, ◌||◌, not, Bool, true, false, cond, List, [], ◌∷◌, ◌++◌, filter, filter_map, replicate, set, Some, None, refl, sym, ap, ap₂, eq-eqb, eqb-true, IsFalse}
use Rattle.std.proofs.lemmas.Bool.{false≢true, false_from_ne_true, or_parts, and_right}
use Rattle.std.proofs.lemmas.List.{set-get_or}
use Rattle.std.proofs.lemmas.List.Folds.{list_any-append}
use Rattle.k_types.specs.declared.names.Name.{Name}
use Rattle.k_types.specs.declared.names.Heap.TheVariants.{Kernel}
use Rattle.k_types.specs.declared.setup.LimitRow.{LimitRow}
use Rattle.k_types.specs.Bounds.{register_count}
use Rattle.k_types.specs.Effects.{after_end_of, after_kill, exit_after, leads_back, passes_to_kernel}
use Rattle.k_types.specs.Names.{among, heap_eq}
use Rattle.k_types.specs.Owners.{owner_of, user}
use Rattle.k_types.specs.Sound.{IsSound}
use Rattle.k_types.specs.State.{ExitItem, Sharing, State, has_exit, has_share}
use Rattle.k_types.specs.Trace.{Trace}
use Rattle.k_types.specs.Updates.{clear_registers, end_process, keep_shares, turn_exits}
use Rattle.k_types.proofs.Charges.{or_none}
use Rattle.k_types.proofs.NameTests.{heap_eq-true}
use Rattle.k_laws.proofs.Means.{is_own_if}
use Rattle.k_spawn.proofs.Agreeing.{all_exits, turned_agree}
use Rattle.k_spawn.proofs.Twins.{OwnsAlike, exited_twin, twin, with_limits}
use Rattle.k_spawn.proofs.Unborn.{IsUnborn, no_objects}

-- those who have ended behind a kill
abbrev pub with_ended : List ℕ → ℕ → List ℕ
with_ended ended c = cond (among c ended) ended (ended ++ c ∷ [])

pub ended_one : (ended : List ℕ) (c q : ℕ) → among q (with_ended ended c) ≡ (among q ended || (c == q))
ended_one ended c q = go (among c ended) refl
  where
    known : (b : Bool) → (c == q) ≡ b → among c ended ≡ true → among q ended ≡ (among q ended || b)
    known false e t = sym (or_none (among q ended))
    known true e t = let same : c ≡ q = eqb-true c q e in let there : among q ended ≡ true = ap (λ n. among n ended) (sym same) ∙ t in there ∙ sym (ap (λ b. b || true) there)

    go : (b : Bool) → among c ended ≡ b → among q (cond b ended (ended ++ c ∷ [])) ≡ (among q ended || (c == q))
    go true e = known (c == q) refl e
    go false e = list_any-append (λ m. m == q) ended (c ∷ []) ∙ ap (λ b. among q ended || b) (or_none (c == q))

pub killed_who : (trace : Trace) (x : State) (c : ℕ) → (after_kill trace c x).ended ≡ with_ended x.ended c
unfolding after_kill after_end_of end_process clear_registers keep_shares turn_exits
killed_who trace x c = elim (among c x.ended) as (λ b. (cond b x (after_end_of trace c x)).ended ≡ cond b x.ended (x.ended ++ c ∷ [])) [ true ↦ refl | false ↦ refl ]

module _ (trace : Trace) (rows : List LimitRow) (x : State) (ended done : List ℕ) (alike : OwnsAlike trace x ended) (c : ℕ) where
  -- where it has ended in both or in none
  pub kill_twin : among c ended ≡ among c x.ended → after_kill (with_limits trace rows) c (twin x ended done) ≡ twin (after_kill trace c x) (with_ended ended c) done
  unfolding after_kill
  kill_twin same =
      (elim (among c ended) as (λ b. cond b (twin x ended done) (after_end_of (with_limits trace rows) c (twin x ended done)) ≡ twin (cond b x (after_end_of trace c x)) (cond b ended (ended ++ c ∷ [])) done) [
        | true ↦ refl
        | false ↦ exited_twin trace rows x ended done alike c
      ])
      ∙ ap (λ b. twin (cond b x (after_end_of trace c x)) (with_ended ended c) done) same

-- where it did nothing
module _ (trace : Trace) (x : State) (sound : IsSound trace x) (c : ℕ) (unborn : IsUnborn x c) (no_exits : (n : Name) → IsFalse (has_exit x.exits (user c) n)) where
  own_exit : (e : ExitItem) → has_exit x.exits e.heap e.target ≡ true → exit_after trace x c e ≡ Some e
  own_exit e there =
      ap (λ b. cond b (cond (passes_to_kernel trace x e.target) (Some (record e { heap = Kernel })) None) (cond (leads_back trace x c e) None (Some e))) apart
      ∙ ap (λ b. cond (heap_eq e.heap Kernel && b) None (Some e)) outside
      ∙ ap (λ b. cond b None (Some e)) (and_right (heap_eq e.heap Kernel) false refl)
    where
      apart : heap_eq e.heap (user c) ≡ false
      apart = false_from_ne_true _ (λ same. false≢true (sym (no_exits e.target) ∙ ap (λ h. has_exit x.exits h e.target) (sym (heap_eq-true e.heap (user c) same)) ∙ there))

      outside : heap_eq (owner_of trace x e.target.seg.0) (user c) ≡ false
      outside = false_from_ne_true _ (λ same. no_objects trace c x sound unborn e.target (sound.no_dangling.exits e.heap e.target there)
          (eqb-true _ _ (is_own_if trace x c e.target (heap_eq-true (owner_of trace x e.target.seg.0) (user c) same))))

  all_some : (exits : List ExitItem) → filter_map (λ e. Some e) exits ≡ exits
  all_some [] = refl
  all_some (e ∷ exits) = ap (λ rest. e ∷ rest) (all_some exits)

  exits_stay : filter_map (exit_after trace x c) x.exits ≡ x.exits
  exits_stay = turned_agree (exit_after trace x c) (λ e. Some e) x.exits (all_exits (λ e. exit_after trace x c e ≡ Some e) x.exits own_exit) ∙ all_some x.exits

  shares_stay : (shares : List Sharing) → ((t : ℕ) → IsFalse (has_share shares c t)) → filter (λ e. not (e.process == c)) shares ≡ shares
  shares_stay [] none = refl
  shares_stay (e ∷ shares) none =
      ap (λ b. cond (not b) (e ∷ filter (λ d. not (d.process == c)) shares) (filter (λ d. not (d.process == c)) shares)) (apart (e.process == c) (or_parts _ _ (none e.heap)).0)
      ∙ ap (λ rest. e ∷ rest) (shares_stay shares (λ t. (or_parts ((e.process == c) && (e.heap == t)) (has_share shares c t) (none t)).1))
    where
      apart : (b : Bool) → (b && (e.heap == e.heap)) ≡ false → b ≡ false
      apart false f = refl
      apart true f = absurd (false≢true (sym f ∙ eq-eqb e.heap e.heap refl))

  registers_stay : set x.registers c (replicate register_count None) ≡ x.registers
  registers_stay = ap (set x.registers c) (sym unborn.registers) ∙ set-get_or x.registers c []

  pub nothing_ends : after_kill trace c x ≡ record x { ended = with_ended x.ended c }
  unfolding after_kill after_end_of end_process clear_registers keep_shares turn_exits
  nothing_ends =
      ap (λ (exits : List ExitItem). cond (among c x.ended) x (record x { exits = exits; shares = filter (λ e. not (e.process == c)) x.shares; registers = set x.registers c (replicate register_count None); ended = x.ended ++ c ∷ [] })) exits_stay
      ∙ ap₂ (λ (shares : List Sharing) registers. cond (among c x.ended) x (record x { shares = shares; registers = registers; ended = x.ended ++ c ∷ [] })) (shares_stay x.shares unborn.shares) registers_stay
      ∙ (elim (among c x.ended) as (λ b. cond b x (record x { ended = x.ended ++ c ∷ [] }) ≡ record x { ended = cond b x.ended (x.ended ++ c ∷ []) }) [ true ↦ refl | false ↦ refl ])
