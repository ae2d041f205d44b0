-- While the cell of a process is not touched, what its next operation touches changes at most once: to the kernel's cell, or
-- for a kill to none, where the target has ended.
use Rattle.std.proofs.Common.{◌≡◌, ◌≢◌, ◌⊎◌, ℕ, ◌+◌, ◌==◌, ◌&&◌, ◌||◌, not, Bool, true, false, cond, refl, sym, subst, ap, ◌∙◌, inl, inr, List, [], ◌∷◌, ◌++◌, Option, Some, None, arith, IsTrue, IsFalse}
use Rattle.std.proofs.lemmas.Bool.{or_left, or_parts, not-false, false≢true, false_from_ne_true}
use Rattle.std.proofs.Math.Bool.{and-true, or-false}
use Rattle.std.proofs.lemmas.List.Folds.{list_any-append}
use Rattle.k_types.specs.declared.names.Name.{Name}
use Rattle.k_types.specs.declared.names.Heap.{Heap}
use Rattle.k_types.specs.declared.names.Heap.TheVariants.{Kernel, User, Shared}
use Rattle.k_types.specs.declared.names.Pid.{Pid}
use Rattle.k_types.specs.declared.names.Phase.{Phase}
use Rattle.k_types.specs.declared.names.Phase.TheVariants.{Unmade, Populating, Frozen, Absorbed}
use Rattle.k_types.specs.declared.op.Op.{Op}
use Rattle.k_types.specs.declared.op.Op.TheVariants.{Store, Load, Put, Get, Share, Freeze, Attach, Exit, Kill}
use Rattle.k_types.specs.declared.event.Event.{Event}
use Rattle.k_types.specs.declared.event.Event.TheVariants.{Done, Ended, Absorbed as AbsorbedEvent, Closing}
use Rattle.k_types.specs.declared.event.Fault.{Fault}
use Rattle.k_types.specs.declared.event.Fault.TheVariants.{ProcNotBelow}
use Rattle.std.specs.List.{list_any}
use Rattle.k_types.specs.Cells.{Cell, CellPart, access_cell, base_cell, cells_touched, other_cells, part, touches}
use Rattle.k_types.specs.Effects.{after_absorbed, after_closing, after_end_of, after_ended, after_kill, after_operation, effect, effect_unless, share_stays, step}
use Rattle.k_types.specs.Limits.{is_above}
use Rattle.k_types.specs.Names.{among, heap_eq}
use Rattle.k_types.specs.Owners.{is_absorbed, owner_of, owner_of_segment, phase_of, shared, user}
use Rattle.k_types.specs.Replies.{ends_other, faults, first_fault}
use Rattle.k_types.specs.State.{Sharing, State, has_share, opening, register}
use Rattle.k_types.specs.Steps.{IsLegalHistory, run, state_after, touch_count, touch_count_from}
use Rattle.k_types.specs.Trace.{Trace, process_count}
use Rattle.k_types.specs.TraceRules.{AreLimits}
use Rattle.k_types.specs.Updates.{add_share, clear_registers, close, close_scan, count_done, create, end_process, keep_exits, keep_objects, keep_shares, open_scan, set_max, set_phase, set_register, turn_exits}
use Rattle.k_laws.proofs.FrameSteps.{none_on}
use Rattle.k_laws.proofs.Histories.{run_append}
use Rattle.k_laws.proofs.Kept.{has_share-kept}
use Rattle.k_laws.proofs.Rest.{freeze_rest, put_rest, store_rest}
use Rattle.k_laws.proofs.Untouched.{none_touch, untouched}
use Rattle.k_laws.specs.PartUpdates.{held_in}
use Rattle.k_laws.proofs.SoundSteps.{legal_sound}
use Rattle.k_laws.specs.Kept.{KeepsOrGives}
use Rattle.k_laws.specs.Reached.{StaysOrEnds, StaysOrTurns}
use Rattle.k_laws.proofs.Owning.{owner_after, stays_ended}
use Rattle.k_types.proofs.Shares.{sharer_of}

-- a share of another process leaves whether the process has one
added_apart : (shares : List Sharing) (q p t s : ℕ) → IsFalse (q == p) → has_share (shares ++ record { process = q; heap = t } ∷ []) p s ≡ has_share shares p s
added_apart shares q p t s apart =
    list_any-append (λ e. (e.process == p) && (e.heap == s)) shares (record { process = q; heap = t } ∷ [])
    ∙ ap (λ b. has_share shares p s || ((b && (t == s)) || false)) apart
    ∙ or-false (has_share shares p s)

module _ (trace : Trace) (p s : ℕ) where
  shares_of : State → Bool
  shares_of st = has_share st.shares p s

  add_apart : (st : State) (q t : ℕ) → IsFalse (q == p) → shares_of (add_share q t st) ≡ shares_of st
  unfolding shares_of add_share
  add_apart st q t apart = elim (has_share st.shares q t) as (λ b. has_share (cond b st.shares (st.shares ++ record { process = q; heap = t } ∷ [])) p s ≡ has_share st.shares p s) [
    | true ↦ refl
    | false ↦ added_apart st.shares q p t s apart
  ]

  exit_apart : (st : State) (q : ℕ) → IsFalse (q == p) → shares_of (after_end_of trace q st) ≡ shares_of st
  unfolding shares_of after_end_of end_process clear_registers keep_shares turn_exits
  exit_apart st q apart =
      has_share-kept (λ e. not (e.process == q)) st.shares p s
      ∙ ap (λ b. has_share st.shares p s && not b) (swap ∙ apart)
      ∙ and-true (has_share st.shares p s)
    where
      swap : (p == q) ≡ (q == p)
      swap = grind arith

  -- a kill that does not touch the process's cell ends another one, or nobody
  kill_apart : (st : State) (q k : ℕ) → is_above trace q k ≡ true → IsFalse (list_any (λ c. heap_eq c (user p)) (cond (ends_other trace st q k) (user k ∷ Kernel ∷ []) [])) →
      shares_of (after_kill trace k st) ≡ shares_of st
  unfolding after_kill
  kill_apart st q k above u = go (among k st.ended) (subst (λ b. IsFalse (list_any (λ c. heap_eq c (user p)) (cond (b && not (among k st.ended)) (user k ∷ Kernel ∷ []) []))) above u)
    where
      go : (b : Bool) → IsFalse (list_any (λ c. heap_eq c (user p)) (cond (not b) (user k ∷ Kernel ∷ []) [])) → shares_of (cond b st (after_end_of trace k st)) ≡ shares_of st
      go true u = refl
      go false u = exit_apart st k (or_parts (k == p) _ u).0

  effect_shares : (st : State) (q : ℕ) (op : Op) → IsFalse (q == p) → first_fault (faults trace st q op) ≡ None → IsFalse (list_any (λ c. heap_eq c (user p)) (other_cells trace st q op)) →
      shares_of (effect trace q op st) ≡ shares_of st
  unfolding shares_of effect set_register create open_scan set_max set_phase faults other_cells
  effect_shares st q (Store base i value) apart e u = ap (λ (su : State). has_share su.shares p s) (store_rest trace st (register st.registers q base.0) i (register st.registers q value.0))
  effect_shares st q (Put base i number) apart e u = ap (λ (su : State). has_share su.shares p s) (put_rest st (register st.registers q base.0) i number)
  effect_shares st q (Share t) apart e u = add_apart (set_phase t.0 (Populating (record { 0 = q })) st) q t.0 apart
  effect_shares st q (Freeze t root) apart e u = ap (λ (su : State). has_share su.shares p s) (freeze_rest st t.0 (register st.registers q root.0))
  effect_shares st q (Attach r t) apart e u = add_apart st q t.0 apart
  effect_shares st q Exit apart e u = exit_apart st q apart
  effect_shares st q (Kill k) apart e u = kill_apart st q k.0 (not-false _ (none_on (not (is_above trace q k.0)) (ProcNotBelow k) [] e).0) u
  effect_shares st q _ apart e u = refl

  unless_shares : (f : Option Fault) (st : State) (q : ℕ) (op : Op) → IsFalse (q == p) → first_fault (faults trace st q op) ≡ f → IsFalse (list_any (λ c. heap_eq c (user p)) (other_cells trace st q op)) →
      shares_of (effect_unless f trace q op st) ≡ shares_of st
  unless_shares None st q op apart e u = effect_shares st q op apart e u
  unless_shares (Some f) st q op apart e u = refl

  -- an event that does not touch the process's cell leaves what it shares
  step_shares : (st : State) (event : Event) → IsFalse (touches trace st event (user p)) → shares_of (step trace st event) ≡ shares_of st
  unfolding shares_of cells_touched step after_operation count_done after_ended after_absorbed after_closing close_scan keep_shares keep_exits keep_objects close set_phase open_scan share_stays
  step_shares st (Done pid op said) apart =
      let parts = or_parts (pid.0 == p) (list_any (λ c. heap_eq c (user p)) (other_cells trace st pid.0 op)) apart in
      unless_shares (first_fault (faults trace st pid.0 op)) st pid.0 op parts.0 refl parts.1
  step_shares st (Ended h a b c d) apart =
      has_share-kept (share_stays trace st h) st.shares p s
      ∙ ap (λ b. has_share st.shares p s && b) (or_left _ _ (or_left _ _ (or_left _ _ (ap not (or_parts (heap_eq h (user p)) false apart).0))))
      ∙ and-true (has_share st.shares p s)
  step_shares st (AbsorbedEvent t) apart = refl
  step_shares st Closing apart = refl

  run_shares : (st : State) (events : List Event) → touch_count_from trace st (user p) events ≡ 0 → shares_of (run trace st events) ≡ shares_of st
  run_shares st [] none = refl
  run_shares st (event ∷ events) none =
      elim (touches trace st event (user p)) as (λ b. touches trace st event (user p) ≡ b → cond b 1 0 + touch_count_from trace (step trace st event) (user p) events ≡ 0
      → shares_of (run trace (step trace st event) events) ≡ shares_of st) [
        | true ↦ λ t n. absurd (omega arith)
        | false ↦ λ f n. run_shares (step trace st event) events (omega arith) ∙ step_shares st event f
      ] refl none

owner_over : (trace : Trace) (st : State) (events : List Event) (seg : ℕ) → KeepsOrGives trace st (run trace st events) seg
owner_over trace st [] seg = inl refl
owner_over trace st (event ∷ events) seg = elim (owner_over trace (step trace st event) events seg) [
  | inl same ↦ elim (owner_after trace st event seg) [ inl before ↦ inl (same ∙ before) | inr given ↦ inr (same ∙ given) ]
  | inr given ↦ inr given
]

-- a segment of a shared heap that becomes the kernel's is that of one that was absorbed
absorbed_by : (procs : ℕ) (ended ended' : List ℕ) (phases phases' : List Phase) (seg s : ℕ) →
    owner_of_segment procs ended phases seg ≡ shared s → owner_of_segment procs ended' phases' seg ≡ Kernel → IsTrue (is_absorbed (phase_of phases' s))
unfolding owner_of_segment
absorbed_by procs ended ended' phases phases' seg s e gone = grind arith

phase_absorbed : (phase : Phase) → IsTrue (is_absorbed phase) → phase ≡ Absorbed
phase_absorbed Unmade t = absurd (false≢true t)
phase_absorbed (Populating q) t = absurd (false≢true t)
phase_absorbed (Frozen root) t = absurd (false≢true t)
phase_absorbed Absorbed t = refl

module _ (trace : Trace) (known rest : List Event) (p : ℕ) (limits : AreLimits trace) (legal : IsLegalHistory trace (known ++ rest))
    (held : touch_count trace (user p) (known ++ rest) ≡ touch_count trace (user p) known) where
  abbrev before : State
  before = state_after trace known

  abbrev after : State
  after = state_after trace (known ++ rest)

  same_register : (r : ℕ) → register after.registers p r ≡ register before.registers p r
  unfolding part
  same_register r = ap (λ (c : CellPart). held_in c.process r) (untouched trace (user p) known rest legal held)

  same_share : (s : ℕ) → has_share after.shares p s ≡ has_share before.shares p s
  unfolding shares_of
  same_share s = ap (λ (st : State). has_share st.shares p s) (run_append trace (opening trace) known rest) ∙ run_shares trace p s before rest (none_touch trace (user p) known rest held)

  owner_now : (seg : ℕ) → KeepsOrGives trace before after seg
  owner_now seg = elim (owner_over trace before rest seg) [
    | inl same ↦ inl (ap (λ (st : State). owner_of trace st seg) (run_append trace (opening trace) known rest) ∙ same)
    | inr given ↦ inr (ap (λ (st : State). owner_of trace st seg) (run_append trace (opening trace) known rest) ∙ given)
  ]

  same_base : (h : Heap) → base_cell after p h ≡ base_cell before p h
  same_base Kernel = refl
  same_base (User q) = refl
  same_base (Shared s) = ap (λ b. cond b (Shared s ∷ []) []) (same_share s.0)

  -- a heap that the process shares is not absorbed
  not_gone : (seg s : ℕ) → owner_of trace before seg ≡ shared s → owner_of trace after seg ≡ Kernel → IsFalse (has_share before.shares p s)
  not_gone seg s own gone =
      let sound = legal_sound trace (known ++ rest) limits legal in
      let phase = phase_absorbed (phase_of after.phases s) (absorbed_by (process_count trace) before.ended after.ended before.phases after.phases seg s own gone) in
      false_from_ne_true _ (λ t. false≢true (sym (sound.gone.absorbed_shares s phase) ∙ sharer_of after.shares p s (same_share s ∙ t)))

  given_base : (seg : ℕ) (h : Heap) → owner_of trace before seg ≡ h → owner_of trace after seg ≡ Kernel → StaysOrTurns (base_cell before p h) (Kernel ∷ [])
  given_base seg Kernel own gone = inl refl
  given_base seg (User q) own gone = inr (refl, refl)
  given_base seg (Shared s) own gone = inr (ap (λ b. cond b (Shared s ∷ []) []) (not_gone seg s.0 own gone), refl)

  object_cell : (n : Name) → StaysOrTurns (base_cell before p (owner_of trace before n.seg.0)) (base_cell after p (owner_of trace after n.seg.0))
  object_cell n = elim (owner_now n.seg.0) [
    | inl same ↦ inl (ap (λ h. base_cell after p h) same ∙ same_base (owner_of trace before n.seg.0))
    | inr given ↦ subst (λ h. StaysOrTurns (base_cell before p (owner_of trace before n.seg.0)) (base_cell after p h)) (sym given)
        (given_base n.seg.0 (owner_of trace before n.seg.0) refl given)
  ]

  accessed : (x : Option Name) → StaysOrTurns (access_cell trace before p x) (access_cell trace after p x)
  accessed None = inl refl
  accessed (Some n) = object_cell n

  through : (r : ℕ) → StaysOrTurns (access_cell trace before p (register before.registers p r)) (access_cell trace after p (register after.registers p r))
  through r = subst (λ x. StaysOrTurns (access_cell trace before p (register before.registers p r)) (access_cell trace after p x)) (sym (same_register r)) (accessed (register before.registers p r))

  pub cells_turn_once : (op : Op) → ((q : Pid) → op ≢ Kill q) → StaysOrTurns (other_cells trace before p op) (other_cells trace after p op)
  unfolding other_cells
  cells_turn_once (Store base i value) other = through base.0
  cells_turn_once (Load r base i) other = through base.0
  cells_turn_once (Put base i number) other = through base.0
  cells_turn_once (Get base i) other = through base.0
  cells_turn_once (Kill q) other = absurd (other q refl)
  cells_turn_once _ other = inl refl

-- where who has ended stays ended, cells that an operation has of one that lives stay, or go with its end
ends_once : (cells : List Cell) (may gone gone' : Bool) → (IsTrue gone → IsTrue gone') →
    (cond (may && not gone') cells [] ≡ cond (may && not gone) cells []) ⊎ ((cond (may && not gone) cells [] ≡ cells) × (cond (may && not gone') cells [] ≡ []) × IsTrue gone')
ends_once cells false gone gone' stays = inl refl
ends_once cells true true true stays = inl refl
ends_once cells true true false stays = absurd (false≢true (stays refl))
ends_once cells true false true stays = inr (refl, refl, refl)
ends_once cells true false false stays = inl refl

-- the cells of a kill stay, or they go where its target has ended
pub cells_end_once : (trace : Trace) (known rest : List Event) (p : ℕ) (q : Pid) →
    StaysOrEnds q (state_after trace (known ++ rest)) (other_cells trace (state_after trace known) p (Kill q)) (other_cells trace (state_after trace (known ++ rest)) p (Kill q))
unfolding other_cells
cells_end_once trace known rest p q =
    ends_once (User q ∷ Kernel ∷ []) (is_above trace p q.0) (among q.0 (state_after trace known).ended) (among q.0 (state_after trace (known ++ rest)).ended) (stays_ended trace known rest q.0)
