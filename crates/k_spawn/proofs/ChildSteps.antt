-- What the operations of spawns and reapings are answered in the translation, and what they leave.
use Rattle.std.proofs.Common.{◌≡◌, ◌∙◌, ℕ, zero, suc, ◌+◌, ◌-◌, ◌<◌, ◌≤◌, ◌==◌, ◌&&◌, not, nat_lt, Bool, true, false, cond, List, [], ◌∷◌, find, length, get_or, Option, Some, None, refl, sym, ap, ap₂, arith, eq-eqb, IsTrue, ltb-true}
use Rattle.std.proofs.lemmas.Bool.{false_from_ne_true, lt-ltb, or_left, or_right}
use Rattle.k_types.specs.declared.event.Fault.TheVariants.{InUse, LimitNotBelow, ProcNotBelow}
use Rattle.k_types.specs.declared.event.Reply.TheVariants.{Done as DoneReply}
use Rattle.k_types.specs.declared.op.Op.TheVariants.{Kill, Resize}
use Rattle.k_types.specs.declared.setup.LimitRow.{LimitRow}
use Rattle.k_types.specs.Effects.{after_kill, after_operation, effect, effect_unless, step}
use Rattle.k_types.specs.FileOrder.{events_of}
use Rattle.k_types.specs.Limits.{full_above, full_for, full_limit, is_above, limits_in, max_of, path_of, use_of}
use Rattle.k_types.specs.Names.{among}
use Rattle.k_types.specs.Replies.{answer, fault_where, faults, first_fault, limit_fault, may_resize, refused_or, reply_to}
use Rattle.k_types.specs.Sound.{IsSound}
use Rattle.k_types.specs.State.{State}
use Rattle.k_types.specs.Steps.{run}
use Rattle.k_types.specs.Trace.{Trace, row_of}
use Rattle.k_types.specs.Updates.{count_done, set_max}
use Rattle.k_types.proofs.Charges.{path_low}
use Rattle.k_types.proofs.Maxima.{length_in, tree_in}
use Rattle.k_spawn.specs.Families.{parent_of}
use Rattle.k_spawn.specs.Scripts.{Script, family, limit_for}
use Rattle.k_spawn.specs.Translation.{limit_id, translation}
use Rattle.k_spawn.specs.Tree.{spawn_reply}
use Rattle.k_spawn.proofs.ChildTree.{all_processes, child_limit_known, first_child, parent_is, row_is}
use Rattle.k_spawn.proofs.Level.{IsPlaced}
use Rattle.k_spawn.proofs.UnusedLimit.{max_at}

-- nothing is found where nothing passes
none_found : (test : ℕ → Bool) (xs : List ℕ) → ((q : ℕ) → IsTrue (among q xs) → test q ≡ false) → find test xs ≡ None
none_found test [] none = refl
none_found test (x ∷ xs) none =
    ap (λ b. cond b (Some x) (find test xs)) (none x (or_left (x == x) _ (eq-eqb x x refl)))
    ∙ none_found test xs (λ q t. none q (or_right (x == q) _ t))

no_less : (n : ℕ) → nat_lt n 0 ≡ false
no_less n = false_from_ne_true _ (λ t. let less = ltb-true n 0 t in absurd (omega (arith, less)))

module _ (trace : Trace) (st : State) (p : ℕ) where
  first_limit : (o : Option ℕ) → first_fault (limit_fault o ∷ None ∷ None ∷ []) ≡ limit_fault o
  unfolding first_fault
  first_limit None = refl
  first_limit (Some q) = refl

  -- a limit below that of the process that has no use is refused where it doesn't fit alone
  pub resize_faults : (m max : ℕ) → IsTrue (may_resize trace p m) → use_of trace st m ≡ 0 → first_fault (faults trace st p (Resize (record { 0 = m }) max)) ≡ limit_fault (full_for trace st m max)
  unfolding faults fault_where
  resize_faults m max may unused =
      ap (λ b. first_fault (cond b (limit_fault (full_for trace st m max)) None ∷ fault_where (not b) (LimitNotBelow (record { 0 = m })) ∷ fault_where (b && nat_lt max (use_of trace st m)) (InUse (record { 0 = m })) ∷ [])) may
      ∙ ap (λ n. first_fault (limit_fault (full_for trace st m max) ∷ None ∷ fault_where (nat_lt max n) (InUse (record { 0 = m })) ∷ [])) unused
      ∙ ap (λ b. first_fault (limit_fault (full_for trace st m max) ∷ None ∷ fault_where b (InUse (record { 0 = m })) ∷ [])) (no_less max)
      ∙ first_limit (full_for trace st m max)

  -- the maximum, unless a limit is full
  abbrev pub unless_full : Option ℕ → ℕ → ℕ → State → State
  unless_full None m max st = set_max m max st
  unless_full (Some full) m max st = st

  pub resized : (m max : ℕ) (full : Option ℕ) → first_fault (faults trace st p (Resize (record { 0 = m }) max)) ≡ limit_fault full →
      run trace st (events_of trace st p (Some (Resize (record { 0 = m }) max))) ≡ count_done p (unless_full full m max st)
  unfolding step after_operation effect
  resized m max full e = ap (λ f. count_done p (effect_unless f trace p (Resize (record { 0 = m }) max) st)) e ∙ go full
    where
      go : (o : Option ℕ) → count_done p (effect_unless (limit_fault o) trace p (Resize (record { 0 = m }) max) st) ≡ count_done p (unless_full o m max st)
      go None = refl
      go (Some q) = refl

  pub resize_said : (m max : ℕ) (full : Option ℕ) → first_fault (faults trace st p (Resize (record { 0 = m }) max)) ≡ limit_fault full → reply_to trace st p (Resize (record { 0 = m }) max) ≡ spawn_reply full
  unfolding reply_to answer
  resize_said m max full e = ap (λ f. refused_or f DoneReply) e ∙ go full
    where
      go : (o : Option ℕ) → refused_or (limit_fault o) DoneReply ≡ spawn_reply o
      go None = refl
      go (Some q) = refl

  kill_faults : (q : ℕ) → IsTrue (is_above trace p q) → first_fault (faults trace st p (Kill (record { 0 = q }))) ≡ None
  unfolding faults first_fault fault_where
  kill_faults q above = ap (λ b. first_fault (fault_where (not b) (ProcNotBelow (record { 0 = q })) ∷ [])) above

  pub killed : (q : ℕ) → IsTrue (is_above trace p q) → run trace st (events_of trace st p (Some (Kill (record { 0 = q })))) ≡ count_done p (after_kill trace q st)
  unfolding step after_operation effect
  killed q above = ap (λ f. count_done p (effect_unless f trace p (Kill (record { 0 = q })) st)) (kill_faults q above)

  pub kill_said : (q : ℕ) → IsTrue (is_above trace p q) → reply_to trace st p (Kill (record { 0 = q })) ≡ DoneReply
  unfolding reply_to answer
  kill_said q above = ap (λ f. refused_or f DoneReply) (kill_faults q above)

-- no bytes at all are never too many
pub zero_full : (trace : Trace) (st : State) (m : ℕ) → full_for trace st m 0 ≡ None
zero_full trace st m =
    ap (λ b. cond ((row_of trace.limits m).hard && b) (full_above trace st (row_of trace.limits m).parent (0 - max_of (limits_in trace st) m)) None) (no_less (max_of (limits_in trace st) m))
    ∙ (elim (row_of trace.limits m).hard as (λ b. cond (b && false) (full_above trace st (row_of trace.limits m).parent (0 - max_of (limits_in trace st) m)) None ≡ None) [ true ↦ refl | false ↦ refl ])

-- where uses fit, nothing at all fits everywhere
module _ (s : Script) (placed : IsPlaced s) (x : State) (sound : IsSound (translation s).trace x) where
  abbrev a : Trace
  a = (translation s).trace

  nothing_full : (m : ℕ) → m < length a.limits → full_limit a x m 0 ≡ None
  nothing_full m known = none_found (λ q. nat_lt (max_of (limits_in a x) q) (use_of a x q + 0)) (path_of (limits_in a x) m) (λ q there. false_from_ne_true _ (λ t.
      let long : length (limits_in a x) ≡ length a.limits = length_in a.limits x.maxima in
      let le : q ≤ m = path_low (limits_in a x) (tree_in a.limits x.maxima placed.limits.tree) (length (limits_in a x)) m q (omega (arith, long, known)) there in
      let fits : use_of a x q ≤ max_of (limits_in a x) q = sound.uses q (omega (arith, le, known)) in
      let less = ltb-true (max_of (limits_in a x) q) (use_of a x q + 0) t in
      absurd (omega (arith, fits, less))))

  module _ (c : ℕ) (low : first_child s ≤ c) (high : c < all_processes s) (none : get_or x.maxima (limit_for s c) 0 ≡ 0) where
    abbrev up : ℕ
    up = limit_for s (parent_of (family s) c)

    max_none : max_of (limits_in a x) (limit_for s c) ≡ 0
    max_none = max_at a.limits x.maxima (limit_for s c) (child_limit_known s c low high) sound.shape.sized.maxima ∙ none

    full_is : (max : ℕ) → full_for a x (limit_for s c) max ≡ cond (nat_lt 0 max) (full_limit a x up (max - 0)) None
    full_is max =
        ap (λ (row : LimitRow). cond (row.hard && nat_lt (max_of (limits_in a x) (limit_for s c)) max) (full_above a x row.parent (max - max_of (limits_in a x) (limit_for s c))) None) (row_is s c low high)
        ∙ ap (λ n. cond (nat_lt n max) (full_limit a x up (max - n)) None) max_none

    up_known : up < length a.limits
    up_known =
        let below : up < limit_for s c = placed.limits.tree (limit_for s c) (limit_id s (parent_of (family s) c)) (child_limit_known s c low high) (parent_is s c low high) in
        let known = child_limit_known s c low high in
        omega (arith, below, known)

    -- a child that has no maximum gets one where it fits at its parent's limit
    pub child_full : (max : ℕ) → full_for a x (limit_for s c) max ≡ full_limit a x up max
    child_full zero = zero_full a x (limit_for s c) ∙ sym (nothing_full up up_known)
    child_full (suc n) =
        let all : suc n - 0 ≡ suc n = omega arith in
        full_is (suc n) ∙ ap₂ (λ b k. cond b (full_limit a x up k) None) (lt-ltb 0 (suc n) (omega arith)) all
