-- A sound state stays sound where a limit gets another maximum, and what that makes of the uses.
use Rattle.std.proofs.Common.{◌≡◌, ◌≢◌, ℕ, zero, suc, ◌+◌, ◌-◌, ◌*◌, ◌<◌, ◌≤◌, ◌&&◌, ◌⊎◌, Bool, true, false, cond, refl, sym, ap, ap₂, ◌∙◌, List, length, Option, Some, None, nat_lt, arith, inl, inr, IsTrue, IsFalse, subst, length-set, ltb-false, ltb-true}
use Rattle.std.proofs.lemmas.Bool.{lt-ltb, cases_Bool, cases_eq, false≢true, false_from_ne_true}
use Rattle.k_types.specs.declared.names.LimitId.{LimitId}
use Rattle.k_types.specs.declared.setup.LimitRow.{LimitRow}
use Rattle.k_types.specs.Names.{among}
use Rattle.k_types.specs.TraceRules.{AreLimits}
use Rattle.k_types.specs.Trace.{Trace, row_of}
use Rattle.k_types.specs.State.{State}
use Rattle.k_types.specs.Owners.{charge_of, bytes_by}
use Rattle.k_types.specs.Limits.{limits_in, use_of, use_within, direct_by, full_limit, full_above, path_of, max_of, ancestors_within, ancestors_above}
use Rattle.k_types.specs.Reach.{is_entered, is_held}
use Rattle.k_types.specs.Updates.{set_max}
use Rattle.k_types.specs.Sound.{IsSound}
use Rattle.k_laws.specs.Changes.{MayResize}
use Rattle.k_laws.specs.Resizing.{reserves_at, reserves_by, MovesTheReservation}
use Rattle.k_types.proofs.Charges.{path_low}
use Rattle.k_types.proofs.Maxima.{length_in, parent_in, hard_in, tree_in, max_set, max_set_other}
use Rattle.k_types.proofs.Resized.{uses_stay, use_moved}
use Rattle.k_laws.proofs.Exact.{counted_exact}
use Rattle.k_laws.proofs.Raised.{not_found}
use Rattle.k_laws.proofs.UsesRaised.{times}

-- a limit with a limit above it has a parent
pub has_parent : (rows : List LimitRow) (depth m upper : ℕ) → IsTrue (among upper (ancestors_within rows depth m)) → (parent : LimitId) × ((row_of rows m).parent ≡ Some parent)
unfolding ancestors_within
has_parent rows zero m upper t = absurd (false≢true t)
has_parent rows (suc depth) m upper t = go (row_of rows m).parent refl t
  where
    go : (o : Option LimitId) → (row_of rows m).parent ≡ o → IsTrue (among upper (ancestors_above (ancestors_within rows depth) o)) → (parent : LimitId) × ((row_of rows m).parent ≡ Some parent)
    go None e t = absurd (false≢true t)
    go (Some parent) e t = (parent, e)

module _ (trace : Trace) (rules_hold : AreLimits trace) (st : State) (m max : ℕ) (known : m < length trace.limits) (sized : length st.maxima ≡ length trace.limits) where
  abbrev rows : List LimitRow
  rows = limits_in trace st

  abbrev others : List LimitRow
  others = limits_in trace (set_max m max st)

  long : length others ≡ length rows
  long = length_in trace.limits (set_max m max st).maxima ∙ sym (length_in trace.limits st.maxima)

  parents : (c : ℕ) → (row_of others c).parent ≡ (row_of rows c).parent
  parents c = parent_in trace.limits (set_max m max st).maxima c ∙ sym (parent_in trace.limits st.maxima c)

  hard : (c : ℕ) → (row_of others c).hard ≡ (row_of rows c).hard
  hard c = hard_in trace.limits (set_max m max st).maxima c ∙ sym (hard_in trace.limits st.maxima c)

  pub own_max : max_of others m ≡ max
  unfolding set_max
  own_max = max_set trace.limits st.maxima m max known sized

  pub other_max : (c : ℕ) → c ≢ m → max_of others c ≡ max_of rows c
  unfolding set_max
  other_max c ne = max_set_other trace.limits st.maxima m max c ne

  -- a soft limit's maximum is seen by its own tests alone
  soft_uses : (row_of trace.limits m).hard ≡ false → (q : ℕ) → use_of trace (set_max m max st) q ≡ use_of trace st q
  unfolding set_max bytes_by
  soft_uses soft q =
      ap (λ depth. use_within others (direct_by trace (charge_of trace st)) depth q) long
      ∙ uses_stay rows others long parents hard
      (λ c is. other_max c (λ e. false≢true (sym (ap (λ k. (row_of rows k).hard) e ∙ hard_in trace.limits st.maxima m ∙ soft) ∙ is)))
      (direct_by trace (charge_of trace st)) (length rows) q

  -- a hard limit's is reserved on its parent's path
  hard_uses : (parent : LimitId) → (row_of trace.limits m).parent ≡ Some parent → (row_of trace.limits m).hard ≡ true → (q : ℕ) →
      use_of trace (set_max m max st) q + cond (among q (path_of rows parent.0)) (max_of rows m) 0 ≡ use_of trace st q + cond (among q (path_of rows parent.0)) max 0
  unfolding set_max bytes_by
  hard_uses parent above is q =
      let lower = rules_hold.tree m parent known above in
      let inside : m < length rows = rw (length_in trace.limits st.maxima) known in
      let depth : use_of trace (set_max m max st) q ≡ use_within others (direct_by trace (charge_of trace st)) (length rows) q =
      ap (λ depth. use_within others (direct_by trace (charge_of trace st)) depth q) long in
      let moved = use_moved rows others long parents hard m (max_of rows m) max parent inside (hard_in trace.limits st.maxima m ∙ is) (parent_in trace.limits st.maxima m ∙ above)
      own_max refl other_max (direct_by trace (charge_of trace st)) (length rows) q in
      let exact = counted_exact rows (tree_in trace.limits st.maxima rules_hold.tree) parent.0 (omega (arith, lower, inside)) (length rows) q (omega arith) in
      let old = ap (λ k. max_of rows m * k) exact ∙ times (among q (path_of rows parent.0)) (max_of rows m) in
      let new = ap (λ k. max * k) exact ∙ times (among q (path_of rows parent.0)) max in
      omega (arith, depth, moved, old, new)

  pub moved_uses : (parent : LimitId) → (row_of trace.limits m).parent ≡ Some parent → (q : ℕ) →
      use_of trace (set_max m max st) q + cond (reserves_at trace st m q) (max_of rows m) 0 ≡ use_of trace st q + cond (reserves_at trace st m q) max 0
  moved_uses parent above q = go (row_of trace.limits m).hard refl
    where
      same : (b : Bool) → reserves_at trace st m q ≡ b → use_of trace (set_max m max st) q + cond b (max_of rows m) 0 ≡ use_of trace st q + cond b max 0 →
          use_of trace (set_max m max st) q + cond (reserves_at trace st m q) (max_of rows m) 0 ≡ use_of trace st q + cond (reserves_at trace st m q) max 0
      same b e is = rw e is

      go : (b : Bool) → (row_of trace.limits m).hard ≡ b → use_of trace (set_max m max st) q + cond (reserves_at trace st m q) (max_of rows m) 0 ≡ use_of trace st q + cond (reserves_at trace st m q) max 0
      go false soft = same false (ap (λ b. reserves_by trace st b (row_of trace.limits m).parent q) soft) (let stays = soft_uses soft q in omega (arith, stays))
      go true is = same (among q (path_of rows parent.0)) (ap₂ (λ b o. reserves_by trace st b o q) is above) (hard_uses parent above is q)

  same_charge : (q : ℕ) → charge_of trace (set_max m max st) q ≡ charge_of trace st q
  unfolding set_max bytes_by
  same_charge q = refl

  pub moves_the_reservation : (parent : LimitId) → (row_of trace.limits m).parent ≡ Some parent → MovesTheReservation trace st m max (set_max m max st)
  moves_the_reservation parent above = record { own = own_max; others = other_max; uses = moved_uses parent above; charges = same_charge }

  -- each use still fits
  module _ (before : (q : ℕ) → q < length trace.limits → use_of trace st q ≤ max_of rows q) (may : MayResize trace st m max) where
    grown_fits : (row_of trace.limits m).hard ≡ true → max_of rows m < max → (q : ℕ) → IsTrue (among q (path_of rows may.parent.0)) → use_of trace st q + (max - max_of rows m) ≤ max_of rows q
    grown_fits is more q on =
        let none : full_limit trace st may.parent.0 (max - max_of rows m) ≡ None =
        sym (ap₂ (λ b o. cond b (full_above trace st o (max - max_of rows m)) None) (ap₂ (λ h t. h && t) is (lt-ltb (max_of rows m) max more)) may.below) ∙ may.fits in
        ltb-false _ _ (not_found (λ q. nat_lt (max_of rows q) (use_of trace st q + (max - max_of rows m))) (path_of rows may.parent.0) q none on)

    hard_fits : (row_of trace.limits m).hard ≡ true → (q : ℕ) → q < length trace.limits → q ≢ m → use_of trace (set_max m max st) q ≤ max_of rows q
    hard_fits is q inside ne =
        elim (cases_Bool (among q (path_of rows may.parent.0))) [
          | inl on ↦
              let uses : use_of trace (set_max m max st) q + max_of rows m ≡ use_of trace st q + max =
              subst (λ b. use_of trace (set_max m max st) q + cond b (max_of rows m) 0 ≡ use_of trace st q + cond b max 0) on (hard_uses may.parent may.below is q) in
              on_path on uses (cases_Bool (nat_lt (max_of rows m) max))
          | inr off ↦
              let uses : use_of trace (set_max m max st) q + 0 ≡ use_of trace st q + 0 =
              subst (λ b. use_of trace (set_max m max st) q + cond b (max_of rows m) 0 ≡ use_of trace st q + cond b max 0) off (hard_uses may.parent may.below is q) in
              omega (arith, uses, before q inside)
        ]
      where
        on_path : IsTrue (among q (path_of rows may.parent.0)) → use_of trace (set_max m max st) q + max_of rows m ≡ use_of trace st q + max →
            IsTrue (nat_lt (max_of rows m) max) ⊎ IsFalse (nat_lt (max_of rows m) max) → use_of trace (set_max m max st) q ≤ max_of rows q
        on_path on uses (inl grows) = let more = ltb-true _ _ grows in let room = grown_fits is more q on in omega (arith, uses, more, room)
        on_path on uses (inr shrinks) = let less = ltb-false _ _ shrinks in omega (arith, uses, less, before q inside)

    own_stays : (q : ℕ) → q ≡ m → use_of trace (set_max m max st) m ≡ use_of trace st m
    own_stays q e = go (row_of trace.limits m).hard refl
      where
        off : IsFalse (among m (path_of rows may.parent.0))
        off = false_from_ne_true _ (λ t.
            let lower = rules_hold.tree m may.parent known may.below in
            let inside : m < length rows = rw (length_in trace.limits st.maxima) known in
            let low = path_low rows (tree_in trace.limits st.maxima rules_hold.tree) (length rows) may.parent.0 m (omega (arith, lower, inside)) t in
            omega (arith, low, lower))

        go : (b : Bool) → (row_of trace.limits m).hard ≡ b → use_of trace (set_max m max st) m ≡ use_of trace st m
        go false soft = soft_uses soft m
        go true is =
            let uses : use_of trace (set_max m max st) m + 0 ≡ use_of trace st m + 0 =
            subst (λ b. use_of trace (set_max m max st) m + cond b (max_of rows m) 0 ≡ use_of trace st m + cond b max 0) off (hard_uses may.parent may.below is m) in
            omega (arith, uses)

    pub resized_fits : (q : ℕ) → q < length trace.limits → use_of trace (set_max m max st) q ≤ max_of others q
    resized_fits q inside =
        elim (cases_eq q m) [
          | inl e ↦
              let same = own_stays q e in
              let at = ap (λ k. use_of trace (set_max m max st) k) e in
              let its = ap (λ k. max_of others k) e in
              omega (arith, same, at, its, own_max, may.used)
          | inr ne ↦ let its = other_max q ne in let fits = each q inside ne (row_of trace.limits m).hard refl in omega (arith, its, fits)
        ]
      where
        each : (q : ℕ) → q < length trace.limits → q ≢ m → (b : Bool) → (row_of trace.limits m).hard ≡ b → use_of trace (set_max m max st) q ≤ max_of rows q
        each q inside ne true is = hard_fits is q inside ne
        each q inside ne false soft = let same = soft_uses soft q in omega (arith, same, before q inside)

pub resized_sound : (trace : Trace) → AreLimits trace → (st : State) (m max : ℕ) → IsSound trace st → MayResize trace st m max → IsSound trace (set_max m max st)
unfolding set_max bytes_by is_entered is_held
resized_sound trace rules_hold st m max sound may = record {
  shape = record {
    sized = record { made = sound.shape.sized.made; registers = sound.shape.sized.registers; each = sound.shape.sized.each; done = sound.shape.sized.done; phases = sound.shape.sized.phases; maxima = length-set st.maxima m max ∙ sound.shape.sized.maxima };
    distinct_exits = sound.shape.distinct_exits;
    distinct_shares = sound.shape.distinct_shares;
    distinct_scans = sound.shape.distinct_scans;
    placed = sound.shape.placed;
    typed = sound.shape.typed;
    declared = sound.shape.declared;
    known = sound.shape.known;
  };
  names = record {
    ordered = sound.names.ordered;
    numbered = sound.names.numbered;
  };
  no_dangling = record { directory = sound.no_dangling.directory; fields = sound.no_dangling.fields; registers = sound.no_dangling.registers; exits = sound.no_dangling.exits; scans = sound.no_dangling.scans; frozen = sound.no_dangling.frozen };
  guarded = record { allowed = sound.guarded.allowed; listed = sound.guarded.listed };
  exits = record { leave = sound.exits.leave; allowed = sound.exits.allowed };
  gone = record { registers = sound.gone.registers; shares = sound.gone.shares; scans = sound.gone.scans; exits = sound.gone.exits; absorbed_shares = sound.gone.absorbed_shares; absorbed_exits = sound.gone.absorbed_exits };
  phases = record { unmade_shares = sound.phases.unmade_shares; unmade_objects = sound.phases.unmade_objects; populating = sound.phases.populating; populated = sound.phases.populated; frozen = sound.phases.frozen };
  uses = resized_fits trace rules_hold st m max may.known sound.shape.sized.maxima sound.uses may;
  scans = record { own = sound.scans.own; recorded = λ h roots n o there at root. sound.scans.recorded h roots n o there at root; none_shared = sound.scans.none_shared };
}
