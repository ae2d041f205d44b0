-- Orphans absorbed one after the other: what is left to absorb.
use Rattle.std.proofs.Common.{◌≡◌, ◌≢◌, ℕ, zero, suc, ◌+◌, ◌-◌, ◌<◌, ◌≤◌, ◌&&◌, not, Bool, true, false, cond, refl, sym, ap, ap₂, subst, ◌∙◌, List, [], ◌∷◌, ◌++◌, map, filter, length, arith, get_or-set_other, if◌then◌else◌}
use Rattle.std.proofs.lemmas.List.{append_assoc, length-map}
use Rattle.std.proofs.lemmas.List.Sums.{count_by-le-length, length-filter}
use Rattle.k_types.specs.declared.op.Op.{Op}
use Rattle.k_types.specs.declared.event.Event.{Event}
use Rattle.k_types.specs.declared.event.Event.TheVariants.{Absorbed as AbsorbedEvent}
use Rattle.k_types.specs.declared.names.Phase.TheVariants.{Unmade, Absorbed}
use Rattle.k_types.specs.Effects.{step, after_absorbed}
use Rattle.k_types.specs.FileOrder.{absorptions}
use Rattle.k_types.specs.Numbers.{numbers_from}
use Rattle.k_types.specs.State.{State}
use Rattle.k_types.specs.Steps.{IsPossible, IsRun, run, is_live, is_orphan, has_sharer, waits_for_orphans}
use Rattle.k_types.specs.Trace.{Trace}
use Rattle.k_types.specs.Updates.{set_phase, keep_exits}
use Rattle.k_state.specs.Machines.{Machine}
use Rattle.k_state.specs.Rooms.{HasRoom}
use Rattle.k_filed.specs.Taken.{HasTaken, first_events}
use Rattle.k_solo.proofs.Rooms.{less_room, step_room}
use Rattle.k_state.proofs.Sums.{numbers_left}
use Rattle.k_types.proofs.Lists.{numbers_length}

abbrev absorb : ℕ → Event
absorb s = AbsorbedEvent (record { 0 = s })

-- the absorptions of the orphans from this number up
abbrev pub left : Trace → State → ℕ → List Event
left setup st s = map absorb (filter (is_orphan st) (numbers_from s (setup.shared_heaps - s)))

-- an absorption leaves whether any other heap is an orphan
other_orphan : (setup : Trace) (st : State) (s t : ℕ) → t ≢ s → is_orphan (step setup st (absorb s)) t ≡ is_orphan st t
unfolding step after_absorbed set_phase keep_exits
other_orphan setup st s t apart =
    ap (λ phase. is_live phase && not (has_sharer st.shares t)) (get_or-set_other st.phases s t Absorbed Unmade apart)

same_above : (f g : ℕ → Bool) (k n : ℕ) → ((t : ℕ) → k ≤ t → f t ≡ g t) → filter f (numbers_from k n) ≡ filter g (numbers_from k n)
same_above f g k zero same = refl
same_above f g k (suc n) same =
    let here : f k ≡ g k = same k (omega arith) in
    let rest = same_above f g (suc k) n (λ t le. same t (omega arith)) in
    ap₂ (λ b ts. cond b (k ∷ ts) ts) here rest

left_same : (setup : Trace) (st : State) (s : ℕ) → left setup (step setup st (absorb s)) (s + 1) ≡ left setup st (s + 1)
left_same setup st s =
    ap (map absorb) (same_above (is_orphan (step setup st (absorb s))) (is_orphan st) (s + 1) (setup.shared_heaps - (s + 1))
    (λ t le. other_orphan setup st s t (λ e. absurd (omega arith))))

left_next : (setup : Trace) (st : State) (s : ℕ) (b : Bool) → s < setup.shared_heaps → is_orphan st s ≡ b →
    left setup st s ≡ cond b (absorb s ∷ left setup st (s + 1)) (left setup st (s + 1))
left_next setup st s b inside is =
    ap (λ ns. map absorb (filter (is_orphan st) ns)) (numbers_left s setup.shared_heaps inside) ∙ split (is_orphan st s) b is
  where
    split : (now b : Bool) → now ≡ b →
        map absorb (cond now (s ∷ filter (is_orphan st) (numbers_from (s + 1) (setup.shared_heaps - (s + 1)))) (filter (is_orphan st) (numbers_from (s + 1) (setup.shared_heaps - (s + 1)))))
        ≡ cond b (absorb s ∷ left setup st (s + 1)) (left setup st (s + 1))
    split true true e = refl
    split true false e = absurd cc
    split false true e = absurd cc
    split false false e = refl

-- the orphans below the number are absorbed, and those that are left are as they were
pub record Absorbing (before now : Machine) (old new : List Event) (s : ℕ) : Type 0 where
  pub setup : now.setup ≡ before.setup
  pub journal : new ++ left before.setup now.state s ≡ old ++ absorptions before.setup before.state
  pub state : run before.setup now.state (left before.setup now.state s) ≡ run before.setup before.state (absorptions before.setup before.state)
  pub legal : IsRun before.setup now.state (left before.setup now.state s)
  pub room : HasRoom (64 - s) now.state

-- the next one is no orphan
pub absorbing_passes : (before now : Machine) (old new : List Event) (s : ℕ) → s < before.setup.shared_heaps → is_orphan now.state s ≡ false →
    Absorbing before now old new s → Absorbing before now old new (s + 1)
absorbing_passes before now old new s inside none a =
    let same : left before.setup now.state s ≡ left before.setup now.state (s + 1) = left_next before.setup now.state s false inside none in
    record {
      setup = a.setup;
      journal = ap (λ es. new ++ es) (sym same) ∙ a.journal;
      state = ap (run before.setup now.state) (sym same) ∙ a.state;
      legal = subst (IsRun before.setup now.state) same a.legal;
      room = less_room (64 - (s + 1)) (64 - s) now.state (omega arith) a.room;
    }

-- an orphan that is next can be absorbed
pub absorbing_may : (before now : Machine) (old new : List Event) (s : ℕ) → s < before.setup.shared_heaps → is_orphan now.state s ≡ true →
    Absorbing before now old new s → IsPossible now.setup now.state (absorb s)
absorbing_may before now old new s inside orphan a =
    let legal = subst (IsRun before.setup now.state) (left_next before.setup now.state s true inside orphan) a.legal in
    subst (λ (t : Trace). IsPossible t now.state (absorb s)) (sym a.setup) legal.0

-- and then those after it are left
pub absorbing_takes : (before now after : Machine) (old new newer : List Event) (s : ℕ) → s < before.setup.shared_heaps → s < 64 → is_orphan now.state s ≡ true →
    Absorbing before now old new s → HasTaken now after new newer (absorb s ∷ []) → Absorbing before after old newer (s + 1)
absorbing_takes before now after old new newer s inside low orphan a taken =
    let here : left before.setup now.state s ≡ absorb s ∷ left before.setup now.state (s + 1) = left_next before.setup now.state s true inside orphan in
    let moved : after.state ≡ step before.setup now.state (absorb s) = taken.state ∙ ap (λ (t : Trace). step t now.state (absorb s)) a.setup in
    let rest : left before.setup after.state (s + 1) ≡ left before.setup now.state (s + 1)
    = ap (λ (st : State). left before.setup st (s + 1)) moved ∙ left_same before.setup now.state s in
    let legal = subst (IsRun before.setup now.state) here a.legal in
    record {
      setup = taken.setup ∙ a.setup;
      journal = ap₂ (λ es fs. es ++ fs) taken.journal rest ∙ append_assoc new (absorb s ∷ []) (left before.setup now.state (s + 1)) ∙ ap (λ es. new ++ es) (sym here) ∙ a.journal;
      state = ap₂ (λ (st : State) es. run before.setup st es) moved rest ∙ ap (run before.setup now.state) (sym here) ∙ a.state;
      legal = subst (λ es. IsRun before.setup after.state es) (sym rest)
          (subst (λ (st : State). IsRun before.setup st (left before.setup now.state (s + 1))) (sym moved) legal.1);
      room = subst (HasRoom (64 - (s + 1))) (sym moved) (step_room (64 - s) (64 - (s + 1)) before.setup now.state (absorb s) (omega arith) a.room);
    }

-- there are no more absorptions than shared heaps
pub few_absorptions : (setup : Trace) (st : State) → length (absorptions setup st) ≤ setup.shared_heaps
few_absorptions setup st =
    omega (arith, length-map (filter (is_orphan st) (numbers_from 0 setup.shared_heaps)) absorb, length-filter (is_orphan st) (numbers_from 0 setup.shared_heaps), count_by-le-length (is_orphan st) (numbers_from 0 setup.shared_heaps), numbers_length 0 setup.shared_heaps)

pub few_first : (setup : Trace) (st : State) (op : Op) → length (first_events setup st op) ≤ setup.shared_heaps
few_first setup st op = go (waits_for_orphans op)
  where
    go : (b : Bool) → length (if b then absorptions setup st else []) ≤ setup.shared_heaps
    go true = few_absorptions setup st
    go false = omega arith
