-- Each maximum is one that the trace gives or a resize in range has set, and so is below 2^40.
use Rattle.std.proofs.Common.{◌≡◌, ℕ, zero, suc, ◌<◌, true, false, refl, sym, List, [], ◌∷◌, map, length, Option, Some, None, IsTrue, ltb-true, nat_lt, subst, arith, set, Bool}
use Rattle.std.specs.List.{AllByRecursion}
use Rattle.k_types.specs.declared.op.Op.{Op}
use Rattle.k_types.specs.declared.op.Op.TheVariants.{Resize}
use Rattle.k_types.specs.declared.event.Fault.{Fault}
use Rattle.k_types.specs.declared.event.Event.{Event}
use Rattle.k_types.specs.declared.event.Event.TheVariants.{Done, Ended, Absorbed, Closing}
use Rattle.k_types.specs.declared.setup.LimitRow.{LimitRow}
use Rattle.k_types.specs.Bounds.{maximum_below}
use Rattle.k_types.specs.Trace.{Trace}
use Rattle.k_types.specs.TraceRules.{AreLimits, is_resize}
use Rattle.k_types.specs.State.{State, opening}
use Rattle.k_types.specs.Limits.{limits_in, max_of, with_maxima}
use Rattle.k_types.specs.Updates.{count_done, set_max}
use Rattle.k_types.specs.Replies.{first_fault, faults}
use Rattle.k_types.specs.Effects.{step, effect, effect_unless, after_operation}
use Rattle.k_types.specs.Steps.{IsLegalHistory, IsPossible, IsRun, in_range, run, state_after}
use Rattle.k_laws.proofs.Constant.{effect_maxima, step_maxima}
use Rattle.std.proofs.lemmas.Bool.{and_parts, false≢true}

-- each maximum is below 2^40
abbrev AreSmallMaxima : List ℕ → Type 0
AreSmallMaxima maxima = AllByRecursion (λ max. max < maximum_below) maxima

small_set : (maxima : List ℕ) (m max : ℕ) → max < maximum_below → AreSmallMaxima maxima → AreSmallMaxima (set maxima m max)
small_set [] m max small all = tt
small_set (x ∷ xs) zero max small all = (small, all.1)
small_set (x ∷ xs) (suc m) max small all = (all.0, small_set xs m max small all.1)

small_rows : (rows : List LimitRow) → ((m : ℕ) → m < length rows → max_of rows m < maximum_below) → AreSmallMaxima (map (λ row. row.max) rows)
small_rows [] small = tt
small_rows (row ∷ rows) small = (small 0 (omega arith), small_rows rows (λ m inside. small (suc m) (omega (arith, inside))))

-- a limit has one of the maxima, or the one that the trace gives it
small_at : (rows : List LimitRow) (maxima : List ℕ) → ((m : ℕ) → m < length rows → max_of rows m < maximum_below) → AreSmallMaxima maxima → (m : ℕ) → m < length rows → max_of (with_maxima rows maxima) m < maximum_below
small_at [] maxima small all m inside = absurd (omega (arith, inside))
small_at (row ∷ rows) [] small all m inside = small m inside
small_at (row ∷ rows) (x ∷ maxima) small all zero inside = all.0
small_at (row ∷ rows) (x ∷ maxima) small all (suc m) inside = small_at rows maxima (λ k there. small (suc k) (omega (arith, there))) all.1 m (omega (arith, inside))

module _ (trace : Trace) where
  resized_small : (st : State) (p : ℕ) (op : Op) → IsTrue (in_range trace op) → is_resize op ≡ true → AreSmallMaxima st.maxima → AreSmallMaxima (effect trace p op st).maxima
  unfolding effect set_max in_range
  resized_small st p (Resize m max) ranged t all = small_set st.maxima m.0 max (ltb-true _ _ (and_parts (nat_lt m.0 (length trace.limits)) (nat_lt max maximum_below) ranged).1) all
  resized_small st p _ ranged t all = absurd (false≢true t)

  effect_small : (st : State) (p : ℕ) (op : Op) → IsTrue (in_range trace op) → AreSmallMaxima st.maxima → AreSmallMaxima (effect trace p op st).maxima
  effect_small st p op ranged all = go (is_resize op) refl
    where
      go : (b : Bool) → is_resize op ≡ b → AreSmallMaxima (effect trace p op st).maxima
      go true e = resized_small st p op ranged e all
      go false e = subst AreSmallMaxima (sym (effect_maxima trace st p op e)) all

  unless_small : (f : Option Fault) (st : State) (p : ℕ) (op : Op) → IsTrue (in_range trace op) → AreSmallMaxima st.maxima → AreSmallMaxima (effect_unless f trace p op st).maxima
  unless_small None st p op ranged all = effect_small st p op ranged all
  unless_small (Some f) st p op ranged all = all

  done_small : (st : State) (p : ℕ) (op : Op) → IsTrue (in_range trace op) → AreSmallMaxima st.maxima → AreSmallMaxima (after_operation trace p op st).maxima
  unfolding after_operation count_done
  done_small st p op ranged all = unless_small (first_fault (faults trace st p op)) st p op ranged all

  pub step_small : (st : State) (event : Event) → IsPossible trace st event → AreSmallMaxima st.maxima → AreSmallMaxima (step trace st event).maxima
  unfolding step
  step_small st (Done pid op said) may all = done_small st pid.0 op may.in_range all
  step_small st (Ended h a b c d) may all = subst AreSmallMaxima (sym (step_maxima trace st (Ended h a b c d) refl)) all
  step_small st (Absorbed s) may all = subst AreSmallMaxima (sym (step_maxima trace st (Absorbed s) refl)) all
  step_small st Closing may all = subst AreSmallMaxima (sym (step_maxima trace st Closing refl)) all

  run_small : (st : State) (events : List Event) → IsRun trace st events → AreSmallMaxima st.maxima → AreSmallMaxima (run trace st events).maxima
  run_small st [] legal all = all
  run_small st (event ∷ events) legal all = run_small (step trace st event) events legal.1 (step_small st event legal.0 all)

  pub maxima_small : (history : List Event) → AreLimits trace → IsLegalHistory trace history → AreSmallMaxima (state_after trace history).maxima
  maxima_small history limits legal = run_small (opening trace) history legal (small_rows trace.limits limits.small)

  pub max_small : (history : List Event) → AreLimits trace → IsLegalHistory trace history → (m : ℕ) → m < length trace.limits → max_of (limits_in trace (state_after trace history)) m < maximum_below
  max_small history limits legal m inside = small_at trace.limits (state_after trace history).maxima limits.small (maxima_small history limits legal) m inside
