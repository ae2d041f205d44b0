-- Each step from a sound state leads to a sound state, so every state of a legal history is sound.
use Rattle.std.proofs.Common.{◌≡◌, ℕ, not, refl, ◌∙◌, List, [], ◌∷◌, Option, Some, None, length-set}
use Rattle.std.specs.List.{list_all}
use Rattle.std.proofs.lemmas.Bool.{and_parts, not-true}
use Rattle.k_types.specs.declared.names.Pid.{Pid}
use Rattle.k_types.specs.declared.names.SharedId.{SharedId}
use Rattle.k_types.specs.declared.names.Heap.{Heap}
use Rattle.k_types.specs.declared.names.Heap.TheVariants.{Kernel}
use Rattle.k_types.specs.declared.op.Op.{Op}
use Rattle.k_types.specs.declared.event.Fault.{Fault}
use Rattle.k_types.specs.declared.event.Reply.{Reply}
use Rattle.k_types.specs.declared.event.Event.{Event}
use Rattle.k_types.specs.declared.event.Event.TheVariants.{Done, Ended, Absorbed, Closing}
use Rattle.k_types.specs.TraceRules.{AreLimits}
use Rattle.k_types.specs.Trace.{Trace}
use Rattle.k_types.specs.State.{State, opening, scan_of, is_scanned}
use Rattle.k_types.specs.Owners.{user, bytes_by, phase_of}
use Rattle.k_types.specs.Reach.{is_entered, is_held, roots_of}
use Rattle.k_types.specs.Updates.{count_done, close, open_scan}
use Rattle.k_types.specs.Replies.{first_fault, faults}
use Rattle.k_types.specs.Effects.{step, effect, effect_unless, after_operation, after_closing}
use Rattle.k_types.specs.Cells.{cells_touched, other_cells}
use Rattle.k_types.specs.Steps.{IsPossible, IsRun, IsLegalHistory, run, state_after, is_live, has_sharer}
use Rattle.k_types.specs.Sound.{IsSound}
use Rattle.k_types.proofs.Objects.{some_is}
use Rattle.k_laws.proofs.SoundOpening.{opening_sound}
use Rattle.k_laws.proofs.SoundEffects.{effect_sound, kernel_scan_sound}
use Rattle.k_laws.proofs.SoundAbsorbed.{absorbed_sound}
use Rattle.k_laws.proofs.SoundCollected.{collected_sound}
use Rattle.k_types.proofs.Lists.{none_is}

pub count_done_sound : (trace : Trace) (st : State) (p : ℕ) → IsSound trace st → IsSound trace (count_done p st)
unfolding count_done bytes_by is_entered is_held
count_done_sound trace st p sound = record {
  shape = record {
    sized = record { made = sound.shape.sized.made; registers = sound.shape.sized.registers; each = sound.shape.sized.each; done = length-set st.done p _ ∙ sound.shape.sized.done; phases = sound.shape.sized.phases; maxima = sound.shape.sized.maxima };
    distinct_exits = sound.shape.distinct_exits;
    distinct_shares = sound.shape.distinct_shares;
    distinct_scans = sound.shape.distinct_scans;
    placed = sound.shape.placed;
    typed = sound.shape.typed;
    declared = sound.shape.declared;
    known = sound.shape.known;
  };
  names = record {
    ordered = sound.names.ordered;
    numbered = sound.names.numbered;
  };
  no_dangling = record { directory = sound.no_dangling.directory; fields = sound.no_dangling.fields; registers = sound.no_dangling.registers; exits = sound.no_dangling.exits; scans = sound.no_dangling.scans; frozen = sound.no_dangling.frozen };
  guarded = record { allowed = sound.guarded.allowed; listed = sound.guarded.listed };
  exits = record { leave = sound.exits.leave; allowed = sound.exits.allowed };
  gone = record { registers = sound.gone.registers; shares = sound.gone.shares; scans = sound.gone.scans; exits = sound.gone.exits; absorbed_shares = sound.gone.absorbed_shares; absorbed_exits = sound.gone.absorbed_exits };
  phases = record { unmade_shares = sound.phases.unmade_shares; unmade_objects = sound.phases.unmade_objects; populating = sound.phases.populating; populated = sound.phases.populated; frozen = sound.phases.frozen };
  uses = sound.uses;
  scans = record { own = sound.scans.own; recorded = λ h roots n o there at root. sound.scans.recorded h roots n o there at root; none_shared = sound.scans.none_shared };
}

pub close_sound : (trace : Trace) (st : State) → IsSound trace st → IsSound trace (close st)
unfolding close bytes_by is_entered is_held
close_sound trace st sound = record {
  shape = record {
    sized = record { made = sound.shape.sized.made; registers = sound.shape.sized.registers; each = sound.shape.sized.each; done = sound.shape.sized.done; phases = sound.shape.sized.phases; maxima = sound.shape.sized.maxima };
    distinct_exits = sound.shape.distinct_exits;
    distinct_shares = sound.shape.distinct_shares;
    distinct_scans = sound.shape.distinct_scans;
    placed = sound.shape.placed;
    typed = sound.shape.typed;
    declared = sound.shape.declared;
    known = sound.shape.known;
  };
  names = record {
    ordered = sound.names.ordered;
    numbered = sound.names.numbered;
  };
  no_dangling = record { directory = sound.no_dangling.directory; fields = sound.no_dangling.fields; registers = sound.no_dangling.registers; exits = sound.no_dangling.exits; scans = sound.no_dangling.scans; frozen = sound.no_dangling.frozen };
  guarded = record { allowed = sound.guarded.allowed; listed = sound.guarded.listed };
  exits = record { leave = sound.exits.leave; allowed = sound.exits.allowed };
  gone = record { registers = sound.gone.registers; shares = sound.gone.shares; scans = sound.gone.scans; exits = sound.gone.exits; absorbed_shares = sound.gone.absorbed_shares; absorbed_exits = sound.gone.absorbed_exits };
  phases = record { unmade_shares = sound.phases.unmade_shares; unmade_objects = sound.phases.unmade_objects; populating = sound.phases.populating; populated = sound.phases.populated; frozen = sound.phases.frozen };
  uses = sound.uses;
  scans = record { own = sound.scans.own; recorded = λ h roots n o there at root. sound.scans.recorded h roots n o there at root; none_shared = sound.scans.none_shared };
}

-- a step is sound where its effect is, if the operation isn't refused
operation_sound : (trace : Trace) (st : State) (p : ℕ) (op : Op) → IsSound trace st → (first_fault (faults trace st p op) ≡ None → IsSound trace (effect trace p op st)) → IsSound trace (after_operation trace p op st)
unfolding after_operation
operation_sound trace st p op sound effect_is = count_done_sound trace _ p (go (first_fault (faults trace st p op)) refl)
  where
    go : (f : Option Fault) → first_fault (faults trace st p op) ≡ f → IsSound trace (effect_unless f trace p op st)
    go None e = effect_is e
    go (Some f) e = sound

module _ (trace : Trace) (rules_hold : AreLimits trace) (st : State) (sound : IsSound trace st) where
  done_step : (pid : Pid) (op : Op) (said : Reply) → IsPossible trace st (Done pid op said) → IsSound trace (step trace st (Done pid op said))
  unfolding step cells_touched
  done_step pid op said may =
      let idle = and_parts (not (is_scanned st.scans (user pid.0))) (list_all (λ c. not (is_scanned st.scans c)) (other_cells trace st pid.0 op)) may.idle in
      operation_sound trace st pid.0 op sound (λ e. effect_sound trace rules_hold st pid sound op (record {
        known = may.known;
        lives = may.lives;
        in_range = may.in_range;
        idle = none_is _ (not-true _ idle.0);
        others = idle.1;
        fine = e;
      }))

  closing_step : IsPossible trace st Closing → IsSound trace (step trace st Closing)
  unfolding step after_closing
  closing_step may = close_sound trace (open_scan Kernel (roots_of trace st Kernel) st) (kernel_scan_sound trace rules_hold st (record { 0 = 0 }) sound (none_is _ may.idle))

  absorbed_step : (s : SharedId) → IsPossible trace st (Absorbed s) → IsSound trace (step trace st (Absorbed s))
  unfolding step
  absorbed_step s may = absorbed_sound trace st s.0 sound (record {
    known = may.known;
    no_sharer = not-true _ (and_parts (is_live (phase_of st.phases s.0)) (not (has_sharer st.shares s.0)) may.orphan).1;
    idle = none_is _ may.idle;
  })

  ended_step : (h : Heap) (a b c d : ℕ) → IsPossible trace st (Ended h a b c d) → IsSound trace (step trace st (Ended h a b c d))
  unfolding step
  ended_step h a b c d may = let scan = some_is (scan_of st.scans h) may.scanned in collected_sound trace st sound h scan.0 scan.1

  -- each step from a sound state leads to a sound state
  pub step_sound : (event : Event) → IsPossible trace st event → IsSound trace (step trace st event)
  step_sound (Done pid op said) may = done_step pid op said may
  step_sound (Ended h a b c d) may = ended_step h a b c d may
  step_sound (Absorbed s) may = absorbed_step s may
  step_sound Closing may = closing_step may

pub run_sound : (trace : Trace) → AreLimits trace → (st : State) (events : List Event) → IsSound trace st → IsRun trace st events → IsSound trace (run trace st events)
run_sound trace rules_hold st [] sound legal = sound
run_sound trace rules_hold st (event ∷ events) sound legal = run_sound trace rules_hold (step trace st event) events (step_sound trace rules_hold st sound event legal.0) legal.1

-- every state of a legal history is sound
pub legal_sound : (trace : Trace) (history : List Event) → AreLimits trace → IsLegalHistory trace history → IsSound trace (state_after trace history)
legal_sound trace history limits legal = run_sound trace limits (opening trace) history (opening_sound trace limits) legal
