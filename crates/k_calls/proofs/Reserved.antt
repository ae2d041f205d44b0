-- What is kept back for the ends of processes is so still after an operation that is done with its room tested.
use Rattle.std.proofs.Common.{◌≡◌, ◌<◌, ◌≤◌, ◌&&◌, not, ℕ, Bool, true, false, cond, refl, sym, ap, ap₂, ◌∙◌, List, [], ◌∷◌, length, Option, Some, None, arith, IsFalse, IsTrue, inl, inr}
use Rattle.std.proofs.lemmas.Bool.{cases_Bool, false≢true}
use Rattle.std.specs.List.{list_any}
use Rattle.k_types.specs.declared.event.Event.TheVariants.{Done}
use Rattle.k_types.specs.declared.event.Fault.{Fault}
use Rattle.k_types.specs.declared.event.Fault.TheVariants.{ProcNotBelow}
use Rattle.k_types.specs.declared.event.Reply.{Reply}
use Rattle.k_types.specs.declared.names.Heap.TheVariants.{Kernel, User}
use Rattle.k_types.specs.declared.names.Pid.{Pid}
use Rattle.k_types.specs.declared.op.Op.{Op}
use Rattle.k_types.specs.declared.op.Op.TheVariants.{Exit, Kill, Store}
use Rattle.k_types.specs.Cells.{Cell, cells_touched, other_cells}
use Rattle.k_types.specs.Effects.{after_kill, after_operation, effect, effect_unless, step}
use Rattle.k_types.specs.Limits.{is_above}
use Rattle.k_types.specs.Names.{among, heap_eq}
use Rattle.k_types.specs.Replies.{ends_other, fault_where, faults, first_fault}
use Rattle.k_types.specs.State.{State}
use Rattle.k_types.specs.Steps.{IsPossible}
use Rattle.k_types.specs.Trace.{Trace}
use Rattle.k_types.specs.Updates.{count_done}
use Rattle.k_laws.specs.Counts.{is_store}
use Rattle.k_operate.specs.Operating.{collects_or_exits}
use Rattle.k_guests.proofs.Reserve.{event_kept}
use Rattle.k_guests.specs.Reserve.{kept_for}

module _ (trace : Trace) (each all : ℕ) (st : State) (kept : kept_for trace each st ≤ all) (pid : Pid) (said : Reply) where
  -- a kill that may end the other process, or is refused, where the other one has ended or may not be ended
  nobody : (q : Pid) → IsFalse (ends_other trace st pid.0 q.0) → first_fault (faults trace st pid.0 (Kill q)) ≡ None → among q.0 st.ended ≡ true
  unfolding faults first_fault fault_where
  nobody q none allowed =
      elim (cases_Bool (among q.0 st.ended)) [
        | inl ended ↦ ended
        | inr lives ↦ elim (cases_Bool (is_above trace pid.0 q.0)) [
          | inl above ↦ absurd (false≢true (sym none ∙ ap₂ (λ a e. a && not e) above lives))
          | inr below ↦ absurd (let bad : Some (ProcNotBelow q) ≡ None = sym (ap (λ a. first_fault (fault_where (not a) (ProcNotBelow q) ∷ [])) below) ∙ allowed in cc)
        ]
      ]

  spared : (q : Pid) → IsFalse (ends_other trace st pid.0 q.0) → kept_for trace each (step trace st (Done pid (Kill q) said)) ≤ all
  unfolding step after_operation count_done effect after_kill
  spared q none = go (first_fault (faults trace st pid.0 (Kill q))) refl
    where
      go : (f : Option Fault) → first_fault (faults trace st pid.0 (Kill q)) ≡ f → kept_for trace each (effect_unless f trace pid.0 (Kill q) st) ≤ all
      go (Some f) is = kept
      go None is = let ended = nobody q none is in rw ended kept

  module _ (cells : List Cell) (few : length cells ≤ 1) where
    killed : (q : Pid) → (b : Bool) → ends_other trace st pid.0 q.0 ≡ b → (User pid ∷ cond b (User q ∷ Kernel ∷ []) []) ≡ User pid ∷ cells → kept_for trace each (step trace st (Done pid (Kill q) said)) ≤ all
    killed q true ends told = absurd (let two = ap length told in omega (arith, two, few))
    killed q false ends told = spared q ends

    -- an operation that ends no process and touches one other cell at most
    pub operation_kept : (op : Op) → IsFalse (collects_or_exits op) → cells_touched trace st (Done pid op said) ≡ User pid ∷ cells → IsPossible trace st (Done pid op said) →
        (IsTrue (list_any (λ c. heap_eq c Kernel) cells) → IsTrue (is_store op) → kept_for trace each st < all) → kept_for trace each (step trace st (Done pid op said)) ≤ all
    unfolding cells_touched other_cells
    operation_kept (Store base i value) goes_on told may left =
        event_kept trace each all st kept (Done pid (Store base i value) said) may
        (λ touched. left (sym (ap (λ (cs : List Cell). list_any (λ c. heap_eq c Kernel) cs) told) ∙ touched) refl)
    operation_kept Exit goes_on told may left = absurd (false≢true (sym goes_on))
    operation_kept (Kill q) goes_on told may left = killed q (ends_other trace st pid.0 q.0) refl told
    operation_kept op goes_on told may left = event_kept trace each all st kept (Done pid op said) may tt
