-- What makes a history complete, as it is asked of the state to which it led.
use Rattle.std.proofs.Common.{◌≡◌, ℕ, ◌<◌, List, [], length, get_or, ap, subst, sym, ◌∙◌}
use Rattle.std.specs.Prelude.{IsFalse, IsTrue}
use Rattle.k_types.specs.declared.event.Event.{Event}
use Rattle.k_types.specs.declared.op.Op.{Op}
use Rattle.k_types.specs.Complete.{EndsWithClosing, IsComplete, IsPrefixOf, all_ended}
use Rattle.k_types.specs.Names.{among}
use Rattle.k_types.specs.State.{State}
use Rattle.k_types.specs.Steps.{done_by, no_orphan, state_after}
use Rattle.k_types.specs.Trace.{Trace, process_count}
use Rattle.k_scan.specs.k_state.Machines.{Machine}
use Rattle.k_laws.specs.Setups.{setup_of}

-- each process has done its operations in order, and all of them while it lives
abbrev pub HaveDone : Machine → List (List Op) → List Event → Type 0
HaveDone m lists events = (p : ℕ) → p < process_count m.setup → IsPrefixOf (done_by p events) (get_or lists p [])
    × (IsFalse (among p m.state.ended) → done_by p events ≡ get_or lists p [])

-- where every process has ended, the history is closed
abbrev pub IsOver : Machine → List Event → Type 0
IsOver m events = IsTrue (all_ended m.setup m.state) → IsTrue (no_orphan m.setup m.state) × EndsWithClosing events

module _ (trace : Trace) (m : Machine) (lists : List (List Op)) (events : List Event) (setup : setup_of trace ≡ m.setup) (ops : trace.operations ≡ lists)
    (led : state_after trace events ≡ m.state) where
  count : process_count trace ≡ process_count m.setup
  count = ap (λ (t : Trace). length t.procs) setup

  ended_same : all_ended trace (state_after trace events) ≡ all_ended m.setup m.state
  ended_same = ap (λ (t : Trace). all_ended t (state_after trace events)) setup ∙ ap (all_ended m.setup) led

  orphans_same : no_orphan trace (state_after trace events) ≡ no_orphan m.setup m.state
  orphans_same = ap (λ (t : Trace). no_orphan t (state_after trace events)) setup ∙ ap (no_orphan m.setup) led

  pub done_of : IsComplete trace events → HaveDone m lists events
  done_of complete p known =
      let known' : p < process_count trace = subst (λ n. p < n) (sym count) known in (
        subst (λ (ls : List (List Op)). IsPrefixOf (done_by p events) (get_or ls p [])) ops (complete.in_order p known'),
        λ lives. complete.all p known' (ap (λ (st : State). among p st.ended) led ∙ lives) ∙ ap (λ (ls : List (List Op)). get_or ls p []) ops,
      )

  pub quiet_of : IsComplete trace events → m.state.scans ≡ []
  quiet_of complete = sym (ap (λ (st : State). st.scans) led) ∙ complete.no_scan

  pub over_of : IsComplete trace events → IsOver m events
  over_of complete over = (sym orphans_same ∙ complete.no_orphan (ended_same ∙ over), complete.ends (ended_same ∙ over))

  pub complete_of : HaveDone m lists events → m.state.scans ≡ [] → IsOver m events → IsComplete trace events
  complete_of done quiet over = record {
    in_order = λ p known. subst (λ (ls : List (List Op)). IsPrefixOf (done_by p events) (get_or ls p [])) (sym ops) (done p (subst (λ n. p < n) count known)).0;
    all = λ p known lives.
        (done p (subst (λ n. p < n) count known)).1 (sym (ap (λ (st : State). among p st.ended) led) ∙ lives) ∙ sym (ap (λ (ls : List (List Op)). get_or ls p []) ops);
    no_scan = ap (λ (st : State). st.scans) led ∙ quiet;
    no_orphan = λ ended. orphans_same ∙ (over (sym ended_same ∙ ended)).0;
    ends = λ ended. (over (sym ended_same ∙ ended)).1;
  }
