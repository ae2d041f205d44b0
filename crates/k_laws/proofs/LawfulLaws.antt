-- The law of this crate, for the crates above to cite.
use Rattle.std.proofs.Common.{◌≡◌, ◌∙◌, ℕ, ap, refl, sym, subst, List, [], ◌∷◌, ◌++◌, IsFalse, IsTrue}
use Rattle.k_types.specs.declared.event.Event.{Event}
use Rattle.k_types.specs.declared.event.Event.TheVariants.{Done, Ended}
use Rattle.k_types.specs.declared.event.Fault.{Fault}
use Rattle.k_types.specs.declared.event.Reply.TheVariants.{Refused}
use Rattle.k_types.specs.declared.names.Heap.{Heap}
use Rattle.k_types.specs.declared.names.Name.{Name}
use Rattle.k_types.specs.declared.names.Pid.{Pid}
use Rattle.k_types.specs.declared.op.Op.{Op}
use Rattle.k_types.specs.declared.op.Op.TheVariants.{KNew, New, SNew, Store}
use Rattle.k_types.specs.Cells.{Cell, part, touches}
use Rattle.k_types.specs.Effects.{step}
use Rattle.k_types.specs.Reach.{live_everywhere}
use Rattle.k_types.specs.Replies.{reply_to}
use Rattle.k_types.specs.State.{State, has, opening}
use Rattle.k_types.specs.Steps.{IsLegalHistory, IsPossible, state_after}
use Rattle.k_types.specs.Trace.{Trace}
use Rattle.k_types.specs.TraceRules.{AreLimits}
use Rattle.k_types.specs.Updates.{count_done}
use Rattle.k_laws.proofs.Histories.{legal_append, state_next}
use Rattle.k_laws.proofs.FrameLaws.{steps_leave_other_cells-part}
use Rattle.k_laws.proofs.Laws.{collections_free_nothing_live, no_hidden_refusals-in_kernel, no_hidden_refusals-in_shared, no_hidden_refusals-new, no_hidden_refusals-store, states_are_sound}
use Rattle.k_laws.proofs.LocalityLaws.{possible_events_go_by_the_parts-histories}
use Rattle.k_laws.specs.Same.{SameToEvent}
use Rattle.k_laws.proofs.SquaresLaws.{steps_go_by_the_parts-book, steps_go_by_the_parts-cells}
use Rattle.k_laws.specs.Follows.{FindsTheSame}
use Rattle.k_laws.proofs.Refused.{refused_stays}
use Rattle.k_laws.specs.Lawful.{GoesByTheParts, IsLawful, IsRefusedByName, state_left}

module _ (trace : Trace) (history : List Event) (event : Event) (limits : AreLimits trace) (legal : IsLegalHistory trace history)
    (possible : IsPossible trace (state_after trace history) event) where
  abbrev st : State
  st = state_after trace history

  longer : (e : Event) → event ≡ e → IsLegalHistory trace (history ++ e ∷ [])
  longer e is = legal_append trace (opening trace) history (e ∷ []) legal (subst (λ (x : Event). IsPossible trace st x) is possible, tt)

  left : (e : Event) → event ≡ e → state_left trace history event ≡ step trace st e
  left e is = state_next trace history event ∙ ap (λ (x : Event). step trace st x) is

  replied : (pid : Pid) (op : Op) (fault : Fault) → event ≡ Done pid op (Refused fault) → reply_to trace st pid.0 op ≡ Refused fault
  replied pid op fault is = let may : IsPossible trace st (Done pid op (Refused fault)) = subst (λ (x : Event). IsPossible trace st x) is possible in sym may.replied

  refused : (pid : Pid) (op : Op) (fault : Fault) → event ≡ Done pid op (Refused fault) → state_left trace history event ≡ count_done pid.0 st
  refused pid op fault is = left (Done pid op (Refused fault)) is ∙ refused_stays trace st pid op fault (replied pid op fault is)

  by_name : IsRefusedByName trace st event
  by_name = record {
    store = λ pid base value field fault is. no_hidden_refusals-store trace st pid.0 base value field fault (replied pid (Store base field value) fault is);
    new = λ pid r ty fault is. no_hidden_refusals-new trace st pid.0 r ty fault (replied pid (New r ty) fault is);
    in_kernel = λ pid r ty fault is. no_hidden_refusals-in_kernel trace st pid.0 r ty fault (replied pid (KNew r ty) fault is);
    in_shared = λ pid r s ty fault is. no_hidden_refusals-in_shared trace st pid.0 r s ty fault (replied pid (SNew r s ty) fault is);
  }

  elsewhere : (cell : Cell) → IsFalse (touches trace st event cell) → part trace (state_left trace history event) cell ≡ part trace st cell
  elsewhere cell untouched = ap (λ (su : State). part trace su cell) (left event refl) ∙ steps_leave_other_cells-part trace st event cell possible untouched

  live : (h : Heap) (objects bytes exits shares : ℕ) → event ≡ Ended h objects bytes exits shares → (n : Name) →
      IsTrue (has (live_everywhere trace st) n) → IsTrue (has (state_left trace history event).objects n)
  live h objects bytes exits shares is n used =
      subst (λ (su : State). IsTrue (has su.objects n)) (sym (left (Ended h objects bytes exits shares) is))
      (collections_free_nothing_live trace history [] h objects bytes exits shares limits (longer (Ended h objects bytes exits shares) is) n used)

  local : (other : List Event) → IsLegalHistory trace other → SameToEvent trace st (state_after trace other) event → GoesByTheParts trace history other event
  local other legal_too same =
      let finds : FindsTheSame trace st (state_after trace other) event = record {
        sound = states_are_sound trace history limits legal;
        sound_too = states_are_sound trace other limits legal_too;
        possible = possible;
        same = same;
      } in
      record {
        possible = possible_events_go_by_the_parts-histories trace history other event limits legal legal_too same possible;
        cells = steps_go_by_the_parts-cells trace st (state_after trace other) event limits finds;
        book = steps_go_by_the_parts-book trace st (state_after trace other) event limits finds;
      }

  -- what is possible is lawful
  pub possible_events_are_lawful : IsLawful trace history event
  possible_events_are_lawful = record {
    sound = states_are_sound trace (history ++ event ∷ []) limits (longer event refl);
    refused = refused;
    by_name = by_name;
    elsewhere = elsewhere;
    live = live;
    local = local;
  }
