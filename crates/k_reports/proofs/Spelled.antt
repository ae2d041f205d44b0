-- Each event of a history that is begun is one that a line can spell.
use Rattle.std.proofs.Common.{◌≤◌, sym, subst, List, [], ◌∷◌, ◌++◌, append_assoc, arith}
use Rattle.std.specs.List.{AllByRecursion}
use Rattle.k_types.specs.declared.event.Event.{Event}
use Rattle.k_types.specs.declared.event.Event.TheVariants.{Done, Ended, Absorbed, Closing}
use Rattle.k_types.specs.Trace.{Trace}
use Rattle.k_types.specs.TraceRules.{KeepsRules}
use Rattle.k_types.specs.State.{opening}
use Rattle.k_types.specs.Sound.{IsSound}
use Rattle.k_types.specs.Steps.{state_after}
use Rattle.k_laws.specs.Counts.{has_stored, is_operation, is_store, one_if, operation_count, store_count}
use Rattle.k_laws.proofs.Counting.{one_if_low}
use Rattle.k_laws.proofs.Histories.{legal_rest}
use Rattle.k_laws.proofs.SoundSteps.{legal_sound}
use Rattle.k_laws.specs.Fits.{AreKnownEvents, HasFewFields, NumbersFit, IsSpelledEvent as HasSpelledNumbers}
use Rattle.k_laws.proofs.KnownLaws.{ended_collections_are_bounded, events_are_known, numbers_fit}
use Rattle.k_trace.specs.Named.{NamedTrace}
use Rattle.k_trace.specs.Rules.{IsTrace}
use Rattle.k_reports.specs.Begun.{AreAllSpelled, IsBegun}
use Rattle.k_reports.specs.Spelled.{IsInRange, IsReplyInRange, IsSpelledEvent}
use Rattle.k_reports.proofs.Begun.{begun_front}
use Rattle.k_reports.proofs.KnownEvents.{known_event}
use Rattle.k_reports.proofs.Ranged.{reply_ranged, serials_low}

stores_low : (history : List Event) → store_count history ≤ operation_count history
stores_low [] = omega arith
stores_low (event ∷ events) = omega (arith, one event, stores_low events)
  where
    one : (event : Event) → one_if (has_stored event) ≤ one_if (is_operation event)
    one (Done pid op said) = one_if_low (is_store op)
    one (Ended h a b c d) = omega arith
    one (Absorbed s) = omega arith
    one Closing = omega arith

few_fields : (trace : Trace) → KeepsRules trace → HasFewFields trace
few_fields trace rules = record { types = rules.fields; directory = rules.directory }

-- The state of a history that is begun has numbers that fit.
module _ (trace : Trace) (rules : KeepsRules trace) where
  fits_after : (front : List Event) → IsBegun trace front → NumbersFit front (state_after trace front)
  fits_after front begun = numbers_fit trace front rules.operations begun.legal begun.in_order

  sound_after : (front : List Event) → IsBegun trace front → IsSound trace (state_after trace front)
  sound_after front begun = legal_sound trace front rules.limits begun.legal

  -- The numbers of an event that comes next are in range.
  next_ranged : (front : List Event) (event : Event) (rest : List Event) → IsBegun trace (front ++ event ∷ rest) → HasSpelledNumbers event → IsInRange event
  next_ranged front (Done pid op said) rest begun spelled =
      let before : IsBegun trace front = begun_front trace front (Done pid op said ∷ rest) begun in
      let may = (legal_rest trace (opening trace) front (Done pid op said ∷ rest) begun.legal).0 in
      (spelled, subst (IsReplyInRange op) (sym may.replied) (reply_ranged trace front (state_after trace front) (sound_after front before) (fits_after front before) pid.0 op))
  next_ranged front (Ended h objects bytes exits shares) rest begun spelled =
      let before : IsBegun trace front = begun_front trace front (Ended h objects bytes exits shares ∷ rest) begun in
      let fit = fits_after front before in
      let sound = sound_after front before in
      let bound = ended_collections_are_bounded trace front rest h objects bytes exits shares rules.limits (few_fields trace rules) begun.legal in
      let few = serials_low trace front (state_after trace front) sound fit (omega (arith, sound.shape.sized.made, rules.processes, rules.shared)) in
      (omega (arith, bound.objects_fit, few), omega (arith, bound.bytes_fit, few), omega (arith, bound.exits_fit, stores_low front, fit.operations), omega (arith, bound.shares_fit, fit.operations))
  next_ranged front (Absorbed s) rest begun spelled = tt
  next_ranged front Closing rest begun spelled = tt

spelled_from : (t : NamedTrace) → IsTrace t → (front rest : List Event) → IsBegun t.trace (front ++ rest) → AreKnownEvents t.trace rest → AllByRecursion HasSpelledNumbers rest
    → AllByRecursion (IsSpelledEvent t.names) rest
spelled_from t is front [] begun known spelled = tt
spelled_from t is front (event ∷ rest) begun known spelled = (
  known_event t event is known.0 (next_ranged t.trace is.rules front event rest begun spelled.0),
  spelled_from t is (front ++ event ∷ []) rest (subst (IsBegun t.trace) (sym (append_assoc front (event ∷ []) rest)) begun) known.1 spelled.1,
)

-- Each event of a history that is begun can be spelled.
pub all_spelled : (t : NamedTrace) → IsTrace t → AreAllSpelled t
all_spelled t is history begun =
    spelled_from t is [] history begun (events_are_known t.trace history is.rules.limits begun.legal) (numbers_fit t.trace history is.rules.operations begun.legal begun.in_order).spelled
