-- The lines of the operations of a trace of what was done, event by event.
use Rattle.std.proofs.Common.{◌≡◌, ◌∙◌, ℕ, ◌+◌, ◌≤◌, nat_le, Bool, true, false, cond, List, [], ◌∷◌, ◌++◌, append-nil, append_assoc, drop, length, map, take, refl, sym, ap, ap₂, arith, inl, inr, eq-eqb, ne_eqb, Some}
use Rattle.std.specs.Prelude.{slice_get}
use Rattle.std.specs.List.{flat_map}
use Rattle.std.proofs.lemmas.Bool.{cases_eq, leb-false, leb-true}
use Rattle.std.proofs.lemmas.Grind.{flat_map-append}
use Rattle.std.proofs.lemmas.List.{get_or_past, length-map, take_all, take_more}
use Rattle.std.proofs.lemmas.List.Concat.{flat_map-cons}
use Rattle.std.proofs.lemmas.Option.{get_or_from_slice_get, slice_get_within}
use Rattle.k_types.specs.declared.event.Event.{Event}
use Rattle.k_types.specs.declared.event.Event.TheVariants.{Done, Ended, Absorbed, Closing}
use Rattle.k_types.specs.declared.op.Op.{Op}
use Rattle.k_types.specs.Numbers.{numbers_below}
use Rattle.k_types.specs.State.{opening}
use Rattle.k_types.specs.Steps.{IsLegalHistory, done_by}
use Rattle.k_types.specs.Trace.{Trace, operations_of, process_count}
use Rattle.k_types.proofs.Lists.{numbers_length}
use Rattle.k_words.specs.Words.{Text, text_of}
use Rattle.k_report.proofs.LineLemmas.{text_of-append}
use Rattle.k_trace.specs.Named.{DeclaredNames}
use Rattle.k_trace.specs.Spelling.{after_first, first_line, line_words, operation_lines}
use Rattle.k_spell.proofs.Ordered.{same_lines}
use Rattle.k_print.specs.Done.{line_done, order_of, trace_done}
use Rattle.k_print.proofs.Legal.{done_past}
use Rattle.k_print.proofs.Traced.{ops_at}

-- the same lines behind a text
pub lines_behind : (old new : Text) (lines same : List (List Text)) → same ≡ lines → new ≡ old ++ text_of lines → new ≡ old ++ text_of same
lines_behind old new lines same is added = added ∙ ap (λ (ls : List (List Text)). old ++ text_of ls) (sym is)

module _ (names : DeclaredNames) where
  one_line : (e : Event) (events : List Event) → flat_map (line_done names) (e ∷ events) ≡ line_done names e ++ flat_map (line_done names) events
  one_line e events = flat_map-cons (line_done names) e events

  -- the lines in the order of the events are those of each process's operations
  lines_of : (events : List Event) → operation_lines names (λ p. done_by p events) (order_of events) ≡ flat_map (line_done names) events
  lines_of [] = refl
  lines_of (Done pid op said ∷ events) =
      ap (λ ops. first_line names pid.0 ops ++ operation_lines names (after_first pid.0 all) (order_of events)) here
      ∙ ap (λ (ls : List (List Text)). (line_words names pid.0 op ∷ []) ++ ls) (same_lines names (after_first pid.0 all) (λ p. done_by p events) (order_of events) after ∙ lines_of events)
      ∙ sym (one_line (Done pid op said) events)
    where
      all : ℕ → List Op
      all p = done_by p (Done pid op said ∷ events)

      here : done_by pid.0 (Done pid op said ∷ events) ≡ op ∷ done_by pid.0 events
      here = ap (λ b. cond b (op ∷ done_by pid.0 events) (done_by pid.0 events)) (eq-eqb pid.0 pid.0 refl)

      after : (q : ℕ) → after_first pid.0 all q ≡ done_by q events
      after q = elim (cases_eq q pid.0) [
        | inl same ↦ ap₂ (λ a b. cond a (drop 1 (cond b (op ∷ done_by q events) (done_by q events))) (cond b (op ∷ done_by q events) (done_by q events))) (eq-eqb q pid.0 same) (eq-eqb pid.0 q (sym same))
        | inr apart ↦ ap₂ (λ a b. cond a (drop 1 (cond b (op ∷ done_by q events) (done_by q events))) (cond b (op ∷ done_by q events) (done_by q events))) (ne_eqb q pid.0 apart) (ne_eqb pid.0 q (λ e. apart (sym e)))
      ]
  lines_of (Ended h a b c d ∷ events) = lines_of events ∙ sym (one_line (Ended h a b c d) events)
  lines_of (Absorbed s ∷ events) = lines_of events ∙ sym (one_line (Absorbed s) events)
  lines_of (Closing ∷ events) = lines_of events ∙ sym (one_line Closing events)

  -- of a legal history they are those of the trace of what it has done
  pub lines_done : (trace : Trace) (history : List Event) → IsLegalHistory trace history →
      operation_lines names (operations_of (trace_done trace history)) (order_of history) ≡ flat_map (line_done names) history
  lines_done trace history legal = same_lines names (operations_of (trace_done trace history)) (λ p. done_by p history) (order_of history) each ∙ lines_of history
    where
      each : (p : ℕ) → operations_of (trace_done trace history) p ≡ done_by p history
      each p = go (nat_le (process_count trace) p) refl
        where
          go : (b : Bool) → nat_le (process_count trace) p ≡ b → operations_of (trace_done trace history) p ≡ done_by p history
          go true past =
              let high : process_count trace ≤ p = leb-true (process_count trace) p past in
              let sized : length (map (λ q. done_by q history) (numbers_below (process_count trace))) ≡ process_count trace = length-map (numbers_below (process_count trace)) (λ q. done_by q history) ∙ numbers_length 0 (process_count trace) in
              get_or_past (map (λ q. done_by q history) (numbers_below (process_count trace))) p [] (omega (arith, sized, high)) ∙ sym (done_past trace (opening trace) p history high legal)
          go false fails = let low = leb-false (process_count trace) p fails in ops_at trace history p (omega (arith, low))

  module _ (events : List Event) (i : ℕ) where
    -- the line of the next event was added
    pub lines_next : (event : Event) (first old new : Text) → slice_get events i ≡ Some event → old ≡ first ++ text_of (flat_map (line_done names) (take i events)) → new ≡ old ++ text_of (line_done names event) →
        new ≡ first ++ text_of (flat_map (line_done names) (take (i + 1) events))
    lines_next event first old new at before added =
        let next : take (i + 1) events ≡ take i events ++ event ∷ [] = take_more events i event (slice_get_within events i event at) ∙ ap (λ e. take i events ++ e ∷ []) (get_or_from_slice_get events i event event at) in
        let lines : flat_map (line_done names) (take (i + 1) events) ≡ flat_map (line_done names) (take i events) ++ line_done names event =
        ap (flat_map (line_done names)) next ∙ flat_map-append (line_done names) (take i events) (event ∷ []) ∙ ap (λ ls. flat_map (line_done names) (take i events) ++ ls) (one_line event [] ∙ append-nil (line_done names event)) in
        added ∙ ap (λ (t : Text). t ++ text_of (line_done names event)) before
        ∙ append_assoc first (text_of (flat_map (line_done names) (take i events))) (text_of (line_done names event))
        ∙ ap (λ (t : Text). first ++ t) (sym (text_of-append (flat_map (line_done names) (take i events)) (line_done names event)) ∙ ap text_of (sym lines))

    -- all are added
    pub lines_over : (first now : Text) → length events ≤ i → now ≡ first ++ text_of (flat_map (line_done names) (take i events)) → now ≡ first ++ text_of (flat_map (line_done names) events)
    lines_over first now over is = is ∙ ap (λ (es : List Event). first ++ text_of (flat_map (line_done names) es)) (take_all i events over)
