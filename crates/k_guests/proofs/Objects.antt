-- How many objects the machine has after an event.
use Rattle.std.proofs.Common.{◌≡◌, ◌⊎◌, inl, inr, ℕ, suc, ◌+◌, ◌-◌, ◌≤◌, true, false, cond, not, refl, sym, ap, ◌∙◌, subst, List, [], ◌∷◌, ◌++◌, length, Option, Some, None, arith, append-nil}
use Rattle.std.proofs.lemmas.List.Filters.{length-filter_both}
use Rattle.k_types.specs.declared.event.Event.{Event}
use Rattle.k_types.specs.declared.event.Event.TheVariants.{Absorbed, Closing, Done, Ended}
use Rattle.k_types.specs.declared.event.Fault.{Fault}
use Rattle.k_types.specs.declared.event.Reply.{Reply}
use Rattle.k_types.specs.declared.names.Heap.TheVariants.{Kernel, Shared, User}
use Rattle.k_types.specs.declared.names.Pid.{Pid}
use Rattle.k_types.specs.declared.names.TypeId.{TypeId}
use Rattle.k_types.specs.declared.op.Op.{Op}
use Rattle.k_types.specs.declared.op.Op.TheVariants.{Freeze, KNew, Kill, New, Put, SNew, Store}
use Rattle.k_types.specs.Agree.{CellValue}
use Rattle.k_types.specs.Cells.{Cell, ShownPart, part}
use Rattle.k_types.specs.Effects.{after_absorbed, after_closing, after_end_of, after_ended, after_new, after_operation, effect, effect_unless, step, survives}
use Rattle.k_types.specs.Names.{heap_eq, name_lt}
use Rattle.k_types.specs.Owners.{owner_of, user}
use Rattle.k_types.specs.Replies.{answer, faults, first_fault, refused_or, reply_to}
use Rattle.k_types.specs.State.{Object, State, opening, register}
use Rattle.k_types.specs.Steps.{IsLegalHistory, IsPossible, IsRun, run, state_after}
use Rattle.k_types.specs.Trace.{Trace, segment_of}
use Rattle.k_types.specs.Updates.{add_share, clear_registers, close, close_scan, count_done, create, end_process, keep_exits, keep_objects, keep_shares, open_scan, set_max, set_phase, set_register, turn_exits, with_object}
use Rattle.k_types.proofs.Lists.{length-kept}
use Rattle.k_laws.specs.Counts.{is_allocation, one_if}
use Rattle.k_laws.proofs.Effects.{put_length, stored_length}
use Rattle.k_laws.proofs.Histories.{legal_rest, run_append, state_next}
use Rattle.k_laws.proofs.Rest.{freeze_rest, kill_rest}
use Rattle.k_tie.specs.Values.{JournalValue, NoteValue}
use Rattle.k_agree.specs.Agreement.{Agrees, Shows}
use Rattle.k_book.specs.Objects.{gone_by, made_by, made_by_reply, objects_after, objects_from, objects_told}
use Rattle.k_book.proofs.Counted.{local_objects, none_made}

placed_length : (o : Object) (xs : List Object) → length (with_object o xs) ≡ length xs + 1
placed_length o [] = refl
placed_length o (x ∷ xs) =
    elim (name_lt x.name o.name) as (λ b. length (cond b (x ∷ with_object o xs) (o ∷ x ∷ xs)) ≡ suc (length xs) + 1) [
      | true ↦ omega (arith, placed_length o xs)
      | false ↦ omega arith
    ]

pub made_or_gone : (event : Event) → (made_by event ≡ 0) ⊎ (gone_by event ≡ 0)
made_or_gone (Done pid op said) = inr refl
made_or_gone (Ended h objects bytes exits shares) = inl refl
made_or_gone (Absorbed s) = inl refl
made_or_gone Closing = inl refl

by_counts : (before after gone made : ℕ) → after + gone ≡ before + made → (made ≡ 0) ⊎ (gone ≡ 0) → after ≡ (before - gone) + made
by_counts before after gone made counts one = elim one [
  | inl none ↦ omega (arith, counts, none)
  | inr none ↦ omega (arith, counts, none)
]

module _ (trace : Trace) where
  new_counts : (st : State) (p r seg : ℕ) (ty : TypeId) → length (after_new trace p r seg ty st).objects ≡ length st.objects + 1
  unfolding set_register create
  new_counts st p r seg ty = placed_length _ st.objects

  -- an allocation that is not refused makes one object, and no other operation makes or frees any
  effect_counts : (st : State) (p : ℕ) (op : Op) → length (effect trace p op st).objects ≡ length st.objects + one_if (is_allocation op)
  unfolding effect set_register open_scan add_share set_phase after_end_of end_process clear_registers keep_shares turn_exits set_max
  effect_counts st p (New r ty) = omega (arith, new_counts st p r.0 (segment_of trace (user p)) ty)
  effect_counts st p (KNew r ty) = omega (arith, new_counts st p r.0 (segment_of trace Kernel) ty)
  effect_counts st p (SNew r s ty) = omega (arith, new_counts st p r.0 (segment_of trace (Shared s)) ty)
  effect_counts st p (Store base i value) = omega (arith, stored_length trace st (register st.registers p base.0) i (register st.registers p value.0))
  effect_counts st p (Put base i number) = omega (arith, put_length trace st (register st.registers p base.0) i number)
  effect_counts st p (Freeze s root) = omega (arith, ap (λ (s : State). length s.objects) (freeze_rest st s.0 (register st.registers p root.0)))
  effect_counts st p (Kill q) = omega (arith, ap (λ (s : State). length s.objects) (kill_rest trace st q.0))
  effect_counts st p _ = omega arith

  answered : (st : State) (p : ℕ) (op : Op) → made_by_reply (answer trace st p op) ≡ one_if (is_allocation op)
  unfolding answer
  answered st p (New r ty) = refl
  answered st p (KNew r ty) = refl
  answered st p (SNew r s ty) = refl
  answered st p _ = refl

  done_counts : (st : State) (p : ℕ) (op : Op) (said : Reply) → said ≡ reply_to trace st p op → length (after_operation trace p op st).objects ≡ length st.objects + made_by_reply said
  unfolding after_operation count_done reply_to
  done_counts st p op said is = go (first_fault (faults trace st p op)) ∙ ap (λ r. length st.objects + made_by_reply r) (sym is)
    where
      go : (f : Option Fault) → length (effect_unless f trace p op st).objects ≡ length st.objects + made_by_reply (refused_or f (answer trace st p op))
      go None = effect_counts st p op ∙ ap (λ k. length st.objects + k) (sym (answered st p op))
      go (Some f) = omega arith

  -- what an event makes comes, and what it frees goes
  pub event_counts : (st : State) (event : Event) → IsPossible trace st event → length (step trace st event).objects + gone_by event ≡ length st.objects + made_by event
  unfolding step after_ended after_absorbed after_closing close_scan keep_shares keep_exits keep_objects close set_phase open_scan
  event_counts st (Done pid op said) may = omega (arith, done_counts st pid.0 op said may.replied)
  event_counts st (Ended h objects bytes exits shares) may =
      let both = length-filter_both (λ (o : Object). survives trace st h o.name) (λ (o : Object). not (survives trace st h o.name)) (λ o. refl) st.objects in
      let gone = may.objects_gone in
      omega (arith, both, gone)
  event_counts st (Absorbed s) may = omega arith
  event_counts st Closing may = omega arith

  -- so the events tell how many there are
  told_from : (st : State) (events : List Event) → IsRun trace st events → length (run trace st events).objects ≡ objects_from (length st.objects) events
  told_from st [] runs = refl
  told_from st (event ∷ events) runs =
      told_from (step trace st event) events runs.1
      ∙ ap (λ n. objects_from n events) (by_counts (length st.objects) (length (step trace st event).objects) (gone_by event) (made_by event) (event_counts st event runs.0) (made_or_gone event))

  pub objects_are_told : (history : List Event) → IsLegalHistory trace history → objects_after trace history ≡ objects_told history
  objects_are_told history legal = told_from (opening trace) history legal

  pub appended_counts : (history : List Event) (event : Event) → IsPossible trace (state_after trace history) event → objects_after trace (history ++ event ∷ []) + gone_by event ≡ objects_after trace history + made_by event
  appended_counts history event may = ap (λ (st : State). length st.objects + gone_by event) (state_next trace history event) ∙ event_counts (state_after trace history) event may

  pub makes_none : (st : State) (p : ℕ) (op : Op) (said : Reply) → is_allocation op ≡ false → said ≡ reply_to trace st p op → made_by_reply said ≡ 0
  makes_none st p op said none is = none_made trace st p op said (answered st p op ∙ ap one_if none) is

  -- the machine has as many objects once a process has published what it did inside its heap
  pub published_counts : (history : List Event) (pid : Pid) (note : NoteValue) (value : CellValue) → Agrees trace (User pid) note value → IsLegalHistory trace (history ++ value.tail) →
      objects_after trace (history ++ value.tail) ≡ objects_after trace history
  published_counts history pid note value agrees legal =
      ap (λ (st : State). length st.objects) (run_append trace (opening trace) history value.tail)
      ∙ told_from (state_after trace history) value.tail runs
      ∙ local_objects trace pid.0 (state_after trace note.list) (state_after trace history) value.tail agrees.tail runs (objects_after trace history)
    where
      runs : IsRun trace (state_after trace history) value.tail
      runs = legal_rest trace (opening trace) history value.tail legal

  -- a cell has no more objects than the machine
  pub shown_few : (st : State) (cell : Cell) (value : CellValue) → Shows trace st cell value → length value.objects ≤ length st.objects
  unfolding part
  shown_few st cell value shows =
      let own = ap (λ (s : ShownPart). length s.objects) shows.part in
      let few = length-kept (λ (o : Object). heap_eq (owner_of trace st o.name.seg.0) cell) st.objects in
      omega (arith, own, few)

  -- nor has one that has met the journal and has nothing unpublished
  pub settled_few : (journal : JournalValue) (cell : Cell) (note : NoteValue) (value : CellValue) → Agrees trace cell note value → value.tail ≡ [] → note.list ≡ journal.list → length value.objects ≤ objects_after trace journal.list
  settled_few journal cell note value agrees settled met =
      shown_few (state_after trace journal.list) cell value
      (subst (λ history. Shows trace (state_after trace history) cell value) (ap (λ tail. note.list ++ tail) settled ∙ append-nil note.list ∙ met) agrees.shows)
