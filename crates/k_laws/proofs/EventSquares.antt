-- What a step makes of the parts of the cells and of the book.
use Rattle.std.proofs.Common.{◌≡◌, ℕ, ◌<◌, not, refl, sym, ap, ◌∙◌, length, length-set, get_or, ◌+◌, Option, Some, None, arith, IsTrue}
use Rattle.std.specs.List.{list_all}
use Rattle.std.proofs.lemmas.Bool.{and_parts, not-true}
use Rattle.k_types.specs.declared.names.Pid.{Pid}
use Rattle.k_types.specs.declared.names.SharedId.{SharedId}
use Rattle.k_types.specs.declared.names.Heap.{Heap}
use Rattle.k_types.specs.declared.names.Heap.TheVariants.{Kernel, User, Shared}
use Rattle.k_types.specs.declared.op.Op.{Op}
use Rattle.k_types.specs.declared.op.Op.TheVariants.{New}
use Rattle.k_types.specs.declared.event.Fault.{Fault}
use Rattle.k_types.specs.declared.event.Reply.{Reply}
use Rattle.k_types.specs.declared.event.Event.{Event}
use Rattle.k_types.specs.declared.event.Event.TheVariants.{Done, Ended, Absorbed, Closing}
use Rattle.k_types.specs.Trace.{Trace, process_count}
use Rattle.k_types.specs.State.{State, is_scanned, scan_of}
use Rattle.k_types.specs.Owners.{user, phase_of}
use Rattle.k_types.specs.Updates.{count_done}
use Rattle.k_types.specs.Replies.{first_fault, faults, answer, reply_to, refused_or}
use Rattle.k_types.specs.Effects.{step, after_ended, effect, effect_unless, after_operation}
use Rattle.k_types.specs.Cells.{part, book_part, cells_touched, other_cells}
use Rattle.k_types.specs.Steps.{IsPossible, is_live, has_sharer}
use Rattle.k_types.specs.Sound.{IsSound}
use Rattle.k_laws.specs.PartUpdates.{with_done}
use Rattle.k_laws.proofs.ElsewhereOther.{collected_elsewhere}
use Rattle.k_laws.proofs.Sizes.{step_sized}
use Rattle.k_laws.specs.Changes.{MayAbsorb}
use Rattle.k_laws.proofs.SoundEffects.{Acts}
use Rattle.k_laws.specs.CellChanges.{collected}
use Rattle.k_laws.specs.BookChanges.{when_collected}
use Rattle.k_laws.proofs.Collected.{ended_on_cell}
use Rattle.k_laws.proofs.CollectedOnBook.{kernel_collected_on_book, collected_on_book}
use Rattle.k_laws.proofs.OnBook.{count_done_on_book, owner_told}
use Rattle.k_types.specs.TraceRules.{AreLimits}
use Rattle.k_types.proofs.Objects.{some_is}
use Rattle.k_laws.specs.BookAfter.{book_after, book_collected, book_operated}
use Rattle.k_laws.specs.CellAfter.{at_cell, unless_refused, cell_after, cells_operated}
use Rattle.k_laws.proofs.AtCells.{one_cell, done_cells}
use Rattle.k_laws.proofs.BookSquares.{effect_book, absorbed_book, closing_book}
use Rattle.k_laws.proofs.CellSquares.{effect_cells, absorbed_effect, closing_effect}
use Rattle.k_types.proofs.Lists.{none_is}

-- an answer is no refusal
pub answer_is_one : {A : Type 0} (trace : Trace) (st : State) (p : ℕ) (op : Op) (after before : A) → unless_refused (answer trace st p op) after before ≡ after
unfolding answer
answer_is_one trace st p (New r ty) after before = refl
answer_is_one trace st p _ after before = refl

pub acts_of : (trace : Trace) (st : State) (pid : Pid) (op : Op) (said : Reply) → IsPossible trace st (Done pid op said) → first_fault (faults trace st pid.0 op) ≡ None → Acts trace st pid.0 op
unfolding cells_touched
acts_of trace st pid op said may fine =
    let idle = and_parts (not (is_scanned st.scans (user pid.0))) (list_all (λ c. not (is_scanned st.scans c)) (other_cells trace st pid.0 op)) may.idle in
    record { known = may.known; lives = may.lives; in_range = may.in_range; idle = none_is _ (not-true _ idle.0); others = idle.1; fine = fine }

-- what the operation leaves of some view of the state, by whether it is refused
pub operated : {A : Type 0} (trace : Trace) (st : State) (p : ℕ) (op : Op) (said : Reply) (view : State → A) (after : Reply → A) (before : A) → said ≡ reply_to trace st p op → view st ≡ before →
    (first_fault (faults trace st p op) ≡ None → view (effect trace p op st) ≡ after (answer trace st p op)) →
    view (effect_unless (first_fault (faults trace st p op)) trace p op st) ≡ unless_refused said (after said) before
unfolding reply_to
operated trace st p op said view after before replied same done =
    go (first_fault (faults trace st p op)) refl ∙ ap (λ reply. unless_refused reply (after reply) before) (sym replied)
  where
    go : (f : Option Fault) → first_fault (faults trace st p op) ≡ f →
        view (effect_unless f trace p op st) ≡ unless_refused (refused_or f (answer trace st p op)) (after (refused_or f (answer trace st p op))) before
    go None e = done e ∙ sym (answer_is_one trace st p op (after (answer trace st p op)) before)
    go (Some fault) e = same

done_long : (trace : Trace) (st : State) (pid : Pid) (op : Op) (said : Reply) → IsSound trace st → pid.0 < process_count trace →
    pid.0 < length (effect_unless (first_fault (faults trace st pid.0 op)) trace pid.0 op st).done
unfolding step after_operation count_done
done_long trace st pid op said sound known =
    let after = effect_unless (first_fault (faults trace st pid.0 op)) trace pid.0 op st in
    let long = step_sized trace st (Done pid op said) sound.shape.sized in
    let same = length-set after.done pid.0 (get_or after.done pid.0 0 + 1) in
    omega (arith, known, long.done, same)

may_absorb : (trace : Trace) (st : State) (s : SharedId) → IsPossible trace st (Absorbed s) → MayAbsorb trace st s.0
may_absorb trace st s may = record {
  known = may.known;
  no_sharer = not-true _ (and_parts (is_live (phase_of st.phases s.0)) (not (has_sharer st.shares s.0)) may.orphan).1;
  idle = none_is _ may.idle;
}

pub step_cells : (trace : Trace) (st : State) (event : Event) → IsSound trace st → IsPossible trace st event → part trace (step trace st event) ≡ cell_after trace (book_part trace st) (part trace st) event
unfolding step after_operation cell_after
step_cells trace st (Done pid op said) sound may =
    done_cells trace (effect_unless (first_fault (faults trace st pid.0 op)) trace pid.0 op st) pid.0 (done_long trace st pid op said sound may.known)
    ∙ ap (at_cell (user pid.0) with_done) (operated trace st pid.0 op said (part trace) (cells_operated trace (book_part trace st) (part trace st) pid.0 op) (part trace st) may.replied refl
    (λ fine. effect_cells trace st sound pid.0 op (acts_of trace st pid op said may fine)))
step_cells trace st (Ended h objects bytes exits shares) sound may =
    one_cell (part trace st) (part trace (after_ended trace h st)) h collected (ended_on_cell trace st h) (λ c f. collected_elsewhere trace st c h f)
step_cells trace st (Absorbed s) sound may = absorbed_effect trace st sound s.0 (may_absorb trace st s may)
step_cells trace st Closing sound may = closing_effect trace st sound

collected_book : (trace : Trace) (st : State) (h : Heap) → AreLimits trace → IsSound trace st → IsTrue (is_scanned st.scans h) → book_part trace (after_ended trace h st) ≡ book_collected trace (part trace st) h (book_part trace st)
collected_book trace st Kernel limits sound scanned = kernel_collected_on_book trace st sound
collected_book trace st (User p) limits sound scanned =
    let open_ = some_is (scan_of st.scans (User p)) scanned in
    collected_on_book trace limits st p.0 sound open_.0 open_.1
    ∙ ap (λ own. when_collected trace own p.0 (part trace st (User p)) (book_part trace st)) (sym (owner_told trace st))
collected_book trace st (Shared s) limits sound scanned =
    let open_ = some_is (scan_of st.scans (Shared s)) scanned in absurd (cc (open_.1, sound.scans.none_shared s.0))

pub step_book : (trace : Trace) (st : State) (event : Event) → AreLimits trace → IsSound trace st → IsPossible trace st event → book_part trace (step trace st event) ≡ book_after trace (book_part trace st) (part trace st) event
unfolding step after_operation book_after
step_book trace st (Done pid op said) limits sound may =
    count_done_on_book trace (effect_unless (first_fault (faults trace st pid.0 op)) trace pid.0 op st) pid.0
    ∙ operated trace st pid.0 op said (book_part trace) (book_operated trace (book_part trace st) (part trace st) pid.0 op) (book_part trace st) may.replied refl
    (λ fine. effect_book trace st limits sound pid.0 op (acts_of trace st pid op said may fine))
step_book trace st (Ended h objects bytes exits shares) limits sound may = collected_book trace st h limits sound may.scanned
step_book trace st (Absorbed s) limits sound may = absorbed_book trace st sound s.0 (may_absorb trace st s may)
step_book trace st Closing limits sound may = closing_book trace st
