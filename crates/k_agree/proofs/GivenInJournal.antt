-- The cells after the event of an exit, a kill or an absorption.
use Rattle.std.proofs.Common.{◌≡◌, ℕ, ◌<◌, refl, sym, ap, ◌∙◌, subst, [], ◌∷◌, ◌++◌, length, option_map, IsFalse, IsTrue, ne_eqb, not}
use Rattle.k_laws.specs.k_types.declared.event.Event.TheVariants.{Absorbed, Done}
use Rattle.k_laws.specs.k_types.declared.event.Reply.{Reply}
use Rattle.k_laws.specs.k_types.declared.names.CellPhase.TheVariants.{Idle}
use Rattle.k_laws.specs.k_types.declared.names.Heap.TheVariants.{Kernel}
use Rattle.k_laws.specs.k_types.declared.names.Pid.{Pid}
use Rattle.k_laws.specs.k_types.declared.names.SharedId.{SharedId}
use Rattle.k_laws.specs.k_types.declared.op.Op.TheVariants.{Exit, Kill}
use Rattle.k_laws.specs.k_types.Agree.{BookValue, CellValue}
use Rattle.k_laws.specs.k_types.Cells.{ShownPart, part, shown, Cell}
use Rattle.k_laws.specs.k_types.Effects.{after_end_of}
use Rattle.k_laws.specs.k_types.Owners.{owner_of, shared, user}
use Rattle.k_laws.specs.PartUpdates.{process_with_done}
use Rattle.k_laws.specs.k_types.State.{State}
use Rattle.k_laws.specs.k_types.Steps.{IsPossible, state_after}
use Rattle.k_laws.specs.k_types.Trace.{Trace}
use Rattle.k_laws.specs.k_types.TraceRules.{AreLimits}
use Rattle.k_laws.specs.k_types.Updates.{count_done, clear_registers, end_process, keep_shares, turn_exits}
use Rattle.k_laws.proofs.Elsewhere.{count_done_elsewhere}
use Rattle.k_laws.proofs.Histories.{state_next}
use Rattle.k_laws.proofs.LocalEffects.{part_done}
use Rattle.k_tie.specs.Values.{JournalValue}
use Rattle.k_agree.specs.Agreement.{BookAgrees, Shows}
use Rattle.k_agree.specs.GivingAway.{HasTakenIn, absorbed_cell, ended_cell, with_one_done}
use Rattle.k_agree.proofs.AtTheEnd.{book_sound}
use Rattle.k_agree.proofs.GivenAway.{absorb_cell, absorb_kernel, exit_cell, exit_kernel, still_idle}
use Rattle.k_agree.proofs.GivenOnTheBook.{absorbed_event, may_absorb, may_exit}
use Rattle.k_laws.specs.k_types.Names.{heap_eq, among}
use Rattle.k_laws.specs.k_types.Replies.{ends_other}
use Rattle.k_laws.specs.k_types.Limits.{is_above}
use Rattle.k_laws.proofs.Ending.{kill_event, may_end_other, exit_event}
use Rattle.k_tie.proofs.Ancestors.{above_another}
use Rattle.k_laws.proofs.ElsewhereOther.{exited_elsewhere}
use Rattle.std.proofs.lemmas.Bool.{and_parts}

-- an operation that counts as done shows in its process's cell alone
pub counted_cell : (trace : Trace) (st : State) (p : ℕ) (value : CellValue) → p < length st.done → Shows trace st (user p) value → value.collection ≡ Idle → Shows trace (count_done p st) (user p) (with_one_done value)
unfolding part count_done
counted_cell trace st p value inside shows idle = record {
  part =
      ap (λ (s : ShownPart). record s { process = option_map process_with_done s.process }) shows.part
      ∙ ap shown (sym (part_done trace p st inside));
  marks = still_idle trace st (count_done p st) (user p) value (with_one_done value) shows idle refl refl;
}

counted_kernel : (trace : Trace) (st : State) (p : ℕ) (value : CellValue) → Shows trace st Kernel value → Shows trace (count_done p st) Kernel value
unfolding count_done
counted_kernel trace st p value shows = record {
  part = shows.part ∙ ap shown (sym (count_done_elsewhere trace st Kernel p refl));
  marks = shows.marks;
}

pub still_counted : (trace : Trace) (st : State) (p : ℕ) → p < length st.done → p < length (after_end_of trace p st).done
unfolding after_end_of end_process clear_registers keep_shares turn_exits
still_counted trace st p inside = inside

pub still_counted_by : (trace : Trace) (st : State) (p q : ℕ) → q < length st.done → q < length (after_end_of trace p st).done
unfolding after_end_of end_process clear_registers keep_shares turn_exits
still_counted_by trace st p q inside = inside

pub counted_apart : (trace : Trace) (st : State) (c : Cell) (p : ℕ) (value : CellValue) → IsFalse (heap_eq (user p) c) → Shows trace st c value → Shows trace (count_done p st) c value
unfolding count_done
counted_apart trace st c p value apart shows = record {
  part = shows.part ∙ ap shown (sym (count_done_elsewhere trace st c p apart));
  marks = shows.marks;
}

pub absorbed_cell_shows : (trace : Trace) (journal : JournalValue) (s : SharedId) (heap : CellValue) (book : BookValue) → AreLimits trace → BookAgrees trace journal book → IsPossible trace (state_after trace journal.list) (Absorbed s) →
    Shows trace (state_after trace journal.list) (shared s.0) heap → heap.collection ≡ Idle → Shows trace (state_after trace (journal.list ++ Absorbed s ∷ [])) (shared s.0) (absorbed_cell heap)
absorbed_cell_shows trace journal s heap book limits agrees possible shows idle =
    let st = state_after trace journal.list in
    subst (λ su. Shows trace su (shared s.0) (absorbed_cell heap)) (sym (state_next trace journal.list (Absorbed s) ∙ absorbed_event trace st s))
    (absorb_cell trace st s.0 heap (book_sound trace journal book limits agrees) (may_absorb trace st s possible) shows idle)

pub absorbed_kernel_shows : (trace : Trace) (journal : JournalValue) (s : SharedId) (heap kernel after : CellValue) (book : BookValue) → AreLimits trace → BookAgrees trace journal book → IsPossible trace (state_after trace journal.list) (Absorbed s) →
    Shows trace (state_after trace journal.list) (shared s.0) heap → Shows trace (state_after trace journal.list) Kernel kernel → kernel.collection ≡ Idle →
    HasTakenIn (owner_of trace (state_after trace journal.list)) (shared s.0) heap kernel after → Shows trace (state_after trace (journal.list ++ Absorbed s ∷ [])) Kernel after
absorbed_kernel_shows trace journal s heap kernel after book limits agrees possible shows kernel_shows idle taken =
    let st = state_after trace journal.list in
    subst (λ su. Shows trace su Kernel after) (sym (state_next trace journal.list (Absorbed s) ∙ absorbed_event trace st s))
    (absorb_kernel trace st s.0 heap kernel after (book_sound trace journal book limits agrees) (may_absorb trace st s possible) shows kernel_shows idle taken)

pub exited_cell_shows : (trace : Trace) (journal : JournalValue) (pid : Pid) (said : Reply) (heap : CellValue) (book : BookValue) → AreLimits trace → BookAgrees trace journal book → IsPossible trace (state_after trace journal.list) (Done pid Exit said) →
    Shows trace (state_after trace journal.list) (user pid.0) heap → heap.collection ≡ Idle → Shows trace (state_after trace (journal.list ++ Done pid Exit said ∷ [])) (user pid.0) (with_one_done (ended_cell heap))
exited_cell_shows trace journal pid said heap book limits agrees possible shows idle =
    let st = state_after trace journal.list in
    let sound = book_sound trace journal book limits agrees in
    let may = may_exit trace st pid said possible in
    let inside : pid.0 < length st.done = rw sound.shape.sized.done may.known in
    subst (λ su. Shows trace su (user pid.0) (with_one_done (ended_cell heap))) (sym (state_next trace journal.list (Done pid Exit said) ∙ exit_event trace st pid said))
    (counted_cell trace (after_end_of trace pid.0 st) pid.0 (ended_cell heap) (still_counted trace st pid.0 inside)
    (exit_cell trace st pid.0 heap sound may shows idle) idle)

pub exited_kernel_shows : (trace : Trace) (journal : JournalValue) (pid : Pid) (said : Reply) (heap kernel after : CellValue) (book : BookValue) → AreLimits trace → BookAgrees trace journal book → IsPossible trace (state_after trace journal.list) (Done pid Exit said) →
    Shows trace (state_after trace journal.list) (user pid.0) heap → Shows trace (state_after trace journal.list) Kernel kernel → kernel.collection ≡ Idle →
    HasTakenIn (owner_of trace (state_after trace journal.list)) (user pid.0) heap kernel after → Shows trace (state_after trace (journal.list ++ Done pid Exit said ∷ [])) Kernel after
exited_kernel_shows trace journal pid said heap kernel after book limits agrees possible shows kernel_shows idle taken =
    let st = state_after trace journal.list in
    subst (λ su. Shows trace su Kernel after) (sym (state_next trace journal.list (Done pid Exit said) ∙ exit_event trace st pid said))
    (counted_kernel trace (after_end_of trace pid.0 st) pid.0 after
    (exit_kernel trace st pid.0 heap kernel after (book_sound trace journal book limits agrees) (may_exit trace st pid said possible) shows kernel_shows idle taken))

-- a kill that ends its target counts in the cell of the process that asks, and does to the target's and the kernel's what its end does
killed_state : (trace : Trace) (journal : JournalValue) (pid target : Pid) (said : Reply) → IsTrue (ends_other trace (state_after trace journal.list) pid.0 target.0) →
    state_after trace (journal.list ++ Done pid (Kill target) said ∷ []) ≡ count_done pid.0 (after_end_of trace target.0 (state_after trace journal.list))
killed_state trace journal pid target said ends = state_next trace journal.list (Done pid (Kill target) said) ∙ kill_event trace (state_after trace journal.list) pid target said ends

-- the end of a process shows in its own cell and the kernel's alone
pub ended_elsewhere : (trace : Trace) (st : State) (c : Cell) (p : ℕ) (value : CellValue) → IsFalse (heap_eq (user p) c) → IsFalse (heap_eq Kernel c) → Shows trace st c value → Shows trace (after_end_of trace p st) c value
unfolding after_end_of end_process clear_registers keep_shares turn_exits
ended_elsewhere trace st c p value apart kernel shows = record {
  part = shows.part ∙ ap shown (sym (exited_elsewhere trace st c p apart kernel));
  marks = shows.marks;
}

pub killer_shows : (trace : Trace) (journal : JournalValue) (pid target : Pid) (said : Reply) (own : CellValue) (book : BookValue) → AreLimits trace → BookAgrees trace journal book → IsPossible trace (state_after trace journal.list) (Done pid (Kill target) said) →
    IsTrue (ends_other trace (state_after trace journal.list) pid.0 target.0) → Shows trace (state_after trace journal.list) (user pid.0) own → own.collection ≡ Idle →
    Shows trace (state_after trace (journal.list ++ Done pid (Kill target) said ∷ [])) (user pid.0) (with_one_done own)
killer_shows trace journal pid target said own book limits agrees possible ends shows idle =
    let st = state_after trace journal.list in
    let sound = book_sound trace journal book limits agrees in
    let may = may_end_other trace st pid target said possible ends in
    let above = (and_parts (is_above trace pid.0 target.0) (not (among target.0 st.ended)) ends).0 in
    let apart : IsFalse (heap_eq (user target.0) (user pid.0)) = ne_eqb target.0 pid.0 (λ e. above_another trace limits pid.0 target.0 may.known above (sym e)) in
    let inside : pid.0 < length st.done = rw sound.shape.sized.done possible.known in
    subst (λ su. Shows trace su (user pid.0) (with_one_done own)) (sym (killed_state trace journal pid target said ends))
    (counted_cell trace (after_end_of trace target.0 st) pid.0 own (still_counted_by trace st target.0 pid.0 inside) (ended_elsewhere trace st (user pid.0) target.0 own apart refl shows) idle)

pub killed_cell_shows : (trace : Trace) (journal : JournalValue) (pid target : Pid) (said : Reply) (heap : CellValue) (book : BookValue) → AreLimits trace → BookAgrees trace journal book → IsPossible trace (state_after trace journal.list) (Done pid (Kill target) said) →
    IsTrue (ends_other trace (state_after trace journal.list) pid.0 target.0) → Shows trace (state_after trace journal.list) (user target.0) heap → heap.collection ≡ Idle →
    Shows trace (state_after trace (journal.list ++ Done pid (Kill target) said ∷ [])) (user target.0) (ended_cell heap)
killed_cell_shows trace journal pid target said heap book limits agrees possible ends shows idle =
    let st = state_after trace journal.list in
    let sound = book_sound trace journal book limits agrees in
    let may = may_end_other trace st pid target said possible ends in
    let above = (and_parts (is_above trace pid.0 target.0) (not (among target.0 st.ended)) ends).0 in
    let apart : IsFalse (heap_eq (user pid.0) (user target.0)) = ne_eqb pid.0 target.0 (above_another trace limits pid.0 target.0 may.known above) in
    subst (λ su. Shows trace su (user target.0) (ended_cell heap)) (sym (killed_state trace journal pid target said ends))
    (counted_apart trace (after_end_of trace target.0 st) (user target.0) pid.0 (ended_cell heap) apart (exit_cell trace st target.0 heap sound may shows idle))

pub killed_kernel_shows : (trace : Trace) (journal : JournalValue) (pid target : Pid) (said : Reply) (heap kernel after : CellValue) (book : BookValue) → AreLimits trace → BookAgrees trace journal book → IsPossible trace (state_after trace journal.list) (Done pid (Kill target) said) →
    IsTrue (ends_other trace (state_after trace journal.list) pid.0 target.0) → Shows trace (state_after trace journal.list) (user target.0) heap → Shows trace (state_after trace journal.list) Kernel kernel → kernel.collection ≡ Idle →
    HasTakenIn (owner_of trace (state_after trace journal.list)) (user target.0) heap kernel after → Shows trace (state_after trace (journal.list ++ Done pid (Kill target) said ∷ [])) Kernel after
killed_kernel_shows trace journal pid target said heap kernel after book limits agrees possible ends shows kernel_shows idle taken =
    let st = state_after trace journal.list in
    subst (λ su. Shows trace su Kernel after) (sym (killed_state trace journal pid target said ends))
    (counted_kernel trace (after_end_of trace target.0 st) pid.0 after
    (exit_kernel trace st target.0 heap kernel after (book_sound trace journal book limits agrees) (may_end_other trace st pid target said possible ends) shows kernel_shows idle taken))
