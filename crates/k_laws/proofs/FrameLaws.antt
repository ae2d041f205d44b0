-- The laws of this crate, one lemma a clause under the law's name, for the crates above to cite.
use Rattle.std.proofs.Common.{refl}
use Rattle.std.specs.Prelude.{IsFalse, IsTrue, List, [], ◌+◌, ◌∷◌, ◌++◌, ◌≡◌, ◌↔◌, ℕ, ◌<◌}
use Rattle.k_types.specs.Cells.{Cell, part, touches, book_part}
use Rattle.k_types.specs.Effects.{step, after_operation}
use Rattle.k_types.specs.Local.{AreLocal, is_local}
use Rattle.k_types.specs.Names.{among, heap_eq}
use Rattle.k_types.specs.Owners.{user}
use Rattle.k_types.specs.Replies.{reply_to}
use Rattle.k_types.specs.Sound.{IsSized}
use Rattle.k_types.specs.State.{State, opening}
use Rattle.k_types.specs.Steps.{IsLegalHistory, IsPossible, IsRun, done_by, run, state_after, touch_count, touch_count_from}
use Rattle.k_types.specs.Trace.{Trace, process_count}
use Rattle.k_types.specs.declared.event.Event.{Event}
use Rattle.k_types.specs.declared.event.Event.TheVariants.{Done}
use Rattle.k_types.specs.declared.event.Reply.{Reply}
use Rattle.k_types.specs.declared.names.Pid.{Pid}
use Rattle.k_types.specs.declared.op.Op.{Op}
use Rattle.k_laws.proofs.FrameSteps.{frame}
use Rattle.k_laws.proofs.Histories.{done_append, legal_append, legal_front, legal_rest, run_append, touches_append}
use Rattle.k_laws.proofs.LocalSteps.{reply_same}
use Rattle.k_laws.proofs.Sizes.{history_sized}
use Rattle.k_laws.proofs.Tails.{local_same, possible_too, after_alike, book_after, local_touches, tail_law}
use Rattle.k_laws.proofs.Untouched.{untouched, count_kept, count_raised, idle_since, none_touch}
use Rattle.k_laws.specs.Alike.{Alike}
use Rattle.k_laws.specs.Tails.{TailFollows}

-- the frame: a step leaves the part of each cell that it does not touch as it was, and its count of touches, and raises the count of each cell that it touches by 1
pub steps_leave_other_cells-part : (trace : Trace) (st : State) (event : Event) (c : Cell) → IsPossible trace st event → IsFalse (touches trace st event c) → part trace (step trace st event) c ≡ part trace st c
steps_leave_other_cells-part = frame

pub steps_leave_other_cells-count : (trace : Trace) (c : Cell) (history : List Event) (event : Event) → IsFalse (touches trace (state_after trace history) event c) → touch_count trace c (history ++ event ∷ []) ≡ touch_count trace c history
steps_leave_other_cells-count = count_kept

pub steps_leave_other_cells-touched : (trace : Trace) (c : Cell) (history : List Event) (event : Event) → IsTrue (touches trace (state_after trace history) event c) → touch_count trace c (history ++ event ∷ []) ≡ touch_count trace c history + 1
steps_leave_other_cells-touched = count_raised

pub steps_leave_other_cells-untouched : (trace : Trace) (c : Cell) (known rest : List Event) → IsLegalHistory trace (known ++ rest) → touch_count trace c (known ++ rest) ≡ touch_count trace c known → part trace (state_after trace (known ++ rest)) c ≡ part trace (state_after trace known) c
steps_leave_other_cells-untouched = untouched

-- a process whose cell the later events do not touch has done no operation since
pub untouched_processes_do_nothing : (trace : Trace) (p : ℕ) (known rest : List Event) → touch_count trace (user p) (known ++ rest) ≡ touch_count trace (user p) known → done_by p (known ++ rest) ≡ done_by p known
untouched_processes_do_nothing = idle_since

-- the lists of a state are as long as the trace says, whatever the events
pub lists_keep_their_lengths : (trace : Trace) (history : List Event) → IsSized trace (state_after trace history)
lists_keep_their_lengths = history_sized

-- histories add up: of two lists of events that follow one another the state, the touches of each cell and the operations of each process are those of the first and then of the second from the state that the first leaves, and together they are legal exactly where each is in its place
pub histories_add_up-state : (trace : Trace) (known rest : List Event) → state_after trace (known ++ rest) ≡ run trace (state_after trace known) rest
histories_add_up-state = λ trace known rest. run_append trace (opening trace) known rest

pub histories_add_up-legal : (trace : Trace) (known rest : List Event) → IsLegalHistory trace (known ++ rest) ↔ (IsLegalHistory trace known × IsRun trace (state_after trace known) rest)
histories_add_up-legal = λ trace known rest. (
  λ legal. (legal_front trace (opening trace) known rest legal, legal_rest trace (opening trace) known rest legal),
  λ both. legal_append trace (opening trace) known rest both.0 both.1,
)

pub histories_add_up-touches : (trace : Trace) (c : Cell) (known rest : List Event) → touch_count trace c (known ++ rest) ≡ touch_count trace c known + touch_count_from trace (state_after trace known) c rest
histories_add_up-touches = λ trace cell known rest. touches_append trace (opening trace) cell known rest

pub histories_add_up-done : (p : ℕ) (known rest : List Event) → done_by p (known ++ rest) ≡ done_by p known ++ done_by p rest
histories_add_up-done = done_append

-- a local operation goes by its process's cell alone: in two states where that cell's part is the same it is local in both, is answered the same, is possible in both and leaves the same part
pub local_operations_go_by_their_cell-local : (trace : Trace) (p : ℕ) (st su : State) (op : Op) → Alike trace p st su → IsTrue (is_local st p op) → IsTrue (is_local su p op)
local_operations_go_by_their_cell-local = λ trace p st su op alike local. local_same trace p st su op alike local

pub local_operations_go_by_their_cell-replies : (trace : Trace) (p : ℕ) (st su : State) (op : Op) → Alike trace p st su → IsTrue (is_local st p op) → reply_to trace st p op ≡ reply_to trace su p op
local_operations_go_by_their_cell-replies = λ trace p st su op alike local. reply_same trace p st su alike op local

pub local_operations_go_by_their_cell-possible : (trace : Trace) (pid : Pid) (st su : State) (op : Op) (said : Reply) → Alike trace pid.0 st su → IsTrue (is_local st pid.0 op) → IsPossible trace st (Done pid op said) → IsPossible trace su (Done pid op said)
local_operations_go_by_their_cell-possible = λ trace pid st su op said alike local may. possible_too trace pid.0 st su pid op said refl alike local may

pub local_operations_go_by_their_cell-parts : (trace : Trace) (p : ℕ) (st su : State) (op : Op) → Alike trace p st su → IsTrue (is_local st p op) → part trace (after_operation trace p op st) (user p) ≡ part trace (after_operation trace p op su) (user p)
local_operations_go_by_their_cell-parts = λ trace p st su op alike local. (after_alike trace p st su op alike local (local_same trace p st su op alike local)).same

pub local_operations_go_by_their_cell-book : (trace : Trace) (p : ℕ) (st : State) (op : Op) → p < process_count trace → IsFalse (among p st.ended) → IsTrue (is_local st p op) → book_part trace (after_operation trace p op st) ≡ book_part trace st
local_operations_go_by_their_cell-book = λ trace p st op known lives local. book_after trace p st op known lives local

pub local_operations_go_by_their_cell-touched : (trace : Trace) (st : State) (pid : Pid) (op : Op) (said : Reply) (c : Cell) → pid.0 < process_count trace → IsFalse (among pid.0 st.ended) → IsTrue (is_local st pid.0 op) → touches trace st (Done pid op said) c ≡ heap_eq (user pid.0) c
local_operations_go_by_their_cell-touched = local_touches

-- the law on tails: what a process does inside its heap after some events it does in the same way after more events that do not touch its heap's cell, which is seen by equal counts of touches
pub tails_follow : (trace : Trace) (p : ℕ) (known rest tail : List Event) → IsLegalHistory trace (known ++ rest) → IsLegalHistory trace (known ++ tail) → AreLocal trace p (state_after trace known) tail → touch_count trace (user p) (known ++ rest) ≡ touch_count trace (user p) known → TailFollows trace p known rest tail
tails_follow = λ trace p known rest tail longer short local same. tail_law trace p known rest tail longer short local (none_touch trace (user p) known rest same)
