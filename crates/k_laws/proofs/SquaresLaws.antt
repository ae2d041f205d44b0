-- The laws of this crate, one lemma a clause, for the crates above to cite.
use Rattle.std.proofs.Common.{◌≡◌, ◌<◌, ℕ, ap, IsFalse}
use Rattle.k_types.specs.declared.names.Pid.{Pid}
use Rattle.k_types.specs.declared.op.Op.{Op}
use Rattle.k_types.specs.declared.event.Reply.{Reply}
use Rattle.k_types.specs.declared.event.Event.{Event}
use Rattle.k_types.specs.declared.event.Event.TheVariants.{Done}
use Rattle.k_types.specs.Names.{among}
use Rattle.k_types.specs.Trace.{Trace, process_count}
use Rattle.k_types.specs.TraceRules.{AreLimits}
use Rattle.k_types.specs.State.{State}
use Rattle.k_types.specs.Owners.{user}
use Rattle.k_types.specs.Cells.{Cell, CellPart, BookPart, part, book_part, cells_touched}
use Rattle.k_types.specs.Local.{is_local}
use Rattle.k_types.specs.Steps.{IsPossible}
use Rattle.k_types.specs.Sound.{IsSound}
use Rattle.k_laws.specs.Answers.{reply_in}
use Rattle.k_laws.specs.Touches.{touched_in}
use Rattle.k_laws.specs.Locals.{is_local_in}
use Rattle.k_laws.specs.Follows.{AgreeWhereTouched, GiveTheSame, CellsFollow, BookFollows, ReplyFollows, FindsTheSame, LeavesSameCells, LeavesSameBook}
use Rattle.k_laws.specs.Owed.{PinsAreCounted, EntriesAreCounted, ChargesAreCounted}
use Rattle.k_laws.proofs.Counted.{pins_counted, entries_counted, charges_counted}
use Rattle.k_laws.proofs.EventSquares.{step_cells, step_book}
use Rattle.k_laws.proofs.Locality.{same_cells, same_book}
use Rattle.k_laws.proofs.OnlyTouched.{given_the_same, replies_same}
use Rattle.k_laws.proofs.Told.{touched_told, reply_told, local_told}

pub steps_show_in_the_parts-cells : (trace : Trace) (st : State) (event : Event) → IsSound trace st → IsPossible trace st event → CellsFollow trace st event
steps_show_in_the_parts-cells trace st event sound may c = ap (λ (f : Cell → CellPart). f c) (step_cells trace st event sound may)

pub steps_show_in_the_parts-book : (trace : Trace) (st : State) (event : Event) → AreLimits trace → IsSound trace st → IsPossible trace st event → BookFollows trace st event
steps_show_in_the_parts-book = step_book

pub steps_go_by_the_parts-cells : (trace : Trace) (st su : State) (event : Event) → AreLimits trace → FindsTheSame trace st su event → LeavesSameCells trace st su event
steps_go_by_the_parts-cells trace st su event limits finds = same_cells trace st su limits event finds

pub steps_go_by_the_parts-book : (trace : Trace) (st su : State) (event : Event) → AreLimits trace → FindsTheSame trace st su event → LeavesSameBook trace st su event
steps_go_by_the_parts-book trace st su event limits finds = same_book trace st su limits event finds

pub touched_cells_are_told : (trace : Trace) (st : State) (event : Event) → cells_touched trace st event ≡ touched_in trace (book_part trace st) (part trace st) event
touched_cells_are_told = touched_told

pub only_touched_cells_are_read-replies : (trace : Trace) (book : BookPart) (parts others : Cell → CellPart) (pid : Pid) (op : Op) (said : Reply) → AgreeWhereTouched trace book parts others (Done pid op said) →
    reply_in trace book parts pid.0 op ≡ reply_in trace book others pid.0 op
only_touched_cells_are_read-replies = replies_same

pub only_touched_cells_are_read-parts : (trace : Trace) (book : BookPart) (parts others : Cell → CellPart) (event : Event) → AgreeWhereTouched trace book parts others event → GiveTheSame trace book parts others event
only_touched_cells_are_read-parts = given_the_same

pub replies_are_told : (trace : Trace) (st : State) (p : ℕ) (op : Op) → AreLimits trace → ReplyFollows trace st p op
replies_are_told trace st p op limits known lives inside = reply_told trace st limits p known op lives inside

pub local_operations_are_told : (trace : Trace) (st : State) (p : ℕ) (op : Op) → p < process_count trace → IsFalse (among p st.ended) → is_local st p op ≡ is_local_in (part trace st (user p)) p op
local_operations_are_told trace st p op known lives = local_told trace st p known lives op

pub what_is_let_go_is_counted-pins : (trace : Trace) (st : State) (p : ℕ) → p < process_count trace → PinsAreCounted trace st p
what_is_let_go_is_counted-pins = pins_counted

pub what_is_let_go_is_counted-entries : (trace : Trace) (st : State) → EntriesAreCounted trace st
what_is_let_go_is_counted-entries = entries_counted

pub what_is_let_go_is_counted-charges : (trace : Trace) (st : State) (p : ℕ) → AreLimits trace → IsSound trace st → p < process_count trace → IsFalse (among p st.ended) → ChargesAreCounted trace st p
what_is_let_go_is_counted-charges = charges_counted
