-- The laws of this crate, one lemma a clause under the law's name, for the crates above to cite.
use Rattle.std.specs.Prelude.{List, ℕ, IsFalse, IsTrue, ◌<◌, ◌≡◌}
use Rattle.k_types.specs.Cells.{cells_touched}
use Rattle.k_types.specs.Names.{among}
use Rattle.k_types.specs.Replies.{reply_to}
use Rattle.k_types.specs.Sound.{IsSound}
use Rattle.k_types.specs.State.{State, opening}
use Rattle.k_types.specs.Steps.{IsLegalHistory, IsPossible, state_after, in_range}
use Rattle.k_types.specs.Trace.{Trace, process_count}
use Rattle.k_types.specs.TraceRules.{AreLimits}
use Rattle.k_types.specs.declared.event.Event.{Event}
use Rattle.k_types.specs.declared.event.Event.TheVariants.{Absorbed, Closing, Done, Ended}
use Rattle.k_types.specs.declared.event.Reply.{Reply}
use Rattle.k_types.specs.declared.names.Heap.{Heap}
use Rattle.k_types.specs.declared.names.Pid.{Pid}
use Rattle.k_types.specs.declared.names.SharedId.{SharedId}
use Rattle.k_types.specs.declared.op.Op.{Op}
use Rattle.k_laws.proofs.SoundOpening.{opening_sound}
use Rattle.k_laws.proofs.SoundSteps.{run_sound}
use Rattle.k_laws.proofs.SameEnds.{end_possible, event_possible}
use Rattle.k_laws.proofs.SamePossible.{done_possible, absorbed_possible, closing_possible}
use Rattle.k_laws.proofs.SameReplies.{touched_same, same_turned, done_reply_same}
use Rattle.k_laws.specs.Same.{SameToEvent}

-- whether an event is possible is told by the parts of the cells that it touches and of the book: for an operation with its reply, for an absorption and for the closing in all states, and for the end of a collection with its numbers in sound ones
pub possible_events_go_by_the_parts-operations : (trace : Trace) (st su : State) (pid : Pid) (op : Op) (said : Reply) → AreLimits trace → SameToEvent trace st su (Done pid op said) → IsPossible trace st (Done pid op said) → IsPossible trace su (Done pid op said)
possible_events_go_by_the_parts-operations = λ trace st su pid op said limits same may. done_possible trace st su pid op said limits same may

pub possible_events_go_by_the_parts-absorptions : (trace : Trace) (st su : State) (s : SharedId) → SameToEvent trace st su (Absorbed s) → IsPossible trace st (Absorbed s) → IsPossible trace su (Absorbed s)
possible_events_go_by_the_parts-absorptions = absorbed_possible

pub possible_events_go_by_the_parts-closing : (trace : Trace) (st su : State) → SameToEvent trace st su Closing → IsPossible trace st Closing → IsPossible trace su Closing
possible_events_go_by_the_parts-closing = closing_possible

pub possible_events_go_by_the_parts-ends : (trace : Trace) (st su : State) (h : Heap) (objects bytes exits shares : ℕ) → IsSound trace st → IsSound trace su → SameToEvent trace st su (Ended h objects bytes exits shares) → IsPossible trace st (Ended h objects bytes exits shares) → IsPossible trace su (Ended h objects bytes exits shares)
possible_events_go_by_the_parts-ends = λ trace st su h objects bytes exits shares sound sound' same may. end_possible trace st su sound sound' h objects bytes exits shares same may

pub possible_events_go_by_the_parts-histories : (trace : Trace) (history other : List Event) (event : Event) → AreLimits trace → IsLegalHistory trace history → IsLegalHistory trace other → SameToEvent trace (state_after trace history) (state_after trace other) event → IsPossible trace (state_after trace history) event → IsPossible trace (state_after trace other) event
possible_events_go_by_the_parts-histories = λ trace history other event limits legal legal'.
    event_possible trace _ _ (run_sound trace limits (opening trace) history (opening_sound trace limits) legal) (run_sound trace limits (opening trace) other (opening_sound trace limits) legal') limits event

-- which cells an event touches is told by the parts of these cells and of the book, so that it is the same in both states, and the second finds the same as the first
pub touched_cells_go_by_the_parts-touched : (trace : Trace) (st su : State) (event : Event) → SameToEvent trace st su event → cells_touched trace st event ≡ cells_touched trace su event
touched_cells_go_by_the_parts-touched = touched_same

pub touched_cells_go_by_the_parts-turned : (trace : Trace) (st su : State) (event : Event) → SameToEvent trace st su event → SameToEvent trace su st event
touched_cells_go_by_the_parts-turned = same_turned

-- what an operation of a living process is answered is told by the parts of the cells that it touches and of the book
pub replies_go_by_the_parts : (trace : Trace) (st su : State) (pid : Pid) (op : Op) (said : Reply) → AreLimits trace → pid.0 < process_count trace → IsFalse (among pid.0 st.ended) → IsTrue (in_range trace op) → SameToEvent trace st su (Done pid op said) → reply_to trace st pid.0 op ≡ reply_to trace su pid.0 op
replies_go_by_the_parts = λ trace st su pid op said limits known lives inside same. done_reply_same trace st su limits pid op said known lives inside same
