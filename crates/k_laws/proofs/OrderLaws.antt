-- The laws of this crate, one lemma a clause under the law's name, for the crates above to cite.
use Rattle.std.specs.Prelude.{IsTrue, List, IsFalse, None, [], not, ◌<◌, ◌≡◌, ◌||◌}
use Rattle.k_types.specs.Cells.{Cell, touches}
use Rattle.k_types.specs.Complete.{IsComplete, all_ended}
use Rattle.k_types.specs.FileOrder.{file_order, absorptions}
use Rattle.k_types.specs.Names.{among}
use Rattle.k_types.specs.Replies.{reply_to}
use Rattle.k_types.specs.Sound.{IsSized, IsSound}
use Rattle.k_types.specs.State.{State, is_scanned, scan_of}
use Rattle.k_types.specs.Steps.{IsLegalHistory, state_after, IsPossible, IsRun, in_range, no_orphan, run, waits_for_orphans}
use Rattle.k_types.specs.Trace.{Trace, IsHeap, process_count}
use Rattle.k_types.specs.TraceRules.{AreOperations, AreLimits}
use Rattle.k_types.specs.declared.event.Event.{Event}
use Rattle.k_types.specs.declared.event.Event.TheVariants.{Done}
use Rattle.k_types.specs.declared.names.Heap.{Heap}
use Rattle.k_types.specs.declared.names.Heap.TheVariants.{Kernel}
use Rattle.k_types.specs.declared.names.Pid.{Pid}
use Rattle.k_types.specs.declared.op.Op.{Op}
use Rattle.k_laws.proofs.FileOrders.{file_order_legal, file_order_complete}
use Rattle.k_laws.proofs.LastCollection.{reclaimed}
use Rattle.k_laws.proofs.NothingWaits.{may_be_done, all_absorbed, no_scans_open}
use Rattle.k_laws.specs.Reclaimed.{IsReclaimed}

-- the history in the order of the file is legal and complete, whatever the trace: it does the operations of each process in order, absorbs the orphans before each collection of the kernel, ends each collection that it begins, and where every process has ended it closes
pub the_file_order_is_legal_and_complete-legal : (trace : Trace) → AreOperations trace → IsLegalHistory trace (file_order trace)
the_file_order_is_legal_and_complete-legal = file_order_legal

pub the_file_order_is_legal_and_complete-complete : (trace : Trace) → AreOperations trace → IsComplete trace (file_order trace)
the_file_order_is_legal_and_complete-complete = file_order_complete

-- full reclamation: after a complete history in which every process has ended, the objects left are those that the directory reaches, there is no exit item and no share, and nothing is charged
pub ended_histories_leave_what_the_directory_reaches : (trace : Trace) (history : List Event) → AreLimits trace → IsLegalHistory trace history → IsComplete trace history → IsTrue (all_ended trace (state_after trace history)) → IsReclaimed trace (state_after trace history)
ended_histories_leave_what_the_directory_reaches = λ trace history keeps legal complete over. reclaimed trace keeps history legal complete over

-- an operation of a living process is possible, with the reply that it is answered, where no heap that it touches is scanned and, if it waits for orphans, there is none
pub operations_wait_for_scans_and_orphans_alone : (trace : Trace) (st : State) (pid : Pid) (op : Op) → pid.0 < process_count trace → IsFalse (among pid.0 st.ended) → IsTrue (in_range trace op) → IsTrue (not (waits_for_orphans op) || no_orphan trace st) → ((c : Cell) → IsTrue (touches trace st (Done pid op (reply_to trace st pid.0 op)) c) → scan_of st.scans c ≡ None) → IsPossible trace st (Done pid op (reply_to trace st pid.0 op))
operations_wait_for_scans_and_orphans_alone = may_be_done

-- all orphans can be absorbed, one after the other, where the kernel is not scanned; then there is none
pub orphans_can_be_absorbed : (trace : Trace) (st : State) → IsSized trace st → IsFalse (is_scanned st.scans Kernel) → IsRun trace st (absorptions trace st) × IsTrue (no_orphan trace (run trace st (absorptions trace st)))
orphans_can_be_absorbed = all_absorbed

-- where no heap of the trace is scanned there is no open collection
pub scans_are_of_the_heaps_of_the_trace : (trace : Trace) (st : State) → IsSound trace st → ((h : Heap) → IsHeap trace h → IsFalse (is_scanned st.scans h)) → st.scans ≡ []
scans_are_of_the_heaps_of_the_trace = no_scans_open
