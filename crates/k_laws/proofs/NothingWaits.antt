-- What is possible where nothing waits.
use Rattle.std.proofs.Common.{◌≡◌, ◌<◌, ◌||◌, not, refl, sym, ap, ◌∙◌, List, [], ◌∷◌, Some, None, is_some, option_map, cond, find, IsTrue, IsFalse}
use Rattle.std.specs.List.{list_all, list_any}
use Rattle.std.proofs.lemmas.Bool.{and_from, false≢true, or_left, or_right}
use Rattle.k_types.specs.declared.names.Heap.{Heap}
use Rattle.k_types.specs.declared.names.Heap.TheVariants.{Kernel}
use Rattle.k_types.specs.declared.names.Pid.{Pid}
use Rattle.k_types.specs.declared.op.Op.{Op}
use Rattle.k_types.specs.declared.event.Event.TheVariants.{Done}
use Rattle.k_types.specs.Names.{among, heap_eq}
use Rattle.k_types.specs.Trace.{IsHeap, Trace, process_count}
use Rattle.k_types.specs.State.{Scan, State, is_scanned, scan_of}
use Rattle.k_types.specs.Cells.{Cell, cells_touched, touches}
use Rattle.k_types.specs.Replies.{reply_to}
use Rattle.k_types.specs.Steps.{IsPossible, IsRun, in_range, no_orphan, run, waits_for_orphans}
use Rattle.k_types.specs.FileOrder.{absorptions}
use Rattle.k_types.specs.Sound.{IsSized, IsSound}
use Rattle.k_types.proofs.NameTests.{heap_eq_refl}
use Rattle.k_types.proofs.Objects.{some_is}
use Rattle.k_laws.proofs.Absorbing.{none_left, orphans_absorbed}

all_idle : (scans : List Scan) (cells : List Heap) → ((c : Heap) → IsTrue (list_any (λ d. heap_eq d c) cells) → scan_of scans c ≡ None) → IsTrue (list_all (λ c. not (is_scanned scans c)) cells)
all_idle scans [] idle = refl
all_idle scans (c ∷ cells) idle =
    and_from _ _ (ap (λ scan. not (is_some scan)) (idle c (or_left (heap_eq c c) _ (heap_eq_refl c))))
    (all_idle scans cells (λ d there. idle d (or_right (heap_eq c d) _ there)))

pub may_be_done : (trace : Trace) (st : State) (pid : Pid) (op : Op) → pid.0 < process_count trace → IsFalse (among pid.0 st.ended) → IsTrue (in_range trace op) →
    IsTrue (not (waits_for_orphans op) || no_orphan trace st) → ((c : Cell) → IsTrue (touches trace st (Done pid op (reply_to trace st pid.0 op)) c) → scan_of st.scans c ≡ None) →
    IsPossible trace st (Done pid op (reply_to trace st pid.0 op))
may_be_done trace st pid op known lives ranged orphans idle = record {
  known = known;
  lives = lives;
  in_range = ranged;
  idle = all_idle st.scans (cells_touched trace st (Done pid op (reply_to trace st pid.0 op))) idle;
  orphans = orphans;
  replied = refl;
}

pub all_absorbed : (trace : Trace) (st : State) → IsSized trace st → IsFalse (is_scanned st.scans Kernel) → IsRun trace st (absorptions trace st) × IsTrue (no_orphan trace (run trace st (absorptions trace st)))
all_absorbed trace st sized idle = ((orphans_absorbed trace st sized idle).legal, none_left trace st sized idle)

none_open : (trace : Trace) (scans : List Scan) → ((h : Heap) → IsTrue (is_scanned scans h) → IsHeap trace h) → ((h : Heap) → IsHeap trace h → IsFalse (is_scanned scans h)) → scans ≡ []
none_open trace [] known idle = refl
none_open trace (scan ∷ scans) known idle =
    let here : IsTrue (is_scanned (scan ∷ scans) scan.heap) = ap (λ b. is_some (option_map (λ (s : Scan). s.roots) (cond b (Some scan) (find (λ (s : Scan). heap_eq s.heap scan.heap) scans)))) (heap_eq_refl scan.heap) in
    absurd (false≢true (sym (idle scan.heap (known scan.heap here)) ∙ here))

pub no_scans_open : (trace : Trace) (st : State) → IsSound trace st → ((h : Heap) → IsHeap trace h → IsFalse (is_scanned st.scans h)) → st.scans ≡ []
no_scans_open trace st sound idle = none_open trace st.scans (λ h t. let roots = some_is (scan_of st.scans h) t in sound.shape.known.scanned h roots.0 roots.1) idle
