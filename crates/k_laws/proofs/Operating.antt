-- What an operation leaves of scans, of who has ended and of the closing.
use Rattle.std.proofs.Common.{◌≡◌, ℕ, not, false, cond, refl, ap, ◌∙◌, List, [], ◌∷◌, filter, length, Some, None, is_some, option_map, arith, IsTrue}
use Rattle.k_types.specs.declared.names.Heap.{Heap}
use Rattle.k_types.specs.declared.names.Heap.TheVariants.{Kernel}
use Rattle.k_types.specs.declared.op.Op.{Op}
use Rattle.k_types.specs.declared.op.Op.TheVariants.{Collect, KCollect}
use Rattle.k_types.specs.Names.{heap_eq, among}
use Rattle.k_types.specs.Trace.{Trace}
use Rattle.k_types.specs.State.{State, Scan, is_scanned}
use Rattle.k_types.specs.Owners.{user}
use Rattle.k_types.specs.Reach.{roots_of}
use Rattle.k_types.specs.Replies.{first_fault, faults}
use Rattle.k_types.specs.Updates.{count_done, open_scan, keep_objects, keep_exits, keep_shares, close_scan}
use Rattle.k_types.specs.Effects.{effect, after_operation, after_ended}
use Rattle.k_types.specs.FileOrder.{heap_begun}
use Rattle.k_laws.specs.Counts.{one_if, begins_collection}
use Rattle.k_laws.proofs.ScanCounts.{done_scans}
use Rattle.k_types.proofs.NameTests.{heap_eq_refl}
use Rattle.k_laws.proofs.Effects.{unless_ended}

module _ (trace : Trace) where
  -- who has ended before an operation has ended after it
  pub done_ended : (st : State) (p : ℕ) (op : Op) (q : ℕ) → IsTrue (among q st.ended) → IsTrue (among q (after_operation trace p op st).ended)
  unfolding after_operation count_done
  done_ended st p op q t = unless_ended trace (first_fault (faults trace st p op)) st p op q t

  -- a collection that begins is open after its operation
  pub begun_scans : (st : State) (p : ℕ) (op : Op) (h : Heap) → heap_begun p op ≡ Some h → (after_operation trace p op st).scans ≡ record { heap = h; roots = roots_of trace st h } ∷ st.scans
  unfolding after_operation count_done faults first_fault effect open_scan
  begun_scans st p Collect h e = let is : user p ≡ h = cc e in ap (λ g. let scan : Scan = record { heap = g; roots = roots_of trace st g } in scan ∷ st.scans) is
  begun_scans st p KCollect h e = let is : Kernel ≡ h = cc e in ap (λ g. let scan : Scan = record { heap = g; roots = roots_of trace st g } in scan ∷ st.scans) is
  begun_scans st p _ h e = absurd (cc e)

  none_begun : (p : ℕ) (op : Op) → heap_begun p op ≡ None → begins_collection op ≡ false
  none_begun p Collect e = absurd (cc e)
  none_begun p KCollect e = absurd (cc e)
  none_begun p _ e = refl

  empty : {A : Type 0} (xs : List A) → length xs ≡ 0 → xs ≡ []
  empty [] e = refl
  empty (x ∷ xs) e = absurd (omega (arith, e))

  -- any other operation leaves no scan where there was none
  pub no_scans : (st : State) (p : ℕ) (op : Op) → heap_begun p op ≡ None → st.scans ≡ [] → (after_operation trace p op st).scans ≡ []
  no_scans st p op none quiet =
      let count = done_scans trace st p op in
      let zero' = ap one_if (none_begun p op none) in
      let was = ap length quiet in
      empty _ (omega arith)

  -- the one open scan ends
  pub scan_ends : (st : State) (h : Heap) (scan : Scan) → scan.heap ≡ h → st.scans ≡ scan ∷ [] → (after_ended trace h st).scans ≡ []
  unfolding after_ended close_scan keep_shares keep_exits keep_objects
  scan_ends st h scan is one = ap (λ scans. filter (λ s. not (heap_eq s.heap h)) scans) one ∙ ap (λ g. cond (not (heap_eq g h)) (scan ∷ []) []) is ∙ ap (λ b. cond (not b) (scan ∷ []) []) (heap_eq_refl h)

  pub scan_is_open : (st : State) (h : Heap) (scan : Scan) → scan.heap ≡ h → st.scans ≡ scan ∷ [] → IsTrue (is_scanned st.scans h)
  scan_is_open st h scan is one = ap (λ scans. is_scanned scans h) one ∙ ap (λ g. is_some (option_map (λ (s : Scan). s.roots) (cond (heap_eq g h) (Some scan) None))) is ∙ ap (λ b. is_some (option_map (λ (s : Scan). s.roots) (cond b (Some scan) None))) (heap_eq_refl h)
