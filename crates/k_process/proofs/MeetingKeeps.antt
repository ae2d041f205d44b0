-- Meeting the journal keeps what the locks ask, and lists whose elements keep it.
use Rattle.std.proofs.Common.{◌≡◌, ◌<◌, ◌+◌, ℕ, zero, suc, refl, sym, ap, ◌∙◌, subst, List, [], ◌∷◌, set, Some, slice_get, inl, inr, arith, length-set}
use Rattle.atomic_table.specs.Seated.{TableId}
use Rattle.k_types.specs.declared.names.Heap.TheVariants.{Kernel, Shared, User}
use Rattle.k_types.specs.declared.names.Pid.{Pid}
use Rattle.k_types.specs.Trace.{Trace}
use Rattle.k_agree.specs.Meeting.{met_note}
use Rattle.k_commit.specs.k_book.Books.{BookRecord}
use Rattle.k_commit.specs.k_heap.Holdings.{HoldingsValue}
use Rattle.k_commit.specs.k_heap.Heaps.{HeapRecord}
use Rattle.k_commit.specs.SharedHeaps.{SharedRecord}
use Rattle.k_commit.specs.Met.{CanMeet, HeapHasMet, KernelHasMet, SharedHasMet}
use Rattle.k_commit.specs.Others.{held_by, shared_by}
use Rattle.k_commit.specs.Standing.{BookStands}
use Rattle.k_process.specs.Keeping.{HeapKeeps, KernelKeeps, SharedKeeps}
use Rattle.k_agree.proofs.WithinRooms.{met_follows}
use Rattle.k_process.proofs.Steps.{other_keeps}
use Rattle.k_process.specs.declared.process.Process.{Process}
use Rattle.k_process.specs.BetweenSteps.{HeapsStand, ProcessStands, ProcessesStand}
use Rattle.k_process.specs.Worlds.{WorldValue}
use Rattle.std.proofs.lemmas.Bool.{cases_eq}
use Rattle.k_process.proofs.Written.{get_set_cases}

module _ (trace : Trace) (tie : TableId) (b l : BookRecord) (k : BookStands trace b) (tied : b.journal.table ≡ tie) where
  pub heap_can_meet : (c : HeapRecord) → HeapKeeps trace tie c → CanMeet trace (User c.pid) c.note c.value b
  heap_can_meet c h = record { agrees = h.agrees; book_agrees = k.agrees; table = h.table ∙ sym tied }

  pub kernel_can_meet : (c : HoldingsValue) → KernelKeeps trace tie c → CanMeet trace Kernel c.note c.value b
  kernel_can_meet c h = record { agrees = h.agrees; book_agrees = k.agrees; table = h.table ∙ sym tied }

  pub shared_can_meet : (c : SharedRecord) → SharedKeeps trace tie c → CanMeet trace (Shared c.id) c.note c.value b
  shared_can_meet c h = record { agrees = h.agrees; book_agrees = k.agrees; table = h.table ∙ sym tied }

  pub met_heap : (c w : HeapRecord) → HeapKeeps trace tie c → HeapHasMet trace c w b l → HeapKeeps trace tie w
  met_heap c w h s =
      subst (HeapKeeps trace tie) (sym s.cell_is)
      (other_keeps trace tie c (record c { note = met_note b.journal c.note }) h refl s.told.shows.agrees h.table refl (met_follows trace b.journal b.value c.pid.0 c.note c.value h.agrees k.agrees h.follows s.told.fits) refl (λ lives. lives))

  pub met_kernel : (c w : HoldingsValue) → KernelKeeps trace tie c → KernelHasMet trace c w b l → KernelKeeps trace tie w
  met_kernel c w h s = subst (KernelKeeps trace tie) (sym (ap held_by s.other_is)) (record {
    rules = h.rules;
    agrees = s.told.shows.agrees;
    table = h.table;
    idle = h.idle;
    exits = h.exits;
    serials = h.serials;
    numbers = h.numbers;
  })

  pub met_shared : (c w : SharedRecord) → SharedKeeps trace tie c → SharedHasMet trace c w b l → SharedKeeps trace tie w
  met_shared c w h s = subst (SharedKeeps trace tie) (sym (ap shared_by s.other_is)) (record {
    rules = h.rules;
    agrees = s.told.shows.agrees;
    table = h.table;
    segment = h.segment;
    idle = h.idle;
    exits = h.exits;
    serials = h.serials;
  })

-- processes of which one is changed and stands still, under its number
pub process_set : (world : WorldValue) (ps : List Process) (k : ℕ) (p q : Process) → ProcessesStand world ps → slice_get ps k ≡ Some p → ProcessStands world q → q.cell.pid ≡ p.cell.pid →
    ProcessesStand world (set ps k q)
process_set world ps k p q s at stands same = record {
  count = length-set ps k q ∙ s.count;
  each = λ j x found. elim (get_set_cases ps k j q x found) [ inl here ↦ subst (ProcessStands world) here.1 stands | inr there ↦ s.each j x there ];
  placed = λ j x found. elim (get_set_cases ps k j q x found) [
    | inl here ↦ ap (λ (y : Process). y.cell.pid.0) (sym here.1) ∙ ap (λ (n : Pid). n.0) same ∙ s.placed k p at ∙ sym here.0
    | inr there ↦ s.placed j x there
  ];
}

-- shared heaps of which one is changed
pub shared_set : (world : WorldValue) (ss : List SharedRecord) (k : ℕ) (s t : SharedRecord) → HeapsStand world ss → slice_get ss k ≡ Some s → SharedKeeps world.trace world.table t → t.id ≡ s.id →
    HeapsStand world (set ss k t)
shared_set world ss k s t h at stands same = record {
  count = length-set ss k t ∙ h.count;
  each = λ j x found. elim (get_set_cases ss k j t x found) [ inl here ↦ subst (SharedKeeps world.trace world.table) here.1 stands | inr there ↦ h.each j x there ];
  placed = λ j x found. elim (get_set_cases ss k j t x found) [
    | inl here ↦ ap (λ (y : SharedRecord). y.id.0) (sym here.1) ∙ ap (λ (n : Rattle.k_types.specs.declared.names.SharedId.SharedId). n.0) same ∙ h.placed k s at ∙ sym here.0
    | inr there ↦ h.placed j x there
  ];
}

-- what holds of the elements below a number, and of that which is written there, holds below the next number
pub set_below : {A : Type 0} (P : A → Type 0) (xs : List A) (n : ℕ) (x : A) → ((k : ℕ) (y : A) → k < n → slice_get xs k ≡ Some y → P y) → P x →
    (k : ℕ) (y : A) → k < n + 1 → slice_get (set xs n x) k ≡ Some y → P y
set_below P xs n x below here k y inside found =
    elim (get_set_cases xs n k x y found) [
      | inl same ↦ subst P same.1 here
      | inr there ↦ elim (cases_eq k n) [
        | inl is ↦ subst P (written xs n x k y is found) here
        | inr other ↦ below k y (omega (arith, inside, other)) there
      ]
    ]
  where
    written : {A : Type 0} (xs : List A) (n : ℕ) (x : A) (k : ℕ) (y : A) → k ≡ n → slice_get (set xs n x) k ≡ Some y → x ≡ y
    written [] n x k y is found = absurd (cc)
    written (z ∷ xs) zero x zero y is found = cc
    written (z ∷ xs) zero x (suc k) y is found = absurd (omega (arith, is))
    written (z ∷ xs) (suc n) x zero y is found = absurd (omega (arith, is))
    written (z ∷ xs) (suc n) x (suc k) y is found = written xs n x k y (omega (arith, is)) found
