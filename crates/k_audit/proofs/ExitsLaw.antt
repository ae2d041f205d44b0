-- The fourth point by its test.
use Rattle.std.proofs.Common.{◌≡◌, ◌↔◌, ℕ, true, not, List}
use Rattle.std.specs.Prelude.{IsFalse}
use Rattle.std.specs.List.{list_all}
use Rattle.std.proofs.lemmas.Bool.{and_from, and_parts, not-true, not_from_false}
use Rattle.k_types.specs.declared.names.Heap.{Heap}
use Rattle.k_types.specs.declared.names.Name.{Name}
use Rattle.k_types.specs.Names.{heap_eq}
use Rattle.k_types.specs.Sound.{AreExits, IsLegalStore}
use Rattle.k_types.specs.State.{ExitItem, has_exit}
use Rattle.k_audit.specs.Tests.{exit_leaves, passes}
use Rattle.k_audit.proofs.DanglingLaw.{exits_hold, exits_say}

-- an exit item of the heap to that name leaves it, and the barrier lets it pass
record Leaves (own : ℕ → Heap) (pair : Heap × Name) : Type 0 where
  leave : IsFalse (heap_eq pair.0 (own pair.1.seg.0))
  allowed : IsLegalStore pair.0 (own pair.1.seg.0)

pub exits_law : (own : ℕ → Heap) (exits : List ExitItem) → (list_all (exit_leaves own) exits ≡ true) ↔ AreExits own exits
exits_law own exits = (
  λ all.
      let each : (h : Heap) (n : Name) → has_exit exits h n ≡ true → Leaves own (h, n)
      = exits_say (Leaves own) (exit_leaves own)
      (λ e ok. let parts = and_parts (not (heap_eq e.heap (own e.target.seg.0))) (passes e.heap (own e.target.seg.0)) ok in
      record { leave = not-true (heap_eq e.heap (own e.target.seg.0)) parts.0; allowed = parts.1 }) exits all in
      record { leave = λ h n there. (each h n there).leave; allowed = λ h n there. (each h n there).allowed },
  λ holds.
      exits_hold (Leaves own) (exit_leaves own)
      (λ e lawful. and_from (not (heap_eq e.heap (own e.target.seg.0))) (passes e.heap (own e.target.seg.0)) (not_from_false (heap_eq e.heap (own e.target.seg.0)) lawful.leave) lawful.allowed)
      exits (λ h n there. record { leave = holds.leave h n there; allowed = holds.allowed h n there }),
)
