-- Cells that were opened tell their trace.
use Rattle.std.proofs.Common.{◌≡◌, ℕ, suc, refl, sym, ap, ap₂, ◌∙◌, List, [], ◌∷◌, map, length, Some, slice_get, slice_index_or, arith}
use Rattle.k_types.specs.declared.op.Op.{Op}
use Rattle.k_types.specs.Trace.{Trace, operations_of, trace_of}
use Rattle.k_trace.specs.Named.{DeclaredNames, NamedTrace}
use Rattle.k_opening.specs.k_outcome.k_process.declared.process.Process.{Process}
use Rattle.k_opening.specs.k_still.declared.first.FirstCells.{FirstCells}
use Rattle.k_opening.specs.k_still.Opening.{IsOpened, world_of}
use Rattle.k_run.specs.Opened.{named_in, trace_in, world_in}

-- lists of operations that processes have, each at its place
told_lists : (lists : List (List Op)) (ps : List Process) → length ps ≡ length lists → ((k : ℕ) (p : Process) → slice_get ps k ≡ Some p → p.ops.items ≡ slice_index_or lists k []) →
    lists ≡ map (λ (p : Process). p.ops.items) ps
told_lists [] [] same each = refl
told_lists [] (p ∷ ps) same each = absurd (omega (arith, same))
told_lists (ops ∷ lists) [] same each = absurd (omega (arith, same))
told_lists (ops ∷ lists) (p ∷ ps) same each =
    let rest = told_lists lists ps (omega (arith, same)) (λ k q at. each (suc k) q at) in
    (λ i. sym (each 0 p refl) i ∷ rest i)

module _ (named : NamedTrace) (first : FirstCells) (o : IsOpened named first) where
  operations_told : named.trace.operations ≡ map (λ (p : Process). p.ops.items) first.heaps.processes.items
  operations_told =
      told_lists named.trace.operations first.heaps.processes.items (o.stands.processes.count ∙ sym o.stands.rest.kernel.rules.operations.each)
      (λ k p at. (o.stands.processes.each k p at).operations ∙ ap (λ n. operations_of named.trace n) (o.stands.processes.placed k p at))

  pub trace_told : named.trace ≡ trace_in first
  trace_told =
      o.setup.is
      ∙ ap (λ operations. trace_of first.setup operations named.trace.order) operations_told
      ∙ ap (λ order. trace_of first.setup (map (λ (p : Process). p.ops.items) first.heaps.processes.items) order) (sym o.order)

  pub world_told : world_of named first ≡ world_in first
  world_told = ap (λ trace. record { trace = trace; table = first.heaps.book.journal.table }) trace_told

  pub named_told : named ≡ named_in first
  named_told = ap₂ (λ (names : DeclaredNames) (trace : Trace). record { names = names; trace = trace }) (sym o.names) trace_told
