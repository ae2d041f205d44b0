use Rattle.std.proofs.Common.{◌++◌, ◌∷◌, [], codes}
use Rattle.std.specs.List.{flat_map}
use Rattle.k_report.proofs.LineLemmas.{part_first, part_then, part_last, part_failed_first, part_failed, part_missing}
use Rattle.k_types.specs.Numbers.{numbers_below}
use Rattle.k_types.specs.Trace.{process_count}
use Rattle.k_types.specs.Owners.{user, shared}
use Rattle.k_types.specs.declared.names.Heap.TheVariants.{Kernel}
use Rattle.k_text.specs.Report.{exits_lines, exits_of_heap}
use Rattle.k_report.proofs.exits.exits.Goals as goal

pub returns-in_err-heading-clause-written : goal.returns-in_err-heading-clause-written
unfolding exits_lines
returns-in_err-heading-clause-written g c =
    part_missing _ _ _ _ c.from_residual.result ((((codes "exits" ∷ []) ∷ [] ++ exits_of_heap c.args.names.now (g.V.View.state c.args.view.now) Kernel) ++ flat_map (λ p. exits_of_heap c.args.names.now (g.V.View.state c.args.view.now) (user p)) (numbers_below (process_count (g.V.View.trace c.args.view.now))))) (flat_map (λ s. exits_of_heap c.args.names.now (g.V.View.state c.args.view.now) (shared s)) (numbers_below (g.V.View.trace c.args.view.now).shared_heaps)) c.from_residual.ensures.0
    (part_missing _ _ _ _ c.from_residual.result (((codes "exits" ∷ []) ∷ [] ++ exits_of_heap c.args.names.now (g.V.View.state c.args.view.now) Kernel)) (flat_map (λ p. exits_of_heap c.args.names.now (g.V.View.state c.args.view.now) (user p)) (numbers_below (process_count (g.V.View.trace c.args.view.now)))) c.from_residual.ensures.0
    (part_missing _ _ _ _ c.from_residual.result ((codes "exits" ∷ []) ∷ []) (exits_of_heap c.args.names.now (g.V.View.state c.args.view.now) Kernel) c.from_residual.ensures.0
    (part_failed_first _ _ _ _ c.from_residual.result _ ((codes "exits" ∷ []) ∷ []) c.from_residual.ensures.0 c.in_err-heading.ensures.written)))

pub returns-in_err-exits_of_heap-clause-written : goal.returns-in_err-exits_of_heap-clause-written
unfolding exits_lines
returns-in_err-exits_of_heap-clause-written g c =
    part_missing _ _ _ _ c.from_residual-in_err-exits_of_heap.result ((((codes "exits" ∷ []) ∷ [] ++ exits_of_heap c.args.names.now (g.V.View.state c.args.view.now) Kernel) ++ flat_map (λ p. exits_of_heap c.args.names.now (g.V.View.state c.args.view.now) (user p)) (numbers_below (process_count (g.V.View.trace c.args.view.now))))) (flat_map (λ s. exits_of_heap c.args.names.now (g.V.View.state c.args.view.now) (shared s)) (numbers_below (g.V.View.trace c.args.view.now).shared_heaps)) c.from_residual-in_err-exits_of_heap.ensures.0
    (part_missing _ _ _ _ c.from_residual-in_err-exits_of_heap.result (((codes "exits" ∷ []) ∷ [] ++ exits_of_heap c.args.names.now (g.V.View.state c.args.view.now) Kernel)) (flat_map (λ p. exits_of_heap c.args.names.now (g.V.View.state c.args.view.now) (user p)) (numbers_below (process_count (g.V.View.trace c.args.view.now)))) c.from_residual-in_err-exits_of_heap.ensures.0
    (part_failed _ _ _ _ _ _ c.from_residual-in_err-exits_of_heap.result _ ((codes "exits" ∷ []) ∷ []) (exits_of_heap c.args.names.now (g.V.View.state c.args.view.now) Kernel) c.from_residual-in_err-exits_of_heap.ensures.0 (part_first _ _ _ _ _ ((codes "exits" ∷ []) ∷ []) c.in_ok-heading.ensures.written) c.in_err-exits_of_heap.ensures.written))

pub returns-in_err-exits_of_processes-clause-written : goal.returns-in_err-exits_of_processes-clause-written
unfolding exits_lines
returns-in_err-exits_of_processes-clause-written g c =
    part_missing _ _ _ _ c.from_residual-in_err-exits_of_processes.result ((((codes "exits" ∷ []) ∷ [] ++ exits_of_heap c.args.names.now (g.V.View.state c.args.view.now) Kernel) ++ flat_map (λ p. exits_of_heap c.args.names.now (g.V.View.state c.args.view.now) (user p)) (numbers_below (process_count (g.V.View.trace c.args.view.now))))) (flat_map (λ s. exits_of_heap c.args.names.now (g.V.View.state c.args.view.now) (shared s)) (numbers_below (g.V.View.trace c.args.view.now).shared_heaps)) c.from_residual-in_err-exits_of_processes.ensures.0
    (part_failed _ _ _ _ _ _ c.from_residual-in_err-exits_of_processes.result _ (((codes "exits" ∷ []) ∷ [] ++ exits_of_heap c.args.names.now (g.V.View.state c.args.view.now) Kernel)) (flat_map (λ p. exits_of_heap c.args.names.now (g.V.View.state c.args.view.now) (user p)) (numbers_below (process_count (g.V.View.trace c.args.view.now)))) c.from_residual-in_err-exits_of_processes.ensures.0 (part_then _ _ _ _ _ _ _ ((codes "exits" ∷ []) ∷ []) (exits_of_heap c.args.names.now (g.V.View.state c.args.view.now) Kernel) (part_first _ _ _ _ _ ((codes "exits" ∷ []) ∷ []) c.in_ok-heading.ensures.written) c.in_ok-exits_of_heap.ensures.written) c.in_err-exits_of_processes.ensures.written)

pub returns-clause-written : goal.returns-clause-written
unfolding exits_lines
returns-clause-written g c =
    part_last _ _ _ _ _ _ _ ((((codes "exits" ∷ []) ∷ [] ++ exits_of_heap c.args.names.now (g.V.View.state c.args.view.now) Kernel) ++ flat_map (λ p. exits_of_heap c.args.names.now (g.V.View.state c.args.view.now) (user p)) (numbers_below (process_count (g.V.View.trace c.args.view.now))))) (flat_map (λ s. exits_of_heap c.args.names.now (g.V.View.state c.args.view.now) (shared s)) (numbers_below (g.V.View.trace c.args.view.now).shared_heaps)) (part_then _ _ _ _ _ _ _ (((codes "exits" ∷ []) ∷ [] ++ exits_of_heap c.args.names.now (g.V.View.state c.args.view.now) Kernel)) (flat_map (λ p. exits_of_heap c.args.names.now (g.V.View.state c.args.view.now) (user p)) (numbers_below (process_count (g.V.View.trace c.args.view.now)))) (part_then _ _ _ _ _ _ _ ((codes "exits" ∷ []) ∷ []) (exits_of_heap c.args.names.now (g.V.View.state c.args.view.now) Kernel) (part_first _ _ _ _ _ ((codes "exits" ∷ []) ∷ []) c.in_ok-heading.ensures.written) c.in_ok-exits_of_heap.ensures.written) c.in_ok-exits_of_processes.ensures.written) c.exits_of_shared_heaps.ensures.written
