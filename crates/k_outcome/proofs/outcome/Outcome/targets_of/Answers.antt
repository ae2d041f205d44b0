use Rattle.std.proofs.Common.{◌≡◌, ◌<◌, sym, ap, ◌∙◌, subst, [], length, Vec, Global}
use Rattle.std.proofs.lemmas.List.{length-map}
use Rattle.k_types.specs.declared.names.Heap.{Heap}
use Rattle.k_types.specs.declared.names.Name.{Name}
use Rattle.k_types.specs.Trace.{IsHeap, segment_count, trace_of}
use Rattle.k_text.specs.Shown.{in_order}
use Rattle.k_text.specs.Heaps.{heap_at}
use Rattle.k_text.proofs.Arranged.{begins_with, row_at}
use Rattle.k_outcome.specs.Cells.{cell_at}
use Rattle.k_outcome.specs.Ends.{EndValue}
use Rattle.k_outcome.proofs.outcome.Outcome.targets_of.Goals as goal
use Rattle.k_types.proofs.Owners.{segment_known}

pub returns : goal.returns
returns c =
    let setup = trace_of c.self.inside.setup [] [] in
    let rows = c.self.inside.targets.items in
    let seg = c.segment_of-seg.result in
    let known : IsHeap setup c.args.heap = subst (λ (e : EndValue). IsHeap e.setup c.args.heap) (sym c.self.view_is) c.requires in
    let low : seg < segment_count setup = subst (λ n. n < segment_count setup) (sym c.segment_of-seg.ensures) (segment_known setup c.args.heap known) in
    let sized : length rows ≡ segment_count setup = sym (length-map rows (λ (row : Vec Name Global). row.items)) ∙ c.self.invariant.ordered.sized in
    let inside : seg < length rows = subst (λ n. seg < n) (sym sized) low in
    let here : heap_at setup seg ≡ c.args.heap = ap (heap_at setup) c.segment_of-seg.ensures ∙ begins_with setup c.args.heap known in
    c.deref.ensures.value ∙ ap (λ (row : Vec Name Global). row.items) c.index-row.ensures ∙ sym (row_at rows seg c.index-row.result.now inside)
    ∙ c.self.invariant.ordered.each seg low ∙ ap (λ (h : Heap). in_order (cell_at c.self.inside.cells h).exits) here
    ∙ ap (λ (e : EndValue). in_order (cell_at e.cells c.args.heap).exits) c.self.view_is
