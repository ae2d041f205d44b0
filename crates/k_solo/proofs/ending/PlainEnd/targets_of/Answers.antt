use Rattle.std.proofs.Common.{◌≡◌, ◌<◌, length, ap, subst, sym, ◌∙◌, arith, Vec, Global}
use Rattle.std.proofs.lemmas.List.{length-map}
use Rattle.k_types.specs.declared.names.Name.{Name}
use Rattle.k_types.specs.Trace.{IsHeap}
use Rattle.k_text.specs.Shown.{exits_of}
use Rattle.k_solo.specs.Runs.{Run}
use Rattle.k_text.specs.Heaps.{heap_at}
use Rattle.k_text.proofs.Arranged.{begins_with, row_at}
use Rattle.k_solo.proofs.ending.PlainEnd.targets_of.Goals as goal

pub returns : goal.returns
returns c =
    let m = c.self.inside.lists in
    let seg = c.segment_of-seg.result.0 in
    let rows = c.self.inside.targets.items in
    let known : IsHeap m.setup c.args.heap = subst (λ (r : Run). IsHeap r.machine.setup c.args.heap) (sym c.self.view_is) c.requires in
    let inside : seg < length rows
    = omega (arith, c.segment_of-seg.ensures.known, c.self.invariant.ordered.sized, length-map rows (λ (row : Vec Name Global). row.items)) in
    let here : heap_at m.setup seg ≡ c.args.heap = ap (heap_at m.setup) c.segment_of-seg.ensures.segment ∙ begins_with m.setup c.args.heap known in
    rw (← c.self.view_is)
    (c.deref.ensures.value ∙ ap (λ (row : Vec Name Global). row.items) c.index-row.ensures ∙ sym (row_at rows seg c.index-row.result.now inside)
    ∙ c.self.invariant.ordered.each seg c.segment_of-seg.ensures.known ∙ ap (exits_of m.state.exits) here)
