use Rattle.std.proofs.Common.{◌<◌, ◌≤◌, [], ap, sym, ◌∙◌, length, arith}
use Rattle.std.proofs.lemmas.List.{get_or_past, get_or_read}
use Rattle.k_state.specs.Segments.{Segmented, objects_in}
use Rattle.k_state.proofs.Split.{in_at}
use Rattle.k_state.proofs.segments.Segments.all_in.Goals as goal

pub returns-then-at-len : goal.returns-then-at-len
returns-then-at-len c =
    let lists = c.self.inside.lists.items in
    let at = c.args.seg.0 in
    let inside : at < length lists = omega (arith, c.if-at-len.true, c.len.ensures) in
    c.all.ensures
    ∙ get_or_read lists at c.index.result.now inside c.index.ensures []
    ∙ sym (in_at at lists c.self.invariant.0)
    ∙ ap (λ (s : Segmented). objects_in s.objects at) c.self.view_is

pub returns-else-at-len : goal.returns-else-at-len
returns-else-at-len c =
    let lists = c.self.inside.lists.items in
    let at = c.args.seg.0 in
    let past : length lists ≤ at = omega (arith, c.if-at-len.false, c.len.ensures) in
    sym (get_or_past lists at [] past)
    ∙ sym (in_at at lists c.self.invariant.0)
    ∙ ap (λ (s : Segmented). objects_in s.objects at) c.self.view_is
