use Rattle.std.proofs.Common.{◌+◌, ◌<◌, ap, sym, ◌∙◌, subst, length, length-set, arith}
use Rattle.std.specs.Prelude.{IsTrue}
use Rattle.std.specs.List.{AllByRecursion}
use Rattle.k_types.specs.Names.{name_lt}
use Rattle.k_types.specs.State.{Object}
use Rattle.k_types.specs.Updates.{with_object}
use Rattle.k_state.specs.Segments.{Segmented, objects_in}
use Rattle.k_state.proofs.Split.{put_last, put_of}
use Rattle.k_state.proofs.segments.Segments.push.Goals as goal

pub invariant_of-self-2 : goal.invariant_of-self-2
invariant_of-self-2 c =
    let lists = c.self.inside.lists.items in
    let totals = c.self.inside.totals.items in
    let o : Object = c.args.object in
    let seg = c.name-at.result.seg.0 in
    let known : o.name.seg.0 < length totals = subst (λ (v : Segmented). o.name.seg.0 < length v.totals) (sym c.self.view_is) c.requires.seg in
    let inside : o.name.seg.0 < length lists = omega (arith, known, c.self.invariant.1) in (
      put_of lists o c.name-at.result c.index_mut-list.result.now c.push.new.self c.name-at.ensures c.self.invariant.0 c.index_mut-list.ensures.value c.in_ok-push.ensures.ok inside,
      length-set lists seg c.push.new.self ∙ c.self.invariant.1 ∙ sym (length-set totals seg (c.index_mut.result.now + c.size-size.result)),
    )

pub returns-clause-objects : goal.returns-clause-objects
returns-clause-objects c =
    let lists = c.self.inside.lists.items in
    let totals = c.self.inside.totals.items in
    let o : Object = c.args.object in
    let known : o.name.seg.0 < length totals = subst (λ (v : Segmented). o.name.seg.0 < length v.totals) (sym c.self.view_is) c.requires.seg in
    let inside : o.name.seg.0 < length lists = omega (arith, known, c.self.invariant.1) in
    put_last lists o c.name-at.result c.index_mut-list.result.now c.push.new.self c.name-at.ensures c.self.invariant.0 c.index_mut-list.ensures.value c.in_ok-push.ensures.ok inside
    (subst (λ (v : Segmented). AllByRecursion (λ (x : Object). IsTrue (name_lt x.name o.name)) (objects_in v.objects o.name.seg.0)) (sym c.self.view_is) c.requires.last)
    ∙ ap (λ (v : Segmented). with_object o v.objects) c.self.view_is
