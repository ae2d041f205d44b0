use Rattle.std.proofs.Common.{◌<◌, [], List, ap, sym, ◌∙◌, subst, length, length-set, map, get_or, set}
use Rattle.std.proofs.lemmas.List.{get_or_read}
use Rattle.k_types.specs.Sound.{IsOrdered}
use Rattle.k_types.specs.State.{Object}
use Rattle.k_types.specs.Updates.{object_after_write}
use Rattle.k_state.specs.Contents.{content}
use Rattle.k_state.specs.Places.{IsNamedAt}
use Rattle.k_state.specs.Segments.{Segmented, objects_in}
use Rattle.k_state.proofs.Placed.{written_none}
use Rattle.k_state.proofs.Split.{named_inside, written_all, written_of}
use Rattle.k_state.proofs.segments.Segments.write.Goals as goal

pub index_mut-list-requires : goal.index_mut-list-requires
index_mut-list-requires c =
    let lists = c.self.inside.lists.items in
    let n = c.args.name in
    let named = subst (λ (v : Segmented). IsNamedAt (objects_in v.objects n.seg.0) c.in-Some.at n) (sym c.self.view_is) c.in-Some.ensures.some in
    subst (λ k. n.seg.0 < k) (sym c.self.inside.lists.ok.0) (named_inside lists n c.in-Some.at c.self.invariant.0 named).0

pub write-requires : goal.write-requires
write-requires c =
    let lists = c.self.inside.lists.items in
    let n = c.args.name in
    let named = subst (λ (v : Segmented). IsNamedAt (objects_in v.objects n.seg.0) c.in-Some.at n) (sym c.self.view_is) c.in-Some.ensures.some in
    let there = named_inside lists n c.in-Some.at c.self.invariant.0 named in
    subst (λ (xs : List Object). c.in-Some.at < length xs) (sym (get_or_read lists n.seg.0 c.index_mut-list.result.now there.0 c.index_mut-list.ensures.value [])) there.1

pub invariant_of-self : goal.invariant_of-self
invariant_of-self c =
    let lists = c.self.inside.lists.items in
    let n = c.args.name in
    let named = subst (λ (v : Segmented). IsNamedAt (objects_in v.objects n.seg.0) c.in-Some.at n) (sym c.self.view_is) c.in-Some.ensures.some in
    let there = named_inside lists n c.in-Some.at c.self.invariant.0 named in
    let got = get_or_read lists n.seg.0 c.index_mut-list.result.now there.0 c.index_mut-list.ensures.value [] in
    let held = content c.args.value in (
      written_of lists n c.args.field held c.in-Some.at c.write.new.self c.self.invariant.0 (subst (λ (v : Segmented). IsOrdered v.objects) (sym c.self.view_is) c.requires) named
          (λ d. c.write.ensures d ∙ ap (λ (xs : List Object). set xs c.in-Some.at (object_after_write n c.args.field held (get_or xs c.in-Some.at d))) got),
      length-set lists n.seg.0 c.write.new.self ∙ c.self.invariant.1,
    )

pub returns-in-Some-clause-objects : goal.returns-in-Some-clause-objects
returns-in-Some-clause-objects c =
    let lists = c.self.inside.lists.items in
    let n = c.args.name in
    let named = subst (λ (v : Segmented). IsNamedAt (objects_in v.objects n.seg.0) c.in-Some.at n) (sym c.self.view_is) c.in-Some.ensures.some in
    let there = named_inside lists n c.in-Some.at c.self.invariant.0 named in
    let got = get_or_read lists n.seg.0 c.index_mut-list.result.now there.0 c.index_mut-list.ensures.value [] in
    let held = content c.args.value in
    written_all lists n c.args.field held c.in-Some.at c.write.new.self c.self.invariant.0 (subst (λ (v : Segmented). IsOrdered v.objects) (sym c.self.view_is) c.requires) named
    (λ d. c.write.ensures d ∙ ap (λ (xs : List Object). set xs c.in-Some.at (object_after_write n c.args.field held (get_or xs c.in-Some.at d))) got)
    ∙ ap (λ (v : Segmented). map (object_after_write n c.args.field held) v.objects) c.self.view_is

pub returns-in_default-clause-objects : goal.returns-in_default-clause-objects
returns-in_default-clause-objects c =
    sym (written_none c.args.name c.args.field (content c.args.value) c.args.self.now.objects c.in_default.ensures.none)
