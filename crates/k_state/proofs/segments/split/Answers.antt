use Rattle.std.proofs.Common.{◌≡◌, ◌++◌, ◌∷◌, [], List, ap, sym, ◌∙◌, subst, length, length-set, append_assoc, arith, refl}
use Rattle.std.proofs.lemmas.List.{length-replicate}
use Rattle.std.specs.Vec.Iter.{into_iter_items}
use Rattle.k_types.specs.State.{Object}
use Rattle.k_state.specs.Segments.{AreOf, joined}
use Rattle.k_state.proofs.Split.{joined_none, of_none, put_next, put_next_of}
use Rattle.k_state.proofs.segments.split.Goals as goal

pub loop-object-init : goal.loop-object-init
loop-object-init c = record {
  parts = refl;
  left =
      let gives = c.into_iter-object-iterator.ensures.into_iter_gives in
      gives.1 ∙ c.args.objects.ok.0 ∙ ap (λ (xs : List Object). length xs) (sym gives.0);
  of = subst (AreOf 0) (sym c.in_ok-lists.ensures) (of_none 0 c.args.count);
  count = ap (λ (xs : List (List Object)). length xs) c.in_ok-lists.ensures ∙ length-replicate {A = List Object} c.args.count [];
  all = ap joined c.in_ok-lists.ensures ∙ joined_none c.args.count;
}

pub loop-object-preserved : goal.loop-object-preserved
loop-object-preserved c =
    let at = c.loop-object in
    let lists = at.lists.items in
    let o : Object = c.in-Some.object in
    let rest : List Object = into_iter_items c.next.new.self in
    let steps : into_iter_items at.object-iterator ≡ o ∷ rest = c.in-Some.ensures.steps.0 in
    let gives : into_iter_items c.into_iter-object-iterator.result ≡ c.args.objects.items = c.into_iter-object-iterator.ensures.into_iter_gives.0 in
    let whole : at.yielded ++ (o ∷ rest) ≡ c.args.objects.items = ap (λ (xs : List Object). at.yielded ++ xs) (sym steps) ∙ at.invariant.parts ∙ gives in
    let list = c.index_mut-list.result.now in
    record {
      parts = append_assoc at.yielded (o ∷ []) rest ∙ whole ∙ sym gives;
      left = let was = at.invariant.left in let gone = c.in-Some.ensures.steps.1 in let short = ap (λ (xs : List Object). length xs) steps in omega arith;
      of = put_next_of lists o c.name.result list c.push.new.self c.name.ensures at.invariant.of c.index_mut-list.ensures.value c.in_ok-push.ensures.ok
          at.yielded rest c.args.objects.items c.args.count at.invariant.all whole at.invariant.count c.requires.ordered c.requires.known;
      count = length-set lists c.name.result.seg.0 c.push.new.self ∙ at.invariant.count;
      all = put_next lists o c.name.result list c.push.new.self c.name.ensures at.invariant.of c.index_mut-list.ensures.value c.in_ok-push.ensures.ok
          at.yielded rest c.args.objects.items c.args.count at.invariant.all whole at.invariant.count c.requires.ordered c.requires.known;
    }
