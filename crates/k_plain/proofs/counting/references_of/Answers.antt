use Rattle.std.proofs.Common.{◌≡◌, ◌+◌, ◌++◌, ◌∷◌, [], ap, sym, ◌∙◌, take, arith}
use Rattle.std.proofs.lemmas.List.{take_more}
use Rattle.k_types.proofs.Sums.{total_push}
use Rattle.k_types.specs.State.{Object}
use Rattle.k_types.specs.Totals.{total}
use Rattle.k_plain.specs.Owned.{references_in}
use Rattle.k_plain.proofs.counting.references_of.Goals as goal

pub loop-object-preserved : goal.loop-object-preserved
loop-object-preserved c =
    let xs = c.args.objects.now in
    let i = c.loop-object.object-index in
    let o : Object = c.object-item.result in
    let more : take (i + 1) xs ≡ take i xs ++ o ∷ [] = take_more xs i o c.loop-object-test.true ∙ ap (λ x. take i xs ++ x ∷ []) (sym c.object-item.is) in
    let next : total references_in (take (i + 1) xs) ≡ total references_in (take i xs) + references_in o = ap (total references_in) more ∙ total_push references_in (take i xs) o in
    record {
      few = omega (arith, c.loop-object.invariant.few, c.references_in.ensures.few);
      counted = omega (arith, next, c.loop-object.invariant.counted, c.references_in.ensures.exact);
    }
