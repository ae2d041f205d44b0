use Rattle.std.proofs.Common.{◌≡◌, ◌+◌, ◌++◌, ◌∷◌, [], ap, sym, ◌∙◌, take, arith}
use Rattle.std.proofs.lemmas.List.{take_more}
use Rattle.k_laws.proofs.Sums.{total_push}
use Rattle.k_types.specs.Owners.{object_bytes}
use Rattle.k_types.specs.State.{Object}
use Rattle.k_types.specs.Totals.{total}
use Rattle.k_state.proofs.keeping.bytes_of.Goals as goal

pub loop-object-preserved : goal.loop-object-preserved
loop-object-preserved c =
    let xs = c.args.objects.now in
    let i = c.loop-object.object-index in
    let o : Object = c.object-item.result in
    let more : take (i + 1) xs ≡ take i xs ++ o ∷ [] = take_more xs i o c.loop-object-test.true ∙ ap (λ x. take i xs ++ x ∷ []) (sym c.object-item.is) in
    let next : total object_bytes (take (i + 1) xs) ≡ total object_bytes (take i xs) + object_bytes o = ap (total object_bytes) more ∙ total_push object_bytes (take i xs) o in
    record {
      small = omega (arith, c.loop-object.invariant.small, c.size-sum.ensures.small);
      sum = omega (arith, next, c.loop-object.invariant.sum, c.size-sum.ensures.size);
    }
