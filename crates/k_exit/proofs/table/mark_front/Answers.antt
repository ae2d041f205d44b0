use Rattle.std.proofs.Common.{◌∙◌, arith}
use Rattle.std.proofs.lemmas.List.{length-set}
use Rattle.std.proofs.lemmas.List.Edits.{map_over_more}
use Rattle.k_exit.specs.Chains.{marked_item}
use Rattle.k_exit.proofs.table.mark_front.Goals as goal

pub loop-i-preserved : goal.loop-i-preserved
loop-i-preserved c =
    let i = c.loop-i.invariant in
    record {
      items = map_over_more marked_item c.args.items.now.items c.loop-i.items.items c.loop-i.i c.index_mut.result.now (omega (arith, c.requires)) i.items c.index_mut.ensures.value;
      capacity = i.capacity;
      len = length-set c.loop-i.items.items c.loop-i.i (marked_item c.index_mut.result.now) ∙ i.len;
    }
