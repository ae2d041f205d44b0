use Rattle.std.proofs.Common.{refl, sym, ◌∙◌, subst, get_or, None}
use Rattle.std.proofs.lemmas.Option.{slice_get-get_or}
use Rattle.k_types.specs.Complete.{IsPrefixOf}
use Rattle.k_operate.specs.k_process.declared.process.Process.{Process}
use Rattle.k_operate.specs.k_process.Heaps.{value_of}
use Rattle.k_operate.specs.k_process.BetweenSteps.{IsNextOf}
use Rattle.k_operate.specs.Adding.{known_to}
use Rattle.k_operate.proofs.Grown.{prefix_by, prefix_trans}
use Rattle.k_complete.proofs.PlacedKept.{completed, fewer_at, kept_all, kept_on, read_there}
use Rattle.k_complete.proofs.ending.complete.Goals as goal
use Rattle.k_tie.proofs.RuleKept.{prefix_all}
use Rattle.k_types.proofs.Lists.{same_value}

pub loop-op-init : goal.loop-op-init
loop-op-init g c = record {
  stand = c.requires.stand;
  count = refl;
  others = kept_all g.world'.trace c.args.heaps.now.processes.items c.args.at;
  grows = λ p q one two. subst (λ (x : Process). IsPrefixOf (known_to p c.args.heaps.now.book) (known_to x c.args.heaps.now.book)) (same_value (sym one ∙ two)) (prefix_all (known_to p c.args.heaps.now.book));
}

pub next-requires : goal.next-requires
next-requires g c =
    let there = read_there c.loop-op.heaps.processes.items c.args.heaps.now.processes.items c.args.at c.index.result.now c.loop-op.invariant.count c.requires.inside c.index.ensures in
    c.loop-op.invariant.stand.processes.each c.args.at c.index.result.now there

pub do_at-requires : goal.do_at-requires
do_at-requires g c =
    let there = read_there c.loop-op.heaps.processes.items c.args.heaps.now.processes.items c.args.at c.index.result.now c.loop-op.invariant.count c.requires.inside c.index.ensures in
    (c.index.result.now, record { stand = c.loop-op.invariant.stand; there = there; next = c.in-Some.ensures })

pub loop-op-preserved : goal.loop-op-preserved
loop-op-preserved g c =
    let there = read_there c.loop-op.heaps.processes.items c.args.heaps.now.processes.items c.args.at c.index.result.now c.loop-op.invariant.count c.requires.inside c.index.ensures in
    let d = c.do_at.ensures c.index.result.now there in
    record {
      stand = d.stand;
      count = d.stand.processes.count ∙ sym c.requires.stand.processes.count;
      others = kept_on g.world'.trace c.args.at c.args.heaps.now.processes.items c.loop-op.heaps.processes.items c.do_at.new.heaps.processes.items c.loop-op.invariant.count c.loop-op.invariant.others d.others;
      grows = λ p q one two.
          prefix_trans (known_to p c.args.heaps.now.book) (known_to c.index.result.now c.loop-op.heaps.book) (known_to q c.do_at.new.heaps.book) (c.loop-op.invariant.grows p c.index.result.now one there)
          (subst (λ (x : Process). IsPrefixOf (known_to c.index.result.now c.loop-op.heaps.book) (known_to x c.do_at.new.heaps.book)) (same_value (sym d.there ∙ two)) d.grows);
    }

pub loop-op-smaller : goal.loop-op-smaller
loop-op-smaller g c =
    let there = read_there c.loop-op.heaps.processes.items c.args.heaps.now.processes.items c.args.at c.index.result.now c.loop-op.invariant.count c.requires.inside c.index.ensures in
    fewer_at g.world' (value_of c.loop-op.heaps) c.args.at c.index.result.now c.in-Some.op (record { stand = c.loop-op.invariant.stand; there = there; next = c.in-Some.ensures })
    (value_of c.do_at.new.heaps) (c.do_at.ensures c.index.result.now there)

pub publish_all-requires : goal.publish_all-requires
publish_all-requires g c =
    let there = read_there c.loop-op.heaps.processes.items c.args.heaps.now.processes.items c.args.at c.index_mut.result.now c.loop-op.invariant.count c.requires.inside c.index_mut.ensures.value in
    record { process = c.loop-op.invariant.stand.processes.each c.args.at c.index_mut.result.now there; book = c.loop-op.invariant.stand.rest.book }

pub returns-clause-done : goal.returns-clause-done
returns-clause-done g c =
    let there = read_there c.loop-op.heaps.processes.items c.args.heaps.now.processes.items c.args.at c.index_mut.result.now c.loop-op.invariant.count c.requires.inside c.index_mut.ensures.value in
    let asked = read_there c.loop-op.heaps.processes.items c.args.heaps.now.processes.items c.args.at c.index.result.now c.loop-op.invariant.count c.requires.inside c.index.ensures in
    completed g.world' (value_of c.args.heaps.now) (value_of c.loop-op.heaps) c.args.at c.index_mut.result.now c.publish_all.new.process c.publish_all.new.book
    c.loop-op.invariant.stand there c.loop-op.invariant.count c.loop-op.invariant.others
    (subst (λ (q : Process). IsNextOf g.world'.trace q.cell None) (same_value (sym asked ∙ there)) c.in_default.ensures) c.publish_all.ensures

pub returns-clause-grows : goal.returns-clause-grows
returns-clause-grows g c =
    let there = read_there c.loop-op.heaps.processes.items c.args.heaps.now.processes.items c.args.at c.index_mut.result.now c.loop-op.invariant.count c.requires.inside c.index_mut.ensures.value in
    let first = get_or c.args.heaps.now.processes.items c.args.at c.index_mut.result.now in
    let began = slice_get-get_or c.args.heaps.now.processes.items c.args.at c.index_mut.result.now c.requires.inside in
    prefix_trans c.args.heaps.now.book.journal.list (known_to first c.args.heaps.now.book) c.publish_all.new.book.journal.list
    (prefix_by c.args.heaps.now.book.journal.list (known_to first c.args.heaps.now.book) first.cell.value.tail refl)
    (subst (IsPrefixOf (known_to first c.args.heaps.now.book)) (sym c.publish_all.ensures.journal) (c.loop-op.invariant.grows first c.index_mut.result.now began there))
