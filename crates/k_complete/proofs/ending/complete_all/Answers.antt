use Rattle.std.proofs.Common.{◌<◌, sym, ◌∙◌, subst, arith, rules}
use Rattle.std.proofs.lemmas.Option.{slice_get_within}
use Rattle.k_operate.specs.k_process.Heaps.{value_of}
use Rattle.k_operate.proofs.Grown.{prefix_trans}
use Rattle.k_complete.proofs.PlacedKept.{through_next}
use Rattle.k_complete.proofs.ending.complete_all.Goals as goal
use Rattle.k_tie.proofs.RuleKept.{prefix_all}

pub loop-at-init : goal.loop-at-init
loop-at-init g c = record {
  stand = c.requires;
  through = λ k p inside at. absurd (omega (arith, inside));
  whole = search rules;
  grows = prefix_all c.args.heaps.now.book.journal.list;
}

pub complete-requires : goal.complete-requires
complete-requires g c = record { stand = c.loop-at.invariant.stand; inside = subst (λ n. c.loop-at.at < n) (sym c.loop-at.invariant.whole) c.loop-at-test.true }

pub loop-at-preserved : goal.loop-at-preserved
loop-at-preserved g c =
    let same = c.complete.ensures.done.stand.processes.count ∙ sym c.loop-at.invariant.stand.processes.count in
    record {
      stand = c.complete.ensures.done.stand;
      through = through_next g.world' (value_of c.loop-at.heaps) (value_of c.complete.new.heaps) c.loop-at.at c.loop-at.invariant.through same c.complete.ensures.done;
      whole = same ∙ c.loop-at.invariant.whole;
      grows = prefix_trans c.args.heaps.now.book.journal.list c.loop-at.heaps.book.journal.list c.complete.new.heaps.book.journal.list c.loop-at.invariant.grows c.complete.ensures.grows;
    }

pub returns-clause-through : goal.returns-clause-through
returns-clause-through g c = record {
  stand = c.loop-at.invariant.stand;
  through = λ k p at.
      let within = slice_get_within c.loop-at.heaps.processes.items k p at in
      let whole = c.loop-at.invariant.whole in
      let over = c.loop-at-test.false in
      c.loop-at.invariant.through k p (omega (arith, within, whole, over)) at;
}

pub returns-clause-grows : goal.returns-clause-grows
returns-clause-grows g c = c.loop-at.invariant.grows
