use Rattle.std.proofs.Common.{rules, sym, ap, ◌∙◌, []}
use Rattle.k_watch.specs.Values.{PenValue, WatcherValue}
use Rattle.k_watch.proofs.RuleKept.{hands_over, takes_in, looks, gives, joined}
use Rattle.k_watch.proofs.pen.WatchPen.tell.Goals as goal

pub hand_over-whole-requires : goal.hand_over-whole-requires
hand_over-whole-requires g c =
    let same = ap (λ (v : WatcherValue). v.cell) c.watcher.view_is ∙ c.requires.cell ∙ sym (ap (λ (v : PenValue). v.cell) c.self.view_is) in
    record {
      cell = same ∙ c.self.invariant.0 ∙ sym (ap (λ w. w.table.shared.table_id) c.deref.ensures);
      rule = hands_over _ _ _ c.watcher.invariant.1;
    }

pub take_watcher-requires : goal.take_watcher-requires
take_watcher-requires g c =
    let same = ap (λ (v : WatcherValue). v.cell) c.watcher.view_is ∙ c.requires.cell ∙ sym (ap (λ (v : PenValue). v.cell) c.self.view_is) in
    record {
      own = (search rules, c.hand_over-whole.ensures.given.0 ∙ same, c.hand_over-whole.ensures.given.2);
      rule = takes_in _ _ _ _ _ _ c.self.invariant.1 (c.hand_over-whole.ensures.given.1 ∙ c.watcher.invariant.1);
    }

pub look_at_watchers-requires-clause-rule : goal.look_at_watchers-requires-clause-rule
look_at_watchers-requires-clause-rule g c =
    looks _ _ _ _ (joined _ _ _ _ _ c.self.invariant.1 (c.hand_over-whole.ensures.given.1 ∙ c.watcher.invariant.1) c.take_watcher.ensures.1)

pub give_watcher-pass-requires-clause-rule : goal.give_watcher-pass-requires-clause-rule
give_watcher-pass-requires-clause-rule g c =
    gives _ _ _ _ [] (c.look_at_watchers.ensures.kept ∙ joined _ _ _ _ _ c.self.invariant.1 (c.hand_over-whole.ensures.given.1 ∙ c.watcher.invariant.1) c.take_watcher.ensures.1)
