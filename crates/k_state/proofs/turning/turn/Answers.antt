use Rattle.std.proofs.Common.{◌≡◌, ◌+◌, ◌++◌, ap, ap₂, ◌∙◌, length, length-set, set, take, drop, arith}
use Rattle.std.proofs.lemmas.List.Edits.{length-swap}
use Rattle.std.specs.List.{swap}
use Rattle.k_types.specs.State.{ExitItem}
use Rattle.k_state.specs.Marks.{staying_items}
use Rattle.k_state.proofs.Marked.{turned_no, turned_yes}
use Rattle.k_state.proofs.turning.turn.Goals as goal
use Rattle.k_state.proofs.turning.turn.Goals.{in-Some, in_default}

pub loop-i-preserved : goal.loop-i-preserved
loop-i-preserved c =
    let inv = c.loop-i.invariant in
    let heaps = c.args.heaps.now in
    let i = c.loop-i.i in
    let k = c.loop-i.kept in
    let xs = c.loop-i.exits.items in
    let all = staying_items heaps c.args.exits.now.items in
    elim c.match-heaps-i.branch [
      | in-Some w ↦
          let e : ExitItem = w.index_mut-item.result.now in
          let e' : ExitItem = record e { heap = w.in-Some.heap } in
          let is : c.match-heaps-i.exits.items ≡ swap (set xs i e') k i
          = ap (λ v. v.items) w.exits-is ∙ w.swap.ensures.items ∙ ap (λ (x : ExitItem). swap (set xs i x) k i) w.pass_to.ensures in
          record {
            low = omega (arith, w.kept-is, inv.low);
            same = ap length is ∙ length-swap (set xs i e') k i ∙ length-set xs i e' ∙ inv.same;
            so_far = ap₂ (λ n ys. take n ys ++ staying_items (drop (i + 1) heaps) (drop (i + 1) ys)) w.kept-is is
                ∙ turned_yes heaps xs all k i w.in-Some.heap e inv.low c.loop-i-test.true inv.same w.in-Some.is w.index_mut-item.ensures.value inv.so_far;
          }
      | in_default w ↦
          let given = w.in_default.is in
          let is : c.match-heaps-i.exits.items ≡ xs = ap (λ v. v.items) w.exits-is in
          record {
            low = omega (arith, w.kept-is, inv.low);
            same = ap length is ∙ inv.same;
            so_far = ap₂ (λ n ys. take n ys ++ staying_items (drop (i + 1) heaps) (drop (i + 1) ys)) w.kept-is is
                ∙ turned_no heaps xs all k i c.loop-i-test.true inv.same given inv.so_far;
          }
    ]
