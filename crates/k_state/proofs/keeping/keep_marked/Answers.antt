use Rattle.std.proofs.Common.{◌≡◌, ◌+◌, ◌++◌, ap, ap₂, ◌∙◌, length, take, drop, arith}
use Rattle.std.proofs.lemmas.List.Edits.{length-swap}
use Rattle.std.specs.List.{swap}
use Rattle.k_state.specs.Marks.{marked}
use Rattle.k_state.proofs.Marked.{kept_no, kept_yes}
use Rattle.k_state.proofs.keeping.keep_marked.Goals as goal
use Rattle.k_state.proofs.keeping.keep_marked.Goals.{then-stays-i, else-stays-i}

pub loop-i-preserved : goal.loop-i-preserved
loop-i-preserved g c =
    let inv = c.loop-i.invariant in
    let marks = c.args.stays.now in
    let i = c.loop-i.i in
    let xs = c.loop-i.items.items in
    let all = marked marks c.args.items.now.items in
    elim c.if-stays-i.branch [
      | then-stays-i w ↦
          let is : c.if-stays-i.items.items ≡ swap xs c.loop-i.kept i = ap (λ v. v.items) w.items-is ∙ w.swap.ensures.items in
          let long = ap length is ∙ length-swap xs c.loop-i.kept i in
          record {
            low = omega (arith, w.kept-is, inv.low);
            same = long ∙ inv.same;
            so_far = ap₂ (λ k ys. take k ys ++ marked (drop (i + 1) marks) (drop (i + 1) ys)) w.kept-is is
                ∙ kept_yes marks xs all c.loop-i.kept i inv.low c.loop-i-test.true inv.same w.if-stays-i.true inv.so_far;
          }
      | else-stays-i w ↦
          let is : c.if-stays-i.items.items ≡ xs = ap (λ v. v.items) w.items-is in
          record {
            low = omega (arith, w.kept-is, inv.low);
            same = ap length is ∙ inv.same;
            so_far = ap₂ (λ k ys. take k ys ++ marked (drop (i + 1) marks) (drop (i + 1) ys)) w.kept-is is
                ∙ kept_no marks xs all c.loop-i.kept i c.loop-i-test.true inv.same w.if-stays-i.false inv.so_far;
          }
    ]
