use Rattle.std.proofs.Common.{◌≡◌, ◌<◌, ◌≤◌, ◌+◌, ◌-◌, ◌^◌, take, length, length-set, get_or, set, ap, sym, ◌∙◌, true, false, subst, arith}
use Rattle.std.specs.Prelude.{min}
use Rattle.std.proofs.lemmas.Bool.{not-false, not-true}
use Rattle.k_types.specs.Names.{among}
use Rattle.k_types.specs.Owners.{bytes_of, charge_by, shared}
use Rattle.k_types.specs.Trace.{process_count}
use Rattle.k_state.specs.Machines.{IsKept, Machine}
use Rattle.k_state.specs.Sums.{AreSums}
use Rattle.k_state.proofs.Added.{charges_ended, charges_paid, charges_past}
use Rattle.k_state.proofs.lists.PlainLists.charges.Goals as goal
use Rattle.k_state.proofs.lists.PlainLists.charges.Goals.{then-p-len+then-lives, else-p-len, else-p-len-via-then-p-len+else-lives, else-p-len-via-else-p-len}

pub loop-share-preserved : goal.loop-share-preserved
loop-share-preserved c =
    let m = c.args.self.now in
    let e = c.share-item.result in
    let sums = c.loop-share.sums in
    let shares = c.deref-share-items.result.now in
    let i = c.loop-share.share-index in
    let n = process_count m.setup in
    let bytes = bytes_of m.setup m.state in
    let ended = m.state.ended in
    let before = c.loop-share.invariant in
    let kept : IsKept m c.self.inside.segments.totals = subst (λ (k : Machine). IsKept k c.self.inside.segments.totals) c.self.view_is c.self.invariant in
    let many : n ≤ 64 = kept.plain.setup.processes in
    let shown = ap (λ (k : Machine). process_count k.setup) c.self.view_is in
    let inside : i < length shares = c.loop-share-test.true in
    let payer : c.process-process.result.0 ≡ e.process = c.process-process.ensures in
    let gone_is = ap (λ k. among k ended) payer in
    elim c.if-p-len.branch [
      | then-p-len+then-lives w ↦
          let part = w.bytes_among.result in
          let lives : among e.process ended ≡ false = sym gone_is ∙ not-true _ (sym w.lives.ensures ∙ w.if-lives.true) in
          let pays : part ≡ bytes (shared e.heap) = w.bytes_among.ensures.sum ∙ ap (λ k. bytes (shared k)) w.heap.ensures in
          let small : part < 2 ^ 64 = let few = w.bytes_among.ensures.small in omega (arith, few) in
          let there : e.process < length sums = omega (arith, w.if-p-len.true, c.len.ensures, many, shown, before.sized, payer) in
          rw w.sums-is
          (rw w.add.ensures
          (record {
            sized = length-set sums c.process-process.result.0 (min (get_or sums c.process-process.result.0 0 + part) (2 ^ 64 - 1)) ∙ before.sized;
            sums = subst (λ k. AreSums (set sums k (min (get_or sums k 0 + part) (2 ^ 64 - 1))) (charge_by bytes ended (take (i + 1) shares)) n) (sym payer)
                (charges_paid bytes ended sums n shares i e inside c.share-item.is before.sums part there lives pays small);
          }))
      | else-p-len w ↦
          rw w.sums-is
          (record {
            sized = before.sized;
            sums = elim w.else-p-len.branch [
              | else-p-len-via-then-p-len+else-lives v ↦
                  let gone : among e.process ended ≡ true = sym gone_is ∙ not-false _ (sym v.lives.ensures ∙ v.if-lives.false) in
                  charges_ended bytes ended sums n shares i e inside c.share-item.is before.sums gone
              | else-p-len-via-else-p-len v ↦
                  let past : n ≤ e.process = omega (arith, v.if-p-len.false, c.len.ensures, shown, payer) in
                  charges_past bytes ended sums n shares i e inside c.share-item.is before.sums past
            ];
          })
    ]
