use Rattle.std.proofs.Common.{◌≡◌, ◌<◌, ◌≤◌, ◌^◌, true, false, length, length-set, get_or, get_or-set_other, set, ap, sym, ◌∙◌, refl, subst, arith}
use Rattle.std.proofs.lemmas.Bool.{not-false, not-true}
use Rattle.k_laws.proofs.Sizes.{zeros_at}
use Rattle.k_types.specs.Names.{among}
use Rattle.k_types.specs.Owners.{bytes_of}
use Rattle.k_types.specs.Trace.{process_count}
use Rattle.k_state.specs.Machines.{IsKept, Machine}
use Rattle.k_state.proofs.Added.{own_ended, own_lives}
use Rattle.k_state.proofs.lists.PlainLists.own_bytes.Goals as goal
use Rattle.k_state.proofs.lists.PlainLists.own_bytes.Goals.{then-lives, else-lives}

pub loop-p-init : goal.loop-p-init
loop-p-init c = record { sized = refl; done = λ k low. absurd (omega (arith, low)); rest = λ k low. zeros_at 64 k }

pub loop-p-preserved : goal.loop-p-preserved
loop-p-preserved c =
    let m = c.args.self.now in
    let p = c.loop-p.p in
    let sums = c.loop-p.sums in
    let before = c.loop-p.invariant in
    let kept : IsKept m c.self.inside.segments.totals = subst (λ (n : Machine). IsKept n c.self.inside.segments.totals) c.self.view_is c.self.invariant in
    let many : process_count m.setup ≤ 64 = kept.plain.setup.processes in
    let shown = ap (λ (n : Machine). process_count n.setup) c.self.view_is in
    let inside : p < length sums = omega (arith, c.loop-p-test.true, c.len-p-end.ensures, many, shown, before.sized) in
    elim c.if-lives.branch [
      | then-lives w ↦
          let lives : among p m.state.ended ≡ false = not-true _ (sym c.lives.ensures ∙ w.if-lives.true) in
          let small : w.bytes.result < 2 ^ 64 = let few = w.bytes.ensures.small in omega (arith, few) in
          rw w.sums-is
          (record {
            sized = length-set sums p w.bytes.result ∙ before.sized;
            done = own_lives (bytes_of m.setup m.state) m.state.ended sums p w.bytes.result lives w.bytes.ensures.sum small inside before.done;
            rest = λ k low.
                let same : get_or (set sums p w.bytes.result) k 0 ≡ get_or sums k 0 = grind (arith, get_or-set_other, low) in
                same ∙ before.rest k (omega (arith, low));
          })
      | else-lives w ↦
          let gone : among p m.state.ended ≡ true = not-false _ (sym c.lives.ensures ∙ w.if-lives.false) in
          rw w.sums-is
          (record {
            sized = before.sized;
            done = own_ended (bytes_of m.setup m.state) m.state.ended sums p gone (before.rest p (omega arith)) before.done;
            rest = λ k low. before.rest k (omega (arith, low));
          })
    ]
