use Rattle.std.proofs.Common.{◌<◌, ◌≤◌, ◌^◌, length, length-set, ap, ◌∙◌, refl, subst, arith}
use Rattle.k_types.specs.Owners.{bytes_of, shared}
use Rattle.k_state.specs.Machines.{IsKept, Machine}
use Rattle.k_state.proofs.Added.{sums_put}
use Rattle.k_state.proofs.lists.PlainLists.shared_bytes.Goals as goal

pub loop-s-init : goal.loop-s-init
loop-s-init c = record { sized = refl; done = λ k low. absurd (omega (arith, low)) }

pub loop-s-preserved : goal.loop-s-preserved
loop-s-preserved c =
    let m = c.args.self.now in
    let s = c.loop-s.s in
    let sums = c.loop-s.sums in
    let before = c.loop-s.invariant in
    let kept : IsKept m c.self.inside.segments.totals = subst (λ (n : Machine). IsKept n c.self.inside.segments.totals) c.self.view_is c.self.invariant in
    let many : m.setup.shared_heaps ≤ 64 = kept.plain.setup.shared in
    let shown = ap (λ (n : Machine). n.setup.shared_heaps) c.self.view_is in
    let inside : s < length sums = omega (arith, c.loop-s-test.true, many, shown, before.sized) in
    let small : c.bytes.result < 2 ^ 64 = let few = c.bytes.ensures.small in omega (arith, few) in
    record {
      sized = length-set sums s c.bytes.result ∙ before.sized;
      done = sums_put sums (λ k. bytes_of m.setup m.state (shared k)) s c.bytes.result c.bytes.ensures.sum small inside before.done;
    }
