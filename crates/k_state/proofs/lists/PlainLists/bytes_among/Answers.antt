use Rattle.std.proofs.Common.{◌≡◌, ◌<◌, ◌-◌, ◌^◌, get_or, ap, subst, arith}
use Rattle.std.specs.Prelude.{min}
use Rattle.k_types.specs.Owners.{bytes_of, shared}
use Rattle.k_state.specs.Machines.{IsKept, Machine}
use Rattle.k_state.proofs.Heaps.{bytes_small_of}
use Rattle.k_state.proofs.lists.PlainLists.bytes_among.Goals as goal

pub returns-then-id-self-clause-sum : goal.returns-then-id-self-clause-sum
returns-then-id-self-clause-sum c =
    let m = c.args.self.now in
    let totals = c.self.inside.segments.totals in
    let kept : IsKept m totals = subst (λ (n : Machine). IsKept n totals) c.self.view_is c.self.invariant in
    let shown = ap (λ (n : Machine). n.setup.shared_heaps) c.self.view_is in
    let inside : c.args.id.0 < m.setup.shared_heaps = omega (arith, c.if-id-self.true, shown) in
    let is : get_or c.args.all.now c.args.id.0 0 ≡ min (bytes_of m.setup m.state (shared c.args.id.0)) (2 ^ 64 - 1) = c.requires c.args.id.0 inside in
    let small = bytes_small_of m totals (shared c.args.id.0) kept in
    omega (arith, is, small)

pub returns-then-id-self-clause-small : goal.returns-then-id-self-clause-small
returns-then-id-self-clause-small c =
    let m = c.args.self.now in
    let totals = c.self.inside.segments.totals in
    let kept : IsKept m totals = subst (λ (n : Machine). IsKept n totals) c.self.view_is c.self.invariant in
    let is : get_or c.args.all.now c.args.id.0 0 ≡ bytes_of m.setup m.state (shared c.args.id.0) = returns-then-id-self-clause-sum c in
    let small = bytes_small_of m totals (shared c.args.id.0) kept in
    omega (arith, is, small)
