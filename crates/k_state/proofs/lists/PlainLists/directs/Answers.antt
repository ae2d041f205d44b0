use Rattle.std.proofs.Common.{◌≡◌, ◌<◌, ◌≤◌, ◌+◌, ◌-◌, ◌^◌, ◌==◌, ℕ, List, cond, length, length-set, get_or, set, ap, sym, ◌∙◌, refl, subst, arith}
use Rattle.std.specs.Prelude.{filter, min}
use Rattle.std.proofs.lemmas.List.{get_or_read}
use Rattle.k_laws.proofs.Sizes.{zeros_at}
use Rattle.k_types.specs.declared.names.LimitId.{LimitId}
use Rattle.k_types.specs.Totals.{total}
use Rattle.k_types.specs.Numbers.{numbers_below}
use Rattle.k_types.specs.Owners.{charge_of}
use Rattle.k_types.specs.Trace.{Trace, limit_of, process_count}
use Rattle.k_state.specs.Machines.{IsKept, Machine}
use Rattle.k_state.specs.Sums.{AreSums}
use Rattle.k_state.proofs.Added.{numbers_total_more, sums_added}
use Rattle.k_state.proofs.lists.PlainLists.directs.Goals as goal

-- what the first p processes are charged at each limit
abbrev so_far : Trace → (ℕ → ℕ) → ℕ → ℕ → ℕ
so_far setup charge p m = total charge (filter (λ q. limit_of setup q == m) (numbers_below p))

added : (setup : Trace) (charge : ℕ → ℕ) (numbers charges : List ℕ) (n p k : ℕ) → AreSums numbers (so_far setup charge p) n → AreSums charges charge (process_count setup) →
    p < process_count setup → k < length numbers → k ≡ limit_of setup p →
    AreSums (set numbers k (min (get_or numbers k 0 + get_or charges p 0) (2 ^ 64 - 1))) (so_far setup charge (p + 1)) n
added setup charge numbers charges n p k are each inside there at =
    sums_added numbers (so_far setup charge p) (so_far setup charge (p + 1)) n k (charge p) (get_or charges p 0) are there (each p inside)
    (λ m low. numbers_total_more charge (λ q. limit_of setup q == m) p ∙ ap (λ j. so_far setup charge p m + cond (j == m) (charge p) 0) (sym at))

pub loop-p-init : goal.loop-p-init
loop-p-init c = record { sized = refl; sums = λ k low. zeros_at 128 k }

pub loop-p-preserved : goal.loop-p-preserved
loop-p-preserved c =
    let m = c.args.self.now in
    let p = c.loop-p.p in
    let sums = c.loop-p.sums in
    let procs = c.self.inside.setup.procs.items in
    let charges = c.charges-charges.result in
    let k = c.index.result.now.0 in
    let before = c.loop-p.invariant in
    let n = length m.setup.limits in
    let charge = charge_of m.setup m.state in
    let kept : IsKept m c.self.inside.segments.totals = subst (λ (x : Machine). IsKept x c.self.inside.segments.totals) c.self.view_is c.self.invariant in
    let few : n ≤ 128 = kept.plain.setup.limit_count in
    let shown : length procs ≡ process_count m.setup = ap (λ (x : Machine). process_count x.setup) c.self.view_is in
    let inside : p < process_count m.setup = omega (arith, c.loop-p-test.true, c.len-p-end.ensures, shown) in
    let given = get_or_read procs p c.index.result.now (omega (arith, inside, shown)) c.index.ensures (record { 0 = 0 }) in
    let at : k ≡ limit_of m.setup p = ap (λ (l : LimitId). l.0) given ∙ ap (λ (x : Machine). limit_of x.setup p) c.self.view_is in
    let known = kept.plain.setup.limits.limited p inside in
    let there : k < length sums = omega (arith, at, known, few, before.sized) in
    let grown = set sums k (min (get_or sums k 0 + get_or charges p 0) (2 ^ 64 - 1)) in
    let is : c.add.new.sums ≡ grown = c.add.ensures in
    record {
      sized = ap length is ∙ length-set sums k (min (get_or sums k 0 + get_or charges p 0) (2 ^ 64 - 1)) ∙ before.sized;
      sums = subst (λ xs. AreSums xs (so_far m.setup charge (p + 1)) n) (sym is) (added m.setup charge sums charges n p k before.sums c.charges-charges.ensures inside there at);
    }
