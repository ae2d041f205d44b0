use Rattle.std.proofs.Common.{rules, ◌≡◌, ◌<◌, ◌-◌, ◌+◌, ◌^◌, ap, sym, ◌∙◌, subst, length, length-set, get_or, set, arith}
use Rattle.std.specs.Prelude.{min}
use Rattle.k_types.specs.Limits.{direct_by, limits_in}
use Rattle.k_types.specs.Owners.{charge_of}
use Rattle.k_laws.proofs.Maxima.{length_in, tree_in}
use Rattle.k_state.specs.Sums.{AreSums}
use Rattle.k_state.proofs.Paths.{parent_known}
use Rattle.k_state.proofs.Uses.{counted_up, up_begins, up_child, up_ends, up_root}
use Rattle.k_state.proofs.lists.PlainLists.uses.Goals as goal
use Rattle.k_state.proofs.lists.PlainLists.uses.Goals.{in-Some, in_default}

pub loop-i-init : goal.loop-i-init
loop-i-init c =
    let m = c.args.self.now in
    let plain = c.setup-shape.ensures.shape in
    record {
      sized = search rules;
      sums = up_begins (limits_in m.setup m.state) (tree_in m.setup.limits m.state.maxima plain.setup.limits.tree) (direct_by m.setup (charge_of m.setup m.state))
          c.directs-sums.result (length m.setup.limits) c.directs-sums.ensures;
    }

pub add-requires : goal.add-requires
add-requires c =
    let m = c.args.self.now in
    let plain = c.setup-shape.ensures.shape in
    let at = c.limit_count-count.result - 1 - c.loop-i.i in
    let inside : at < length m.setup.limits = omega (arith, c.loop-i-test.true, c.limit_count-count.ensures.count) in
    let known = parent_known m.setup.limits m.state.maxima at c.row-row.result c.in-Some.parent plain.setup.limits.tree inside plain.sized.maxima c.row-row.ensures.row c.in-Some.is in
    omega (arith, known, plain.setup.limit_count, c.loop-i.invariant.sized)

pub loop-i-preserved : goal.loop-i-preserved
loop-i-preserved c =
    let m = c.args.self.now in
    let plain = c.setup-shape.ensures.shape in
    let rows = limits_in m.setup m.state in
    let tree = tree_in m.setup.limits m.state.maxima plain.setup.limits.tree in
    let direct = direct_by m.setup (charge_of m.setup m.state) in
    let n = length m.setup.limits in
    let i = c.loop-i.i in
    let sums = c.loop-i.sums in
    let before = c.loop-i.invariant in
    let row = c.row-row.result in
    let at = c.limit_count-count.result - 1 - i in
    let all : n ≡ length rows = sym (length_in m.setup.limits m.state.maxima) in
    let inside : i < n = omega (arith, c.loop-i-test.true, c.limit_count-count.ensures.count) in
    let place : at ≡ n - 1 - i = omega (arith, c.limit_count-count.ensures.count) in
    elim c.match-row.branch [
      | in-Some w ↦
          let parent = w.in-Some.parent in
          let part = w.part_above-part.result in
          let known = parent_known m.setup.limits m.state.maxima at row parent plain.setup.limits.tree (omega (arith, inside, place)) plain.sized.maxima c.row-row.ensures.row w.in-Some.is in
          let there : parent.0 < length sums = omega (arith, known, plain.setup.limit_count, before.sized) in
          let grown = set sums parent.0 (min (get_or sums parent.0 0 + part) (2 ^ 64 - 1)) in
          let is : c.match-row.sums ≡ grown = w.sums-is ∙ w.add.ensures in
          record {
            sized = ap length is ∙ length-set sums parent.0 (min (get_or sums parent.0 0 + part) (2 ^ 64 - 1)) ∙ before.sized;
            sums = subst (λ xs. AreSums xs (counted_up rows tree direct (i + 1)) n) (sym is)
                (up_child rows tree direct sums n i at row all inside place c.row-row.ensures.row before.sums parent part w.in-Some.is c.row-row.ensures.small there w.part_above-part.ensures);
          }
      | in_default w ↦
          record {
            sized = ap length w.sums-is ∙ before.sized;
            sums = subst (λ xs. AreSums xs (counted_up rows tree direct (i + 1)) n) (sym w.sums-is)
                (up_root rows tree direct sums n i at row all inside place c.row-row.ensures.row before.sums w.in_default.is);
          }
    ]

pub returns : goal.returns
returns c =
    let m = c.args.self.now in
    let plain = c.setup-shape.ensures.shape in
    let n = length m.setup.limits in
    up_ends (limits_in m.setup m.state) (tree_in m.setup.limits m.state.maxima plain.setup.limits.tree) (direct_by m.setup (charge_of m.setup m.state)) c.loop-i.sums n c.loop-i.i
    (sym (length_in m.setup.limits m.state.maxima)) (omega (arith, c.loop-i-test.false, c.limit_count-count.ensures.count)) c.loop-i.invariant.sums
