use Rattle.std.proofs.Common.{◌≡◌, ◌≤◌, length, arith}
use Rattle.k_types.specs.Limits.{direct_by, limits_in, use_of}
use Rattle.k_types.specs.Owners.{charge_of}
use Rattle.k_laws.proofs.Maxima.{length_in, tree_in}
use Rattle.k_state.proofs.Uses.{direct_past, use_past}
use Rattle.k_state.proofs.lists.PlainLists.use_of.Goals as goal

pub returns-then-limit-limit_count : goal.returns-then-limit-limit_count
returns-then-limit-limit_count c =
    let m = c.args.self.now in
    let plain = c.setup-shape.ensures.shape in
    let rows = limits_in m.setup m.state in
    let same = length_in m.setup.limits m.state.maxima in
    let past : length m.setup.limits ≤ c.args.limit.0 = omega (arith, c.if-limit-limit_count.true, c.limit_count.ensures.count) in
    let none = direct_past m.setup (charge_of m.setup m.state) c.args.limit.0 plain.setup.limits.limited past in
    let zero : use_of m.setup m.state c.args.limit.0 ≡ 0
    = use_past rows (tree_in m.setup.limits m.state.maxima plain.setup.limits.tree) (direct_by m.setup (charge_of m.setup m.state)) (length rows) c.args.limit.0 (omega (arith, same, past)) none in
    omega (arith, zero)
