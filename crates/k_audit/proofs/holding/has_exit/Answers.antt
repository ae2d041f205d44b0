use Rattle.std.proofs.Common.{List, ap, ◌∙◌, get_or, length, subst, ◌≤◌, ◌<◌, ltb-true, arith}
use Rattle.std.proofs.lemmas.Bool.{false_from_ne_true}
use Rattle.k_types.specs.State.{ExitItem}
use Rattle.k_audit.proofs.ExitPlaces.{found_there, none_past}
use Rattle.k_audit.proofs.holding.has_exit.Goals as goal

pub returns-then-at-exits : goal.returns-then-at-exits
returns-then-at-exits c =
    let m = c.args.lists.now in
    let w : ExitItem = record { heap = c.args.heap; target = c.args.target } in
    let at = c.exit_place-at.result in
    let found : ExitItem = c.index-exits-at.result in
    found_there m.setup w m.state.exits at found c.is.result c.requires c.exit_place-at.ensures
    (subst (λ (ys : List ExitItem). at < length ys) c.exits-exits.ensures c.if-at-exits.true)
    (c.index-exits-at.is ∙ ap (λ (ys : List ExitItem). get_or ys at found) c.exits-exits.ensures) c.is.ensures

pub returns-else-at-exits : goal.returns-else-at-exits
returns-else-at-exits c =
    let m = c.args.lists.now in
    let w : ExitItem = record { heap = c.args.heap; target = c.args.target } in
    let past = c.if-at-exits.false in
    false_from_ne_true _ (λ lt. absurd (let below = ltb-true _ _ lt in omega (arith, below, past)))
    ∙ none_past m.setup w m.state.exits c.exit_place-at.result c.requires c.exit_place-at.ensures
    (subst (λ (ys : List ExitItem). length ys ≤ c.exit_place-at.result) c.exits-exits.ensures past)
