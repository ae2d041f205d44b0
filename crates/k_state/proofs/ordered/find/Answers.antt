use Rattle.std.proofs.Common.{Some, ap, sym, ◌∙◌}
use Rattle.k_types.specs.State.{Object}
use Rattle.k_state.proofs.Placed.{found_at, found_none}
use Rattle.k_state.proofs.ordered.find.Goals as goal

pub returns-in-Some : goal.returns-in-Some
returns-in-Some c =
    let found : Object = c.index-objects-at.result in
    let named = c.in-Some.ensures.some in
    ap Some c.index-objects-at.is ∙ sym (found_at c.args.name c.args.objects.now c.in-Some.at found c.requires named.0 (named.1 found))

pub returns-in-None : goal.returns-in-None
returns-in-None c = sym (found_none c.args.name c.args.objects.now c.in-None.ensures.none)
