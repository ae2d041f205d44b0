use Rattle.std.proofs.Common.{◌≡◌, ◌-◌, ◌<◌, false, ap, subst, sym, ◌∙◌, length, get_or, arith}
use Rattle.std.proofs.lemmas.List.{get_or_read}
use Rattle.k_types.specs.State.{ExitItem}
use Rattle.k_state.specs.Links.{Links}
use Rattle.k_state.proofs.Linked.{IsWalk, is_exit, walk_ends, walk_goes}
use Rattle.k_state.proofs.links.Links.find.Goals as goal

pub loop-up_to-smaller : goal.loop-up_to-smaller
loop-up_to-smaller c =
    let items = c.args.items.now in
    let links : Links = c.args.self.now in
    let up_to = c.loop-up_to.up_to in
    let at = up_to - 1 in
    let e : ExitItem = c.index-items-at.result in
    let all = c.loop-up_to.invariant.within in
    let inside : at < length items = omega (arith, all, c.loop-up_to-test.true) in
    let room = c.requires.1.befores in
    let same = ap (λ (l : Links). get_or l.befores at 0) c.self.view_is in
    let long = ap (λ (l : Links). length l.befores) c.self.view_is in
    let read = get_or_read c.self.inside.befores.items at c.index-up_to-in-loop-up_to.result.now (omega (arith, inside, room, long)) c.index-up_to-in-loop-up_to.ensures 0 in
    let back = (c.requires.0.befores at e inside).within in
    omega (arith, read, same, back, c.loop-up_to-test.true)

pub loop-up_to-preserved : goal.loop-up_to-preserved
loop-up_to-preserved c =
    let items = c.args.items.now in
    let links : Links = c.args.self.now in
    let up_to = c.loop-up_to.up_to in
    let at = up_to - 1 in
    let e : ExitItem = c.index-items-at.result in
    let all = c.loop-up_to.invariant.within in
    let inside : at < length items = omega (arith, all, c.loop-up_to-test.true) in
    let room = c.requires.1.befores in
    let long = ap (λ (l : Links). length l.befores) c.self.view_is in
    let read : c.index-up_to-in-loop-up_to.result.now ≡ get_or links.befores at 0
    = get_or_read c.self.inside.befores.items at c.index-up_to-in-loop-up_to.result.now (omega (arith, inside, room, long)) c.index-up_to-in-loop-up_to.ensures 0
    ∙ ap (λ (l : Links). get_or l.befores at 0) c.self.view_is in
    let not_this : (d : ExitItem) → is_exit c.args.heap c.args.target (get_or items at d) ≡ false
    = λ d. ap (is_exit c.args.heap c.args.target) (sym (get_or_read items at e inside c.index-items-at.is d)) ∙ sym c.is.ensures ∙ c.if-is.false in
    subst (IsWalk (length links.lasts) items c.args.heap c.args.target) (sym read)
    (walk_goes (length links.lasts) items c.args.heap c.args.target links up_to e (omega (arith, c.loop-up_to-test.true)) c.requires.0 c.loop-up_to.invariant not_this)

pub returns-clause-none : goal.returns-clause-none
returns-clause-none c =
    walk_ends (length c.args.self.now.lasts) c.args.items.now c.args.heap c.args.target c.loop-up_to.up_to (omega (arith, c.loop-up_to-test.false)) c.loop-up_to.invariant
