use Rattle.std.proofs.Common.{◌≡◌, ◌+◌, ◌++◌, [], ◌∷◌, not, true, false, List, ap, ap₂, sym, ◌∙◌, map, take}
use Rattle.std.specs.List.{list_any}
use Rattle.std.proofs.lemmas.List.{map_push, take_more}
use Rattle.k_types.specs.Effects.{exit_stays, open_roots}
use Rattle.k_types.specs.Names.{heap_eq}
use Rattle.k_types.specs.Reach.{reach_in}
use Rattle.k_types.specs.State.{ExitItem, Object, has_exit, refers}
use Rattle.k_scan.proofs.Found.{other_stays, own_stays}
use Rattle.k_scan.proofs.Noted.{own_there}
use Rattle.k_scan.proofs.surviving.surviving_among.Goals as goal
use Rattle.k_scan.proofs.surviving.surviving_among.Goals.{then-not-is_of, else-not-is_of}

pub loop-item-preserved : goal.loop-item-preserved
loop-item-preserved c =
    let m = c.args.lists.now in
    let h = c.args.heap in
    let e = c.item-item.result in
    let exits = c.exits-item-items.result.now in
    let i = c.loop-item.item-index in
    let stays = exit_stays m.setup m.state h in
    let more : take (i + 1) exits ≡ take i exits ++ e ∷ [] = take_more exits i e c.loop-item-test.true ∙ ap (λ x. take i exits ++ x ∷ []) (sym c.item-item.is) in
    let is : c.if-not-is_of.push ≡ stays e
    = elim c.if-not-is_of.branch [
      | then-not-is_of w ↦
          let other : heap_eq e.heap h ≡ false = sym c.is_of.ensures ∙ w.if-not-is_of.true in
          w.push-is ∙ ap not w.if-not-is_of.true ∙ sym (other_stays m.setup m.state h e other)
      | else-not-is_of w ↦
          let own : heap_eq e.heap h ≡ true = sym c.is_of.ensures ∙ w.if-not-is_of.false in
          w.push-is
          ∙ w.is_noted.ensures
          ∙ ap (λ n. list_any (λ (x : Object). refers x n) (reach_in m.setup m.state h (open_roots m.state h))) w.target.ensures
          ∙ sym (own_stays m.setup m.state h e own)
    ] in
    c.in_ok-push.ensures.items
    ∙ ap₂ (λ ys b. ys ++ b ∷ []) c.loop-item.invariant is
    ∙ sym (map_push stays (take i exits) e)
    ∙ ap (map stays) (sym more)

pub is_noted-requires-clause-there : goal.is_noted-requires-clause-there
is_noted-requires-clause-there c =
    let h = c.args.heap in
    let e : ExitItem = c.item-item.result in
    let exits = c.exits-item-items.result.now in
    let there : has_exit exits h e.target ≡ true
    = own_there exits h c.loop-item.item-index e c.loop-item-test.true c.item-item.is (sym c.is_of.ensures ∙ c.if-not-is_of.false) in
    ap₂ (λ (xs : List ExitItem) n. has_exit xs h n) (sym c.exits-item-items.ensures) c.target.ensures ∙ there
