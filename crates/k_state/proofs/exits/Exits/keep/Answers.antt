use Rattle.std.proofs.Common.{◌≤◌, List, ap, subst, sym, ◌∙◌, length, arith}
use Rattle.k_types.specs.State.{ExitItem}
use Rattle.k_state.specs.Links.{AreFound}
use Rattle.k_state.specs.Marks.{marked}
use Rattle.k_state.proofs.Linked.{marked_all}
use Rattle.k_state.proofs.exits.Exits.keep.Goals as goal

pub invariant_of-self-else-len-count : goal.invariant_of-self-else-len-count
invariant_of-self-else-len-count c =
    let items : List ExitItem = c.self.inside.items.items in
    let stays = c.args.stays.now in
    let left = ap length c.keep_marked.ensures in
    let was = c.self.inside.items.ok.0 in
    let is = c.keep_marked.new.items.ok.0 in
    let all : length items ≤ length (marked stays items) = omega (arith, c.if-len-count.false, c.len-count.ensures, c.len.ensures, left, was, is) in
    subst (λ (xs : List ExitItem). AreFound xs c.self.inside.links) (sym (c.keep_marked.ensures ∙ marked_all stays items all)) c.self.invariant
