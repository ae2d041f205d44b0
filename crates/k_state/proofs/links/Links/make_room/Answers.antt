use Rattle.std.proofs.Common.{◌≡◌, ◌<◌, List, ℕ, subst, sym, ◌∙◌, length, arith}
use Rattle.k_state.specs.Links.{AreFound, Links}
use Rattle.k_state.proofs.Linked.{linked_same}
use Rattle.k_state.proofs.links.Links.make_room.Goals as goal

pub returns-in_err-resize-2-clause-linked : goal.returns-in_err-resize-2-clause-linked
returns-in_err-resize-2-clause-linked c =
    let items = c.args.items.now in
    let lasts = c.self.inside.lasts.items in
    let befores = c.self.inside.befores.items in
    let longer = c.resize.new.self.items in
    let found = subst (λ (l : Links). AreFound items l) (sym c.self.view_is) c.requires.linked in
    let room = found.1 in
    let enough : length items < c.min-room.result = omega (arith, c.min-room.ensures, c.requires.few) in
    let long : length longer ≡ c.min-room.result = sym c.resize.new.self.ok.0 ∙ c.in_ok-resize.ensures.len in
    let old = c.self.inside.befores.ok.0 in
    let same : c.resize-2.new.self.items ≡ lasts = c.in_err-resize-2.ensures.items in
    let linked = linked_same (length lasts) items (length items) lasts befores longer
    (λ k low. c.in_ok-resize.ensures.by_index.0 k 0 (omega (arith, low, enough)) (omega (arith, low, room.befores, old))) found.0 in
    subst (λ (l : List ℕ). AreFound items (record { lasts = l; befores = longer })) (sym same)
    (linked, record { lasts = room.lasts; befores = omega (arith, long, enough); few = room.few })
