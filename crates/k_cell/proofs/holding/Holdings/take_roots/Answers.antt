use Rattle.std.proofs.Common.{◌≡◌, ap, sym, ◌∙◌}
use Rattle.k_mark.specs.k_types.declared.names.CellPhase.TheVariants.{Begun}
use Rattle.k_mark.specs.k_space.Areas.{unmarked}
use Rattle.k_cell.specs.Holdings.{HoldingsValue}
use Rattle.k_cell.proofs.Marks.{rooted_rest}
use Rattle.k_cell.proofs.Carried.{rooted_carried}
use Rattle.k_cell.proofs.Grayed.{all_rooted, taken_begun, taken_kept}
use Rattle.k_cell.proofs.Rooted.{all_same}
use Rattle.k_cell.proofs.holding.Holdings.take_roots.Goals as goal

pub invariant_of-self : goal.invariant_of-self
invariant_of-self c =
    let begun : c.self.inside.phase ≡ Begun = ap (λ (h : HoldingsValue). h.value.collection) c.self.view_is ∙ c.requires in
    record {
      tables =
          taken_kept c.self.inside.bound c.self.inside.bytes c.self.inside.phase c.self.inside.area c.take_roots.new.self c.self.inside.exits.items c.take_roots.result.items c.self.invariant.tables begun c.take_roots.ensures;
      carried =
          rooted_carried c.self.inside.phase c.self.inside.area c.take_roots.new.self c.self.inside.exits.items c.self.inside.carried c.self.invariant.carried begun
          (sym (ap unmarked c.take_roots.ensures ∙ all_same c.take_roots.new.self c.take_roots.result.items));
    }

pub returns-clause-rest : goal.returns-clause-rest
returns-clause-rest c =
    rw (← c.self.view_is)
    (rooted_rest c.self.inside.bound c.self.inside.phase c.self.inside.area c.take_roots.new.self c.self.inside.exits c.self.inside.note (sym (ap unmarked c.take_roots.ensures ∙ all_same c.take_roots.new.self c.take_roots.result.items)))

pub returns-clause-begun : goal.returns-clause-begun
returns-clause-begun c =
    let begun : c.self.inside.phase ≡ Begun = ap (λ (h : HoldingsValue). h.value.collection) c.self.view_is ∙ c.requires in
    rw (← c.self.view_is)
    (taken_begun c.self.inside.bound c.self.inside.phase c.self.inside.area c.take_roots.new.self c.self.inside.exits.items begun (sym (ap unmarked c.take_roots.ensures ∙ all_same c.take_roots.new.self c.take_roots.result.items)))

pub returns-clause-roots : goal.returns-clause-roots
returns-clause-roots c =
    let begun : c.self.inside.phase ≡ Begun = ap (λ (h : HoldingsValue). h.value.collection) c.self.view_is ∙ c.requires in
    let kept = taken_kept c.self.inside.bound c.self.inside.bytes c.self.inside.phase c.self.inside.area c.take_roots.new.self c.self.inside.exits.items c.take_roots.result.items c.self.invariant.tables begun c.take_roots.ensures in
    rw (← c.self.view_is)
    (all_rooted c.self.inside.bound c.self.inside.bytes c.self.inside.phase c.take_roots.new.self c.self.inside.area c.self.inside.exits.items c.take_roots.result.items kept begun c.take_roots.ensures)
