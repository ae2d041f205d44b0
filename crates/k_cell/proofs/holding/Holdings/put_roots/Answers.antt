use Rattle.std.proofs.Common.{◌≡◌, ap, ◌∙◌}
use Rattle.k_mark.specs.k_types.declared.names.CellPhase.TheVariants.{Begun}
use Rattle.k_mark.specs.k_space.Areas.{unmarked}
use Rattle.k_cell.specs.Holdings.{HoldingsValue}
use Rattle.k_cell.proofs.Marks.{rooted_rest}
use Rattle.k_cell.proofs.Carried.{rooted_carried}
use Rattle.k_cell.proofs.Grayed.{all_rooted, put_kept}
use Rattle.k_cell.proofs.Rooted.{all_same}
use Rattle.k_cell.proofs.holding.Holdings.put_roots.Goals as goal

pub invariant_of-self : goal.invariant_of-self
invariant_of-self c =
    let begun : c.self.inside.phase ≡ Begun = ap (λ (h : HoldingsValue). h.value.collection) c.self.view_is ∙ c.requires in
    record {
      tables =
          put_kept c.self.inside.bound c.self.inside.bytes c.self.inside.phase c.self.inside.area c.put_roots.new.self c.self.inside.exits.items c.args.roots.items c.self.invariant.tables begun c.put_roots.ensures;
      carried =
          rooted_carried c.self.inside.phase c.self.inside.area c.put_roots.new.self c.self.inside.exits.items c.self.inside.carried c.self.invariant.carried begun
          (ap unmarked c.put_roots.ensures ∙ all_same c.self.inside.area c.args.roots.items);
    }

pub returns-clause-rest : goal.returns-clause-rest
returns-clause-rest c =
    rw (← c.self.view_is)
    (rooted_rest c.self.inside.bound c.self.inside.phase c.self.inside.area c.put_roots.new.self c.self.inside.exits c.self.inside.note (ap unmarked c.put_roots.ensures ∙ all_same c.self.inside.area c.args.roots.items))

pub returns-clause-roots : goal.returns-clause-roots
returns-clause-roots c =
    let begun : c.self.inside.phase ≡ Begun = ap (λ (h : HoldingsValue). h.value.collection) c.self.view_is ∙ c.requires in
    rw (← c.self.view_is)
    (all_rooted c.self.inside.bound c.self.inside.bytes c.self.inside.phase c.self.inside.area c.put_roots.new.self c.self.inside.exits.items c.args.roots.items c.self.invariant.tables begun c.put_roots.ensures)
