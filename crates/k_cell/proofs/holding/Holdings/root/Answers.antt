use Rattle.std.proofs.Common.{◌≡◌, ap, ◌∙◌}
use Rattle.k_mark.specs.k_types.declared.names.CellPhase.TheVariants.{Begun}
use Rattle.k_mark.specs.k_types.Names.{name_of}
use Rattle.k_mark.specs.k_space.Areas.{unmarked}
use Rattle.k_cell.specs.Holdings.{HoldingsValue}
use Rattle.k_cell.proofs.Marks.{grayed_same, rooted, rooted_kept, rooted_rest}
use Rattle.k_cell.proofs.Carried.{rooted_carried}
use Rattle.k_cell.proofs.holding.Holdings.root.Goals as goal

pub invariant_of-self : goal.invariant_of-self
invariant_of-self c =
    let begun : c.self.inside.phase ≡ Begun = ap (λ (h : HoldingsValue). h.value.collection) c.self.view_is ∙ c.requires in
    record {
      tables =
          rooted_kept c.self.inside.bound c.self.inside.bytes c.self.inside.phase c.self.inside.area c.root.new.self c.self.inside.exits.items (name_of c.args.target) c.self.invariant.tables begun c.root.ensures;
      carried =
          rooted_carried c.self.inside.phase c.self.inside.area c.root.new.self c.self.inside.exits.items c.self.inside.carried c.self.invariant.carried begun
          (ap unmarked c.root.ensures ∙ grayed_same c.self.inside.area (name_of c.args.target));
    }

pub returns-clause-rest : goal.returns-clause-rest
returns-clause-rest c =
    rw (← c.self.view_is)
    (rooted_rest c.self.inside.bound c.self.inside.phase c.self.inside.area c.root.new.self c.self.inside.exits c.self.inside.note (ap unmarked c.root.ensures ∙ grayed_same c.self.inside.area (name_of c.args.target)))

pub returns-clause-root : goal.returns-clause-root
returns-clause-root c =
    let begun : c.self.inside.phase ≡ Begun = ap (λ (h : HoldingsValue). h.value.collection) c.self.view_is ∙ c.requires in
    rw (← c.self.view_is)
    (rooted c.self.inside.bound c.self.inside.bytes c.self.inside.phase c.self.inside.area c.root.new.self c.self.inside.exits.items (name_of c.args.target) c.self.invariant.tables begun c.root.ensures)
