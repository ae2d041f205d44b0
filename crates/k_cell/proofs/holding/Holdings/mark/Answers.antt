use Rattle.std.proofs.Common.{◌≡◌, IsTrue, List, ap, sym, subst, ◌∙◌}
use Rattle.k_mark.specs.k_types.declared.names.CellPhase.TheVariants.{Begun}
use Rattle.k_mark.specs.k_types.declared.names.Name.{Name}
use Rattle.k_cell.specs.Carried.{IsWhole}
use Rattle.k_cell.specs.Changes.{HasItsExits}
use Rattle.k_cell.specs.Holdings.{HoldingsValue}
use Rattle.k_cell.proofs.Marks.{exits_there, marked_kept, marked_rest, marked_seen, marks_clean}
use Rattle.k_cell.proofs.Carried.{marked_carried}
use Rattle.k_cell.proofs.holding.Holdings.mark.Goals as goal

pub mark_kept-requires-clause-exits : goal.mark_kept-requires-clause-exits
mark_kept-requires-clause-exits c =
    exits_there c.self.inside.bound c.self.inside.phase c.self.inside.area c.self.inside.exits.items c.self.invariant.tables.numbered.none
    (subst (λ (h : HoldingsValue). HasItsExits h.value) (sym c.self.view_is) c.requires.exits)

pub mark_kept-requires-clause-clean : goal.mark_kept-requires-clause-clean
mark_kept-requires-clause-clean c =
    let begun : c.self.inside.phase ≡ Begun = ap (λ (h : HoldingsValue). h.value.collection) c.self.view_is ∙ c.requires.begun in
    (marks_clean c.self.inside.bound c.self.inside.bytes c.self.inside.phase c.self.inside.area c.self.inside.exits.items c.self.invariant.tables begun).0

pub mark_kept-requires-clause-unmarked : goal.mark_kept-requires-clause-unmarked
mark_kept-requires-clause-unmarked c =
    let begun : c.self.inside.phase ≡ Begun = ap (λ (h : HoldingsValue). h.value.collection) c.self.view_is ∙ c.requires.begun in
    (marks_clean c.self.inside.bound c.self.inside.bytes c.self.inside.phase c.self.inside.area c.self.inside.exits.items c.self.invariant.tables begun).1

pub invariant_of-self : goal.invariant_of-self
invariant_of-self c =
    let begun : c.self.inside.phase ≡ Begun = ap (λ (h : HoldingsValue). h.value.collection) c.self.view_is ∙ c.requires.begun in
    let e = c.mark_kept.ensures in
    record {
      tables =
          marked_kept c.self.inside.bound c.self.inside.bytes c.self.inside.phase c.self.inside.area c.mark_kept.new.self c.self.inside.exits c.mark_kept.new.exits c.self.invariant.tables begun
          (record { kept = e.kept; targets = e.targets; room = e.room; black = e.black; reached = e.reached; exits = e.exits });
      carried =
          marked_carried c.self.inside.phase c.self.inside.area c.mark_kept.new.self c.self.inside.exits c.mark_kept.new.exits c.self.inside.carried _ _ c.mark_kept.new.pending c.self.invariant.carried begun
          (record { kept = e.kept; targets = e.targets; room = e.room; black = e.black; reached = e.reached; exits = e.exits }) e.next;
    }

pub returns-clause-rest : goal.returns-clause-rest
returns-clause-rest c =
    let e = c.mark_kept.ensures in
    rw (← c.self.view_is)
    (marked_rest c.self.inside.bound c.self.inside.phase c.self.inside.area c.mark_kept.new.self c.self.inside.exits c.mark_kept.new.exits c.self.inside.note
    (record { kept = e.kept; targets = e.targets; room = e.room; black = e.black; reached = e.reached; exits = e.exits }))

pub returns-clause-marked : goal.returns-clause-marked
returns-clause-marked c =
    let begun : c.self.inside.phase ≡ Begun = ap (λ (h : HoldingsValue). h.value.collection) c.self.view_is ∙ c.requires.begun in
    let e = c.mark_kept.ensures in
    rw (← c.self.view_is)
    (marked_seen c.self.inside.bound c.self.inside.bytes c.self.inside.phase c.self.inside.area c.mark_kept.new.self c.self.inside.exits c.mark_kept.new.exits c.self.invariant.tables begun
    (record { kept = e.kept; targets = e.targets; room = e.room; black = e.black; reached = e.reached; exits = e.exits }))

pub mark_kept-requires-clause-carried : goal.mark_kept-requires-clause-carried
mark_kept-requires-clause-carried c =
    subst (λ (rs : List Name). IsTrue c.self.inside.carried.whole → IsWhole c.self.inside.area c.self.inside.exits.items c.self.inside.carried.bound c.self.inside.carried.first rs) (sym c.deref.ensures.value) c.self.invariant.carried.whole
